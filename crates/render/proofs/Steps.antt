-- Good code, step by step: what a step asks holds, what is left behind it is good, and what a walk over it leaves. Assumes nothing.
use Rattle.std.proofs.Common.{◌≡◌, ℕ, zero, suc, ◌+◌, ◌-◌, ◌<◌, Bool, true, false, ◌⊎◌, List, [], ◌∷◌, ◌++◌, length, get_or, drop, sym, refl, ap, ◌∙◌, subst, inl, inr, arith}
use Rattle.std.proofs.lemmas.Bool.{false≢true}
use Rattle.code.specs.Step.{kinds, Step, ends, letters, argument, unknown, cut, size, exits, needs, pick, output, decode}
use Rattle.code.specs.Code.{State, going, done, stuck, good, run, says}
use Rattle.code.specs.View.{seen}
use Rattle.code.specs.declared.step.Step as declared
use Rattle.code.proofs.Laws.{pick_fits}
use Rattle.code.proofs.Prefixed.{before, run_on, run_end, says_end, says_on, rest_good, asks}
use Rattle.render.specs.declared.env.Env.{Env}
use Rattle.render.specs.Sink.{SinkLaws, Walked}
use Rattle.render.specs.View.{values_of, env_of}
use Rattle.render.proofs.Envs.{env_six}

-- a step that asks for what is there ends, or goes on right behind it
ends_none : (s : Step) → s ≡ ends → exits s ≡ []
unfolding exits
ends_none s q = ap exits q

is_end : (s : Step) → (s ≡ ends) ⊎ (s ≡ ends → ⊥)
is_end ends = inl refl
is_end (letters t) = inr (λ q. cc)
is_end (argument i) = inr (λ q. cc)
is_end (unknown x) = inr (λ q. cc)
is_end cut = inr (λ q. cc)

-- a step that isn't the program's end isn't the definitions' either
pub seen_other : (d : declared.Step) → (d ≡ declared.TheVariants.End → ⊥) → seen d ≡ ends → ⊥
seen_other declared.TheVariants.End o q = o refl
seen_other (declared.TheVariants.Letters t) o q = cc
seen_other (declared.TheVariants.Argument i) o q = cc
seen_other (declared.TheVariants.Unknown x) o q = cc
seen_other declared.TheVariants.Cut o q = cc

others_on : (s : Step) (ks : List ℕ) → needs s ks ≡ true → (s ≡ ends → ⊥) → exits s ≡ 0 ∷ []
unfolding exits needs
others_on ends ks n o = absurd (o refl)
others_on (letters t) ks n o = refl
others_on (argument i) ks n o = refl
others_on (unknown x) ks n o = absurd (false≢true n)
others_on cut ks n o = absurd (false≢true n)

-- what is left behind a step
pub behind_step : (r rest : List ℕ) (s : Step) → s ≡ decode r → rest ≡ drop (size (decode r)) r → rest ≡ drop (size s) r
behind_step r rest s q e = e ∙ sym (ap (λ (k : Step). drop (size k) r) q)

-- good code in an environment of its kinds
module _ (v : Env) (r : List ℕ) (s : Step) (q : s ≡ decode r) (g : good decode (kinds (values_of v.args)) r ≡ true) where
  pub step_asks : needs s (kinds (values_of v.args)) ≡ true
  step_asks = asks decode (kinds (values_of v.args)) (env_of v) refl (env_six v) r s q g

  module _ (o : s ≡ ends → ⊥) where
    on : exits s ≡ 0 ∷ []
    on = others_on s (kinds (values_of v.args)) step_asks o

    some : 0 < length (exits s)
    some = omega (arith, ap length on)

    exit : (k : ℕ) → k < length (exits s) → size s + get_or (exits s) k 0 ≡ size s
    exit k l =
        let z : k ≡ 0 = omega (arith, ap length on) in
        let none : List ℕ = 0 ∷ [] in
        let first : get_or none k 0 ≡ get_or none 0 0 = ap (λ (n : ℕ). get_or none n 0) z in
        omega (arith, ap (λ (d : List ℕ). get_or d k 0) on, first)

    picked : size s + get_or (exits s) (pick s (env_of v)) 0 ≡ size s
    picked = exit (pick s (env_of v)) (pick_fits s (env_of v) (env_six v) step_asks some)

    pub rest_is_good : good decode (kinds (values_of v.args)) (drop (size s) r) ≡ true
    rest_is_good = ap (λ (n : ℕ). good decode (kinds (values_of v.args)) (drop n r)) (sym (exit 0 some)) ∙ rest_good decode (kinds (values_of v.args)) (env_of v) refl (env_six v) r s 0 q g some

    pub says_rest : says decode (env_of v) r ≡ output s (env_of v) ++ says decode (env_of v) (drop (size s) r)
    says_rest = says_on decode (kinds (values_of v.args)) (env_of v) refl (env_six v) r s q g some ∙ ap (λ (n : ℕ). output s (env_of v) ++ says decode (env_of v) (drop n r)) picked

    pub run_rest : (n : ℕ) → run decode (suc n) (env_of v) (going r []) ≡ before (output s (env_of v)) (run decode n (env_of v) (going (drop (size s) r) []))
    run_rest n =
        run_on decode n (env_of v) r s q step_asks (pick_fits s (env_of v) (env_six v) step_asks some)
        ∙ ap (λ (k : ℕ). before (output s (env_of v)) (run decode n (env_of v) (going (drop k r) []))) picked

-- a walk, where it stops and where it goes on
module _ {S : Type 0} (fits : S → List ℕ → Type 0) (puts : S → List ℕ → S → Type 0) (laws : SinkLaws fits puts) where
  pub walked_none : (v : Env) (r : List ℕ) (n : ℕ) (a : S) → n ≡ 0 → Walked puts (run decode n (env_of v) (going r [])) a a false
  unfolding run
  walked_none v r zero a z = (refl, laws.none a)
  walked_none v r (suc n) a z = absurd (omega arith)

  walked_before : (o : List ℕ) (st : State) (a b c : S) (w : Bool) → puts a o b → Walked puts st b c w → Walked puts (before o st) a c w
  walked_before o (going r u) a b c w p h = (h.0, laws.more a b c o u p h.1)
  walked_before o (done u) a b c w p h = (h.0, laws.more a b c o u p h.1)
  walked_before o stuck a b c w p h = h

  module _ (v : Env) (r : List ℕ) (s : Step) (q : s ≡ decode r) (g : good decode (kinds (values_of v.args)) r ≡ true) where
    fits_other : (a : S) → (s ≡ ends → ⊥) → fits a (says decode (env_of v) r) → fits a (output s (env_of v))
    fits_other a o h = laws.front a (output s (env_of v)) (says decode (env_of v) (drop (size s) r)) (rw (says_rest v r s q g o) at h)

    fits_end : (a : S) → s ≡ ends → fits a (says decode (env_of v) r) → fits a (output s (env_of v))
    fits_end a e h = rw (says_end decode (kinds (values_of v.args)) (env_of v) refl (env_six v) r s q g (ends_none s e)) at h

    -- what its first step says fits
    pub fits_first : (a : S) → fits a (says decode (env_of v) r) → fits a (output s (env_of v))
    fits_first a h = elim (is_end s) [ inl e ↦ fits_end a e h | inr o ↦ fits_other a o h ]

    -- and then the rest
    pub fits_rest : (a b : S) → (s ≡ ends → ⊥) → fits a (says decode (env_of v) r) → puts a (output s (env_of v)) b → fits b (says decode (env_of v) (drop (size s) r))
    fits_rest a b o h p = laws.rest a b (output s (env_of v)) (says decode (env_of v) (drop (size s) r)) (rw (says_rest v r s q g o) at h) p

    pub walked_end : (n : ℕ) (a b : S) → (n ≡ 0 → ⊥) → s ≡ ends → puts a (output s (env_of v)) b → Walked puts (run decode n (env_of v) (going r [])) a b true
    walked_end zero a b l e p = absurd (l refl)
    walked_end (suc n) a b l e p = subst (λ (st : State). Walked puts st a b true) (sym (run_end decode n (env_of v) r s q (step_asks v r s q g) (ends_none s e))) (refl, p)

    pub walked_on : (n : ℕ) (a b c : S) (w : Bool) → (n ≡ 0 → ⊥) → (s ≡ ends → ⊥) → puts a (output s (env_of v)) b → Walked puts (run decode (n - 1) (env_of v) (going (drop (size s) r) [])) b c w → Walked puts (run decode n (env_of v) (going r [])) a c w
    walked_on zero a b c w l o p h = absurd (l refl)
    walked_on (suc n) a b c w l o p h =
        let k : suc n - 1 ≡ n = omega arith in
        subst (λ (st : State). Walked puts st a c w) (sym (run_rest v r s q g o n)) (walked_before (output s (env_of v)) (run decode n (env_of v) (going (drop (size s) r) [])) a b c w p (rw k at h))
