-- Saying whole: within as many steps as there are bytes, good code comes to all that it says. Assumes nothing.
use Rattle.std.proofs.Common.{◌≡◌, ℕ, ◌*◌, ◌≤◌, Bool, true, false, List, [], length, is_some, Some, None, Ok, Err, Option, Result, refl, ap, ◌∙◌, subst, arith}
use Rattle.code.specs.Step.{kinds, decode}
use Rattle.code.specs.Step as code
use Rattle.code.specs.Code.{State, going, done, stuck, good, run, says}
use Rattle.code.specs.Promise.{Six}
use Rattle.code.specs.declared.refusal.Refusal.{Refusal}
use Rattle.code.proofs.Whole.{decode_reads}
use Rattle.code.proofs.Theorems.{not_too_long}
use Rattle.code.proofs.Ways.{said_on_way}
use Rattle.code.proofs.Prefixed.{comes_to, only_says}
use Rattle.plural.specs.Rules.{wrong_rule}
use Rattle.plural.proofs.Ruled.{passed}
use Rattle.render.specs.declared.answer.Answer.{Answer}
use Rattle.render.specs.Told.{wrong_thing, thing_refusal, told_fault}
use Rattle.render.specs.declared.env.Env.{Env}
use Rattle.render.specs.Sink.{Walked}
use Rattle.render.specs.View.{values_of, env_in, env_of}
use Rattle.render.proofs.Envs.{env_six, shown_few}
use Rattle.render.specs.Saying.{Measured, Within, SpokenBy, SaidWithin, SaidWhole}
use Rattle.render.proofs.Things.{things_kinds}

pub spoken_by : (ks c : List ℕ) (e : code.Env) → kinds e.arguments ≡ ks → Six e → good decode ks c ≡ true → SpokenBy c e (says decode e c)
spoken_by ks c e kinded six g =
    let h = comes_to decode ks e kinded six (length c) c g (omega arith) in
    let w = said_on_way decode (length c) ks c [] e g kinded six (omega arith) in
    record {
      ends = λ b l. comes_to decode ks e kinded six b c g l;
      way = cc;
      bound = λ m l short. omega (arith, not_too_long decode decode_reads (length c) c [] e m (says decode e c) l short h);
    }

pub said_whole :
    (rs ls ts ks c room room₁ : List ℕ) (b : ℕ) (r : Result Answer Refusal) → good decode ks c ≡ true → is_some (wrong_rule 20 rs) ≡ false → length c ≤ b
    → SaidWithin (told_fault ls ts ks) (run decode b (env_in rs ls ts) (going c [])) room room₁ r
    → SaidWhole (told_fault ls ts ks) c (env_in rs ls ts) room room₁ r
said_whole rs ls ts ks c room room₁ b r g well l = go (wrong_thing ls ts ks) refl r
  where
    go : (o : Option ℕ) → wrong_thing ls ts ks ≡ o → (r : Result Answer Refusal) → SaidWithin (thing_refusal o) (run decode b (env_in rs ls ts) (going c [])) room room₁ r → SaidWhole (thing_refusal o) c (env_in rs ls ts) room room₁ r
    go (Some k) q r h = h
    go None q (Err f) h = h
    go None q (Ok a) h =
        let kinded = things_kinds ls ts ks q in
        let six : Six (env_in rs ls ts) = passed rs well in (
          says decode (env_in rs ls ts) c,
          spoken_by ks c (env_in rs ls ts) kinded six g,
          subst (λ (s : State). Within s room room₁ a) (comes_to decode ks (env_in rs ls ts) kinded six b c g l) h,
        )

-- what good code says is at most as long as it has bytes times the longest text
pub says_few : (v : Env) (c : List ℕ) → good decode (kinds (values_of v.args)) c ≡ true → length (says decode (env_of v) c) ≤ length c * 4294967296
says_few v c g = (spoken_by (kinds (values_of v.args)) c (env_of v) refl (env_six v) g).bound 4294967296 (omega arith) (shown_few v)

-- it is measured as what it says
pub measured_done : (v : Env) (c : List ℕ) (b n : ℕ) → good decode (kinds (values_of v.args)) c ≡ true → Measured (run decode b (env_of v) (going c [])) (Some n) → (run decode b (env_of v) (going c []) ≡ done (says decode (env_of v) c)) × (n ≡ length (says decode (env_of v) c))
measured_done v c b n g h = go (run decode b (env_of v) (going c [])) refl h
  where
    go : (s : State) → run decode b (env_of v) (going c []) ≡ s → Measured s (Some n) → (run decode b (env_of v) (going c []) ≡ done (says decode (env_of v) c)) × (n ≡ length (says decode (env_of v) c))
    go (going r out) q h = cc
    go (done out) q h =
        let same = only_says decode (kinds (values_of v.args)) (env_of v) refl (env_six v) b c out g q in
        let len : n ≡ length out = cc in
        (q ∙ ap done same, len ∙ ap length same)
    go stuck q h = absurd h

-- what a walk over all of it puts into a sink
pub walked_whole : {S : Type 0} (puts : S → List ℕ → S → Type 0) (v : Env) (c : List ℕ) (b : ℕ) (x y : S) (w : Bool) → good decode (kinds (values_of v.args)) c ≡ true → length c ≤ b → Walked puts (run decode b (env_of v) (going c [])) x y w → puts x (says decode (env_of v) c) y
walked_whole puts v c b x y w g l h = (rw (comes_to decode (kinds (values_of v.args)) (env_of v) refl (env_six v) b c g l) at h).1
