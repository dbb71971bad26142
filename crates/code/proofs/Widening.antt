-- What a wider reader of steps keeps. Assumes nothing.
use Rattle.std.proofs.Common.{◌≡◌, ℕ, zero, suc, pred, ◌+◌, ◌<◌, Bool, true, cond, ◌&&◌, ltb, List, [], ◌∷◌, ◌++◌, length, get_or, drop, sym, refl, ap, ◌∙◌, ap₂, arith}
use Rattle.std.proofs.lemmas.Bool.{and_parts, and_from}
use Rattle.code.specs.Step.{kinds, Env, Step, size, whole, exits, needs, pick, output}
use Rattle.code.specs.Code.{State, going, done, stuck, follow, branch, each, on_by, begins, step_good, good_on, good, step, next, run, met}
use Rattle.code.specs.Promise.{Widens}
use Rattle.code.proofs.Goods.{good_here, exit_good}
use Rattle.code.proofs.Theorems.{run_done, run_stuck, Stepped, stepped}

module _ (old new : List ℕ → Step) (widens : Widens old new) (ks : List ℕ) where
  same_here : (r : List ℕ) → good old ks r ≡ true → new r ≡ old r
  same_here r g = widens ks r (good_here old ks r g).asks

  same_step : (r : List ℕ) → step_good old ks r ≡ true → new r ≡ old r
  unfolding step_good
  same_step r g = widens ks r (and_parts (needs (old r) ks) _ g).0

  begins_kept : (n : ℕ) (r : List ℕ) (k : ℕ) → good_on old n ks r ≡ true → begins new n r k ≡ begins old n r k
  unfolding begins good_on
  begins_kept n [] k g = refl
  begins_kept zero (x ∷ xs) zero g = refl
  begins_kept zero (x ∷ xs) (suc k) g =
      let p = and_parts (step_good old ks (x ∷ xs)) (good_on old (pred (size (old (x ∷ xs)))) ks xs) g in
      ap (λ (s : Step). whole s && begins new (pred (size s)) xs k) (same_step (x ∷ xs) p.0) ∙ ap (λ (b : Bool). whole (old (x ∷ xs)) && b) (begins_kept (pred (size (old (x ∷ xs)))) xs k p.1)
  begins_kept (suc n) (x ∷ xs) zero g = refl
  begins_kept (suc n) (x ∷ xs) (suc k) g = begins_kept n xs k g

  each_kept : (f g : ℕ → Bool) (ds : List ℕ) → ((d : ℕ) → f d ≡ g d) → each f ds ≡ each g ds
  unfolding each
  each_kept f g [] h = refl
  each_kept f g (d ∷ ds) h = ap₂ ◌&&◌ (h d) (each_kept f g ds h)

  on_kept : (n : ℕ) (r : List ℕ) → good_on old n ks r ≡ true → good_on new n ks r ≡ true
  unfolding good_on step_good
  on_kept n [] g = refl
  on_kept zero (x ∷ xs) g =
      let p = and_parts (step_good old ks (x ∷ xs)) (good_on old (pred (size (old (x ∷ xs)))) ks xs) g in
      let q = same_step (x ∷ xs) p.0 in
      and_from (step_good new ks (x ∷ xs)) _
      (ap (λ (s : Step). needs s ks && each (λ d. begins new zero (x ∷ xs) (size s + d)) (exits s)) q
      ∙ ap (λ (b : Bool). needs (old (x ∷ xs)) ks && b) (each_kept (λ d. begins new zero (x ∷ xs) (size (old (x ∷ xs)) + d)) (λ d. begins old zero (x ∷ xs) (size (old (x ∷ xs)) + d)) (exits (old (x ∷ xs))) (λ d. begins_kept zero (x ∷ xs) (size (old (x ∷ xs)) + d) g))
      ∙ p.0)
      (ap (λ (s : Step). good_on new (pred (size s)) ks xs) q ∙ on_kept (pred (size (old (x ∷ xs)))) xs p.1)
  on_kept (suc n) (x ∷ xs) g = on_kept n xs g

  pub good_kept : (c : List ℕ) → good old ks c ≡ true → good new ks c ≡ true
  unfolding good
  good_kept c g = let p = and_parts (ltb 0 (length c)) (good_on old zero ks c) g in and_from (ltb 0 (length c)) _ p.0 (on_kept zero c p.1)

  on_by_kept : (r : List ℕ) (d : ℕ) → new r ≡ old r → on_by new r d ≡ on_by old r d
  unfolding on_by
  on_by_kept r d q = ap (λ (s : Step). drop (size s + d) r) q

  step_kept : (r o : List ℕ) (e : Env) → good old ks r ≡ true → step new e r o ≡ step old e r o
  unfolding step on_by
  step_kept r o e g = ap (λ (s : Step). cond (needs s (kinds e.arguments)) (follow (done o) (λ d. going (drop (size s + d) r) o) (exits s) (pick s e)) stuck) (same_here r g)

  pub run_kept : (b : ℕ) (r out : List ℕ) (e : Env) → good old ks r ≡ true → run new b e (going r out) ≡ run old b e (going r out)
  unfolding run next
  run_kept zero r out e g = refl
  run_kept (suc b) r out e g =
      ap (λ (s : Step). run new b e (step new e r (out ++ output s e))) (same_here r g)
      ∙ ap (run new b e) (step_kept r o₁ e g)
      ∙ go (λ k o l. run_kept b (on_by old r (get_or (exits (old r)) k 0)) o e (exit_good old ks r g k 0 l)) (step old e r o₁) (stepped old e r o₁)
    where
      o₁ : List ℕ
      o₁ = out ++ output (old r) e

      go : ((k : ℕ) (o : List ℕ) → k < length (exits (old r)) → run new b e (going (on_by old r (get_or (exits (old r)) k 0)) o) ≡ run old b e (going (on_by old r (get_or (exits (old r)) k 0)) o)) → (s : State) → Stepped old e r o₁ s → run new b e s ≡ run old b e s
      go ih (going r₁ o) w = rw w.2 (ih (pick (old r) e) o w.1)
      go ih (done o) w = run_done new b e o ∙ sym (run_done old b e o)
      go ih stuck w = run_stuck new b e ∙ sym (run_stuck old b e)

  -- a way's exit is one of them
  branch_kept : (on un : ℕ → List Step) (ds : List ℕ) (k : ℕ) → ((j : ℕ) → j < length ds → on (get_or ds j 0) ≡ un (get_or ds j 0)) → branch on ds k ≡ branch un ds k
  unfolding branch
  branch_kept on un [] k h = refl
  branch_kept on un (d ∷ ds) k h = at (d ∷ ds) k h
    where
      at : (es : List ℕ) (j : ℕ) → ((i : ℕ) → i < length es → on (get_or es i 0) ≡ un (get_or es i 0)) → on (get_or es j d) ≡ un (get_or es j d)
      at [] j g = h 0 (omega arith)
      at (x ∷ es) zero g = g 0 (omega arith)
      at (x ∷ es) (suc j) g = at es j (λ i l. g (suc i) (omega arith))

  pub met_kept : (b : ℕ) (r : List ℕ) (w : List ℕ → ℕ) → good old ks r ≡ true → met new b w r ≡ met old b w r
  unfolding met
  met_kept zero r w g = refl
  met_kept (suc b) [] w g = refl
  met_kept (suc b) (x ∷ xs) w g =
      let same = same_here (x ∷ xs) g in
      ap (λ (s : Step). s ∷ branch (λ d. met new b w (on_by new (x ∷ xs) d)) (exits s) (w (x ∷ xs))) same
      ∙ ap (λ (ss : List Step). old (x ∷ xs) ∷ ss) (branch_kept (λ d. met new b w (on_by new (x ∷ xs) d)) (λ d. met old b w (on_by old (x ∷ xs) d)) (exits (old (x ∷ xs))) (w (x ∷ xs)) (λ j l.
      ap (met new b w) (on_by_kept (x ∷ xs) (get_or (exits (old (x ∷ xs))) j 0) same) ∙ met_kept b (on_by old (x ∷ xs) (get_or (exits (old (x ∷ xs))) j 0)) w (exit_good old ks (x ∷ xs) g j 0 l)))
