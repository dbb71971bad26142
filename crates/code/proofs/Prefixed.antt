-- Runs by what is left alone: what was said before changes nothing, so what code says is what its first step says, and then what the rest says. Assumes nothing.
use Rattle.std.proofs.Common.{◌≡◌, ℕ, zero, suc, ◌+◌, ◌<◌, ◌≤◌, Bool, true, false, cond, ltb, List, [], ◌∷◌, ◌++◌, length, get_or, drop, sym, refl, ap, ◌∙◌, append_assoc, arith, length-drop}
use Rattle.std.proofs.lemmas.Bool.{lt-ltb}
use Rattle.std.proofs.lemmas.List.{append-nil}
use Rattle.code.specs.Step.{kinds, Env, Step, size, exits, needs, pick, output}
use Rattle.code.specs.Code.{State, going, done, stuck, said, follow, on_by, good, step, next, run, says}
use Rattle.code.specs.Promise.{Six}
use Rattle.code.proofs.Laws.{pick_fits}
use Rattle.code.proofs.Goods.{good_here, exit_good}
use Rattle.code.proofs.Theorems.{run_done, more_budget, never_stuck}

-- the same, with something said before
abbrev pub before : List ℕ → State → State
before o (going r u) = going r (o ++ u)
before o (done u) = done (o ++ u)
before o stuck = stuck

follow_before : (o u : List ℕ) (on : ℕ → List ℕ) (ds : List ℕ) (k : ℕ) → follow (done (o ++ u)) (λ d. going (on d) (o ++ u)) ds k ≡ before o (follow (done u) (λ d. going (on d) u) ds k)
unfolding follow
follow_before o u on [] k = refl
follow_before o u on (d ∷ ds) k = go (ltb k (suc (length ds)))
  where
    go : (b : Bool) → cond b (going (on (get_or (d ∷ ds) k 0)) (o ++ u)) stuck ≡ before o (cond b (going (on (get_or (d ∷ ds) k 0)) u) stuck)
    go true = refl
    go false = refl

follow_on : (end : State) (on : ℕ → State) (ds : List ℕ) (k : ℕ) → k < length ds → follow end on ds k ≡ on (get_or ds k 0)
unfolding follow
follow_on end on [] k l = absurd (omega arith)
follow_on end on (d ∷ ds) k l = ap (λ (b : Bool). cond b (on (get_or (d ∷ ds) k 0)) stuck) (lt-ltb k (suc (length ds)) l)

follow_none : (end : State) (on : ℕ → State) (ds : List ℕ) (k : ℕ) → ds ≡ [] → follow end on ds k ≡ end
unfolding follow
follow_none end on ds k q = rw q refl

module _ (read : List ℕ → Step) where
  step_before : (e : Env) (r o u : List ℕ) → step read e r (o ++ u) ≡ before o (step read e r u)
  unfolding step
  step_before e r o u = go (needs (read r) (kinds e.arguments))
    where
      go : (b : Bool) → cond b (follow (done (o ++ u)) (λ d. going (on_by read r d) (o ++ u)) (exits (read r)) (pick (read r) e)) stuck ≡ before o (cond b (follow (done u) (λ d. going (on_by read r d) u) (exits (read r)) (pick (read r) e)) stuck)
      go true = follow_before o u (on_by read r) (exits (read r)) (pick (read r) e)
      go false = refl

  next_before : (e : Env) (o : List ℕ) (s : State) → next read e (before o s) ≡ before o (next read e s)
  unfolding next
  next_before e o (going r u) = ap (step read e r) (append_assoc o u (output (read r) e)) ∙ step_before e r o (u ++ output (read r) e)
  next_before e o (done u) = refl
  next_before e o stuck = refl

  run_before : (b : ℕ) (e : Env) (o : List ℕ) (s : State) → run read b e (before o s) ≡ before o (run read b e s)
  unfolding run
  run_before zero e o s = refl
  run_before (suc b) e o s = ap (run read b e) (next_before e o s) ∙ run_before b e o (next read e s)

  -- a step that goes on: what it says, and then the rest
  pub run_on :
      (b : ℕ) (e : Env) (r : List ℕ) (s : Step) → s ≡ read r → needs s (kinds e.arguments) ≡ true → pick s e < length (exits s)
      → run read (suc b) e (going r []) ≡ before (output s e) (run read b e (going (drop (size s + get_or (exits s) (pick s e) 0) r) []))
  unfolding run next step on_by
  run_on b e r s q n l =
      ap (λ (k : Step). run read b e (cond (needs k (kinds e.arguments)) (follow (done (output k e)) (λ d. going (drop (size k + d) r) (output k e)) (exits k) (pick k e)) stuck)) (sym q)
      ∙ ap (λ (t : Bool). run read b e (cond t (follow (done (output s e)) (λ d. going (drop (size s + d) r) (output s e)) (exits s) (pick s e)) stuck)) n
      ∙ ap (run read b e) (follow_on (done (output s e)) (λ d. going (drop (size s + d) r) (output s e)) (exits s) (pick s e) l)
      ∙ ap (λ (o : List ℕ). run read b e (going (drop (size s + get_or (exits s) (pick s e) 0) r) o)) (sym (append-nil (output s e)))
      ∙ run_before b e (output s e) (going (drop (size s + get_or (exits s) (pick s e) 0) r) [])

  -- a step that ends
  pub run_end : (b : ℕ) (e : Env) (r : List ℕ) (s : Step) → s ≡ read r → needs s (kinds e.arguments) ≡ true → exits s ≡ [] → run read (suc b) e (going r []) ≡ done (output s e)
  unfolding run next step on_by
  run_end b e r s q n x =
      ap (λ (k : Step). run read b e (cond (needs k (kinds e.arguments)) (follow (done (output k e)) (λ d. going (drop (size k + d) r) (output k e)) (exits k) (pick k e)) stuck)) (sym q)
      ∙ ap (λ (t : Bool). run read b e (cond t (follow (done (output s e)) (λ d. going (drop (size s + d) r) (output s e)) (exits s) (pick s e)) stuck)) n
      ∙ ap (run read b e) (follow_none (done (output s e)) (λ d. going (drop (size s + d) r) (output s e)) (exits s) (pick s e) x)
      ∙ run_done read b e (output s e)

  -- good code comes to what it says, however many steps more are allowed
  module _ (ks : List ℕ) (e : Env) (kinded : kinds e.arguments ≡ ks) (six : Six e) where
    pub comes_to : (b : ℕ) (r : List ℕ) → good read ks r ≡ true → length r ≤ b → run read b e (going r []) ≡ done (says read e r)
    unfolding says
    comes_to b r g l =
        let u = never_stuck read (length r) ks r [] e g kinded six (omega arith) in
        let same : run read b e (going r []) ≡ run read (length r) e (going r []) = more_budget read e (going r []) (length r) b l (rw u.1 tt) in
        same ∙ u.1 ∙ ap done (sym (ap said u.1))

    -- and to nothing else
    pub only_says : (b : ℕ) (r u : List ℕ) → good read ks r ≡ true → run read b e (going r []) ≡ done u → u ≡ says read e r
    only_says b r u g h =
        let m : ℕ = b + length r in
        let p = more_budget read e (going r []) b m (omega arith) (rw h tt) in
        let q = comes_to m r g (omega arith) in
        cc

    pub asks : (r : List ℕ) (s : Step) → s ≡ read r → good read ks r ≡ true → needs s (kinds e.arguments) ≡ true
    asks r s q g = ap (λ (k : Step). needs k (kinds e.arguments)) q ∙ ap (needs (read r)) kinded ∙ (good_here read ks r g).asks

    pub says_end : (r : List ℕ) (s : Step) → s ≡ read r → good read ks r ≡ true → exits s ≡ [] → says read e r ≡ output s e
    says_end r s q g x = let h = run_end (length r) e r s q (asks r s q g) x in sym (only_says (suc (length r)) r (output s e) g h)

    pub rest_good : (r : List ℕ) (s : Step) (k : ℕ) → s ≡ read r → good read ks r ≡ true → k < length (exits s) → good read ks (drop (size s + get_or (exits s) k 0) r) ≡ true
    unfolding on_by
    rest_good r s k q g l = rw q (exit_good read ks r g k 0 (rw q at l))

    pub says_on :
        (r : List ℕ) (s : Step) → s ≡ read r → good read ks r ≡ true → 0 < length (exits s)
        → says read e r ≡ output s e ++ says read e (drop (size s + get_or (exits s) (pick s e) 0) r)
    says_on r s q g l =
        let n = asks r s q g in
        let f = pick_fits s e six n l in
        let rest : List ℕ = drop (size s + get_or (exits s) (pick s e) 0) r in
        let h = run_on (length r) e r s q n f in
        let k = comes_to (length r) rest (rest_good r s (pick s e) q g f) (omega (arith, length-drop (size s + get_or (exits s) (pick s e) 0) r)) in
        sym (only_says (suc (length r)) r (output s e ++ says read e rest) g (h ∙ ap (before (output s e)) k))
