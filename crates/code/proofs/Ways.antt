-- What is said is what one way says. Assumes nothing.
use Rattle.std.proofs.Common.{◌≡◌, ℕ, zero, suc, ◌<◌, ◌≤◌, true, List, [], ◌∷◌, ◌++◌, length, get_or, sym, refl, ap, ◌∙◌, ap₂, inl, inr, append_assoc, arith}
use Rattle.std.proofs.lemmas.Bool.{true≢false}
use Rattle.std.proofs.lemmas.List.{append-nil, get_or_default}
use Rattle.code.specs.Step.{kinds, Env, Step, exits, needs, pick, output}
use Rattle.code.specs.Code.{State, going, done, stuck, branch, outputs, on_by, good, step, next, run, met, way}
use Rattle.code.specs.Promise.{Six}
use Rattle.code.proofs.Laws.{pick_fits}
use Rattle.code.proofs.Goods.{good_here, exit_good, good_some}
use Rattle.code.proofs.Theorems.{on_short, run_done, Stepped, stepped}

module _ (read : List ℕ → Step) where
  branch_on : (on : ℕ → List Step) (ds : List ℕ) (k : ℕ) → k < length ds → branch on ds k ≡ on (get_or ds k 0)
  unfolding branch
  branch_on on [] k l = absurd (omega arith)
  branch_on on (d ∷ ds) k l = ap on (get_or_default (d ∷ ds) k d 0 l)

  branch_off : (on : ℕ → List Step) (ds : List ℕ) (k : ℕ) → ds ≡ [] → branch on ds k ≡ []
  unfolding branch
  branch_off on ds k q = rw q refl

  pub said_on_way : (b : ℕ) (ks r out : List ℕ) (e : Env) → good read ks r ≡ true → kinds e.arguments ≡ ks → Six e → length r ≤ b → run read b e (going r out) ≡ done (out ++ outputs e (met read b (way read e) r))
  unfolding run next met outputs way
  said_on_way b ks [] out e g f six l = absurd (omega (arith, good_some read ks [] g))
  said_on_way zero ks (x ∷ xs) out e g f six l = absurd (omega arith)
  said_on_way (suc b) ks (x ∷ xs) out e g f six l =
      go (λ k o m. said_on_way b ks (on_by read (x ∷ xs) (get_or (exits s) k 0)) o e (exit_good read ks (x ∷ xs) g k 0 m) f six (on_short read (x ∷ xs) (get_or (exits s) k 0) b l)) (step read e (x ∷ xs) o₁) (stepped read e (x ∷ xs) o₁)
    where
      s : Step
      s = read (x ∷ xs)

      o₁ : List ℕ
      o₁ = out ++ output s e

      asks : needs (read (x ∷ xs)) (kinds e.arguments) ≡ true
      asks = rw f (good_here read ks (x ∷ xs) g).asks

      on : ℕ → List Step
      on d = met read b (way read e) (on_by read (x ∷ xs) d)

      go : ((k : ℕ) (o : List ℕ) → k < length (exits s) → run read b e (going (on_by read (x ∷ xs) (get_or (exits s) k 0)) o) ≡ done (o ++ outputs e (on (get_or (exits s) k 0)))) → (st : State) → Stepped read e (x ∷ xs) o₁ st → run read b e st ≡ done (out ++ (output s e ++ outputs e (branch on (exits s) (pick s e))))
      go ih (going r₁ o) w =
          ap₂ (λ (y z : List ℕ). run read b e (going y z)) w.2 w.3 ∙ ih (pick s e) o₁ w.1
          ∙ ap done (append_assoc out (output s e) (outputs e (on (get_or (exits s) (pick s e) 0))) ∙ ap (λ (ss : List Step). out ++ (output s e ++ outputs e ss)) (sym (branch_on on (exits s) (pick s e) w.1)))
      go ih (done o) w =
          run_done read b e o ∙ ap done (w.2 ∙ ap (λ (v : List ℕ). out ++ v) (sym (append-nil (output s e))) ∙ ap (λ (ss : List Step). out ++ (output s e ++ outputs e ss)) (sym (branch_off on (exits s) (pick s e) w.1)))
      go ih stuck (inl h) = absurd (true≢false (sym asks ∙ h))
      go ih stuck (inr h) = absurd (omega (arith, pick_fits s e six asks h.1, h.0))
