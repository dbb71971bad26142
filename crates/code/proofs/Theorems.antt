-- The theorems, over any reader of steps. Assumes nothing.
use Rattle.std.proofs.Common.{◌≡◌, ℕ, zero, suc, ◌+◌, ◌-◌, ◌*◌, ◌<◌, ◌≤◌, Bool, true, false, cond, ltb, ◌⊎◌, List, [], ◌∷◌, ◌++◌, length, get_or, sym, refl, ap, ◌∙◌, subst, inl, inr, mul-le-mul_right, add-mul, suc-add, zero-add, arith, length-append, length-drop}
use Rattle.std.proofs.lemmas.Bool.{true≢false, ltb-true, ltb-false}
use Rattle.std.proofs.lemmas.List.{drop-append-le}
use Rattle.code.specs.Step.{Value, kinds, Env, shown, Step, size, exits, needs, pick, output}
use Rattle.code.specs.Code.{State, going, done, stuck, follow, on_by, good, step, next, run}
use Rattle.code.specs.Promise.{Six, Alike, Ended, behind}
use Rattle.code.proofs.Laws.{size_pos, pick_fits, output_short, alike_output, alike_pick}
use Rattle.code.proofs.Whole.{Reads}
use Rattle.code.proofs.Goods.{good_here, exit_within, exit_good, good_some}

-- what comes of going on by an exit: there is none; it is one of them; or it is stuck
pub follow_cases : (end : State) (on : ℕ → State) (ds : List ℕ) (k : ℕ) → ((ds ≡ []) × (follow end on ds k ≡ end)) ⊎ (((k < length ds) × (follow end on ds k ≡ on (get_or ds k 0))) ⊎ ((length ds ≤ k) × (0 < length ds) × (follow end on ds k ≡ stuck)))
unfolding follow
follow_cases end on [] k = inl (refl, refl)
follow_cases end on (d ∷ ds) k = inr (go (ltb k (suc (length ds))) refl)
  where
    go : (b : Bool) → ltb k (suc (length ds)) ≡ b → ((k < suc (length ds)) × (cond b (on (get_or (d ∷ ds) k 0)) stuck ≡ on (get_or (d ∷ ds) k 0))) ⊎ ((suc (length ds) ≤ k) × (0 < suc (length ds)) × (cond b (on (get_or (d ∷ ds) k 0)) stuck ≡ stuck))
    go true q = inl (ltb-true k (suc (length ds)) q, refl)
    go false q = inr (ltb-false k (suc (length ds)) q, omega arith, refl)

module _ (read : List ℕ → Step) where
  pub on_short : (r : List ℕ) (d b : ℕ) → length r ≤ suc b → length (on_by read r d) ≤ b
  unfolding on_by
  on_short r d b l = omega (arith, length-drop (size (read r) + d) r, size_pos (read r))

  on_fits : (r : List ℕ) (d : ℕ) → size (read r) ≤ length r → size (read r) + length (on_by read r d) ≤ length r
  unfolding on_by
  on_fits r d l = omega (arith, length-drop (size (read r) + d) r)

  -- one step: it is stuck, or it has ended, or it goes on by one of the exits
  abbrev pub Stepped : Env → (r out : List ℕ) → State → Type 0
  Stepped e r out (going r₁ out₁) = (needs (read r) (kinds e.arguments) ≡ true) × (pick (read r) e < length (exits (read r))) × (r₁ ≡ on_by read r (get_or (exits (read r)) (pick (read r) e) 0)) × (out₁ ≡ out)
  Stepped e r out (done out₁) = (needs (read r) (kinds e.arguments) ≡ true) × (exits (read r) ≡ []) × (out₁ ≡ out)
  Stepped e r out stuck = (needs (read r) (kinds e.arguments) ≡ false) ⊎ ((length (exits (read r)) ≤ pick (read r) e) × (0 < length (exits (read r))))

  pub stepped : (e : Env) (r out : List ℕ) → Stepped e r out (step read e r out)
  unfolding step
  stepped e r out = go (needs (read r) (kinds e.arguments)) refl
    where
      F : State
      F = follow (done out) (λ d. going (on_by read r d) out) (exits (read r)) (pick (read r) e)

      go : (c : Bool) → needs (read r) (kinds e.arguments) ≡ c → Stepped e r out (cond c F stuck)
      go false h = inl h
      go true h =
          elim (follow_cases (done out) (λ d. going (on_by read r d) out) (exits (read r)) (pick (read r) e)) [
            | inl q ↦ subst (Stepped e r out) (sym q.1) (h, q.0, refl)
            | inr (inl q) ↦ subst (Stepped e r out) (sym q.1) (h, q.0, refl, refl)
            | inr (inr q) ↦ subst (Stepped e r out) (sym q.2) (inr (q.0, q.1))
          ]

  pub run_done : (b : ℕ) (e : Env) (u : List ℕ) → run read b e (done u) ≡ done u
  unfolding run next
  run_done zero e u = refl
  run_done (suc b) e u = run_done b e u

  pub run_stuck : (b : ℕ) (e : Env) → run read b e stuck ≡ stuck
  unfolding run next
  run_stuck zero e = refl
  run_stuck (suc b) e = run_stuck b e

  pub resumes : (e : Env) (s : State) (a b : ℕ) → run read (a + b) e s ≡ run read b e (run read a e s)
  unfolding run
  resumes e s zero b = rw zero-add refl
  resumes e s (suc a) b = rw suc-add (resumes e (next read e s) a b)

  run_ended : (b : ℕ) (e : Env) (s : State) → Ended s → run read b e s ≡ s
  run_ended b e (going r out) h = absurd h
  run_ended b e (done out) h = run_done b e out
  run_ended b e stuck h = run_stuck b e

  pub more_budget : (e : Env) (s : State) (a b : ℕ) → a ≤ b → Ended (run read a e s) → run read b e s ≡ run read a e s
  more_budget e s a b l h =
      let q : b ≡ a + (b - a) = omega arith in
      ap (λ (n : ℕ). run read n e s) q ∙ resumes e s a (b - a) ∙ run_ended (b - a) e (run read a e s) h

  pub never_stuck : (b : ℕ) (ks r out : List ℕ) (e : Env) → good read ks r ≡ true → kinds e.arguments ≡ ks → Six e → length r ≤ b → (u : List ℕ) × (run read b e (going r out) ≡ done u)
  unfolding run next
  never_stuck zero ks r out e g f six l = absurd (omega (arith, good_some read ks r g))
  never_stuck (suc b) ks r out e g f six l = go (λ k o m. never_stuck b ks (on_by read r (get_or (exits (read r)) k 0)) o e (exit_good read ks r g k 0 m) f six (on_short r (get_or (exits (read r)) k 0) b l)) (step read e r o₁) (stepped e r o₁)
    where
      o₁ : List ℕ
      o₁ = out ++ output (read r) e

      asks : needs (read r) (kinds e.arguments) ≡ true
      asks = rw f (good_here read ks r g).asks

      go : ((k : ℕ) (o : List ℕ) → k < length (exits (read r)) → (u : List ℕ) × (run read b e (going (on_by read r (get_or (exits (read r)) k 0)) o) ≡ done u)) → (s : State) → Stepped e r o₁ s → (u : List ℕ) × (run read b e s ≡ done u)
      go ih (going r₁ o) w = let h = ih (pick (read r) e) o w.1 in (h.0, ap (λ (x : List ℕ). run read b e (going x o)) w.2 ∙ h.1)
      go ih (done o) w = (o, run_done b e o)
      go ih stuck (inl h) = absurd (true≢false (sym asks ∙ h))
      go ih stuck (inr h) = absurd (omega (arith, pick_fits (read r) e six asks h.1, h.0))

  pub not_too_long :
      Reads 0 read → (b : ℕ) (r out : List ℕ) (e : Env) (m : ℕ) (u : List ℕ) → 1 ≤ m → ((i : ℕ) → i < length e.arguments → length (shown e i) ≤ m) → run read b e (going r out) ≡ done u → length u ≤ length out + length r * m
  unfolding run next
  not_too_long law zero r out e m u l short q = cc
  not_too_long law (suc b) r out e m u l short q = go (λ r₁ o v. not_too_long law b r₁ o e m u l short v) (step read e r o₁) (stepped e r o₁) q
    where
      o₁ : List ℕ
      o₁ = out ++ output (read r) e

      long : needs (read r) (kinds e.arguments) ≡ true → length o₁ ≤ length out + size (read r) * m
      long h = omega (arith, length-append out (output (read r) e), output_short (read r) e m l short h)

      go : ((r₁ o : List ℕ) → run read b e (going r₁ o) ≡ done u → length u ≤ length o + length r₁ * m) → (s : State) → Stepped e r o₁ s → run read b e s ≡ done u → length u ≤ length out + length r * m
      go ih (going r₁ o) w q =
          let d : ℕ = get_or (exits (read r)) (pick (read r) e) 0 in
          let fits = (law (kinds e.arguments) r w.0).0 in
          omega (arith, ih r₁ o q, long w.0, ap length w.3, ap (λ (x : List ℕ). length x * m) w.2, add-mul (size (read r)) (length (on_by read r d)) m, mul-le-mul_right {m = size (read r) + length (on_by read r d)} {n = length r} m (on_fits r d (omega arith)))
      go ih (done o) w q =
          let fits = (law (kinds e.arguments) r w.0).0 in
          let x = run_done b e o in
          let same : o ≡ u = cc in
          omega (arith, long w.0, ap length w.2, ap length same, mul-le-mul_right {m = size (read r)} {n = length r} m (omega arith))
      go ih stuck w q = let x = run_stuck b e in cc

  step_alike : (e f : Env) → Alike e f → (r out : List ℕ) → step read e r out ≡ step read f r out
  unfolding step
  step_alike e f a r out = go (needs (read r) (kinds e.arguments)) refl
    where
      same : needs (read r) (kinds e.arguments) ≡ needs (read r) (kinds f.arguments)
      same = ap (λ (vs : List Value). needs (read r) (kinds vs)) a.arguments

      go : (c : Bool) → needs (read r) (kinds e.arguments) ≡ c → step read e r out ≡ step read f r out
      go false h = rw (sym same, h) refl
      go true h = rw (sym same, h) (ap (follow (done out) (λ d. going (on_by read r d) out) (exits (read r))) (alike_pick (read r) e f a h))

  next_alike : (e f : Env) → Alike e f → (s : State) → next read e s ≡ next read f s
  unfolding next
  next_alike e f a (going r out) = ap (λ (v : List ℕ). step read e r (out ++ v)) (alike_output (read r) e f a) ∙ step_alike e f a r (out ++ output (read r) f)
  next_alike e f a (done out) = refl
  next_alike e f a stuck = refl

  pub only_classes : (b : ℕ) (s : State) (e f : Env) → Alike e f → run read b e s ≡ run read b f s
  unfolding run
  only_classes zero s e f a = refl
  only_classes (suc b) s e f a = ap (run read b e) (next_alike e f a s) ∙ only_classes b (next read f s) e f a

  pub on_behind : (r t : List ℕ) (d : ℕ) → read (r ++ t) ≡ read r → size (read r) + d < length r → on_by read (r ++ t) d ≡ on_by read r d ++ t
  unfolding on_by
  on_behind r t d q l = rw q (drop-append-le (size (read r) + d) r t (omega arith))

  follow_behind : (r t o ds : List ℕ) (k : ℕ) → (k < length ds → on_by read (r ++ t) (get_or ds k 0) ≡ on_by read r (get_or ds k 0) ++ t) → follow (done o) (λ d. going (on_by read (r ++ t) d) o) ds k ≡ behind t (follow (done o) (λ d. going (on_by read r d) o) ds k)
  unfolding follow
  follow_behind r t o [] k h = refl
  follow_behind r t o (d ∷ ds) k h = go (ltb k (suc (length ds))) refl
    where
      go : (b : Bool) → ltb k (suc (length ds)) ≡ b → cond b (going (on_by read (r ++ t) (get_or (d ∷ ds) k 0)) o) stuck ≡ behind t (cond b (going (on_by read r (get_or (d ∷ ds) k 0)) o) stuck)
      go true q = ap (λ (x : List ℕ). going x o) (h (ltb-true k (suc (length ds)) q))
      go false q = refl

  step_behind : Reads 0 read → (ks r t o : List ℕ) (e : Env) → good read ks r ≡ true → step read e (r ++ t) o ≡ behind t (step read e r o)
  unfolding step
  step_behind law ks r t o e g =
      ap (λ (s : Step). cond (needs s (kinds e.arguments)) (follow (done o) (λ d. going (on_by read (r ++ t) d) o) (exits s) (pick s e)) stuck) same
      ∙ elim (needs (read r) (kinds e.arguments)) as (λ c. cond c (follow (done o) (λ d. going (on_by read (r ++ t) d) o) (exits (read r)) (pick (read r) e)) stuck ≡ behind t (cond c (follow (done o) (λ d. going (on_by read r d) o) (exits (read r)) (pick (read r) e)) stuck))
      [ true ↦ follow_behind r t o (exits (read r)) (pick (read r) e) (λ l. on_behind r t (get_or (exits (read r)) (pick (read r) e) 0) same (exit_within read ks r g (pick (read r) e) 0 l)) | false ↦ refl ]
    where
      same : read (r ++ t) ≡ read r
      same = (law ks r (good_here read ks r g).asks).1 t

  pub added_behind : Reads 0 read → (b : ℕ) (ks r t out : List ℕ) (e : Env) → good read ks r ≡ true → run read b e (going (r ++ t) out) ≡ behind t (run read b e (going r out))
  unfolding run next
  added_behind law zero ks r t out e g = refl
  added_behind law (suc b) ks r t out e g =
      ap (λ (s : Step). run read b e (step read e (r ++ t) (out ++ output s e))) ((law ks r (good_here read ks r g).asks).1 t)
      ∙ ap (run read b e) (step_behind law ks r t o₁ e g)
      ∙ go (λ k o l. added_behind law b ks (on_by read r (get_or (exits (read r)) k 0)) t o e (exit_good read ks r g k 0 l)) (step read e r o₁) (stepped e r o₁)
    where
      o₁ : List ℕ
      o₁ = out ++ output (read r) e

      go : ((k : ℕ) (o : List ℕ) → k < length (exits (read r)) → run read b e (going (on_by read r (get_or (exits (read r)) k 0) ++ t) o) ≡ behind t (run read b e (going (on_by read r (get_or (exits (read r)) k 0)) o))) → (s : State) → Stepped e r o₁ s → run read b e (behind t s) ≡ behind t (run read b e s)
      go ih (going r₁ o) w = rw w.2 (ih (pick (read r) e) o w.1)
      go ih (done o) w = rw (run_done b e o) refl
      go ih stuck w = rw (run_stuck b e) refl
