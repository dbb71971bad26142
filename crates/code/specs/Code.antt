-- Code that only goes forward, over any reader of steps: where steps begin, what is good, how it runs, its ways. The state is what is left of the code. Assumes nothing: these are definitions.
use Rattle.std.specs.Prelude.{ℕ, zero, suc, pred, ◌+◌, Bool, true, false, cond, ◌&&◌, List, [], ◌∷◌, ◌++◌, length, drop, nat_lt, slice_index, slice_index_or}
use Rattle.code.specs.Step.{kinds, Env, Step, size, whole, exits, needs, pick, output}

-- where a run stands: going, with what is left of the code and what was said so far; done, with what was said; or stuck
pub data State : Type 0 where
  going : (rest out : List ℕ) → State
  done : List ℕ → State
  stuck : State

-- what was said so far
abbrev pub said : State → List ℕ
said (going r out) = out
said (done out) = out
said stuck = []

-- on by the exit of this number: no exit is the end, and a number past the exits is stuck
unfoldable pub follow : State → (ℕ → State) → List ℕ → ℕ → State
follow end on [] k = end
follow end on (d ∷ ds) k = cond (nat_lt k (suc (length ds))) (on (slice_index (d ∷ ds) k)) stuck

-- a way takes at each step some exit, whichever: a number past them is the first
unfoldable pub branch : (ℕ → List Step) → List ℕ → ℕ → List Step
branch on [] k = []
branch on (d ∷ ds) k = on (slice_index_or (d ∷ ds) k d)

-- what steps say, one after the other
unfoldable pub outputs : Env → List Step → List ℕ
outputs e [] = []
outputs e (s ∷ ss) = output s e ++ outputs e ss

-- a test holds of each distance
unfoldable pub each : (ℕ → Bool) → List ℕ → Bool
each f [] = true
each f (d ∷ ds) = f d && each f ds

module _ (read : List ℕ → Step) where
  -- what is left of the code behind the step that begins here, and by a distance
  unfoldable pub on_by : List ℕ → ℕ → List ℕ
  on_by r d = drop (size (read r) + d) r

  -- whether a step begins so many bytes on, where so many bytes of an earlier step are still to come
  unfoldable pub begins : (left : ℕ) → List ℕ → ℕ → Bool
  begins n [] k = false
  begins zero (x ∷ xs) zero = true
  begins zero (x ∷ xs) (suc k) = whole (read (x ∷ xs)) && begins (pred (size (read (x ∷ xs)))) xs k
  begins (suc n) (x ∷ xs) zero = false
  begins (suc n) (x ∷ xs) (suc k) = begins n xs k

  -- the step that begins here is good: what it asks is so, and wherever it may go on a step begins
  unfoldable pub step_good : (ks r : List ℕ) → Bool
  step_good ks r = needs (read r) ks && each (λ d. begins zero r (size (read r) + d)) (exits (read r))

  -- each step of what is left is good
  unfoldable pub good_on : (left : ℕ) → (ks r : List ℕ) → Bool
  good_on n ks [] = true
  good_on zero ks (x ∷ xs) = step_good ks (x ∷ xs) && good_on (pred (size (read (x ∷ xs)))) ks xs
  good_on (suc n) ks (x ∷ xs) = good_on n ks xs

  -- code is good: it has a byte, and each step is good, whether one comes to it or not
  unfoldable pub good : (ks c : List ℕ) → Bool
  good ks c = nat_lt 0 (length c) && good_on zero ks c

  -- how many bytes stand before the first step that isn't good; all of them if there is none
  unfoldable pub bad_at : (left : ℕ) → (ks r : List ℕ) → ℕ
  bad_at n ks [] = 0
  bad_at zero ks (x ∷ xs) = cond (step_good ks (x ∷ xs)) (suc (bad_at (pred (size (read (x ∷ xs)))) ks xs)) 0
  bad_at (suc n) ks (x ∷ xs) = suc (bad_at n ks xs)

  -- one step, where what it says is already among what was said
  unfoldable pub step : Env → (rest out : List ℕ) → State
  step e r out = cond (needs (read r) (kinds e.arguments)) (follow (done out) (λ d. going (on_by r d) out) (exits (read r)) (pick (read r) e)) stuck

  -- one step of a run; what has ended stays as it is
  unfoldable pub next : Env → State → State
  next e (going r out) = step e r (out ++ output (read r) e)
  next e (done out) = done out
  next e stuck = stuck

  -- so many steps
  unfoldable pub run : ℕ → Env → State → State
  run zero e s = s
  run (suc b) e s = run b e (next e s)

  -- what is said by code that ends within as many steps as it has bytes
  unfoldable pub says : Env → List ℕ → List ℕ
  says e c = said (run (length c) e (going c []))

  -- the steps that a way meets, of at most so many
  unfoldable pub met : ℕ → (List ℕ → ℕ) → List ℕ → List Step
  met zero w r = []
  met (suc b) w [] = []
  met (suc b) w (x ∷ xs) = read (x ∷ xs) ∷ branch (λ d. met b w (on_by (x ∷ xs) d)) (exits (read (x ∷ xs))) (w (x ∷ xs))

  -- the way that is taken with these arguments in this locale
  unfoldable pub way : Env → List ℕ → ℕ
  way e r = pick (read r) e
