-- Where what is said goes. Assumes nothing: these are definitions.
use Rattle.std.specs.Prelude.{◌≡◌, ℕ, Bool, true, false, List, [], ◌++◌}
use Rattle.code.specs.Code.{State, going, done, stuck}

-- a text of two parts fits if one part does and then the other; what is put part by part is put
pub record SinkLaws {S : Type 0} (fits : S → List ℕ → Type 0) (puts : S → List ℕ → S → Type 0) : Type 0 where
  pub none : (s : S) → puts s [] s
  pub front : (s : S) (t u : List ℕ) → fits s (t ++ u) → fits s t
  pub rest : (s s₁ : S) (t u : List ℕ) → fits s (t ++ u) → puts s t s₁ → fits s₁ u
  pub more : (s s₁ s₂ : S) (t u : List ℕ) → puts s t s₁ → puts s₁ u s₂ → puts s (t ++ u) s₂

-- what a walk answers and leaves in a sink: whether the run is done, and what it said; good code is never stuck
abbrev pub Walked : {S : Type 0} → (S → List ℕ → S → Type 0) → State → (before after : S) → Bool → Type 0
Walked puts (going r out) a b whole = (whole ≡ false) × puts a out b
Walked puts (done out) a b whole = (whole ≡ true) × puts a out b
Walked puts stuck a b whole = ⊥
