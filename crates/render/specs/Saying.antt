-- What saying answers and leaves in the room, for all that is lent. Assumes nothing: these are definitions.
use Rattle.std.specs.Prelude.{◌≡◌, ℕ, ◌*◌, ◌<◌, ◌≤◌, List, [], ◌++◌, length, drop, Some, None, Ok, Err, Option, Result}
use Rattle.code.specs.Step.{kinds, Env, shown, decode}
use Rattle.code.specs.Code.{State, going, done, stuck, run, met, way, outputs}
use Rattle.code.specs.Refused.{number_of}
use Rattle.code.specs.declared.refusal.Refusal.{Refusal}
use Rattle.code.specs.declared.said.Said as said
use Rattle.plural.specs.Rules.{rules_fault}
use Rattle.verifier.specs.Verdict.{or_else, fault_of}
use Rattle.render.specs.Told.{values_in, told_fault, ToldWell, ThingRefused}
use Rattle.render.specs.declared.answer.Answer as answer

-- what is measured of a run: how long what it says is, if it is done; good code is never stuck
abbrev pub Measured : State → Option ℕ → Type 0
Measured (going r out) n = n ≡ None
Measured (done out) n = n ≡ Some (length out)
Measured stuck n = ⊥

-- a text is put into the room, or its length is answered and nothing changes
abbrev pub Put : List ℕ → (room room₁ : List ℕ) → answer.Answer → Type 0
Put t room room₁ (answer.TheVariants.Spoken n) = (n ≡ length t) × (length t ≤ length room) × (room₁ ≡ t ++ drop (length t) room)
Put t room room₁ (answer.TheVariants.Short n) = (n ≡ length t) × (length room < length t) × (room₁ ≡ room)
Put t room room₁ answer.TheVariants.Unfinished = ⊥

-- saying within a budget: what a run of so many steps comes to
abbrev pub Within : State → (room room₁ : List ℕ) → answer.Answer → Type 0
Within (going r out) room room₁ a = (a ≡ answer.TheVariants.Unfinished) × (room₁ ≡ room)
Within (done t) room room₁ a = Put t room room₁ a
Within stuck room room₁ a = ⊥

-- what holds of all that good code says
pub record SpokenBy (c : List ℕ) (e : Env) (t : List ℕ) : Type 0 where
  -- it is what any number of steps comes to that is at least that of the bytes
  pub ends : (b : ℕ) → length c ≤ b → run decode b e (going c []) ≡ done t
  -- it is what the steps of one way say, in order
  pub way : t ≡ outputs e (met decode (length c) (way decode e) c)
  -- it is at most as long as the code has bytes times the longest argument, or 1
  pub bound : (m : ℕ) → 1 ≤ m → ((i : ℕ) → i < length e.arguments → length (shown e i) ≤ m) → length t ≤ length c * m

-- a refusal changes nothing; else within the budget
abbrev pub SaidWithin : Option Refusal → State → (room room₁ : List ℕ) → Result answer.Answer Refusal → Type 0
SaidWithin (Some f) s room room₁ r = (r ≡ Err f) × (room₁ ≡ room)
SaidWithin None s room room₁ (Ok a) = Within s room room₁ a
SaidWithin None s room room₁ (Err f) = ⊥

-- in words: what passes is well told and of its kinds; what is refused is the first thing that isn't
abbrev pub ToldExactly : {A : Type 0} → (ls ts ks : List ℕ) → Result A Refusal → Type 0
ToldExactly ls ts ks (Ok a) = ToldWell ls ts ks × (kinds (values_in ls ts) ≡ ks)
ToldExactly ls ts ks (Err f) = ThingRefused ls ts ks f

-- the first refusal of all that is lent, in the order of its numbers
abbrev pub say_fault : (c ks rs ls ts : List ℕ) → Option Refusal
say_fault c ks rs ls ts = or_else (fault_of c ks) (or_else (rules_fault rs) (told_fault ls ts ks))

-- the same, whole: there is what good code says, and it is put into the room, or its length is answered
abbrev pub SaidWhole : Option Refusal → (c : List ℕ) → Env → (room room₁ : List ℕ) → Result answer.Answer Refusal → Type 0
SaidWhole (Some f) c e room room₁ r = (r ≡ Err f) × (room₁ ≡ room)
SaidWhole None c e room room₁ (Ok a) = (t : List ℕ) × SpokenBy c e t × Put t room room₁ a
SaidWhole None c e room room₁ (Err f) = ⊥

-- the entry's answer: the number of the refusal alone
abbrev pub SaySays : Option Refusal → (c : List ℕ) → Env → (room room₁ : List ℕ) → said.Said → Type 0
SaySays (Some f) c e room room₁ r = (r ≡ said.TheVariants.Refused (number_of f)) × (room₁ ≡ room)
SaySays None c e room room₁ said.TheVariants.Good = ⊥
SaySays None c e room room₁ said.TheVariants.Bad = ⊥
SaySays None c e room room₁ (said.TheVariants.Spoken n) = (t : List ℕ) × SpokenBy c e t × Put t room room₁ (answer.TheVariants.Spoken n)
SaySays None c e room room₁ (said.TheVariants.Short n) = (t : List ℕ) × SpokenBy c e t × Put t room room₁ (answer.TheVariants.Short n)
SaySays None c e room room₁ (said.TheVariants.Refused n) = ⊥
