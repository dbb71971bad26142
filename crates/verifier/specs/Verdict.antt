-- What the verifier answers, for all code and kinds that are lent. Assumes nothing: these are definitions.
use Rattle.std.specs.Prelude.{◌≡◌, ℕ, zero, ◌+◌, ◌<◌, ◌≤◌, cond, List, length, Some, None, Option, nat_lt, slice_index}
use Rattle.std.specs.List.{position_or_len}
use Rattle.code.specs.Step.{Step, ends, letters, argument, unknown, cut, decode}
use Rattle.code.specs.Code.{good, bad_at}
use Rattle.code.specs.Promise.{Begins, GoodStep, GoodCode}
use Rattle.code.specs.Refused.{number_of}
use Rattle.code.specs.declared.refusal.Refusal as refusal
use Rattle.code.specs.declared.said.Said as said
use Rattle.verifier.specs.declared.flaw.Flaw as flaw

-- what is wrong with a step, of what is left of the code
abbrev pub flaw_by : (ks r : List ℕ) → Step → Option flaw.Flaw
flaw_by ks r ends = None
flaw_by ks r (letters t) = cond (nat_lt (2 + length t) (length r)) None (Some flaw.TheVariants.PastEnd)
flaw_by ks r (argument i) = cond (nat_lt i (length ks)) (cond (nat_lt 2 (length r)) None (Some flaw.TheVariants.PastEnd)) (Some (flaw.TheVariants.Untold i))
flaw_by ks r (unknown x) = Some (flaw.TheVariants.Unknown x)
flaw_by ks r cut = cond (nat_lt 0 (length r)) (Some flaw.TheVariants.Cut) (Some flaw.TheVariants.Empty)

-- the same of the step that begins here
abbrev pub flaw_of : (ks r : List ℕ) → Option flaw.Flaw
flaw_of ks r = flaw_by ks r (decode r)

-- how many kinds stand before the first that is neither a text's nor a number's; all of them if there is none
abbrev pub odd_kind : List ℕ → ℕ
odd_kind ks = position_or_len (nat_lt 1) ks

-- the first of the limits and kinds that is wrong
abbrev pub limit_fault : (c ks : List ℕ) → Option refusal.Refusal
limit_fault c ks =
    cond (nat_lt 4096 (length c)) (Some refusal.TheVariants.LongCode)
    (cond (nat_lt 16 (length ks)) (Some refusal.TheVariants.ManyKinds)
    (cond (nat_lt (odd_kind ks) (length ks)) (Some (refusal.TheVariants.Kind (odd_kind ks))) None))

-- the first of two refusals
abbrev pub or_else : Option refusal.Refusal → Option refusal.Refusal → Option refusal.Refusal
or_else None g = g
or_else (Some f) g = Some f

-- the first step that isn't good
abbrev pub step_fault : (c ks : List ℕ) → Option refusal.Refusal
step_fault c ks = cond (good decode ks c) None (Some (refusal.TheVariants.Step (bad_at decode zero ks c)))

-- all that the verifier refuses, in order
abbrev pub fault_of : (c ks : List ℕ) → Option refusal.Refusal
fault_of c ks = or_else (limit_fault c ks) (step_fault c ks)

-- the check's answer: bad code is no refusal
abbrev pub answer : Option refusal.Refusal → said.Said
answer None = said.TheVariants.Good
answer (Some refusal.TheVariants.LongCode) = said.TheVariants.Refused (number_of refusal.TheVariants.LongCode)
answer (Some refusal.TheVariants.ManyKinds) = said.TheVariants.Refused (number_of refusal.TheVariants.ManyKinds)
answer (Some (refusal.TheVariants.Kind at)) = said.TheVariants.Refused (number_of (refusal.TheVariants.Kind at))
answer (Some (refusal.TheVariants.Step at)) = said.TheVariants.Bad
answer (Some (refusal.TheVariants.Rule at)) = said.TheVariants.Refused (number_of (refusal.TheVariants.Rule at))
answer (Some (refusal.TheVariants.Argument at)) = said.TheVariants.Refused (number_of (refusal.TheVariants.Argument at))

-- in words: what is lent is within the limits, and each kind is a text's or a number's
pub record Lent (c ks : List ℕ) : Type 0 where
  pub bytes : length c ≤ 4096
  pub arguments : length ks ≤ 16
  pub kinds : (i : ℕ) → i < length ks → slice_index ks i ≤ 1

-- code is called good exactly if it is
pub record Exactly (c ks : List ℕ) (r : said.Said) : Type 0 where
  pub good : r ≡ said.TheVariants.Good → Lent c ks × GoodCode ks c
  pub bad : r ≡ said.TheVariants.Bad → Lent c ks × (GoodCode ks c → ⊥)
  pub called : Lent c ks → GoodCode ks c → r ≡ said.TheVariants.Good

-- what a refusal says of what was lent: the first that applies, and its place
abbrev pub Refuses : (c ks : List ℕ) → refusal.Refusal → Type 0
Refuses c ks refusal.TheVariants.LongCode = 4096 < length c
Refuses c ks refusal.TheVariants.ManyKinds = (length c ≤ 4096) × (16 < length ks)
Refuses c ks (refusal.TheVariants.Kind at) = (length c ≤ 4096) × (length ks ≤ 16) × (at < length ks) × (1 < slice_index ks at) × ((i : ℕ) → i < at → slice_index ks i ≤ 1)
Refuses c ks (refusal.TheVariants.Step at) =
    Lent c ks
    × (0 < length c → Begins c at × (GoodStep ks c at → ⊥))
    × (length c ≡ 0 → at ≡ 0)
    × ((p : ℕ) → p < at → Begins c p → GoodStep ks c p)
Refuses c ks (refusal.TheVariants.Rule at) = ⊥
Refuses c ks (refusal.TheVariants.Argument at) = ⊥
