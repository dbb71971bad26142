-- A locale's rules of plural classes: six numbers each, the first that fits counts. Assumes nothing: these are definitions.
use Rattle.std.specs.Prelude.{ℕ, zero, suc, ◌+◌, ◌*◌, ◌%◌, ◌<◌, ◌≤◌, Bool, cond, ◌&&◌, List, [], ◌∷◌, length, Some, None, Option, nat_eq, nat_le, slice_index, slice_index_or}
use Rattle.code.specs.declared.refusal.Refusal as refusal

-- a modulus; from and to for what is left of the number; from and to for the number itself; and a class
pub record Rule : Type 0 where
  pub modulus : ℕ
  pub left_from : ℕ
  pub left_to : ℕ
  pub from : ℕ
  pub to : ℕ
  pub class : ℕ

-- the rules of a list of numbers, six each; what is left over at the end is none
unfoldable pub rules_in : List ℕ → List Rule
rules_in [] = []
rules_in (a ∷ []) = []
rules_in (a ∷ b ∷ []) = []
rules_in (a ∷ b ∷ c ∷ []) = []
rules_in (a ∷ b ∷ c ∷ d ∷ []) = []
rules_in (a ∷ b ∷ c ∷ d ∷ e ∷ []) = []
rules_in (a ∷ b ∷ c ∷ d ∷ e ∷ f ∷ rs) = record { modulus = a; left_from = b; left_to = c; from = d; to = e; class = f } ∷ rules_in rs

-- a rule fits a number
unfoldable pub fits : Rule → ℕ → Bool
fits r n = nat_le r.left_from (n % r.modulus) && (nat_le (n % r.modulus) r.left_to && (nat_le r.from n && nat_le n r.to))

-- the class of a number: that of the first rule that fits, and 5 if none does
unfoldable pub class_by : List Rule → ℕ → ℕ
class_by [] n = 5
class_by (r ∷ rs) n = cond (fits r n) r.class (class_by rs n)

-- the class of a number by such a list
unfoldable pub class_in : List ℕ → ℕ → ℕ
class_in rs n = class_by (rules_in rs) n

-- the place of a rule that is one further on
abbrev pub later : Option ℕ → Option ℕ
later None = None
later (Some k) = Some (suc k)

-- the numbers of a rule are six, with a modulus of at least 1 and a class of at most 5
abbrev pub is_well : List ℕ → Bool
is_well rs = nat_eq (length rs) 6 && (nat_le 1 (slice_index_or rs 0 0) && nat_le (slice_index_or rs 5 0) 5)

-- the first rule that is wrong, of at most so many: it is one too many, not whole, or has a modulus of 0 or a class above 5
unfoldable pub wrong_rule : ℕ → List ℕ → Option ℕ
wrong_rule n [] = None
wrong_rule zero (a ∷ rs) = Some 0
wrong_rule (suc n) (a ∷ []) = Some 0
wrong_rule (suc n) (a ∷ b ∷ []) = Some 0
wrong_rule (suc n) (a ∷ b ∷ c ∷ []) = Some 0
wrong_rule (suc n) (a ∷ b ∷ c ∷ d ∷ []) = Some 0
wrong_rule (suc n) (a ∷ b ∷ c ∷ d ∷ e ∷ []) = Some 0
wrong_rule (suc n) (a ∷ b ∷ c ∷ d ∷ e ∷ f ∷ rs) = cond (nat_le 1 a && nat_le f 5) (later (wrong_rule n rs)) (Some 0)

-- the refusal of a rule
abbrev pub rule_refusal : Option ℕ → Option refusal.Refusal
rule_refusal None = None
rule_refusal (Some k) = Some (refusal.TheVariants.Rule k)

-- the refusal of a list of rules, if it has one
abbrev pub rules_fault : List ℕ → Option refusal.Refusal
rules_fault rs = rule_refusal (wrong_rule 20 rs)

-- in words: a rule is one of the first so many, whole, with a modulus of at least 1 and a class of at most 5
pub record RuleWell (most : ℕ) (rs : List ℕ) (i : ℕ) : Type 0 where
  pub few : i < most
  pub whole : 6 * i + 6 ≤ length rs
  pub modulus : 1 ≤ slice_index rs (6 * i)
  pub class : slice_index_or rs (6 * i + 5) 0 ≤ 5

-- all that there is of rules is well
abbrev pub RulesWell : List ℕ → Type 0
RulesWell rs = (i : ℕ) → 6 * i < length rs → RuleWell 20 rs i

-- the first rule that isn't: there is something of it, it isn't well, and all before it are
abbrev pub RuleRefused : List ℕ → refusal.Refusal → Type 0
RuleRefused rs refusal.TheVariants.LongCode = ⊥
RuleRefused rs refusal.TheVariants.ManyKinds = ⊥
RuleRefused rs (refusal.TheVariants.Kind at) = ⊥
RuleRefused rs (refusal.TheVariants.Step at) = ⊥
RuleRefused rs (refusal.TheVariants.Rule at) = (6 * at < length rs) × (RuleWell 20 rs at → ⊥) × ((i : ℕ) → i < at → RuleWell 20 rs i)
RuleRefused rs (refusal.TheVariants.Argument at) = ⊥
