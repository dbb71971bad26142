-- What a message is told, as it is lent: three numbers for each thing, and the letters of its texts. Assumes nothing: these are definitions.
use Rattle.std.specs.Prelude.{◌≡◌, ℕ, ◌+◌, ◌-◌, ◌*◌, ◌<◌, ◌≤◌, Bool, cond, not, ◌&&◌, ◌||◌, ◌⊎◌, List, [], ◌∷◌, length, take, drop, Some, None, Option, ◌==◌, nat_le, slice_index, slice_index_or}
use Rattle.code.specs.Step.{Value, text, number}
use Rattle.code.specs.declared.refusal.Refusal as refusal
use Rattle.plural.specs.Rules.{later}

-- one thing: 1, the number and a third that doesn't count; or 0, where in the letters it begins and how long it is
abbrev pub value_in : (ls : List ℕ) (a b c : ℕ) → Value
value_in ls a b c = cond (a == 1) (number b) (text (take c (drop b ls)))

-- all things, three numbers each
unfoldable pub values_in : (ls ts : List ℕ) → List Value
values_in ls [] = []
values_in ls (a ∷ []) = []
values_in ls (a ∷ b ∷ []) = []
values_in ls (a ∷ b ∷ c ∷ ts) = value_in ls a b c ∷ values_in ls ts

-- a thing is of its kind, and a text lies within the letters and has at most 2^32 of them
abbrev pub thing_ok : (ls : List ℕ) (k a b c : ℕ) → Bool
thing_ok ls k a b c = a == k && (a == 1 || (a == 0 && (nat_le b (length ls) && (nat_le c (length ls - b) && nat_le c 4294967296))))

-- the first thing that is wrong: it isn't whole, is missing, is one too many, or isn't as it should be
unfoldable pub wrong_thing : (ls ts ks : List ℕ) → Option ℕ
wrong_thing ls [] [] = None
wrong_thing ls [] (k ∷ ks) = Some 0
wrong_thing ls (a ∷ []) ks = Some 0
wrong_thing ls (a ∷ b ∷ []) ks = Some 0
wrong_thing ls (a ∷ b ∷ c ∷ ts) [] = Some 0
wrong_thing ls (a ∷ b ∷ c ∷ ts) (k ∷ ks) = cond (thing_ok ls k a b c) (later (wrong_thing ls ts ks)) (Some 0)

-- the refusal of a thing
abbrev pub thing_refusal : Option ℕ → Option refusal.Refusal
thing_refusal None = None
thing_refusal (Some k) = Some (refusal.TheVariants.Argument k)

-- the refusal of what is told, if it has one
abbrev pub told_fault : (ls ts ks : List ℕ) → Option refusal.Refusal
told_fault ls ts ks = thing_refusal (wrong_thing ls ts ks)

-- in words: there is a kind for this thing, it is whole and of that kind, and a text lies within the letters
pub record ThingWell (ls ts ks : List ℕ) (i : ℕ) : Type 0 where
  pub kinded : i < length ks
  pub whole : 3 * i + 3 ≤ length ts
  pub kind : slice_index_or ts (3 * i) 0 ≡ slice_index ks i
  pub within :
      (slice_index ts (3 * i) ≡ 1)
      ⊎ ((slice_index ts (3 * i) ≡ 0) × (slice_index ts (3 * i + 1) + slice_index ts (3 * i + 2) ≤ length ls) × (slice_index ts (3 * i + 2) ≤ 4294967296))

-- all that is told is well, and there is one thing for each kind
abbrev pub ToldWell : (ls ts ks : List ℕ) → Type 0
ToldWell ls ts ks = (length ts ≡ 3 * length ks) × ((i : ℕ) → i < length ks → ThingWell ls ts ks i)

-- the first thing that isn't: something of it is told or asked for, it isn't well, and all before it are
abbrev pub ThingRefused : (ls ts ks : List ℕ) → refusal.Refusal → Type 0
ThingRefused ls ts ks refusal.TheVariants.LongCode = ⊥
ThingRefused ls ts ks refusal.TheVariants.ManyKinds = ⊥
ThingRefused ls ts ks (refusal.TheVariants.Kind at) = ⊥
ThingRefused ls ts ks (refusal.TheVariants.Step at) = ⊥
ThingRefused ls ts ks (refusal.TheVariants.Rule at) = ⊥
ThingRefused ls ts ks (refusal.TheVariants.Argument at) = ((at < length ks) ⊎ (3 * at < length ts)) × (ThingWell ls ts ks at → ⊥) × ((i : ℕ) → i < at → ThingWell ls ts ks i)

-- what an argument is read by: its first number is 0 or 1, and a text lies within the letters and is not too long
pub record Kept (ls t : List ℕ) : Type 0 where
  pub kinded : slice_index t 0 ≤ 1
  pub within : slice_index t 0 ≡ 0 → (slice_index t 1 + slice_index t 2 ≤ length ls) × (slice_index t 2 ≤ 4294967296)

-- a thing, by its three numbers, that isn't as its kind asks
abbrev pub bad_thing : List ℕ → (List ℕ × ℕ) → Bool
bad_thing ls p = not (thing_ok ls p.1 (slice_index p.0 0) (slice_index p.0 1) (slice_index p.0 2))
