-- A thing told as a word, put behind those that were told. Assumes nothing: these are definitions.
use Rattle.std.specs.Prelude.{◌≡◌, ℕ, List, [], ◌∷◌, ◌++◌, length, Some, None, Ok, Err, Result, OnErr}
use Rattle.code.specs.declared.kind.Kind.{Kind}
use Rattle.code.specs.declared.kind.Kind.TheVariants.{Text, Number}
use Rattle.plural.specs.Figures.{number_in}
use Rattle.msgfile.specs.declared.things.TellError as error

-- a number: 1, the number that the word writes, and a third that doesn't count; if it writes none, or there is no memory, nothing is told
abbrev pub NumberTold : {A : Type 0} → (word told told₁ : List ℕ) → Result A error.TellError → Type 0
NumberTold w ts ts₁ (Ok x) = (n : ℕ) × (number_in w ≡ Some n) × (ts₁ ≡ ts ++ (1 ∷ n ∷ 0 ∷ []))
NumberTold w ts ts₁ (Err error.TheVariants.NoNumber) = (number_in w ≡ None) × (ts₁ ≡ ts)
NumberTold w ts ts₁ (Err error.TheVariants.Memory) = ts₁ ≡ ts

-- a text: 0, where its letters begin and how long it is; they are put behind the others. Without memory nothing is told
abbrev pub TextTold : {A : Type 0} → (word told letters told₁ letters₁ : List ℕ) → Result A error.TellError → Type 0
TextTold w ts ls ts₁ ls₁ (Ok x) = (ts₁ ≡ ts ++ (0 ∷ length ls ∷ length w ∷ [])) × (ls₁ ≡ ls ++ w)
TextTold w ts ls ts₁ ls₁ (Err error.TheVariants.NoNumber) = ⊥
TextTold w ts ls ts₁ ls₁ (Err error.TheVariants.Memory) = ts₁ ≡ ts

-- a thing of a kind: a number leaves the letters as they are
abbrev pub ThingTold : {A : Type 0} → Kind → (word told letters told₁ letters₁ : List ℕ) → Result A error.TellError → Type 0
ThingTold Text w ts ls ts₁ ls₁ r = TextTold w ts ls ts₁ ls₁ r × OnErr r (ls₁ ≡ ls)
ThingTold Number w ts ls ts₁ ls₁ r = NumberTold w ts ts₁ r × (ls₁ ≡ ls)
