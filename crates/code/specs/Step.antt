-- The steps of a message's code: what each one is, how it is read, and what it asks, says and leads to. Assumes nothing: these are definitions.
use Rattle.std.specs.Prelude.{ℕ, ◌+◌, Bool, true, false, cond, List, [], ◌∷◌, length, take, drop, ◌==◌, nat_le, nat_lt, slice_index_or}

-- what a message is told: a text, of kind 0, or a number, of kind 1
pub data Value : Type 0 where
  text : List ℕ → Value
  number : ℕ → Value

-- the kind of an argument
unfoldable pub kind : Value → ℕ
kind (text t) = 0
kind (number n) = 1

-- the kinds of all arguments, in order
unfoldable pub kinds : List Value → List ℕ
kinds [] = []
kinds (v ∷ vs) = kind v ∷ kinds vs

-- the argument of this number
unfoldable pub value_at : List Value → ℕ → Value
value_at vs i = slice_index_or vs i (text [])

-- all that a step may look at besides the code: the locale's class of a number and its figures, and the arguments
pub record Env : Type 0 where
  pub class : ℕ → ℕ
  pub figures : ℕ → List ℕ
  pub arguments : List Value

-- an argument as it is said: a text as it is, a number in figures
abbrev pub shown_by : (ℕ → List ℕ) → Value → List ℕ
shown_by f (text t) = t
shown_by f (number n) = f n

-- the argument of this number, as it is said in an environment
abbrev pub shown : Env → ℕ → List ℕ
shown e i = shown_by e.figures (value_at e.arguments i)

-- what a step is. A first byte that the table lacks is unknown; a step whose bytes are not all there is cut
pub data Step : Type 0 where
  ends : Step
  letters : List ℕ → Step
  argument : ℕ → Step
  unknown : ℕ → Step
  cut : Step

-- how many bytes it takes; a byte that begins no step is taken for two, so that what stands behind it is looked at too
unfoldable pub size : Step → ℕ
size ends = 1
size (letters t) = 2 + length t
size (argument i) = 2
size (unknown x) = 2
size cut = 1

-- whether it is known where it ends: behind a step that is cut nothing begins
unfoldable pub whole : Step → Bool
whole ends = true
whole (letters t) = true
whole (argument i) = true
whole (unknown x) = true
whole cut = false

-- by how much behind its end it may go on; none if it ends
unfoldable pub exits : Step → List ℕ
exits ends = []
exits (letters t) = 0 ∷ []
exits (argument i) = 0 ∷ []
exits (unknown x) = []
exits cut = []

-- what it asks of the kinds of the arguments
unfoldable pub needs : Step → List ℕ → Bool
needs ends ks = true
needs (letters t) ks = true
needs (argument i) ks = nat_lt i (length ks)
needs (unknown x) ks = false
needs cut ks = false

-- which of its exits it takes
unfoldable pub pick : Step → Env → ℕ
pick ends e = 0
pick (letters t) e = 0
pick (argument i) e = 0
pick (unknown x) e = 0
pick cut e = 0

-- what it says
unfoldable pub output : Step → Env → List ℕ
output ends e = []
output (letters t) e = t
output (argument i) e = shown e i
output (unknown x) e = []
output cut e = []

-- reading one byte, or a part of so many bytes: a step that isn't wholly there is cut
unfoldable pub byte : (ℕ → List ℕ → Step) → List ℕ → Step
byte f [] = cut
byte f (x ∷ xs) = f x xs

-- the same, of so many bytes
unfoldable pub part : ℕ → (List ℕ → List ℕ → Step) → List ℕ → Step
part n f xs = cond (nat_le n (length xs)) (f (take n xs) (drop n xs)) cut

-- a table of steps: by the first byte, how what stands behind it is read
abbrev pub Table : Type 0
Table = List (ℕ × (List ℕ → Step))

-- the row of a first byte; a byte that no row has is unknown
unfoldable pub find : Table → ℕ → List ℕ → Step
find [] x xs = unknown x
find (t ∷ ts) x xs = cond (x == t.0) (t.1 xs) (find ts x xs)

-- reading by a table: the first byte picks the row
unfoldable pub read_by : Table → List ℕ → Step
read_by t r = byte (find t) r

-- the table of the code: 0 ends; 1 n and n letters says these; 2 i says argument i
unfoldable pub table : Table
table =
    (0, λ xs. ends)
    ∷ (1, λ xs. byte (λ n ys. part n (λ t zs. letters t) ys) xs)
    ∷ (2, λ xs. byte (λ i ys. argument i) xs)
    ∷ []

-- the step at the front of what is left of the code
unfoldable pub decode : List ℕ → Step
decode r = read_by table r
