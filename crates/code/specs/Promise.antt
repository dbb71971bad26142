-- What is promised of all code. Each is a statement, a type whose proof is owed by the function that names it. Assumes nothing.
use Rattle.std.specs.Prelude.{◌≡◌, ℕ, zero, ◌+◌, ◌*◌, ◌<◌, ◌≤◌, true, false, List, [], ◌∷◌, ◌++◌, length, drop, slice_index}
use Rattle.code.specs.Step.{number, kinds, value_at, Env, shown, Step, size, whole, exits, needs, Table, read_by, decode}
use Rattle.code.specs.Code.{State, going, done, stuck, next, run, bad_at, good, met, outputs, way}

-- the locale's classes are 0 to 5
abbrev pub Six : Env → Type 0
Six e = (n : ℕ) → e.class n < 6

-- good code is never stuck, and has ended within as many steps as it has bytes, whatever it is told of its kinds, in every locale
abbrev pub NeverStuck : Type 0
NeverStuck = (ks c : List ℕ) (e : Env) (b : ℕ) → good decode ks c ≡ true → kinds e.arguments ≡ ks → Six e → length c ≤ b → (u : List ℕ) × (run decode b e (going c []) ≡ done u)

-- there is an answer
abbrev pub Ended : State → Type 0
Ended (going r out) = ⊥
Ended (done out) = Unit {0}
Ended stuck = Unit {0}

-- with more steps allowed an answer stays what it is
abbrev pub MoreBudget : Type 0
MoreBudget = (e : Env) (s : State) (a b : ℕ) → a ≤ b → Ended (run decode a e s) → run decode b e s ≡ run decode a e s

-- steps given in parts are the steps together
abbrev pub Resumes : Type 0
Resumes = (e : Env) (s : State) (a b : ℕ) → run decode (a + b) e s ≡ run decode b e (run decode a e s)

-- what is said is at most as long as the code has bytes times the longest argument, or 1
abbrev pub NotTooLong : Type 0
NotTooLong =
    (c : List ℕ) (e : Env) (b m : ℕ) (u : List ℕ)
    → 1 ≤ m
    → ((i : ℕ) → i < length e.arguments → length (shown e i) ≤ m)
    → run decode b e (going c []) ≡ done u
    → length u ≤ length c * m

-- two environments tell the same, put the numbers told in the same classes, and write them in the same way
pub record Alike (e f : Env) : Type 0 where
  pub arguments : e.arguments ≡ f.arguments
  pub class : (i n : ℕ) → value_at e.arguments i ≡ number n → e.class n ≡ f.class n
  pub figures : (i n : ℕ) → value_at e.arguments i ≡ number n → e.figures n ≡ f.figures n

-- then the same code runs in the same way
abbrev pub OnlyClasses : Type 0
OnlyClasses = (s : State) (e f : Env) (b : ℕ) → Alike e f → run decode b e s ≡ run decode b f s

-- the same, with something behind what is left
abbrev pub behind : List ℕ → State → State
behind t (going r out) = going (r ++ t) out
behind t (done out) = done out
behind t stuck = stuck

-- what is added behind good code changes nothing
abbrev pub AddedBehind : Type 0
AddedBehind = (ks c d : List ℕ) (e : Env) (b : ℕ) → good decode ks c ≡ true → run decode b e (going (c ++ d) []) ≡ behind d (run decode b e (going c []))

-- what is said is what the steps of one way say, in order
abbrev pub SaidOnWay : Type 0
SaidOnWay =
    (ks c : List ℕ) (e : Env) (b : ℕ)
    → good decode ks c ≡ true
    → kinds e.arguments ≡ ks
    → Six e
    → length c ≤ b
    → run decode b e (going c []) ≡ done (outputs e (met decode b (way decode e) c))

-- where steps begin: at the first byte, and behind each step, until the code's end
pub data Begins (c : List ℕ) : ℕ → Type 0 where
  first : 0 < length c → Begins c 0
  then : (p : ℕ) → Begins c p → whole (decode (drop p c)) ≡ true → p + size (decode (drop p c)) < length c → Begins c (p + size (decode (drop p c)))

-- a step, whether one comes to it or not: what it asks of the arguments is so, and every place at which it may go on is the beginning of a step
pub record GoodStep (ks c : List ℕ) (p : ℕ) : Type 0 where
  pub asks : needs (decode (drop p c)) ks ≡ true
  pub lands : (k : ℕ) → k < length (exits (decode (drop p c))) → Begins c (p + (size (decode (drop p c)) + slice_index (exits (decode (drop p c))) k))

-- good code has a byte, and each of its steps is good
pub record GoodCode (ks c : List ℕ) : Type 0 where
  pub byte : 0 < length c
  pub steps : (p : ℕ) → Begins c p → GoodStep ks c p

-- the test finds exactly the good code
abbrev pub GoodExactly : Type 0
GoodExactly = (ks c : List ℕ) → (good decode ks c ≡ true → GoodCode ks c) × (GoodCode ks c → good decode ks c ≡ true)

-- in code that has a byte and isn't good, the place found is that of a step that isn't good, and each step before it is
abbrev pub FirstBad : Type 0
FirstBad =
    (ks c : List ℕ)
    → 0 < length c
    → good decode ks c ≡ false
    → (Begins c (bad_at decode zero ks c))
    × (GoodStep ks c (bad_at decode zero ks c) → ⊥)
    × ((p : ℕ) → p < bad_at decode zero ks c → Begins c p → GoodStep ks c p)

-- a wider reader of steps reads each step that a narrower one knows as that does
abbrev pub Widens : (List ℕ → Step) → (List ℕ → Step) → Type 0
Widens old new = (ks r : List ℕ) → needs (old r) ks ≡ true → new r ≡ old r

-- rows added behind a table make such a reader
abbrev pub RowsWiden : Type 0
RowsWiden = (ts us : Table) → Widens (read_by ts) (read_by (ts ++ us))

-- then code that is good for the narrower one is good for the wider one, and means what it did
abbrev pub Kept : Type 0
Kept =
    (old new : List ℕ → Step)
    → Widens old new
    → (ks c : List ℕ)
    → good old ks c ≡ true
    → (good new ks c ≡ true)
    × ((b : ℕ) (e : Env) → run new b e (going c []) ≡ run old b e (going c []))
    × ((b : ℕ) (w : List ℕ → ℕ) → met new b w c ≡ met old b w c)

-- the table, a line for each row, and what is stuck: another byte, a place behind the end, something that it wasn't told
pub record Rows (e : Env) (xs out : List ℕ) : Type 0 where
  pub row_0 : next decode e (going (0 ∷ xs) out) ≡ done out
  pub row_1 : (t : List ℕ) → next decode e (going (1 ∷ length t ∷ (t ++ xs)) out) ≡ going xs (out ++ t)
  pub row_2 : (i : ℕ) → i < length e.arguments → next decode e (going (2 ∷ i ∷ xs) out) ≡ going xs (out ++ shown e i)
  pub no_row : (x : ℕ) → 3 ≤ x → next decode e (going (x ∷ xs) out) ≡ stuck
  pub no_byte : next decode e (going [] out) ≡ stuck
  pub no_argument : (i : ℕ) → length e.arguments ≤ i → next decode e (going (2 ∷ i ∷ xs) out) ≡ stuck
  pub no_letters : (n : ℕ) → length xs < n → next decode e (going (1 ∷ n ∷ xs) out) ≡ stuck
  pub no_count : next decode e (going (1 ∷ []) out) ≡ stuck
  pub no_number : next decode e (going (2 ∷ []) out) ≡ stuck

-- each step does what its row says, whatever was said before and is left behind it
abbrev pub ByTable : Type 0
ByTable = (e : Env) (xs out : List ℕ) → Rows e xs out
