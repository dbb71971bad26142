-- One step does what its row of the table says, and is stuck where there is none. Assumes nothing.
use Rattle.std.proofs.Common.{◌≡◌, ℕ, suc, ◌+◌, ◌<◌, ◌≤◌, true, leb, List, ◌∷◌, ◌++◌, length, take, drop, refl, ap, ◌∙◌, arith, length-append}
use Rattle.std.proofs.lemmas.Bool.{le-leb, lt-leb, lt-ltb, le-ltb, ne_eqb}
use Rattle.std.proofs.lemmas.List.{take_at, drop_at, append-nil}
use Rattle.code.specs.Step.{kinds, Env, shown, size, exits, needs, pick, output, byte, part, find, read_by, table, decode}
use Rattle.code.specs.Code.{going, done, stuck, follow, on_by, step, next}
use Rattle.code.specs.Promise.{Rows}
use Rattle.code.proofs.Laws.{length_kinds}

-- all that a step is computed by
all : Type 0
unfolding byte part find read_by table decode size exits needs pick output follow on_by step next
all = ℕ

far : (n d : ℕ) (x y : ℕ) (xs : List ℕ) → drop (2 + n + d) (x ∷ y ∷ xs) ≡ drop (n + d) xs
far n d x y xs = let q : 2 + n + d ≡ suc (suc (n + d)) = omega arith in ap (λ (k : ℕ). drop k (x ∷ y ∷ xs)) q

at_1 : (e : Env) (xs out t : List ℕ) → next decode e (going (1 ∷ length t ∷ (t ++ xs)) out) ≡ going xs (out ++ t)
unfolding all
at_1 e xs out t =
    let l : leb (length t) (length (t ++ xs)) ≡ true = le-leb (length t) (length (t ++ xs)) (omega (arith, length-append t xs)) in
    let a : take (length t) (t ++ xs) ≡ t = take_at t xs (length t) refl in
    let z : length t + 0 ≡ length t = omega arith in
    let b : drop (2 + length t + 0) (1 ∷ length t ∷ (t ++ xs)) ≡ xs =
    far (length t) 0 1 (length t) (t ++ xs) ∙ ap (λ (k : ℕ). drop k (t ++ xs)) z ∙ drop_at t xs (length t) refl in
    rw (l, a) (ap (λ (r : List ℕ). going r (out ++ t)) b)

at_2 : (e : Env) (xs out : List ℕ) (i : ℕ) → i < length e.arguments → next decode e (going (2 ∷ i ∷ xs) out) ≡ going xs (out ++ shown e i)
unfolding all
at_2 e xs out i l = rw (lt-ltb i (length (kinds e.arguments)) (omega (arith, length_kinds e.arguments))) refl

none : (e : Env) (xs out : List ℕ) (x : ℕ) → 3 ≤ x → next decode e (going (x ∷ xs) out) ≡ stuck
unfolding all
none e xs out x l = rw (ne_eqb x 0 (λ q. omega arith), ne_eqb x 1 (λ q. omega arith), ne_eqb x 2 (λ q. omega arith)) refl

untold : (e : Env) (xs out : List ℕ) (i : ℕ) → length e.arguments ≤ i → next decode e (going (2 ∷ i ∷ xs) out) ≡ stuck
unfolding all
untold e xs out i l = rw (le-ltb i (length (kinds e.arguments)) (omega (arith, length_kinds e.arguments))) refl

short : (e : Env) (xs out : List ℕ) (n : ℕ) → length xs < n → next decode e (going (1 ∷ n ∷ xs) out) ≡ stuck
unfolding all
short e xs out n l = rw (lt-leb n (length xs) l) refl

pub by_rows : (e : Env) (xs out : List ℕ) → Rows e xs out
unfolding all
by_rows e xs out =
    record {
      row_0 = ap done (append-nil out);
      row_1 = at_1 e xs out;
      row_2 = at_2 e xs out;
      no_row = none e xs out;
      no_byte = refl;
      no_argument = untold e xs out;
      no_letters = short e xs out;
      no_count = refl;
      no_number = refl;
    }
