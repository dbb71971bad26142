-- What the program reads is what the table says: a law for each arm of the decoder. Assumes nothing.
use Rattle.std.proofs.Common.{◌≡◌, ℕ, zero, suc, ◌+◌, ◌-◌, ◌<◌, ◌≤◌, List, [], ◌∷◌, length, get_or, take, drop, refl, arith}
use Rattle.std.proofs.lemmas.Bool.{le-leb, lt-leb, ne_eqb}
use Rattle.code.specs.Step.{ends, letters, argument, unknown, cut, byte, part, find, read_by, table, decode}

pub reads_end : (r : List ℕ) → 0 < length r → get_or r 0 0 ≡ 0 → ends ≡ decode r
unfolding decode read_by byte find table
reads_end [] l h = absurd (omega arith)
reads_end (x ∷ xs) l h = rw h refl

pub reads_letters : (r : List ℕ) (n : ℕ) → n + 2 ≤ length r → get_or r 0 0 ≡ 1 → get_or r 1 0 ≡ n → letters (take (n + 2 - 2) (drop 2 r)) ≡ decode r
unfolding decode read_by byte find table part
reads_letters [] n l h g = absurd (omega arith)
reads_letters (x ∷ []) n l h g = absurd (omega arith)
reads_letters (x ∷ y ∷ ys) n l h g = let q : n + 2 - 2 ≡ n = omega arith in rw (h, g, q, le-leb n (length ys) (omega arith)) refl

pub reads_argument : (r : List ℕ) → 2 ≤ length r → get_or r 0 0 ≡ 2 → argument (get_or r 1 0) ≡ decode r
unfolding decode read_by byte find table
reads_argument [] l h = absurd (omega arith)
reads_argument (x ∷ []) l h = absurd (omega arith)
reads_argument (x ∷ y ∷ ys) l h = rw h refl

pub reads_unknown : (r : List ℕ) → 0 < length r → 2 < get_or r 0 0 → unknown (get_or r 0 0) ≡ decode r
unfolding decode read_by byte find table
reads_unknown [] l h = absurd (omega arith)
reads_unknown (x ∷ xs) l h = rw (ne_eqb x 0 (λ q. omega arith), ne_eqb x 1 (λ q. omega arith), ne_eqb x 2 (λ q. omega arith)) refl

-- nothing is there, or one byte of a longer step, or fewer letters than it says
pub reads_nothing : (r : List ℕ) → length r ≡ 0 → cut ≡ decode r
unfolding decode read_by byte
reads_nothing [] l = refl
reads_nothing (x ∷ xs) l = absurd (omega arith)

pub reads_few : (r : List ℕ) → 2 ≤ length r → get_or r 0 0 ≡ 1 → length r < get_or r 1 0 + 2 → cut ≡ decode r
unfolding decode read_by byte find table part
reads_few [] l h g = absurd (omega arith)
reads_few (x ∷ []) l h g = absurd (omega arith)
reads_few (x ∷ y ∷ ys) l h g = rw (h, lt-leb y (length ys) (omega arith)) refl

pub reads_alone : (r : List ℕ) → length r ≡ 1 → 0 < get_or r 0 0 → get_or r 0 0 ≤ 2 → cut ≡ decode r
unfolding decode read_by byte find table
reads_alone [] l a b = absurd (omega arith)
reads_alone (zero ∷ xs) l a b = absurd (omega arith)
reads_alone (suc zero ∷ []) l a b = refl
reads_alone (suc (suc zero) ∷ []) l a b = refl
reads_alone (suc (suc (suc n)) ∷ []) l a b = absurd (omega arith)
reads_alone (suc n ∷ y ∷ ys) l a b = absurd (omega arith)
