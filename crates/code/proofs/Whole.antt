-- A step that is wholly there lies within the code, and what is behind it doesn't count. Assumes nothing.
use Rattle.std.proofs.Common.{◌≡◌, ℕ, suc, ◌+◌, ◌≤◌, Bool, true, false, cond, eqb, leb, List, [], ◌∷◌, ◌++◌, length, take, drop, refl, arith, length-append, length-drop}
use Rattle.std.proofs.lemmas.Bool.{false≢true, leb-true, le-leb}
use Rattle.std.proofs.lemmas.List.{take-append-le, drop-append-le, length-take-le}
use Rattle.code.specs.Step.{Step, ends, letters, argument, unknown, cut, size, needs, byte, part, Table, find, read_by, table, decode}
use Rattle.code.specs.Promise.{Widens}

abbrev pub Reads : ℕ → (List ℕ → Step) → Type 0
Reads n f = (ks xs : List ℕ) → needs (f xs) ks ≡ true → (size (f xs) ≤ n + length xs) × ((d : List ℕ) → f (xs ++ d) ≡ f xs)

pub no_cut : {A : Type 0} → (ks : List ℕ) → needs cut ks ≡ true → A
unfolding needs
no_cut ks h = absurd (false≢true h)

no_unknown : {A : Type 0} → (x : ℕ) (ks : List ℕ) → needs (unknown x) ks ≡ true → A
unfolding needs
no_unknown x ks h = absurd (false≢true h)

pub reads_done : (n : ℕ) (s : Step) → size s ≤ n → Reads n (λ _. s)
reads_done n s l ks xs h = (omega arith, λ d. refl)

pub reads_byte : (n : ℕ) (f : ℕ → List ℕ → Step) → ((x : ℕ) → Reads (suc n) (f x)) → Reads n (byte f)
unfolding byte
reads_byte n f g ks [] h = no_cut ks h
reads_byte n f g ks (x ∷ xs) h = (omega (arith, (g x ks xs h).0), (g x ks xs h).1)

pub reads_part : (n m : ℕ) (f : List ℕ → List ℕ → Step) → ((t : List ℕ) → length t ≡ m → Reads (n + m) (f t)) → Reads n (part m f)
unfolding part
reads_part n m f g ks xs h = go (leb m (length xs)) refl h
  where
    go : (b : Bool) → leb m (length xs) ≡ b → needs (cond b (f (take m xs) (drop m xs)) cut) ks ≡ true → (size (cond (leb m (length xs)) (f (take m xs) (drop m xs)) cut) ≤ n + length xs) × ((d : List ℕ) → cond (leb m (length (xs ++ d))) (f (take m (xs ++ d)) (drop m (xs ++ d))) cut ≡ cond (leb m (length xs)) (f (take m xs) (drop m xs)) cut)
    go true q h =
        let l : m ≤ length xs = leb-true m (length xs) q in
        let p = g (take m xs) (length-take-le m xs l) ks (drop m xs) h in (
          rw q (omega (arith, p.0, length-drop m xs)),
          λ d. rw (q, le-leb m (length (xs ++ d)) (omega (arith, length-append xs d)), take-append-le m xs d l, drop-append-le m xs d l) (p.1 d),
        )
    go false q h = no_cut ks h

abbrev pub EachReads : Table → Type 0
EachReads [] = Unit {0}
EachReads (t ∷ ts) = Reads 1 t.1 × EachReads ts

reads_find : (ts : Table) → EachReads ts → (x : ℕ) → Reads 1 (find ts x)
unfolding find
reads_find [] h x ks xs n = no_unknown x ks n
reads_find (t ∷ ts) h x ks xs n = go (reads_find ts h.1 x) (eqb x t.0) n
  where
    go : Reads 1 (find ts x) → (b : Bool) → needs (cond b (t.1 xs) (find ts x xs)) ks ≡ true → (size (cond b (t.1 xs) (find ts x xs)) ≤ 1 + length xs) × ((d : List ℕ) → cond b (t.1 (xs ++ d)) (find ts x (xs ++ d)) ≡ cond b (t.1 xs) (find ts x xs))
    go rest true n = h.0 ks xs n
    go rest false n = rest ks xs n

pub reads_by : (ts : Table) → EachReads ts → Reads 0 (read_by ts)
unfolding read_by
reads_by ts h = reads_byte 0 (find ts) (reads_find ts h)

-- lines behind a table change nothing of what it reads
find_widens : (ts us : Table) (x : ℕ) (ks xs : List ℕ) → needs (find ts x xs) ks ≡ true → find (ts ++ us) x xs ≡ find ts x xs
unfolding find
find_widens [] us x ks xs n = no_unknown x ks n
find_widens (t ∷ ts) us x ks xs n = go (λ n. find_widens ts us x ks xs n) (eqb x t.0) n
  where
    go : (needs (find ts x xs) ks ≡ true → find (ts ++ us) x xs ≡ find ts x xs) → (b : Bool) → needs (cond b (t.1 xs) (find ts x xs)) ks ≡ true → cond b (t.1 xs) (find (ts ++ us) x xs) ≡ cond b (t.1 xs) (find ts x xs)
    go ih true n = refl
    go ih false n = ih n

pub widens_by : (ts us : Table) → Widens (read_by ts) (read_by (ts ++ us))
unfolding read_by byte
widens_by ts us ks [] n = refl
widens_by ts us ks (x ∷ xs) n = find_widens ts us x ks xs n

-- a line for each row of the table
pub decode_reads : Reads 0 decode
unfolding decode table size
decode_reads =
    reads_by table (
      reads_done 1 ends (omega arith),
      (
        reads_byte 1 _ (λ n. reads_part 2 n (λ t zs. letters t) (λ t q. reads_done (2 + n) (letters t) (omega arith))),
        (
          reads_byte 1 _ (λ i. reads_done 2 (argument i) (omega arith)),
          tt,
        ),
      ),
    )
