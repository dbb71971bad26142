-- Where a text can't be read, what is left of it is no longer than it. Assumes nothing.
use Rattle.std.proofs.Common.{◌≡◌, ℕ, zero, suc, ◌+◌, ◌≤◌, Bool, true, false, cond, eqb, List, [], ◌∷◌, length, take, drop, codes, Some, None, Ok, Err, Option, Result, sym, ap, ◌∙◌, arith, length-drop, length-append, take-append-drop}
use Rattle.std.specs.Str.{bytes_eq}
use Rattle.msgfile.specs.declared.error.Expected.{Expected}
use Rattle.msgfile.specs.declared.error.Expected.TheVariants.{Name, Comma}
use Rattle.msgfile.specs.declared.error.ReadError as error
use Rattle.msgfile.specs.declared.numbers.Place as place
use Rattle.msgfile.specs.declared.source.Source.{Source}
use Rattle.msgfile.specs.Text.{blank, wordy, lined, span, unblanked, skipped, uncommented}
use Rattle.msgfile.specs.Told.{kind_named, kinded, kind_in, named_in, thing_in, with_kind, behind_thing, then_things, things_in, told_in}
use Rattle.msgfile.specs.Numbers.{feed, ended, with, going_on, numbers_from, numbers_in}
use Rattle.msgfile.specs.Read.{as_numbers, LeftWithin}
use Rattle.msgfile.specs.File.{further, both, told_then, body_in, message_in, FileRead}

abbrev ShortThing : ℕ → Result (ℕ × List ℕ) (Expected × ℕ) → Type 0
ShortThing n (Ok p) = length p.1 ≤ n
ShortThing n (Err f) = f.1 ≤ n

-- a fault within a text of so many bytes
abbrev pub Short : {A : Type 0} → ℕ → Result A (Expected × ℕ) → Type 0
Short n (Ok ks) = Unit {0}
Short n (Err f) = f.1 ≤ n

kinded_short : (bs : List ℕ) (n : ℕ) (o : Option ℕ) → length bs ≤ n → ShortThing n (kinded bs o)
kinded_short bs n None l = l
kinded_short bs n (Some k) l = omega (arith, length-drop (span wordy bs) bs)

named_short : (bs : List ℕ) (n : ℕ) → length bs ≤ n → ShortThing n (named_in bs)
named_short bs n l = go (eqb (span wordy bs) 0)
  where
    go : (b : Bool) → ShortThing n (cond b (Err (Name, length bs)) (kind_in (unblanked (drop (span wordy bs) bs))))
    go true = l
    go false =
        kinded_short (unblanked (drop (span wordy bs) bs)) n (kind_named (take (span wordy (unblanked (drop (span wordy bs) bs))) (unblanked (drop (span wordy bs) bs))))
        (omega (arith, length-drop (span blank (drop (span wordy bs) bs)) (drop (span wordy bs) bs), length-drop (span wordy bs) bs))

thing_short : (bs : List ℕ) → ShortThing (length bs) (thing_in bs)
thing_short bs = named_short (unblanked bs) (length bs) (omega (arith, length-drop (span blank bs) bs))

with_short : (n k : ℕ) (r : Result (List ℕ) (Expected × ℕ)) → Short n r → Short n (with_kind k r)
with_short n k (Ok ks) h = tt
with_short n k (Err f) h = h

-- of things
pub things_short : (most : ℕ) (bs : List ℕ) (n : ℕ) → length bs ≤ n → Short n (things_in most bs)
unfolding things_in
things_short zero bs n l = l
things_short (suc most) bs n l = go (thing_in bs) (thing_short bs) (λ cs m. things_short most cs n m)
  where
    behind : (t : List ℕ) → length t ≤ n → ((cs : List ℕ) → length cs ≤ n → Short n (things_in most cs)) → Short n (behind_thing (things_in most) t)
    behind [] m ih = tt
    behind (b ∷ t) m ih = comma (eqb b 44)
      where
        comma : (c : Bool) → Short n (cond c (things_in most t) (Err (Comma, suc (length t))))
        comma true = ih t (omega arith)
        comma false = m

    go : (r : Result (ℕ × List ℕ) (Expected × ℕ)) → ShortThing (length bs) r → ((cs : List ℕ) → length cs ≤ n → Short n (things_in most cs)) → Short n (then_things (things_in most) r)
    go (Ok p) h ih = with_short n p.0 (behind_thing (things_in most) (unblanked p.1)) (behind (unblanked p.1) (omega (arith, length-drop (span blank p.1) p.1)) ih)
    go (Err f) h ih = omega arith

-- of a line that tells them
pub told_short : (bs : List ℕ) → Short (length bs) (told_in bs)
told_short bs = go (eqb (length (unblanked bs)) 0)
  where
    go : (b : Bool) → Short (length bs) (cond b (Ok []) (things_in 256 bs))
    go true = tt
    go false = things_short 256 bs (length bs) (omega arith)

-- of numbers
pub numbers_short : (p : place.Place) (bs : List ℕ) (n : ℕ) → length bs ≤ n → Short n (as_numbers (numbers_from p bs))
unfolding numbers_from
numbers_short p [] n l = tt
numbers_short p (b ∷ bs) n l = go (feed p b) (λ q. numbers_short q bs n (omega arith))
  where
    also : (ns : List ℕ) (r : Result (List ℕ) ℕ) → Short n (as_numbers r) → Short n (as_numbers (with ns r))
    also ns (Ok ms) h = tt
    also ns (Err k) h = h

    go : (o : Option place.Place) → ((q : place.Place) → Short n (as_numbers (numbers_from q bs))) → Short n (as_numbers (going_on (λ q. numbers_from q bs) (length (b ∷ bs)) p o))
    go None ih = l
    go (Some q) ih = also (ended p q) (numbers_from q bs) (ih q)

both_short : (n : ℕ) (a b : Result (List ℕ) (Expected × ℕ)) → Short n a → Short n b → Short n (both a b)
both_short n (Ok ks) (Ok ns) h k = tt
both_short n (Ok ks) (Err f) h k = k
both_short n (Err f) b h k = h

further_short : (m k n : ℕ) (r : Result (List ℕ) (Expected × ℕ)) → Short m r → m + k ≤ n → Short n (further k r)
further_short m k n (Ok ks) h l = tt
further_short m k n (Err f) h l = omega arith

rest_short : (bs : List ℕ) (n : ℕ) → length bs ≤ n → Short n (told_then bs)
rest_short bs n l =
    let line : List ℕ = take (span lined bs) bs in
    let rest : List ℕ = drop (span lined bs) bs in
    let e : length line + length rest ≡ length bs = sym (length-append line rest) ∙ ap length (take-append-drop (span lined bs) bs) in
    both_short n (further (length rest) (told_in line)) (as_numbers (numbers_in rest)) (further_short (length line) (length rest) n (told_in line) (told_short line) (omega arith))
    (numbers_short place.TheVariants.Between rest n (omega arith))

body_short : (bs : List ℕ) (n : ℕ) → length bs ≤ n → Short n (body_in bs)
body_short bs n l = go (bytes_eq (take (span wordy bs) bs) (codes "told"))
  where
    go : (b : Bool) → Short n (cond b (told_then (drop 4 bs)) (both (Ok []) (as_numbers (numbers_in bs))))
    go true = rest_short (drop 4 bs) n (omega (arith, length-drop 4 bs))
    go false = both_short n (Ok []) (as_numbers (numbers_in bs)) tt (numbers_short place.TheVariants.Between bs n l)

-- of a whole file
pub message_short : (bs : List ℕ) → Short (length bs) (message_in bs)
message_short bs = body_short (uncommented bs) (length bs) (omega (arith, length-drop (skipped false bs) bs))

-- and so of what is answered
pub file_within : (n : ℕ) (r : Result Source error.ReadError) (m : Result (List ℕ × List ℕ) (Expected × ℕ)) → FileRead r m → Short n m → LeftWithin n r
file_within n (Ok s) m h k = tt
file_within n (Err (error.TheVariants.Wrong e i)) (Ok m) h k = absurd h
file_within n (Err (error.TheVariants.Wrong e i)) (Err f) h k = omega (arith, h.1)
file_within n (Err error.TheVariants.Memory) m h k = tt
