-- Things told, as they are read from a line. Assumes nothing.
use Rattle.std.proofs.Common.{◌≡◌, ℕ, zero, suc, ◌-◌, ◌<◌, Bool, cond, List, [], ◌∷◌, ◌++◌, length, get_or, take, drop, Ok, Err, Result, sym, refl, ap, ◌∙◌, append_assoc, arith}
use Rattle.std.proofs.lemmas.Bool.{eq-eqb, ne_eqb}
use Rattle.std.proofs.lemmas.List.{take_rest, nil_from_length, append-nil}
use Rattle.msgfile.specs.declared.error.Expected.{Expected}
use Rattle.msgfile.specs.declared.error.Expected.TheVariants.{Comma, Fewer}
use Rattle.msgfile.specs.declared.error.ReadError as error
use Rattle.msgfile.specs.Read.{Reads, ThingRead}
use Rattle.msgfile.specs.Numbers.{with}
use Rattle.msgfile.specs.Text.{unblanked}
use Rattle.msgfile.specs.Told.{thing_in, with_kind, behind_thing, then_things, things_in}

things_step : (most : ℕ) (bs : List ℕ) → 0 < most → things_in most bs ≡ then_things (things_in (most - 1)) (thing_in bs)
unfolding things_in
things_step zero bs l = absurd (omega arith)
things_step (suc most) bs l = let q : suc most - 1 ≡ most = omega arith in rw q refl

-- what is read so far, and then more things than may be told
pub things_none : (ks : List ℕ) (most : ℕ) (bs : List ℕ) → most ≡ 0 → with ks (things_in most bs) ≡ Err (Fewer, length bs)
unfolding things_in
things_none ks zero bs q = refl
things_none ks (suc most) bs q = absurd (omega arith)

-- or one that can't be read
pub thing_fails : (ks : List ℕ) (most : ℕ) (bs : List ℕ) (e : error.ReadError) → 0 < most → ThingRead (Err e) (thing_in bs) → Reads (Err e) (with ks (things_in most bs))
thing_fails ks most bs (error.TheVariants.Wrong x n) l h = ap (with ks) (things_step most bs l ∙ ap (then_things (things_in (most - 1))) h)
thing_fails ks most bs error.TheVariants.Memory l h = tt

-- or one that can, and then what stands behind it
module _ (ks : List ℕ) (most : ℕ) (bs : List ℕ) (k : ℕ) (cs t : List ℕ) (l : 0 < most) (h : thing_in bs ≡ Ok (k, cs)) (q : t ≡ unblanked cs) where
  got : with ks (things_in most bs) ≡ with (ks ++ (k ∷ [])) (behind_thing (things_in (most - 1)) t)
  got =
      ap (with ks) (things_step most bs l ∙ ap (then_things (things_in (most - 1))) h ∙ ap (λ (u : List ℕ). with_kind k (behind_thing (things_in (most - 1)) u)) (sym q))
      ∙ more (behind_thing (things_in (most - 1)) t)
    where
      more : (r : Result (List ℕ) (Expected × ℕ)) → with ks (with_kind k r) ≡ with (ks ++ (k ∷ [])) r
      more (Ok ms) = ap Ok (sym (append_assoc ks (k ∷ []) ms))
      more (Err f) = refl

  pub thing_last : length t ≡ 0 → with ks (things_in most bs) ≡ Ok (ks ++ (k ∷ []))
  thing_last z = got ∙ ap (λ (u : List ℕ). with (ks ++ (k ∷ [])) (behind_thing (things_in (most - 1)) u)) (nil_from_length t z) ∙ ap Ok (append-nil (ks ++ (k ∷ [])))

  pub thing_more : 0 < length t → get_or t 0 0 ≡ 44 → with ks (things_in most bs) ≡ with (ks ++ (k ∷ [])) (things_in (most - 1) (take (length t - 1) (drop 1 t)))
  thing_more z e = got ∙ ap (with (ks ++ (k ∷ []))) (comma t z e)
    where
      comma : (t : List ℕ) → 0 < length t → get_or t 0 0 ≡ 44 → behind_thing (things_in (most - 1)) t ≡ things_in (most - 1) (take (length t - 1) (drop 1 t))
      comma [] l h = absurd (omega arith)
      comma (b ∷ t) l h = ap (λ (c : Bool). cond c (things_in (most - 1) t) (Err (Comma, suc (length t)))) (eq-eqb b 44 h) ∙ ap (things_in (most - 1)) (sym (take_rest (b ∷ t) 1))

  pub thing_other : 0 < length t → (get_or t 0 0 ≡ 44 → ⊥) → with ks (things_in most bs) ≡ Err (Comma, length t)
  thing_other z e = got ∙ ap (with (ks ++ (k ∷ []))) (other t z e)
    where
      other : (t : List ℕ) → 0 < length t → (get_or t 0 0 ≡ 44 → ⊥) → behind_thing (things_in (most - 1)) t ≡ Err (Comma, length t)
      other [] l h = absurd (omega arith)
      other (b ∷ t) l h = ap (λ (c : Bool). cond c (things_in (most - 1) t) (Err (Comma, suc (length t)))) (ne_eqb b 44 h)
