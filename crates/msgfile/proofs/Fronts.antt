-- Fronts of a text. Assumes nothing.
use Rattle.std.proofs.Common.{◌≡◌, ℕ, suc, ◌+◌, ◌<◌, Bool, true, false, cond, not, eqb, List, [], ◌∷◌, length, drop, Some, None, Option, refl, sym, ap, ◌∙◌, arith, length-drop}
use Rattle.std.specs.List.{position_or_len, after_first}
use Rattle.std.proofs.lemmas.Bool.{ne_eqb}
use Rattle.std.proofs.lemmas.Bool.Decides.{nat_tests}
use Rattle.msgfile.specs.Text.{space, newline, skip, skip_on, skipped, uncommented}

-- behind a byte that is skipped stands what is behind all of them
skipped_more : (c d : Bool) (b : ℕ) (bs : List ℕ) → skip c b ≡ Some d → drop (skipped c (b ∷ bs)) (b ∷ bs) ≡ drop (skipped d bs) bs
unfolding skipped
skipped_more c d b bs h = ap (λ (o : Option Bool). drop (skip_on (λ e. skipped e bs) o) (b ∷ bs)) h

skipped_none : (b : ℕ) (bs : List ℕ) → skip false b ≡ None → uncommented (b ∷ bs) ≡ b ∷ bs
unfolding skipped
skipped_none b bs h = ap (λ (o : Option Bool). drop (skip_on (λ e. skipped e bs) o) (b ∷ bs)) h

skip_space : (b : ℕ) → space b ≡ true → skip false b ≡ Some false
skip_space b h = ap (λ (t : Bool). cond t (Some false) (cond (eqb b 35) (Some true) None)) h

-- a comment is skipped with the end of its line
line_skipped : (bs : List ℕ) → uncommented (after_first newline bs) ≡ drop (skipped true bs) bs
unfolding skipped
line_skipped [] = refl
line_skipped (b ∷ bs) = go (newline b) refl (line_skipped bs)
  where
    go : (t : Bool) → newline b ≡ t → uncommented (after_first newline bs) ≡ drop (skipped true bs) bs → uncommented (after_first newline (b ∷ bs)) ≡ drop (skipped true (b ∷ bs)) (b ∷ bs)
    go true e ih = ap (λ (t : Bool). uncommented (drop (cond (not t) (1 + position_or_len newline bs) 0 + 1) (b ∷ bs))) e ∙ sym (skipped_more true false b bs (ap (λ (t : Bool). Some (not t)) e))
    go false e ih =
        let n : (1 + position_or_len newline bs) + 1 ≡ suc (position_or_len newline bs + 1) = omega arith in
        ap (λ (t : Bool). uncommented (drop (cond (not t) (1 + position_or_len newline bs) 0 + 1) (b ∷ bs))) e ∙ ap (λ (k : ℕ). uncommented (drop k (b ∷ bs))) n ∙ ih ∙ sym (skipped_more true true b bs (ap (λ (t : Bool). Some (not t)) e))

-- behind the sign of a comment stands what is behind its line
pub past_comment : (bs cs r : List ℕ) (b : ℕ) → bs ≡ b ∷ cs → b ≡ 35 → r ≡ after_first newline cs → (uncommented r ≡ uncommented bs) × (length r < length bs)
past_comment bs cs r b p e q = (
  ap uncommented q ∙ line_skipped cs ∙ sym (skipped_more false true 35 cs refl) ∙ ap (λ (x : ℕ). uncommented (x ∷ cs)) (sym e) ∙ ap uncommented (sym p),
  omega (arith, ap length p, ap length q, length-drop (position_or_len newline cs + 1) cs),
)

-- and behind a space what is behind it
pub past_space : (bs cs : List ℕ) (b : ℕ) → bs ≡ b ∷ cs → space b ≡ true → (uncommented cs ≡ uncommented bs) × (length cs < length bs)
past_space bs cs b p e = (sym (skipped_more false false b cs (skip_space b e)) ∙ ap uncommented (sym p), omega (arith, ap length p))

-- where neither stands, nothing is skipped
pub all_skipped : (bs cs : List ℕ) (b : ℕ) → bs ≡ b ∷ cs → (b ≡ 35 → ⊥) → space b ≡ false → bs ≡ uncommented bs
all_skipped bs cs b p h k =
    let n : eqb b 35 ≡ false = ne_eqb b 35 h in
    let s : skip false b ≡ None = grind (arith, nat_tests) in
    p ∙ sym (skipped_none b cs s) ∙ ap uncommented (sym p)
