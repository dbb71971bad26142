-- What is put into a room, part behind part. Assumes nothing.
use Rattle.std.proofs.Common.{◌≡◌, ℕ, ◌+◌, ◌≤◌, List, ◌++◌, length, take, drop, None, Ok, Option, sym, ap, ◌∙◌, subst, arith, take-append-drop}
use Rattle.std.proofs.lemmas.List.{length-take-le}
use Rattle.std.proofs.Math.Seq.{take-append_seam, take-append-add, drop-append_seam, drop-append-add}
use Rattle.code.specs.Code.{State, done}
use Rattle.code.specs.declared.refusal.Refusal.{Refusal}
use Rattle.render.specs.declared.answer.Answer as answer
use Rattle.render.specs.Room.{Holds}
use Rattle.render.specs.Saying.{Within, SaidWithin}

-- what was put at the front
pub whole_room : (room t : List ℕ) (at₁ : ℕ) (room₁ : List ℕ) → Holds 0 room t at₁ room₁ → room₁ ≡ t ++ drop (length t) room
whole_room room t at₁ room₁ h =
    let n : at₁ ≡ length t = omega (arith, h.place) in
    sym (take-append-drop at₁ room₁) ∙ ap (λ (x : List ℕ). x ++ drop at₁ room₁) h.text ∙ ap (λ (x : List ℕ). t ++ x) (h.rest ∙ ap (λ (i : ℕ). drop i room) n)

pub was_spoken :
    (f : Option Refusal) (s : State) (t room room₁ : List ℕ) (n : ℕ) → None ≡ f → s ≡ done t → n ≡ length t → length t ≤ length room → room₁ ≡ t ++ drop (length t) room
    → SaidWithin f s room room₁ (Ok (answer.TheVariants.Spoken n))
was_spoken f s t room room₁ n p q a b d = subst (λ (o : Option Refusal). SaidWithin o s room room₁ (Ok (answer.TheVariants.Spoken n))) p (subst (λ (k : State). Within k room room₁ (answer.TheVariants.Spoken n)) (sym q) (a, b, d))

-- what was written so that it ends at a place, with nothing changed before it and behind
pub written_to : (at end : ℕ) (room t room₁ : List ℕ) → at ≤ length room → at + length t ≡ end → drop at room₁ ≡ t ++ drop end room → take at room₁ ≡ take at room → Holds at room t end room₁
written_to at end room t room₁ l e d f =
    let front : List ℕ = take at room in
    let n : end ≡ length front + length t = omega (arith, e, length-take-le at room l) in
    let whole : room₁ ≡ front ++ (t ++ drop end room) =
    sym (take-append-drop at room₁) ∙ ap (λ (x : List ℕ). x ++ drop at room₁) f ∙ ap (λ (x : List ℕ). front ++ x) d in
    record {
      place = sym e;
      text = ap (take end) whole ∙ ap (λ (i : ℕ). take i (front ++ (t ++ drop end room))) n ∙ take-append-add front (t ++ drop end room) (length t) ∙ ap (λ (x : List ℕ). front ++ x) (take-append_seam t (drop end room));
      rest = ap (drop end) whole ∙ ap (λ (i : ℕ). drop i (front ++ (t ++ drop end room))) n ∙ drop-append-add front (t ++ drop end room) (length t) ∙ drop-append_seam t (drop end room);
    }
