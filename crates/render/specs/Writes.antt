-- A sink that writes keeps the laws of a sink. Assumes nothing.
use Rattle.std.specs.Prelude.{◌≡◌, ℕ, ◌+◌, ◌≤◌, List, [], ◌++◌, length, take, drop}
use Rattle.std.proofs.Common.{sym, refl, ap, ◌∙◌, append_assoc, arith, length-append}
use Rattle.std.proofs.lemmas.List.{drop-drop, append-nil}
use Rattle.render.specs.declared.writer.Writer.{Writer}
use Rattle.render.specs.Room.{Holds, Written}
use Rattle.render.specs.Sink.{SinkLaws}

-- nothing is put
holds_none : (at : ℕ) (room : List ℕ) → Holds at room [] at room
holds_none at room = record { place = omega arith; text = sym (append-nil (take at room)); rest = refl }

-- one part, and then the others
holds_more : (at mid at₁ : ℕ) (room half room₁ t u : List ℕ) → Holds at room t mid half → Holds mid half u at₁ room₁ → Holds at room (t ++ u) at₁ room₁
holds_more at mid at₁ room half room₁ t u h k =
    record {
      place = omega (arith, h.place, k.place, length-append t u);
      text = k.text ∙ ap (λ (x : List ℕ). x ++ u) h.text ∙ append_assoc (take at room) t u;
      rest = k.rest ∙ later;
    }
  where
    later : drop at₁ half ≡ drop at₁ room
    later =
        let n : mid + length u ≡ at₁ = omega (arith, k.place) in
        ap (λ (i : ℕ). drop i half) (sym n) ∙ sym (drop-drop (length u) mid half) ∙ ap (drop (length u)) h.rest ∙ drop-drop (length u) mid room ∙ ap (λ (i : ℕ). drop i room) n

pub writer_laws : SinkLaws (λ (s : Writer) t. s.at + length t ≤ length s.room.now) Written
writer_laws =
    record {
      none = λ s. record { same = refl; long = refl; holds = holds_none s.at s.room.now };
      front = λ s t u h. omega (arith, h, length-append t u);
      rest = λ s s₁ t u h p. omega (arith, h, p.long, p.holds.place, length-append t u);
      more = λ s s₁ s₂ t u p q. record { same = q.same ∙ p.same; long = q.long ∙ p.long; holds = holds_more s.at s₁.at s₂.at s.room.now s₁.room.now s₂.room.now t u p.holds q.holds };
    }
