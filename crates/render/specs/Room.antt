-- A room, and what is put into it. Assumes nothing: these are definitions.
use Rattle.std.specs.Prelude.{◌≡◌, ℕ, ◌+◌, List, ◌++◌, length, take, drop}
use Rattle.render.specs.declared.writer.Writer.{Writer}

-- a text was put into a room at a place: up to where it now stands, what the room holds up to there, and that nothing changed behind
pub record Holds (at : ℕ) (room : List ℕ) (t : List ℕ) (at₁ : ℕ) (room₁ : List ℕ) : Type 0 where
  pub place : at₁ ≡ at + length t
  pub text : take at₁ room₁ ≡ take at room ++ t
  pub rest : drop at₁ room₁ ≡ drop at₁ room

-- a text was put into a writer's room: it is the same room, as long as before, and holds the text
pub record Written (s : Writer) (t : List ℕ) (s₁ : Writer) : Type 0 where
  pub same : s₁.room.ghost_name ≡ s.room.ghost_name
  pub long : length s₁.room.now ≡ length s.room.now
  pub holds : Holds s.at s.room.now t s₁.at s₁.room.now
