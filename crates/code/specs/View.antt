-- The program's steps as the definitions' steps. Assumes nothing.
use Rattle.std.specs.Prelude.{ℕ, ◌+◌, ◌≤◌, List, length}
use Rattle.code.specs.Step.{Step, ends, letters, argument, unknown, cut}
use Rattle.code.specs.declared.step.Step as declared

-- the same step, with the letters that its reference holds
abbrev pub seen : declared.Step → Step
seen declared.TheVariants.End = ends
seen (declared.TheVariants.Letters t) = letters t.now
seen (declared.TheVariants.Argument i) = argument i
seen (declared.TheVariants.Unknown x) = unknown x
seen declared.TheVariants.Cut = cut

-- a step that was read lies within the bytes that it was read from
abbrev pub Within : List ℕ → declared.Step → Type 0
Within r declared.TheVariants.End = 1 ≤ length r
Within r (declared.TheVariants.Letters t) = 2 + length t.now ≤ length r
Within r (declared.TheVariants.Argument i) = 2 ≤ length r
Within r (declared.TheVariants.Unknown x) = 1 ≤ length r
Within r declared.TheVariants.Cut = Unit {0}
