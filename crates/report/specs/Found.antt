-- What a verdict says of code and kinds. Assumes nothing: these are definitions.
use Rattle.std.specs.Prelude.{◌≡◌, ℕ, List, drop, Some, None}
use Rattle.code.specs.declared.refusal.Refusal as refusal
use Rattle.verifier.specs.Verdict.{flaw_of, limit_fault, fault_of}
use Rattle.report.specs.declared.verdict.Verdict as verdict

-- good code has no fault; of bad code the first step that isn't good is named, and what is wrong with it; else it is refused for a limit or a kind, the first that applies
abbrev pub Found : (c ks : List ℕ) → verdict.Verdict → Type 0
Found c ks verdict.TheVariants.Good = fault_of c ks ≡ None
Found c ks (verdict.TheVariants.Bad at flaw) = (fault_of c ks ≡ Some (refusal.TheVariants.Step at)) × (flaw_of ks (drop at c) ≡ Some flaw)
Found c ks (verdict.TheVariants.Refused f) = limit_fault c ks ≡ Some f
