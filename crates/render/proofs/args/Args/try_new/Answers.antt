use Rattle.std.proofs.Common.{◌≡◌, ℕ, ◌/◌, ◌<◌, List, [], length, get_or, map, sym, ap, ◌∙◌, subst, arith}
use Rattle.std.specs.Simd.{first_chunks}
use Rattle.code.specs.Step.{kinds}
use Rattle.render.specs.Told.{Kept, values_in}
use Rattle.render.specs.View.{value_of}
use Rattle.render.proofs.Things.{refused_none, threes_kept, threes_values}
use Rattle.render.proofs.args.Args.try_new.Goals as goal

pub invariant_of-result : goal.invariant_of-result
invariant_of-result c =
    let ls : List ℕ = c.args.told.letters.now in
    let ts : List ℕ = c.args.told.things.now in
    let front : c.as_chunks.result.0.now ≡ first_chunks 3 (length ts / 3) ts = c.as_chunks.ensures.front in
    record {
      kept = subst (λ (cs : List (List ℕ)). (i : ℕ) → i < length cs → Kept ls (get_or cs i [])) (sym front) (threes_kept (length ts / 3) ls ts c.args.kinds.now (refused_none ls ts c.args.kinds.now c.in_ok-check.ensures.answer) (omega arith));
    }

pub returns : goal.returns
returns c =
    let ls : List ℕ = c.args.told.letters.now in
    let ts : List ℕ = c.args.told.things.now in
    let same : map (value_of ls) c.as_chunks.result.0.now ≡ values_in ls ts = ap (map (value_of ls)) c.as_chunks.ensures.front ∙ threes_values (length ts / 3) ls ts (omega arith) (omega arith) in
    record { answer = (c.in_ok-check.ensures.answer, same); exactly = (c.in_ok-check.ensures.exactly.0, ap kinds same ∙ c.in_ok-check.ensures.exactly.1) }
