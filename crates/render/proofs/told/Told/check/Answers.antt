use Rattle.std.proofs.Common.{length, sym, ap, arith}
use Rattle.std.proofs.lemmas.Bool.{eqb-true, eqb-false}
use Rattle.render.specs.Told.{thing_refusal}
use Rattle.render.proofs.Things.{found_wrong, found_right, found_count, things_well, things_kinds, things_wrong}
use Rattle.render.proofs.told.Told.check.Goals as goal
use Rattle.render.proofs.told.Told.check.Goals.{then-is_empty+else-things-kinds, else-is_empty}

pub returns-in-Some : goal.returns-in-Some
returns-in-Some c =
    let w = found_wrong c.args.self.now.letters.now c.args.self.now.things.now c.args.kinds.now c.as_chunks.result.0.now c.as_chunks.ensures.front c.in-Some.at (sym c.in-Some.ensures) in
    record { answer = ap thing_refusal w; exactly = things_wrong _ _ _ _ w }

pub returns-in-None : goal.returns-in-None
returns-in-None c =
    let w =
    found_right c.args.self.now.letters.now c.args.self.now.things.now c.args.kinds.now c.as_chunks.result.0.now c.as_chunks.ensures.front (sym c.in-None.ensures)
    (omega (arith, c.if-things-kinds.true, c.as_chunks.ensures.front_len, c.as_chunks.ensures.back_len, eqb-true (length c.as_chunks.result.1.now) 0 (sym c.if-is_empty.ensures))) in
    record { answer = ap thing_refusal w; exactly = (things_well _ _ _ w, things_kinds _ _ _ w) }

pub returns-in-None-2 : goal.returns-in-None-2
returns-in-None-2 c =
    let w =
    found_count c.args.self.now.letters.now c.args.self.now.things.now c.args.kinds.now c.as_chunks.result.0.now c.as_chunks.ensures.front c.min.result (sym c.in-None-2.ensures)
    (λ e. elim c.if-is_empty.branch [
      | then-is_empty+else-things-kinds w ↦ omega (arith, c.as_chunks.ensures.front_len, w.if-things-kinds.false (omega (arith, c.as_chunks.ensures.front_len)))
      | else-is_empty w ↦ omega (arith, c.as_chunks.ensures.back_len, eqb-false (length c.as_chunks.result.1.now) 0 (sym w.if-is_empty.ensures))
    ])
    c.min.ensures in
    record { answer = ap thing_refusal w; exactly = things_wrong _ _ _ _ w }
