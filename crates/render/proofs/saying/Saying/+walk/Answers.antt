use Rattle.std.proofs.Common.{◌≡◌, ℕ, List, length, drop, ap, arith, rules, length-drop}
use Rattle.code.specs.Step.{size}
use Rattle.code.specs.View.{seen}
use Rattle.render.proofs.Steps.{behind_step, seen_other, step_asks, rest_is_good, walked_none, walked_end, walked_on, fits_first, fits_rest}
use Rattle.render.proofs.saying.Saying.+walk.Goals as goal

pub returns-then-budget-eq0 : goal.returns-then-budget-eq0
returns-then-budget-eq0 g t c = let m = g.S.Sink in walked_none m.fits m.puts m.laws c.args.self.now.env c.args.self.now.left.bytes.now c.args.budget c.args.sink.now c.if-budget-eq0.true

pub say_step-requires-clause-needs : goal.say_step-requires-clause-needs
say_step-requires-clause-needs g t c = step_asks c.args.self.now.env c.args.self.now.left.bytes.now (seen c.split_step.result.0) c.split_step.ensures.step c.args.self.now.good

pub say_step-requires-clause-fits : goal.say_step-requires-clause-fits
say_step-requires-clause-fits g t c =
    let m = g.S.Sink in
    fits_first m.fits m.puts m.laws c.args.self.now.env c.args.self.now.left.bytes.now (seen c.split_step.result.0) c.split_step.ensures.step c.args.self.now.good c.args.sink.now c.requires

pub returns-in-End : goal.returns-in-End
returns-in-End g t c =
    let m = g.S.Sink in
    walked_end m.fits m.puts m.laws c.args.self.now.env c.args.self.now.left.bytes.now (seen c.split_step.result.0) c.split_step.ensures.step c.args.self.now.good c.args.budget c.args.sink.now c.say_step.new.sink
    c.if-budget-eq0.false (ap seen c.in-End.is) c.say_step.ensures

pub invariant_of-self : goal.invariant_of-self
invariant_of-self g t c =
    let v = c.args.self.now.env in
    let r : List ℕ = c.args.self.now.left.bytes.now in
    let s = seen c.split_step.result.0 in
    let rest : c.split_step.result.1.bytes.now ≡ drop (size s) r = behind_step r c.split_step.result.1.bytes.now s c.split_step.ensures.step c.split_step.ensures.rest in
    record {
      short = omega (arith, ap length rest, length-drop (size s) r, c.args.self.now.short);
      good = rw rest (rest_is_good v r s c.split_step.ensures.step c.args.self.now.good (seen_other c.split_step.result.0 c.in_default.not-End));
    }

pub walk-requires : goal.walk-requires
walk-requires g t c = λ κs h.
    let m = g.S.Sink in
    let v = c.args.self.now.env in
    let r : List ℕ = c.args.self.now.left.bytes.now in
    let s = seen c.split_step.result.0 in
    let o = seen_other c.split_step.result.0 c.in_default.not-End in
    let rest : c.split_step.result.1.bytes.now ≡ drop (size s) r = behind_step r c.split_step.result.1.bytes.now s c.split_step.ensures.step c.split_step.ensures.rest in
    (omega (arith, c.decreases), (search rules, rw rest (fits_rest m.fits m.puts m.laws v r s c.split_step.ensures.step c.args.self.now.good c.args.sink.now c.say_step.new.sink o c.requires c.say_step.ensures)))

pub returns-in_default : goal.returns-in_default
returns-in_default g t c =
    let m = g.S.Sink in
    let r : List ℕ = c.args.self.now.left.bytes.now in
    let s = seen c.split_step.result.0 in
    let rest : c.split_step.result.1.bytes.now ≡ drop (size s) r = behind_step r c.split_step.result.1.bytes.now s c.split_step.ensures.step c.split_step.ensures.rest in
    walked_on m.fits m.puts m.laws c.args.self.now.env r s c.split_step.ensures.step c.args.self.now.good c.args.budget c.args.sink.now c.say_step.new.sink c.walk.new.sink c.walk.result
    c.if-budget-eq0.false (seen_other c.split_step.result.0 c.in_default.not-End) c.say_step.ensures (rw rest at c.walk.ensures)
