use Rattle.std.proofs.Common.{◌≡◌, length, List, ℕ, Some, sym, ap, ◌∙◌, min}
use Rattle.plural.specs.Rules.{rule_refusal, wrong_rule}
use Rattle.plural.proofs.Ruled.{well_all, wrong_words, classes, one_many, one_wrong, one_more, all_tested}
use Rattle.plural.proofs.locale.Locale.check.Goals as goal
use Rattle.plural.proofs.locale.Locale.check.Goals.{then-at-eq-MAX_RULES-via-then-at-eq-MAX_RULES, then-at-eq-MAX_RULES-via-else-at-eq-MAX_RULES+then-not-is_well}

pub returns-then-at-eq-MAX_RULES : goal.returns-then-at-eq-MAX_RULES
returns-then-at-eq-MAX_RULES c =
    let rules : List ℕ = c.args.rules.now in
    let chunk : List ℕ = c.in-Some.rule.now in
    let left : List ℕ = c.loop-at.at-iterator.iter.rest.now in
    let rest : List ℕ = c.next.new.self.iter.rest.now in
    let count : ℕ = c.loop-at.at-iterator.count in
    let step = c.in-Some.ensures.steps in
    let size : length chunk ≡ min 6 (length left) = step.0.1.1 ∙ ap (λ (k : ℕ). min k (length left)) c.loop-at.invariant.0 in
    let wrong : wrong_rule 20 rules ≡ Some c.in-Some.at =
    elim c.then-at-eq-MAX_RULES.branch [
      | then-at-eq-MAX_RULES-via-then-at-eq-MAX_RULES w ↦ one_many rules chunk left rest count c.loop-at.invariant.1 step.0.1.0 size step.0.1.2 (sym step.1 ∙ w.if-at-eq-MAX_RULES.true)
      | then-at-eq-MAX_RULES-via-else-at-eq-MAX_RULES+then-not-is_well w ↦ one_wrong rules chunk left rest count c.loop-at.invariant.1 step.0.1.0 size step.0.1.2 w.if-not-is_well.ensures
    ]
    ∙ ap Some (sym step.1) in record { answer = ap rule_refusal wrong; exactly = wrong_words 20 rules c.in-Some.at wrong; six = tt }

pub loop-at-preserved : goal.loop-at-preserved
loop-at-preserved c =
    let left : List ℕ = c.loop-at.at-iterator.iter.rest.now in
    let step = c.in-Some.ensures.steps in
    let size : length c.in-Some.rule.now ≡ min 6 (length left) = step.0.1.1 ∙ ap (λ (k : ℕ). min k (length left)) c.loop-at.invariant.0 in (
      step.0.0 ∙ c.loop-at.invariant.0,
      one_more c.args.rules.now c.in-Some.rule.now left c.next.new.self.iter.rest.now c.loop-at.at-iterator.count c.loop-at.invariant.1 step.0.1.0 size step.0.1.2
          (λ q. c.if-at-eq-MAX_RULES.false (step.1 ∙ q)) c.if-not-is_well.ensures c.next.new.self.count step.2,
    )

pub returns : goal.returns
returns c =
    let none = all_tested c.args.rules.now c.loop-at.at-iterator.iter.rest.now c.loop-at.at-iterator.count c.loop-at.invariant.1 c.in-None.ensures.steps.0.1.0 in
    record { answer = ap rule_refusal none; exactly = well_all 20 c.args.rules.now none; six = classes 20 c.args.rules.now none }
