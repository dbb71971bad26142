use Rattle.std.proofs.Common.{◌∙◌, sym}
use Rattle.msgfile.proofs.Fronts.{past_comment, past_space, all_skipped}
use Rattle.msgfile.proofs.words.skip_comments.Goals as goal

pub loop-byte-smaller-then-byte-eq35 : goal.loop-byte-smaller-then-byte-eq35
loop-byte-smaller-then-byte-eq35 c = (past_comment _ _ _ _ c.in-Some.ensures.cases.0 c.if-byte-eq35.true c.skip_line-left.ensures).1

pub loop-byte-preserved-then-byte-eq35 : goal.loop-byte-preserved-then-byte-eq35
loop-byte-preserved-then-byte-eq35 c = (past_comment _ _ _ _ c.in-Some.ensures.cases.0 c.if-byte-eq35.true c.skip_line-left.ensures).0 ∙ c.loop-byte.invariant

pub loop-byte-smaller : goal.loop-byte-smaller
loop-byte-smaller c = (past_space _ _ _ c.in-Some.ensures.cases.0 (sym c.is_space.ensures ∙ c.if-is_space.true)).1

pub loop-byte-preserved : goal.loop-byte-preserved
loop-byte-preserved c = (past_space _ _ _ c.in-Some.ensures.cases.0 (sym c.is_space.ensures ∙ c.if-is_space.true)).0 ∙ c.loop-byte.invariant

pub returns-else-is_space : goal.returns-else-is_space
returns-else-is_space c = all_skipped _ _ _ c.in-Some.ensures.cases.0 c.if-byte-eq35.false (sym c.is_space.ensures ∙ c.if-is_space.false) ∙ c.loop-byte.invariant
