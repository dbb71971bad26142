use Rattle.render.proofs.saying.Saying.+walk.Given as goal

abbrev pub decreases-walk : goal.decreases-walk
decreases-walk g l = l.budget
