use Rattle.std.proofs.Common.{length}
use Rattle.message.proofs.Searches.{Closing}
use Rattle.message.proofs.search.close.Given as goal

abbrev pub invariant-loop-innermost : goal.invariant-loop-innermost
invariant-loop-innermost l = Closing l.held l.depth l.tag l.initial.best l.open l.best

abbrev pub decreases-loop-innermost : goal.decreases-loop-innermost
decreases-loop-innermost l = length l.open
