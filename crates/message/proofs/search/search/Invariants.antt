use Rattle.message.proofs.Searches.{Sought}
use Rattle.message.proofs.search.search.Given as goal

abbrev pub invariant-loop-number : goal.invariant-loop-number
invariant-loop-number g l = Sought (g.D.Diagram.rows l.diagram) l.tag l.held l.number l.open l.best
