use Rattle.message.proofs.Walks.{completes_walk}
use Rattle.message.proofs.walk.Walk.is_complete.Goals as goal

pub returns : goal.returns
returns g c = completes_walk g.D.Diagram.rows c.args.self.now (g.met.D.Diagram.lawful c.args.self.now.diagram.now) c.is_last.result (cc (c.is_last.ensures, c.row_count.ensures, c.deref.ensures.0))
