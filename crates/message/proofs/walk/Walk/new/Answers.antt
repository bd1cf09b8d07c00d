use Rattle.message.proofs.Walks.{begun_nowhere}
use Rattle.message.proofs.WalkLaws.{walk_laws}
use Rattle.message.proofs.walk.Walk.new.Goals as goal

pub returns-clause-stands : goal.returns-clause-stands
returns-clause-stands g c = begun_nowhere g.D.Diagram.rows c.empty.result (g.met.D.Diagram.lawful c.empty.result.diagram.now) c.empty.ensures.none

pub returns-clause-laws : goal.returns-clause-laws
returns-clause-laws g c = walk_laws (g.D.Diagram.rows c.args.diagram.now) (g.met.D.Diagram.lawful c.args.diagram.now)
