use Rattle.message.proofs.Walks.{offers_none, offers_full, offers_some}
use Rattle.message.proofs.walk.Walk.offer.Goals as goal

pub returns-in_err-found : goal.returns-in_err-found
returns-in_err-found g c =
    offers_none g.D.Diagram.rows c.args.self.now (g.met.D.Diagram.lawful c.args.self.now.diagram.now) c.args.tag c.find.result c.from_residual.result c.find.ensures.state c.in_err-found.was c.from_residual.ensures

pub returns-in_err-place : goal.returns-in_err-place
returns-in_err-place g c =
    offers_full g.D.Diagram.rows c.args.self.now (g.met.D.Diagram.lawful c.args.self.now.diagram.now) c.args.tag c.find.result c.in_ok-found.found c.place.new.self c.from_residual-in_err-place.result c.find.ensures.state c.in_ok-found.was c.in_ok-found.ensures.within c.in_err-place.ensures.full c.in_err-place.ensures.kept

pub returns : goal.returns
returns g c =
    offers_some g.D.Diagram.rows c.args.self.now (g.met.D.Diagram.lawful c.args.self.now.diagram.now) c.args.tag c.find.result c.in_ok-found.found c.place.new.self c.answer.result c.find.ensures.state c.in_ok-found.was c.in_ok-place.ensures.held c.place.ensures.over c.answer.ensures
