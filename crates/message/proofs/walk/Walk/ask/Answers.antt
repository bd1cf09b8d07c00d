use Rattle.message.proofs.Walks.{asks}
use Rattle.message.proofs.walk.Walk.ask.Goals as goal

pub returns : goal.returns
returns g c = asks g.D.Diagram.rows c.args.self.now (g.met.D.Diagram.lawful c.args.self.now.diagram.now) c.args.tag c.find.result c.answer_to_question.result c.find.ensures.state c.answer_to_question.ensures
