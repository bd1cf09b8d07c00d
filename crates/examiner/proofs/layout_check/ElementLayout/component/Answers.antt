use Rattle.examiner.proofs.Rules.{component_lawful}
use Rattle.examiner.proofs.layout_check.ElementLayout.component.Goals as goal

pub returns-clause-lawful : goal.returns-clause-lawful
returns-clause-lawful g c =
    component_lawful (g.B.Book.layouts c.self.inside.book.now) (g.met.B.Book.regular c.self.inside.book.now) c.self.inside.row c.self.inside.element c.args.number c.in_ok-rule.rule c.in_ok-rule.ensures
