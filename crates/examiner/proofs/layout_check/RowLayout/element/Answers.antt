use Rattle.examiner.proofs.Rules.{few-elements, element_bounds}
use Rattle.examiner.proofs.layout_check.RowLayout.element.Goals as goal

pub returns-in_err-rule-clause-few : goal.returns-in_err-rule-clause-few
returns-in_err-rule-clause-few g c = rw (← c.self.view_is) (few-elements (g.B.Book.layouts c.self.inside.book.now) (g.met.B.Book.regular c.self.inside.book.now) c.self.inside.row)

pub invariant_of-result : goal.invariant_of-result
invariant_of-result g c =
    let bounds = element_bounds (g.B.Book.layouts c.self.inside.book.now) (g.met.B.Book.regular c.self.inside.book.now) c.self.inside.row c.args.number c.in_ok-rule.rule c.in_ok-rule.ensures in
    (c.in_ok-rule.ensures, bounds.0, bounds.1)

pub returns-clause-few : goal.returns-clause-few
returns-clause-few g c = rw (← c.self.view_is) (few-elements (g.B.Book.layouts c.self.inside.book.now) (g.met.B.Book.regular c.self.inside.book.now) c.self.inside.row)
