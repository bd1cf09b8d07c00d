use Rattle.std.proofs.Common.{◌≡◌, ◌+◌, length, ap, arith}
use Rattle.message.specs.Judging.{spot}
use Rattle.examiner.specs.Checking.{ElementAt}
use Rattle.examiner.proofs.Passes.{element_is}
use Rattle.examiner.proofs.layout_check.ElementLayout.fault.Goals as goal

pub returns-clause-fault : goal.returns-clause-fault
returns-clause-fault g c =
    let count : c.self.inside.rule.components ≡ length c.args.self.now.element.components = grind arith in
    element_is c.args.self.now c.args.parts.now c.pass_components-tally.new.parts c.pass_components-tally.result c.self.inside.rule.components c.filled_ahead-rest.result c.or-filled.result c.has_component.result _
    c.whole_fault.result c.beyond_fault-surplus.result c.element_fault_of.result c.pass_components-tally.ensures count c.filled_ahead-rest.ensures.filled c.or-filled.ensures c.has_component.ensures.more
    (ap (λ (l : ElementAt). spot l.number (c.self.inside.rule.components + 1)) c.self.view_is) c.beyond_fault-surplus.ensures c.whole_fault.ensures c.element_fault_of.ensures
