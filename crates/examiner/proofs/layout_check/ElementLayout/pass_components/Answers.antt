use Rattle.std.proofs.Common.{◌∙◌, arith}
use Rattle.examiner.proofs.Passes.{passing_more, component_missing}
use Rattle.examiner.proofs.layout_check.ElementLayout.pass_components.Goals as goal
use Rattle.examiner.proofs.layout_check.ElementLayout.pass_components.Goals.{in-Some, in_default}

pub loop-number-preserved : goal.loop-number-preserved
loop-number-preserved g c =
    elim c.match-component.branch [
      | in-Some w ↦ passing_more c.args.self.now c.args.parts.now c.loop-number.number c.loop-number.tally _ c.loop-number.parts _ w.in-Some.component w.measure.result c.loop-number.invariant w.in-Some.ensures.component w.in-Some.ensures.lawful w.measure.ensures.measure (w.parts-is ∙ w.measure.ensures.moved) (w.tally-is ∙ w.with-tally.ensures)
      | in_default w ↦ absurd (component_missing c.args.self.now c.args.parts.now c.loop-number.number w.in_default.ensures.component (grind arith))
    ]
