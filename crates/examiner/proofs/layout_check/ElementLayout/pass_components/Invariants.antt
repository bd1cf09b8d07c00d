use Rattle.examiner.specs.Passing.{Passing}
use Rattle.examiner.proofs.layout_check.ElementLayout.pass_components.Given as goal

abbrev pub invariant-loop-number : goal.invariant-loop-number
invariant-loop-number g l = Passing l.self l.initial.parts l.number l.tally l.parts
