use Rattle.std.proofs.Common.{◌≡◌, ◌+◌, ◌-◌, ◌≤◌, [], length, drop}
use Rattle.message.specs.Judging.{elements_fault}
use Rattle.examiner.proofs.layout_check.RowLayout.elements_fault.Given as goal

abbrev pub invariant-loop-element : goal.invariant-loop-element
invariant-loop-element g l = record {
  faults : elements_fault l.parts.decimal (l.number + 1) (drop l.number l.self) l.parts.later ≡ elements_fault l.initial.parts.decimal 1 l.self l.initial.parts.later;
  closed : l.parts.current ≡ [];
  few : l.number ≤ 40;
}

abbrev pub decreases-loop-element : goal.decreases-loop-element
decreases-loop-element g l = length l.self - l.number
