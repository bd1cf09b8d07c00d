use Rattle.std.proofs.Common.{◌≡◌, ◌≤◌, drop}
use Rattle.message.specs.Judging.{value_of}
use Rattle.examiner.proofs.Values.{highest}
use Rattle.examiner.proofs.measure.value.Given as goal

abbrev pub invariant-loop-c : goal.invariant-loop-c
invariant-loop-c l = (l.n ≤ highest l.c-index) × (value_of l.n (drop l.c-index l.digits) ≡ value_of 0 l.digits)
