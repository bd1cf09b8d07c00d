use Rattle.std.proofs.Common.{◌≡◌, ◌-◌, ◌++◌}
use Rattle.booklist.specs.Person.{indented}
use Rattle.booklist.proofs.person.push_indent.Given as goal

abbrev pub invariant-loop-step : goal.invariant-loop-step
invariant-loop-step l = l.page ++ indented (l.level - l._step) ≡ l.initial.page ++ indented l.level
