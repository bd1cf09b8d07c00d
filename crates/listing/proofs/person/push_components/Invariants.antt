use Rattle.std.proofs.Common.{◌≡◌, ◌++◌}
use Rattle.std.specs.List.{flat_map}
use Rattle.edifact.specs.Cursors.{components_left}
use Rattle.listing.proofs.Lines.{behind_bar}
use Rattle.listing.proofs.person.push_components.Given as goal

abbrev pub invariant-loop-component : goal.invariant-loop-component
invariant-loop-component l =
    l.page ++ flat_map behind_bar (components_left l.component-iterator) ≡ l.initial.page ++ flat_map behind_bar (components_left l.initial.component-iterator)
