use Rattle.std.proofs.Common.{◌≡◌, ◌++◌}
use Rattle.syntax.specs.Cursors.{characters_left}
use Rattle.listing.proofs.person.push_component.Given as goal

abbrev pub invariant-loop-character : goal.invariant-loop-character
invariant-loop-character l = l.page ++ characters_left l.character-iterator ≡ l.initial.page ++ characters_left l.initial.character-iterator
