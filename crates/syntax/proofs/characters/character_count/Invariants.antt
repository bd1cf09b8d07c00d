use Rattle.std.proofs.Common.{◌≡◌, ◌+◌, ◌≤◌, false, length, drop}
use Rattle.syntax.specs.Split.{characters}
use Rattle.syntax.proofs.characters.character_count.Given as goal

abbrev pub invariant-loop-b : goal.invariant-loop-b
invariant-loop-b l = (l.count ≤ l.b-index) × (l.count + length (characters l.release l.protected (drop l.b-index l.bytes)) ≡ length (characters l.release false l.bytes))
