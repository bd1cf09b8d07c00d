use Rattle.std.proofs.Common.{◌≡◌, false, drop}
use Rattle.std.specs.Str.{bytes_eq}
use Rattle.syntax.specs.Split.{characters}
use Rattle.syntax.specs.Cursors.{characters_left}
use Rattle.syntax.proofs.characters.same_characters.Given as goal

abbrev pub invariant-loop-p : goal.invariant-loop-p
invariant-loop-p l = bytes_eq (characters_left l.characters) (drop l.p-index l.plain) ≡ bytes_eq (characters l.release false l.bytes) l.plain
