use Rattle.std.proofs.Common.{◌≡◌, ◌+◌, ◌≤◌, false, length, drop}
use Rattle.syntax.specs.Split.{split}
use Rattle.syntax.proofs.pieces.piece_count.Given as goal

abbrev pub invariant-loop-b : goal.invariant-loop-b
invariant-loop-b l = (l.count ≤ l.b-index + 1) × (l.count + length (split l.divider.release l.divider.mark l.protected (drop l.b-index l.bytes)) ≡ 1 + length (split l.divider.release l.divider.mark false l.bytes))
