use Rattle.std.proofs.Common.{◌≡◌, ◌+◌, ◌≤◌, false, length, drop}
use Rattle.syntax.specs.Split.{reach}
use Rattle.syntax.proofs.pieces.first_piece.Given as goal

abbrev pub invariant-loop-i : goal.invariant-loop-i
invariant-loop-i l = (l.i ≤ length l.bytes) × (l.i-end ≡ length l.bytes) × (l.i + reach l.divider.release l.divider.mark l.protected (drop l.i l.bytes) ≡ reach l.divider.release l.divider.mark false l.bytes)
