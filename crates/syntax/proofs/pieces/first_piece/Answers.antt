use Rattle.std.proofs.Common.{arith}
use Rattle.std.proofs.lemmas.Bool.Decides.{nat_tests}
use Rattle.syntax.proofs.Splits.{reach_more}
use Rattle.syntax.proofs.pieces.first_piece.Goals as goal
use Rattle.syntax.proofs.pieces.first_piece.Goals.{then-protected, else-protected+then-b-divider, else-protected+else-b-divider+else-b-divider-2}

pub loop-i-preserved : goal.loop-i-preserved
loop-i-preserved c = elim c.if-protected.branch [
  | then-protected w ↦ grind (arith, nat_tests, reach_more)
  | else-protected+then-b-divider w ↦ grind (arith, nat_tests, reach_more)
  | else-protected+else-b-divider+else-b-divider-2 w ↦ grind (arith, nat_tests, reach_more)
]
