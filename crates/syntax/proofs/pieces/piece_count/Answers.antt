use Rattle.std.proofs.Common.{arith}
use Rattle.std.proofs.lemmas.Bool.Decides.{nat_tests}
use Rattle.syntax.proofs.Splits.{count_more, count_done}
use Rattle.syntax.proofs.pieces.piece_count.Goals as goal

pub loop-b-preserved : goal.loop-b-preserved
loop-b-preserved c = grind (arith, nat_tests, count_more)

pub returns : goal.returns
returns c = grind (arith, count_done)
