use Rattle.std.proofs.Common.{arith}
use Rattle.syntax.proofs.Splits.{split-short}
use Rattle.syntax.proofs.pieces.Pieces.of.Goals as goal

pub returns-clause-few : goal.returns-clause-few
returns-clause-few c = grind (arith, split-short)
