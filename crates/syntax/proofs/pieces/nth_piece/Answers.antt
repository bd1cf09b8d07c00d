use Rattle.std.proofs.Common.{refl}
use Rattle.std.proofs.lemmas.Iterator.Consumers.{nth_from_yields_List, YieldsList-from_first}
use Rattle.syntax.specs.Cursors.{pieces_left}
use Rattle.syntax.proofs.pieces.nth_piece.Goals as goal

pub returns : goal.returns
returns c =
    nth_from_yields_List c.nth.result c.nth.new.self c.args.number c.nth.ensures.ran (YieldsList-from_first (λ x. x.now) pieces_left {s = c.args.pieces} _ refl)
