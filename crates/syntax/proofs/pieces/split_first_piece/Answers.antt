use Rattle.syntax.proofs.Splits.{pieces-next, pieces-last}
use Rattle.syntax.proofs.pieces.split_first_piece.Goals as goal

pub returns-in-empty : goal.returns-in-empty
returns-in-empty c =
    pieces-last _ _ _ _ _ _ c.first_piece.ensures.value c.split_at.ensures.front c.split_at.ensures.back c.in-empty.len_below

pub returns-in-len1-up : goal.returns-in-len1-up
returns-in-len1-up c =
    pieces-next _ _ _ _ _ _ c.first_piece.ensures.value c.split_at.ensures.front c.split_at.ensures.back c.in-len1-up.len_at_least
