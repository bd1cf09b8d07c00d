use Rattle.std.proofs.Common.{rules}
use Rattle.edifact.proofs.Undivided.{undivided}
use Rattle.edifact.proofs.part.Part.is_undivided.Goals as goal

pub returns : goal.returns
returns g c = undivided c.args.divider.release c.args.divider.mark _ c.args.self.now.bytes.now c.first_piece.ensures.value c.first_piece.ensures.within
