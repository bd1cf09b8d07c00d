use Rattle.std.proofs.Common.{length}
use Rattle.edifact.specs.Cursors.{remaining}
use Rattle.walks.proofs.lists.write_text_walk.Given as goal

abbrev pub decreases-loop-segment : goal.decreases-loop-segment
decreases-loop-segment g l = length (remaining l.cutter).segments
