use Rattle.std.proofs.Common.{length}
use Rattle.edifact.specs.Cursors.{remaining}
use Rattle.edifact.specs.Cutting.{cut}
use Rattle.listing.proofs.Listings.{Listed, segment_shown}
use Rattle.listing.proofs.text.push_segments.Given as goal

abbrev pub invariant-loop-segment : goal.invariant-loop-segment
invariant-loop-segment g l = Listed (segment_shown g.F.TextForm.shown_head g.F.TextForm.shown_element) l.initial.page l.page l.count (cut l.text) (remaining l.cutter)

abbrev pub decreases-loop-segment : goal.decreases-loop-segment
decreases-loop-segment g l = length (remaining l.cutter).segments
