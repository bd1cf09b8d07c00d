use Rattle.std.proofs.Common.{◌≡◌, length}
use Rattle.examiner.proofs.parts.Parts.leave.Given as goal

abbrev pub invariant-loop-self : goal.invariant-loop-self
invariant-loop-self l = l.self ≡ record l.initial.self { current = l.self.current }

abbrev pub decreases-loop-self : goal.decreases-loop-self
decreases-loop-self l = length l.self.current
