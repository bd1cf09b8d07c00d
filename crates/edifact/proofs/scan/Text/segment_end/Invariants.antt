use Rattle.std.proofs.Common.{◌≡◌, ◌+◌, ◌≤◌, length, drop}
use Rattle.edifact.specs.Scanning.{start}
use Rattle.edifact.proofs.Scans.{scan}
use Rattle.edifact.proofs.scan.Text.segment_end.Given as goal

abbrev pub invariant-loop-i : goal.invariant-loop-i
invariant-loop-i l =
    (l.i ≤ length l.self.bytes.now) × (l.i-end ≡ length l.self.bytes.now) × (l.standing.element ≤ l.i) × (l.standing.component ≤ l.i + 1)
    × (scan l.marks l.number l.standing l.i (drop l.i l.self.bytes.now) ≡ scan l.marks l.number start 0 l.self.bytes.now)
