use Rattle.std.proofs.Common.{◌≡◌, ◌+◌, ◌≤◌, false, drop}
use Rattle.examiner.specs.Measuring.{start, stretch}
use Rattle.examiner.proofs.Stretches.{scanned}
use Rattle.examiner.proofs.measure.first_component.Given as goal

abbrev pub invariant-loop-i : goal.invariant-loop-i
invariant-loop-i l =
    (l.scan.measure.count ≤ l.i) × (l.scan.measure.digits ≤ l.i)
    × (l.i + stretch l.reading.marks.release l.reading.marks.component l.reading.marks.element l.scan.protected (drop l.i l.bytes) ≡ stretch l.reading.marks.release l.reading.marks.component l.reading.marks.element false l.bytes)
    × (scanned l.reading.decimal l.reading.marks l.scan (drop l.i l.bytes) ≡ scanned l.reading.decimal l.reading.marks start l.bytes)
