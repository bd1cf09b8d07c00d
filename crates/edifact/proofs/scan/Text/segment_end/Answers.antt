use Rattle.std.proofs.Common.{arith}
use Rattle.std.proofs.lemmas.Bool.Decides.{nat_tests}
use Rattle.edifact.proofs.Scans.{scan_more, scan_done, scan_segment}
use Rattle.edifact.proofs.scan.Text.segment_end.Goals as goal

pub returns-then-divides-clause-value : goal.returns-then-divides-clause-value
returns-then-divides-clause-value c = grind (arith, nat_tests, scan_more, scan_segment)

pub returns-then-not-is_allowed-clause-value : goal.returns-then-not-is_allowed-clause-value
returns-then-not-is_allowed-clause-value c = grind (arith, nat_tests, scan_more, scan_segment)

pub returns-clause-value : goal.returns-clause-value
returns-clause-value c = grind (arith, scan_done, scan_segment)
