-- A diagram whose rows pass two computed tests is clear.
use Rattle.std.proofs.Common.{◌≡◌, true, List}
use Rattle.message.specs.declared.row.Row.{Row}
use Rattle.message.specs.Rows.{ClearRows}
use Rattle.message.specs.RowTests.{rows_test}
use Rattle.message.specs.Successors.{successors_differ}
use Rattle.message.proofs.RowTests.{rows_keep_rules}
use Rattle.message.proofs.Follows.{test_clear}

pub clear_by_tests : (rows : List Row) → rows_test rows ≡ true → successors_differ rows ≡ true → ClearRows rows
clear_by_tests rows kept differ = test_clear rows (rows_keep_rules rows kept) differ
