use Rattle.std.proofs.Common.{refl}
use Rattle.message.proofs.Clearness.{clear_by_rows}
use Rattle.books.specs.Trial.{trial_meaning}
use Rattle.books.proofs.Clear.{clear_by_tests}
use Rattle.books.proofs.trial.book.Goals as goal

pub returns-clause-diagram : goal.returns-clause-diagram
returns-clause-diagram c = clear_by_tests trial_meaning.rows refl refl

pub returns-clause-clear : goal.returns-clause-clear
returns-clause-clear c = clear_by_rows trial_meaning (clear_by_tests trial_meaning.rows refl refl)
