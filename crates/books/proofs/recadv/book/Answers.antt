use Rattle.std.proofs.Common.{refl}
use Rattle.message.proofs.Clearness.{clear_by_rows}
use Rattle.books.specs.RecadvExamples.{recadv}
use Rattle.books.proofs.Clear.{clear_by_tests}
use Rattle.books.proofs.recadv.book.Goals as goal

pub returns-clause-diagram : goal.returns-clause-diagram
returns-clause-diagram c = clear_by_tests recadv.rows refl refl

pub returns-clause-clear : goal.returns-clause-clear
returns-clause-clear c = clear_by_rows recadv (clear_by_tests recadv.rows refl refl)
