use Rattle.std.proofs.Common.{◌≡◌, ℕ, ◌-◌, List, ◌++◌}
use Rattle.std.specs.List.{slice_get}
use Rattle.booklist.specs.Form.{numbered}
use Rattle.booklist.specs.Plain.{part_field}
use Rattle.booklist.proofs.plain.PlainBookForm.push_identifier.Given as goal

abbrev pub invariant-loop-number : goal.invariant-loop-number
invariant-loop-number g l =
    let shown : ℕ → List ℕ = λ n. part_field (slice_get (g.B.Book.identifier l.book) n) in
    l.page ++ numbered shown l.number (5 - l.number) ≡ l.initial.page ++ numbered shown 0 5
