use Rattle.std.proofs.Common.{◌≡◌, ℕ, ◌-◌, List, ◌++◌, length}
use Rattle.std.specs.List.{slice_get}
use Rattle.booklist.specs.Form.{numbered, row_lines, layout_text}
use Rattle.booklist.proofs.form.push_book.Given as goal

abbrev pub invariant-loop-n : goal.invariant-loop-n
invariant-loop-n g l =
    let rows = g.B.Diagram.rows l.book in
    let shown : ℕ → List ℕ = λ n. row_lines g.F.BookForm.shown_row (layout_text g.F.BookForm.shown_element g.F.BookForm.shown_component (g.B.Book.layouts l.book)) l.detail n (slice_get rows n) in
    l.page ++ numbered shown l.n (length rows - l.n) ≡ l.initial.page ++ numbered shown 0 (length rows)
