use Rattle.std.proofs.Common.{◌≡◌, ℕ, List, ◌++◌, length, sym, ap, ◌∙◌, append-nil, arith}
use Rattle.std.specs.List.{slice_get}
use Rattle.booklist.specs.Form.{row_lines, rows_text, layout_text}
use Rattle.booklist.proofs.Numbered.{numbered-more}
use Rattle.booklist.proofs.form.push_book.Goals as goal
use Rattle.booklist.proofs.form.push_book.Goals.{in-Some+in_ok-push_row, in_default}

pub loop-n-preserved : goal.loop-n-preserved
loop-n-preserved g c =
    let rows = g.B.Diagram.rows c.args.book.now in
    let i = c.loop-n.n in
    let row = g.F.BookForm.shown_row in
    let layout : ℕ → List ℕ = layout_text g.F.BookForm.shown_element g.F.BookForm.shown_component (g.B.Book.layouts c.args.book.now) in
    let shown : ℕ → List ℕ = λ n. row_lines row layout c.args.detail n (slice_get rows n) in
    let out : List ℕ = c.loop-n.page in
    let next : c.match-row.page ≡ out ++ shown i = elim c.match-row.branch [
      | in-Some+in_ok-push_row w ↦ w.page-is ∙ w.in_ok-push_row.ensures ∙ ap (λ o. out ++ row_lines row layout c.args.detail i o) w.in-Some.ensures
      | in_default w ↦ w.page-is ∙ sym (append-nil out) ∙ ap (λ o. out ++ row_lines row layout c.args.detail i o) w.in_default.ensures
    ] in
    numbered-more shown out c.match-row.page (c.push_identifier.new.page ++ rows_text row layout c.args.detail rows) i (length rows) (omega (arith, c.row_count-n-end.ensures, c.loop-n-test.true)) next c.loop-n.invariant
