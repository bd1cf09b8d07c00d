use Rattle.std.proofs.Common.{◌≡◌, ℕ, ◌-◌, List, ◌++◌}
use Rattle.message.specs.Layouts.{element_at}
use Rattle.booklist.specs.Form.{numbered, element_lines}
use Rattle.booklist.proofs.form.push_layout.Given as goal

abbrev pub invariant-loop-e : goal.invariant-loop-e
invariant-loop-e g l =
    let ls = g.B.Book.layouts l.book in
    let shown : ℕ → List ℕ = λ e. element_lines g.F.BookForm.shown_element g.F.BookForm.shown_component ls l.n e (element_at ls l.n e) in
    l.page ++ numbered shown l.e (40 - l.e) ≡ l.initial.page ++ numbered shown 0 40
