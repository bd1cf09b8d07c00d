use Rattle.std.proofs.Common.{◌≡◌, ℕ, ◌-◌, List, ◌++◌}
use Rattle.message.specs.Layouts.{component_at}
use Rattle.booklist.specs.Form.{numbered, component_lines}
use Rattle.booklist.proofs.form.push_components.Given as goal

abbrev pub invariant-loop-c : goal.invariant-loop-c
invariant-loop-c g l =
    let ls = g.B.Book.layouts l.book in
    let shown : ℕ → List ℕ = λ c. component_lines g.F.BookForm.shown_component ls l.n l.e c (component_at ls l.n l.e c) in
    l.page ++ numbered shown l.c (l.count - l.c) ≡ l.initial.page ++ numbered shown 0 l.count
