use Rattle.std.proofs.Common.{◌≡◌, ℕ, ◌-◌, List, ◌++◌}
use Rattle.message.specs.Layouts.{code_at}
use Rattle.booklist.specs.Form.{numbered, spaced}
use Rattle.booklist.proofs.form.push_codes.Given as goal

abbrev pub invariant-loop-k : goal.invariant-loop-k
invariant-loop-k g l =
    let shown : ℕ → List ℕ = λ k. spaced k (code_at (g.B.Book.layouts l.book) l.n l.e l.c k) in
    l.page ++ numbered shown l.k (l.count - l.k) ≡ l.initial.page ++ numbered shown 0 l.count
