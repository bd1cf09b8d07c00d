use Rattle.std.proofs.Common.{◌≡◌, ℕ, List, ◌++◌, sym, ap, ◌∙◌, append-nil}
use Rattle.message.specs.Layouts.{component_at}
use Rattle.booklist.specs.Form.{component_lines, components_text}
use Rattle.booklist.proofs.Numbered.{numbered-more, component-shown, component-absent}
use Rattle.booklist.proofs.form.push_components.Goals as goal
use Rattle.booklist.proofs.form.push_components.Goals.{in-Some+in_ok-push_component_line, in_default}

pub loop-c-preserved : goal.loop-c-preserved
loop-c-preserved g c =
    let ls = g.B.Book.layouts c.args.book.now in
    let n = c.args.n in
    let e = c.args.e in
    let i = c.loop-c.c in
    let told = component_at ls n e i in
    let component = g.F.BookForm.shown_component in
    let shown : ℕ → List ℕ = λ k. component_lines component ls n e k (component_at ls n e k) in
    let out : List ℕ = c.loop-c.page in
    let next : c.match-component.page ≡ out ++ shown i = elim c.match-component.branch [
      | in-Some+in_ok-push_component_line w ↦ w.page-is ∙ w.in_ok-push_component_line.ensures ∙ ap (λ x. out ++ x) (component-shown component ls n e i told w.in-Some.rule w.in-Some.ensures)
      | in_default w ↦ w.page-is ∙ sym (append-nil out) ∙ ap (λ x. out ++ x) (component-absent component ls n e i told w.in_default.ensures)
    ] in
    numbered-more shown out c.match-component.page (c.args.page.now ++ components_text component ls n e c.args.count) i c.args.count c.loop-c-test.true next c.loop-c.invariant
