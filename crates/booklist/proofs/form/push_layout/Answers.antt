use Rattle.std.proofs.Common.{◌≡◌, ℕ, List, ◌++◌, ap, ◌∙◌}
use Rattle.message.specs.Layouts.{element_at}
use Rattle.booklist.specs.Form.{element_lines, layout_text}
use Rattle.booklist.proofs.Numbered.{numbered-more, numbered-end, element-shown, elements-behind}
use Rattle.booklist.proofs.form.push_layout.Goals as goal

pub loop-e-preserved : goal.loop-e-preserved
loop-e-preserved g c =
    let ls = g.B.Book.layouts c.args.book.now in
    let n = c.args.n in
    let i = c.loop-e.e in
    let told = element_at ls n i in
    let element = g.F.BookForm.shown_element in
    let component = g.F.BookForm.shown_component in
    let shown : ℕ → List ℕ = λ k. element_lines element component ls n k (element_at ls n k) in
    let out : List ℕ = c.loop-e.page in
    let next : c.push_element_lines.new.page ≡ out ++ shown i = c.in_ok-push_element_lines.ensures ∙ ap (λ x. out ++ x) (element-shown element component ls n i told c.in-Some.rule c.in-Some.ensures) in
    numbered-more shown out c.push_element_lines.new.page (c.args.page.now ++ layout_text element component ls n) i 40 c.loop-e-test.true next c.loop-e.invariant

pub returns-in_default : goal.returns-in_default
returns-in_default g c =
    let ls = g.B.Book.layouts c.args.book.now in
    let n = c.args.n in
    let element = g.F.BookForm.shown_element in
    let component = g.F.BookForm.shown_component in
    let shown : ℕ → List ℕ = λ k. element_lines element component ls n k (element_at ls n k) in
    numbered-end shown c.loop-e.page (c.args.page.now ++ layout_text element component ls n) c.loop-e.e 40 (elements-behind element component ls n c.loop-e.e c.in_default.ensures) c.loop-e.invariant
