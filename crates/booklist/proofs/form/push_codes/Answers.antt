use Rattle.std.proofs.Common.{◌≡◌, ℕ, List, ◌++◌, ap, ◌∙◌}
use Rattle.message.specs.Layouts.{code_at}
use Rattle.booklist.specs.Form.{spaced, codes_text}
use Rattle.booklist.proofs.Numbered.{numbered-more, numbered-end, codes-behind}
use Rattle.booklist.proofs.form.push_codes.Goals as goal

pub loop-k-preserved : goal.loop-k-preserved
loop-k-preserved g c =
    let ls = g.B.Book.layouts c.args.book.now in
    let shown : ℕ → List ℕ = λ k. spaced k (code_at ls c.args.n c.args.e c.args.c k) in
    let out : List ℕ = c.loop-k.page in
    let next : c.push_code.new.page ≡ out ++ shown c.loop-k.k = c.in_ok-push_code.ensures ∙ ap (λ o. out ++ spaced c.loop-k.k o) c.in-Some.ensures in
    numbered-more shown out c.push_code.new.page (c.args.page.now ++ codes_text ls c.args.n c.args.e c.args.c c.args.count) c.loop-k.k c.args.count c.loop-k-test.true next c.loop-k.invariant

pub returns-in_default : goal.returns-in_default
returns-in_default g c =
    let ls = g.B.Book.layouts c.args.book.now in
    let shown : ℕ → List ℕ = λ k. spaced k (code_at ls c.args.n c.args.e c.args.c k) in
    numbered-end shown c.loop-k.page (c.args.page.now ++ codes_text ls c.args.n c.args.e c.args.c c.args.count) c.loop-k.k c.args.count (codes-behind ls c.args.n c.args.e c.args.c c.loop-k.k c.in_default.ensures) c.loop-k.invariant
