use Rattle.std.proofs.Common.{ap, ◌∙◌}
use Rattle.std.specs.List.{slice_get}
use Rattle.message.specs.Judging.{elements_fault}
use Rattle.message.specs.Messages.{layout_of}
use Rattle.examiner.specs.Texts.{Texts}
use Rattle.examiner.proofs.Passes.{elements_of_segment}
use Rattle.examiner.proofs.layout_check.layout_fault.Goals as goal

pub returns : goal.returns
returns g c =
    let l = layout_of (slice_get (g.B.Book.layouts c.args.book.now) c.args.row) in
    c.elements_fault.ensures ∙ ap (λ (t : Texts). elements_fault t.decimal 1 l t.later) c.leave.ensures
    ∙ ap (λ d. elements_fault d 1 l c.of-parts.result.later) c.of-parts.ensures.decimal
    ∙ ap (elements_fault c.args.decimal 1 l) (elements_of_segment c.args.segment.now.part.marks c.marks.result c.args.segment.now.part.bytes.now c.bytes.result.now c.of-parts.result.later c.marks.ensures c.bytes.ensures c.of-parts.ensures.later)
