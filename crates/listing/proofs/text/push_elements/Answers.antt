use Rattle.std.proofs.Common.{ap, ◌∙◌}
use Rattle.std.specs.Iterator.Adapters.{zip_second}
use Rattle.edifact.specs.Cursors.{element_part, elements_left}
use Rattle.edifact.specs.Segments.{elements, others_of}
use Rattle.listing.proofs.Lines.{step-others, numbered-end}
use Rattle.listing.proofs.text.push_elements.Goals as goal

pub returns : goal.returns
returns g c =
    let m = c.args.segment.now.part.marks in
    let bs = elements m c.args.segment.now.part.bytes.now in
    numbered-end elements_left (λ k p. g.F.TextForm.shown_element p.marks k p.bytes) m (others_of bs) c.loop-e.page c.args.page.now c.loop-e.e-iterator c.into_iter-e-iterator.result
    c.in-None.ensures.steps c.loop-e.invariant (ap (λ z. elements_left (zip_second z)) c.into_iter-e-iterator.ensures.into_iter_gives ∙ ap elements_left c.zip-e-items.ensures.second
    ∙ step-others elements_left element_part m bs c.elements-elements.result c.next.new.self c.next.result c.elements-elements.ensures.value c.next.ensures.steps)
