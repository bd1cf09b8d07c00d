use Rattle.std.proofs.Common.{ap, ◌∙◌}
use Rattle.std.specs.Iterator.Adapters.{zip_second}
use Rattle.edifact.specs.Cursors.{components_left}
use Rattle.edifact.specs.Segments.{components}
use Rattle.listing.specs.Plain.{component_line}
use Rattle.listing.proofs.Lines.{numbered-end}
use Rattle.listing.proofs.plain.PlainTextForm.push_element.Goals as goal

pub returns : goal.returns
returns c =
    let m = c.args.element.now.marks in
    numbered-end components_left (λ k p. component_line c.args.e k p.bytes) m (components m c.args.element.now.bytes.now) c.loop-c.page c.args.page.now c.loop-c.c-iterator c.into_iter-c-iterator.result
    c.in-None.ensures.steps c.loop-c.invariant (ap (λ z. components_left (zip_second z)) c.into_iter-c-iterator.ensures.into_iter_gives ∙ ap components_left c.zip-c-items.ensures.second ∙ c.components.ensures.value)
