use Rattle.std.proofs.Common.{◌≡◌, ◌+◌, ◌^◌, ◌<◌, ◌++◌, length}
use Rattle.std.specs.Iterator.Adapters.{zip_first, zip_second}
use Rattle.edifact.specs.Cursors.{elements_left}
use Rattle.listing.specs.Plain.{lines}
use Rattle.listing.proofs.text.push_elements.Given as goal

abbrev pub invariant-loop-e : goal.invariant-loop-e
invariant-loop-e g l =
    ((zip_first l.e-iterator).start + length (elements_left (zip_second l.e-iterator)) < 2 ^ 64)
    × (l.page ++ lines (λ k p. g.F.TextForm.shown_element p.marks k p.bytes) (zip_first l.e-iterator).start (elements_left (zip_second l.e-iterator)) ≡ l.initial.page ++ lines (λ k p. g.F.TextForm.shown_element p.marks k p.bytes) 1 (elements_left (zip_second l.initial.e-iterator)))
