use Rattle.std.proofs.Common.{◌≡◌, ◌+◌, ◌^◌, ◌<◌, ◌++◌, length}
use Rattle.std.specs.Iterator.Adapters.{zip_first, zip_second}
use Rattle.edifact.specs.Cursors.{components_left}
use Rattle.listing.specs.Plain.{component_line, lines}
use Rattle.listing.proofs.plain.PlainTextForm.push_element.Given as goal

abbrev pub invariant-loop-c : goal.invariant-loop-c
invariant-loop-c l =
    ((zip_first l.c-iterator).start + length (components_left (zip_second l.c-iterator)) < 2 ^ 64)
    × (l.page ++ lines (λ k p. component_line l.e k p.bytes) (zip_first l.c-iterator).start (components_left (zip_second l.c-iterator)) ≡ l.initial.page ++ lines (λ k p. component_line l.e k p.bytes) 1 (components_left (zip_second l.initial.c-iterator)))
