-- What a step of the cutter told, by what came of it.
use Rattle.std.proofs.Common.{◌≡◌, Some, None, Ok, Option, subst}
use Rattle.edifact.specs.declared.segment.Segment.{Segment}
use Rattle.edifact.specs.Cutting.{Cutting, push, ended}
use Rattle.edifact.specs.Cursors.{cut_of, Tells}

pub told_segment : (before after : Cutting) (o : Option Segment) (s : Segment) → Tells before (Ok o) after → o ≡ Some s → before ≡ push (cut_of s) after
told_segment before after o s h e = subst (λ x. Tells before (Ok x) after) e h

pub told-end : (before after : Cutting) (o : Option Segment) → Tells before (Ok o) after → o ≡ None → before ≡ ended
told-end before after o h e = (subst (λ x. Tells before (Ok x) after) e h).0
