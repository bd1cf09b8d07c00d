-- The number that each fault of the cutter has among the refusals, the places it tells, 0 where it tells none, and its words for a person.
use Rattle.std.specs.Prelude.{ℕ, List, ◌++◌, codes, decimal}
use Rattle.syntax.specs.declared.fault.CutFault.{CutFault}
use Rattle.syntax.specs.declared.fault.CutFault.TheVariants.{BadHeader, ForbiddenByte, UnendedSegment, BadTag}
use Rattle.syntax.specs.declared.fault.Place.{Place}
use Rattle.syntax.specs.declared.fault.Refusal.{Refusal}

abbrev pub refusal_of : CutFault → Refusal
refusal_of BadHeader = record { number = 1; place = record { segment = 0; element = 0; component = 0 } }
refusal_of (ForbiddenByte p) = record { number = 2; place = record { segment = p.segment; element = p.element; component = p.component } }
refusal_of (UnendedSegment p) = record { number = 3; place = record { segment = p.segment; element = p.element; component = p.component } }
refusal_of (BadTag s) = record { number = 4; place = record { segment = s; element = 0; component = 0 } }

abbrev pub bad_header : CutFault
bad_header = BadHeader

abbrev pub place_words : Place → List ℕ
place_words p = codes "segment " ++ (decimal p.segment ++ (codes ", element " ++ (decimal p.element ++ (codes ", component " ++ decimal p.component))))

abbrev pub fault_words : CutFault → List ℕ
fault_words BadHeader = codes "the header UNA has under nine bytes, no space before the terminator, or unlawful marks (refusal 1)"
fault_words (ForbiddenByte p) = place_words p ++ codes ": a byte that isn't allowed (refusal 2)"
fault_words (UnendedSegment p) = place_words p ++ codes ": the text ends before the segment does (refusal 3)"
fault_words (BadTag s) = codes "segment " ++ (decimal s ++ codes ": the tag isn't three letters A to Z, or is UNA (refusal 4)")
