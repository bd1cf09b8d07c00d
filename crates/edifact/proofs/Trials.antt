-- Worked examples of the definitions, computed.
use Rattle.std.proofs.Common.{◌≡◌, ℕ, false, List, [], ◌∷◌, ◌++◌, map, length, Some, None, codes, Option, refl}
use Rattle.syntax.specs.declared.fault.CutFault.{CutFault}
use Rattle.syntax.specs.declared.fault.CutFault.TheVariants.{BadHeader, ForbiddenByte, UnendedSegment, BadTag}
use Rattle.syntax.specs.Marks.{usual}
use Rattle.syntax.specs.Split.{characters}
use Rattle.edifact.specs.Segments.{parts_of, component_at}
use Rattle.edifact.specs.Cutting.{cut}

-- number, first byte, length and tag of each segment
abbrev places : List ℕ → List (ℕ × ℕ × ℕ × List ℕ)
places text = map (λ s. (s.number, s.first, length s.bytes, s.tag)) (cut text).segments

abbrev fault : List ℕ → Option CutFault
fault text = (cut text).fault

abbrev at : (segment element component : ℕ) → CutFault
at s e c = UnendedSegment (record { segment = s; element = e; component = c })

-- a header, CR and LF, and two segments
headed : places (codes "UNA:+.? '" ++ (13 ∷ (10 ∷ codes "UNH+1'BGM+A?+B'"))) ≡ (1, 11, 5, codes "UNH") ∷ ((2, 17, 8, codes "BGM") ∷ [])
headed = refl

-- a released element mark doesn't end the element, and is one character
released : parts_of usual (codes "BGM+A?+B") ≡ (codes "BGM" ∷ []) ∷ ((codes "A?+B" ∷ []) ∷ [])
released = refl

released-characters : characters 63 false (codes "A?+B") ≡ codes "A+B"
released-characters = refl

-- components count from 1
numbered : component_at usual (codes "NAD+BY+541::9") 2 3 ≡ Some (codes "9")
numbered = refl

no-component-0 : component_at usual (codes "NAD+BY+541::9") 2 0 ≡ None
no-component-0 = refl

-- places of the end of the text
in_tag : fault (codes "BG:") ≡ Some (at 1 0 2)
in_tag = refl

behind-release : fault (codes "BGM+A?") ≡ Some (at 1 1 1)
behind-release = refl

behind_element_mark : fault (codes "UNH+1'BGM+") ≡ Some (at 2 1 1)
behind_element_mark = refl

-- CR and LF are forbidden at the start and inside a segment
break_at_start : fault (10 ∷ codes "BGM+1'") ≡ Some (ForbiddenByte (record { segment = 1; element = 0; component = 1 }))
break_at_start = refl

break_inside : fault (codes "BGM+A:B+" ++ (10 ∷ codes "'")) ≡ Some (ForbiddenByte (record { segment = 1; element = 2; component = 1 }))
break_inside = refl

-- tags by their characters
tag-released : fault (codes "B?GM'") ≡ None
tag-released = refl

tag-UNA : fault (codes "BGM+1'U?NA'") ≡ Some (BadTag 2)
tag-UNA = refl

-- headers
equal_marks : fault (codes "UNA++.? 'BGM+1'") ≡ Some BadHeader
equal_marks = refl

eight_bytes : fault (codes "UNA:+.? ") ≡ Some BadHeader
eight_bytes = refl

-- a text with no segment cuts throughout
nothing : cut [] ≡ record { segments = []; fault = None }
nothing = refl
