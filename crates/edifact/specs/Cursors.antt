-- What the values that borrow a text stand for.
use Rattle.std.specs.Prelude.{◌≡◌, ℕ, false, List, map, Some, None, Ok, Err, Option, Result}
use Rattle.edifact.specs.declared.cutter.Cutter.{Cutter}
use Rattle.edifact.specs.declared.cutter.Rest.{Rest}
use Rattle.syntax.specs.declared.fault.CutFault.{CutFault}
use Rattle.syntax.specs.declared.marks.Marks.{Marks}
use Rattle.syntax.specs.declared.pieces.Divider.{Divider}
use Rattle.edifact.specs.declared.part.Part.{Part as PartOf}
use Rattle.edifact.specs.declared.part.Parts.{Parts as PartsOf}
use Rattle.edifact.specs.declared.segment.Segment.{Segment}
use Rattle.edifact.specs.Segments.{elements, components}
use Rattle.std.specs.Option.{option_map}
use Rattle.syntax.specs.Split.{split, characters}
use Rattle.syntax.specs.Cursors.{pieces_left}
use Rattle.edifact.specs.Laws.{IsCut}
use Rattle.edifact.specs.Cutting.{Cut, Cutting, ended, stopped, push, cut_from}

-- an element or a component: its bytes as the text has them, with the text's marks
pub record Part : Type 0 where
  pub marks : Marks
  pub bytes : List ℕ

abbrev pub part : Marks → List ℕ → Part
part m bs = record { marks = m; bytes = bs }

-- the part that a part value is, and those that a cursor has still to tell
abbrev pub part_of : {W : Type 0} → PartOf W → Part
part_of p = part p.marks p.bytes.now

abbrev pub parts_left : {W : Type 0} → PartsOf W → List Part
parts_left c = map (part c.marks) (pieces_left c.pieces)

-- the part that is these bytes, if there are any
abbrev pub FindsPart : {W : Type 0} → Option (PartOf W) → Marks → Option (List ℕ) → Type 0
FindsPart r m o = option_map part_of r ≡ option_map (part m) o

-- what a part has between the marks that divide it
abbrev pub pieces_of : {W : Type 0} → PartOf W → Divider → List (List ℕ)
pieces_of p d = split d.release d.mark false p.bytes.now

abbrev pub element_part : PartOf Segment → Part
element_part e = part_of e

abbrev pub component_part : PartOf (PartOf Segment) → Part
component_part c = part_of c

abbrev pub elements_left : PartsOf Segment → List Part
elements_left c = parts_left c

abbrev pub components_left : PartsOf (PartOf Segment) → List Part
components_left c = parts_left c

-- the segment of a text that a segment value is
abbrev pub cut_of : Segment → Cut
cut_of s = record { marks = s.part.marks; number = s.number; first = s.first; bytes = s.part.bytes.now; tag = s.tag }

-- the elements of a segment, the components of an element and the characters of a component
abbrev pub elements_of : Segment → List (List ℕ)
elements_of s = elements s.part.marks s.part.bytes.now

abbrev pub components_of : PartOf Segment → List (List ℕ)
components_of e = components e.marks e.bytes.now

abbrev pub characters_of : PartOf (PartOf Segment) → List ℕ
characters_of c = characters c.marks.release false c.bytes.now

-- the cut of what is left of a text
abbrev pub rest_cut : Marks → Result Rest CutFault → Cutting
rest_cut m (Ok r) = cut_from m r.number r.position r.bytes.now
rest_cut m (Err f) = stopped f

-- what the cutter has still to tell
abbrev pub remaining : Cutter → Cutting
remaining c = rest_cut c.marks c.rest

-- one step of the cutter: the next segment; or that the text ended, or the fault at which it stops, and then it stays so
abbrev pub Tells : (before : Cutting) → Result (Option Segment) CutFault → (after : Cutting) → Type 0
Tells before (Ok None) after = (before ≡ ended) × (after ≡ ended)
Tells before (Ok (Some s)) after = before ≡ push (cut_of s) after
Tells before (Err f) after = (before ≡ stopped f) × (after ≡ stopped f)

-- a segment that the cutter hands out is cut
abbrev pub HandsOut : Result (Option Segment) CutFault → Type 0
HandsOut (Ok None) = Unit {0}
HandsOut (Ok (Some s)) = IsCut (cut_of s)
HandsOut (Err f) = Unit {0}
