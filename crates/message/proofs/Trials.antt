-- Worked examples of the definitions, computed.
use Rattle.std.proofs.Common.{◌≡◌, ℕ, true, false, List, [], ◌∷◌, Some, None, codes, refl}
use Rattle.syntax.specs.declared.marks.DecimalMark.TheVariants.{Point, Comma}
use Rattle.syntax.specs.Marks.{usual}
use Rattle.message.specs.declared.layout.Class.TheVariants.{Numeric, Alphanumeric}
use Rattle.message.specs.declared.layout.Extent.TheVariants.{Exactly, AtMost}
use Rattle.message.specs.declared.layout.SegmentFault.TheVariants.{Beyond, Missing, Unused, WrongClass, WrongLength, NotListed, BadHeader, BadTrailer}
use Rattle.message.specs.Layouts.{Component, Layout, number, digit_count}
use Rattle.message.specs.Judging.{spot, layout_fault, header_fault, trailer_fault}
use Rattle.message.specs.Messages.{segment_of}

-- class n: one optional minus, digits, at most one decimal mark between digits
minus : number Point (codes "-12.5") ≡ true
minus = refl

other_mark : number Point (codes "12,5") ≡ false
other_mark = refl

comma : number Comma (codes "12,5") ≡ true
comma = refl

mark_at_end : number Point (codes "12.") ≡ false
mark_at_end = refl

mark_at_start : number Point (codes ".5") ≡ false
mark_at_start = refl

two-marks : number Point (codes "1.2.3") ≡ false
two-marks = refl

minus-alone : number Point (codes "-") ≡ false
minus-alone = refl

digits-only : digit_count (codes "-12.5") ≡ 3
digits-only = refl

-- a required element an..3 with one component, an optional one n..2 with a required and an optional component, and an unused one
abbrev any : ℕ → Component
any s = record { class = Alphanumeric; extent = AtMost 3; status = s; codes = [] }

abbrev two : ℕ → Component
two s = record { class = Numeric; extent = AtMost 2; status = s; codes = [] }

abbrev coded : Component
coded = record { class = Alphanumeric; extent = Exactly 1; status = 82; codes = codes "X" ∷ (codes "Y" ∷ []) }

abbrev layout : Layout
layout =
    record { status = 77; components = any 77 ∷ [] }
    ∷ (record { status = 67; components = two 82 ∷ (two 79 ∷ []) }
    ∷ (record { status = 78; components = any 79 ∷ [] }
    ∷ (record { status = 79; components = coded ∷ [] } ∷ [])))

abbrev one : List ℕ → List (List ℕ)
one cs = cs ∷ []

fits : layout_fault layout Point (one (codes "ABC") ∷ (((codes "-1.2") ∷ []) ∷ (one [] ∷ (one (codes "Y") ∷ [])))) ≡ None
fits = refl

-- absent elements are looked at too
absent_optional : layout_fault layout Point (one (codes "A") ∷ []) ≡ None
absent_optional = refl

absent-required : layout_fault layout Point [] ≡ Some (Missing (spot 1 1))
absent-required = refl

-- a required element with nothing filled comes before its surplus components
nothing-filled : layout_fault layout Point (([] ∷ ([] ∷ [])) ∷ []) ≡ Some (Missing (spot 1 1))
nothing-filled = refl

-- a surplus component is a fault even when empty, and so is a surplus element
surplus-component : layout_fault layout Point ((codes "A" ∷ ([] ∷ [])) ∷ []) ≡ Some (Beyond (spot 1 2))
surplus-component = refl

surplus_in_empty_element : layout_fault layout Point (one (codes "A") ∷ (([] ∷ ([] ∷ ([] ∷ []))) ∷ [])) ≡ Some (Beyond (spot 2 3))
surplus_in_empty_element = refl

surplus-element : layout_fault layout Point (one (codes "A") ∷ (one [] ∷ (one [] ∷ (one [] ∷ (one [] ∷ []))))) ≡ Some (Beyond (spot 5 1))
surplus-element = refl

-- a required component is asked only where its element has something filled
required_in_optional : layout_fault layout Point (one (codes "A") ∷ (([] ∷ (codes "7" ∷ [])) ∷ [])) ≡ Some (Missing (spot 2 1))
required_in_optional = refl

-- an unused element is told at its first filled component, even beyond the layout
unused_beyond : layout_fault layout Point (one (codes "A") ∷ (one [] ∷ (([] ∷ (codes "B" ∷ [])) ∷ []))) ≡ Some (Unused (spot 3 2))
unused_beyond = refl

wrong_class : layout_fault layout Comma (one (codes "A") ∷ (one (codes "1.2") ∷ [])) ≡ Some (WrongClass (spot 2 1))
wrong_class = refl

-- the length of a number counts its digits
wrong_length : layout_fault layout Point (one (codes "A") ∷ (one (codes "-12.3") ∷ [])) ≡ Some (WrongLength (spot 2 1))
wrong_length = refl

not_listed : layout_fault layout Point (one (codes "A") ∷ (one [] ∷ (one [] ∷ (one (codes "Z") ∷ [])))) ≡ Some (NotListed (spot 4 1))
not_listed = refl

-- header and trailer
abbrev parts : List (List ℕ)
parts = codes "TSTMSG" ∷ (codes "D" ∷ (codes "01B" ∷ (codes "UN" ∷ (codes "EAN005" ∷ []))))

header-fits : header_fault parts (one (codes "ME1") ∷ (parts ∷ [])) ≡ None
header-fits = refl

long_reference : header_fault parts (one (codes "123456789012345") ∷ (parts ∷ [])) ≡ Some (BadHeader (spot 1 1))
long_reference = refl

missing_part : header_fault parts (one (codes "ME1") ∷ ((codes "TSTMSG" ∷ (codes "D" ∷ [])) ∷ [])) ≡ Some (BadHeader (spot 2 3))
missing_part = refl

empty_third_element : header_fault parts (one (codes "ME1") ∷ (parts ∷ (one [] ∷ []))) ≡ Some (BadHeader (spot 3 1))
empty_third_element = refl

trailer-fits : trailer_fault 5 (codes "ME1") (one (codes "005") ∷ (one (codes "ME1") ∷ [])) ≡ None
trailer-fits = refl

wrong_count : trailer_fault 5 (codes "ME1") (one (codes "4") ∷ (one (codes "ME1") ∷ [])) ≡ Some (BadTrailer (spot 1 1))
wrong_count = refl

seven_digits : trailer_fault 5 (codes "ME1") (one (codes "0000005") ∷ (one (codes "ME1") ∷ [])) ≡ Some (BadTrailer (spot 1 1))
seven_digits = refl

other_reference : trailer_fault 5 (codes "ME1") (one (codes "5") ∷ (one (codes "ME2") ∷ [])) ≡ Some (BadTrailer (spot 2 1))
other_reference = refl

-- a cut segment by its characters: release marks out
cut_segment : segment_of (record { marks = usual; number = 1; first = 0; bytes = codes "BGM+A?+B:C+"; tag = codes "BGM" })
    ≡ record { tag = codes "BGM"; elements = (codes "A+B" ∷ (codes "C" ∷ [])) ∷ (([] ∷ []) ∷ []) }
cut_segment = refl
