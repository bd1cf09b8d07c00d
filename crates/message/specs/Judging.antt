-- Why a segment doesn't fit its row: the first fault, elements from left to right, with the element and the component it is in.
use Rattle.std.specs.Prelude.{ℕ, ◌+◌, ◌-◌, ◌*◌, Bool, true, false, cond, ◌&&◌, List, [], ◌∷◌, map, length, is_some, Some, None, Option, ◌==◌, nat_le}
use Rattle.std.specs.Str.{bytes_eq}
use Rattle.syntax.specs.declared.marks.DecimalMark.{DecimalMark}
use Rattle.syntax.specs.Bytes.{digit}
use Rattle.message.specs.declared.layout.Status.{Status}
use Rattle.message.specs.declared.layout.Status.TheVariants.{Required, Unused, Optional}
use Rattle.message.specs.declared.layout.Spot.{Spot}
use Rattle.message.specs.declared.layout.SegmentFault.{SegmentFault}
use Rattle.message.specs.declared.layout.SegmentFault.TheVariants as fault
use Rattle.message.specs.Layouts.{Component, Element, Layout, all, status_of, of_class, size, within}

-- A segment's elements are those behind its tag, each a list of components, each a list of characters.
-- An absent element is one without components, and an absent component one without characters.
abbrev pub first : {X : Type 0} → List (List X) → List X
first [] = []
first (x ∷ xs) = x

abbrev pub others : {X : Type 0} → List (List X) → List (List X)
others [] = []
others (x ∷ xs) = xs

abbrev pub spot : (element component : ℕ) → Spot
spot e c = record { element = e; component = c }

-- the first fault of two
abbrev pub or_else : Option SegmentFault → Option SegmentFault → Option SegmentFault
or_else None f = f
or_else (Some e) f = Some e

-- whether the characters are a code of the list; an empty list binds nothing
abbrev pub among : List (List ℕ) → List ℕ → Bool
among [] cs = false
among (code ∷ codes) cs = cond (bytes_eq code cs) true (among codes cs)

abbrev pub listed : List (List ℕ) → List ℕ → Bool
listed [] cs = true
listed (code ∷ codes) cs = among (code ∷ codes) cs

-- a filled component that isn't unused: its class, then its length, then its code
abbrev pub value_fault : Component → DecimalMark → Spot → List ℕ → Option SegmentFault
value_fault r d at cs =
    cond (of_class r.class d cs)
    (cond (within r.extent (size r.class cs))
    (cond (listed r.codes cs) None (Some (fault.NotListed at)))
    (Some (fault.WrongLength at)))
    (Some (fault.WrongClass at))

-- a component of an element that has something filled
abbrev pub component_fault : Option Status → Component → DecimalMark → Spot → List ℕ → Option SegmentFault
component_fault None r d at cs = None
component_fault (Some Required) r d at [] = Some (fault.Missing at)
component_fault (Some Required) r d at (c ∷ cs) = value_fault r d at (c ∷ cs)
component_fault (Some Unused) r d at [] = None
component_fault (Some Unused) r d at (c ∷ cs) = Some (fault.Unused at)
component_fault (Some Optional) r d at [] = None
component_fault (Some Optional) r d at (c ∷ cs) = value_fault r d at (c ∷ cs)

-- the components of element e from c on: one beyond the layout is a fault even when empty, the others are looked at only where something is filled
abbrev pub components_fault : (filled : Bool) → DecimalMark → (e c : ℕ) → List Component → List (List ℕ) → Option SegmentFault
components_fault filled d e c [] [] = None
components_fault filled d e c [] (x ∷ xs) = Some (fault.Beyond (spot e c))
components_fault filled d e c (r ∷ rs) xs =
    or_else (cond filled (component_fault (status_of r.status) r d (spot e c) (first xs)) None) (components_fault filled d e (c + 1) rs (others xs))

-- the number of the first filled component, from c on
abbrev pub first_filled : ℕ → List (List ℕ) → Option ℕ
first_filled c [] = None
first_filled c ([] ∷ xs) = first_filled (c + 1) xs
first_filled c ((x ∷ y) ∷ xs) = Some c

-- the element as a whole: required with nothing filled, or unused with something filled
abbrev pub whole_fault : Option Status → ℕ → Option ℕ → Option SegmentFault
whole_fault None e filled = None
whole_fault (Some Required) e None = Some (fault.Missing (spot e 1))
whole_fault (Some Required) e (Some c) = None
whole_fault (Some Unused) e None = None
whole_fault (Some Unused) e (Some c) = Some (fault.Unused (spot e c))
whole_fault (Some Optional) e filled = None

-- first the element, then its components in order
abbrev pub element_fault : Element → DecimalMark → ℕ → List (List ℕ) → Option SegmentFault
element_fault r d e xs = or_else (whole_fault (status_of r.status) e (first_filled 1 xs)) (components_fault (is_some (first_filled 1 xs)) d e 1 r.components xs)

-- the elements from e on, absent ones that the layout has too
abbrev pub elements_fault : DecimalMark → ℕ → Layout → List (List (List ℕ)) → Option SegmentFault
elements_fault d e [] [] = None
elements_fault d e [] (x ∷ xs) = Some (fault.Beyond (spot e 1))
elements_fault d e (r ∷ rs) xs = or_else (element_fault r d e (first xs)) (elements_fault d (e + 1) rs (others xs))

-- the first fault of a segment's elements against a layout
abbrev pub layout_fault : Layout → DecimalMark → List (List (List ℕ)) → Option SegmentFault
layout_fault l d xs = elements_fault d 1 l xs

-- Header and trailer: each component has to pass a test, and there are no further ones, not even empty ones.

abbrev pub wrong_component : (e c : ℕ) → List (List ℕ → Bool) → List (List ℕ) → Option Spot
wrong_component e c [] [] = None
wrong_component e c [] (x ∷ xs) = Some (spot e c)
wrong_component e c (t ∷ ts) xs = cond (t (first xs)) (wrong_component e (c + 1) ts (others xs)) (Some (spot e c))

abbrev pub before : Option Spot → Option Spot → Option Spot
before None s = s
before (Some r) s = Some r

abbrev pub wrong_element : (e : ℕ) → List (List (List ℕ → Bool)) → List (List (List ℕ)) → Option Spot
wrong_element e [] [] = None
wrong_element e [] (x ∷ xs) = Some (spot e 1)
wrong_element e (ts ∷ tss) xs = before (wrong_component e 1 ts (first xs)) (wrong_element (e + 1) tss (others xs))

-- 1 to 14 characters
abbrev pub is_reference : List ℕ → Bool
is_reference cs = nat_le 1 (length cs) && nat_le (length cs) 14

abbrev pub value_of : ℕ → List ℕ → ℕ
value_of n [] = n
value_of n (c ∷ cs) = value_of (n * 10 + (c - 48)) cs

-- 1 to 6 digits of that value
abbrev pub is_count : ℕ → List ℕ → Bool
is_count n cs = nat_le 1 (length cs) && nat_le (length cs) 6 && all digit cs && value_of 0 cs == n

abbrev pub as_header_fault : Option Spot → Option SegmentFault
as_header_fault None = None
as_header_fault (Some s) = Some (fault.BadHeader s)

abbrev pub as_trailer_fault : Option Spot → Option SegmentFault
as_trailer_fault None = None
as_trailer_fault (Some s) = Some (fault.BadTrailer s)

-- UNH: a reference, and exactly the parts of the book's identifier
abbrev pub header_fault : (identifier : List (List ℕ)) → List (List (List ℕ)) → Option SegmentFault
header_fault parts xs = as_header_fault (wrong_element 1 ((is_reference ∷ []) ∷ (map bytes_eq parts ∷ [])) xs)

-- UNT: the number of all segments, and UNH's reference again
abbrev pub trailer_fault : (count : ℕ) (reference : List ℕ) → List (List (List ℕ)) → Option SegmentFault
trailer_fault n reference xs = as_trailer_fault (wrong_element 1 ((is_count n ∷ []) ∷ ((bytes_eq reference ∷ []) ∷ [])) xs)
