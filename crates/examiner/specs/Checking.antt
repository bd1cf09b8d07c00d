-- The check of a component by its measure, and the beginnings and ends of the pass over an element's components.
use Rattle.std.specs.Prelude.{ℕ, Bool, true, false, cond, List, [], ◌∷◌, Some, None, Option, ◌==◌}
use Rattle.message.specs.declared.layout.Status.{Status}
use Rattle.message.specs.declared.layout.Status.TheVariants.{Required, Unused, Optional}
use Rattle.message.specs.declared.layout.Spot.{Spot}
use Rattle.message.specs.declared.layout.ComponentRule.{ComponentRule}
use Rattle.message.specs.declared.layout.SegmentFault.{SegmentFault}
use Rattle.message.specs.declared.layout.SegmentFault.TheVariants as fault
use Rattle.message.specs.Layouts.{Component, Element, Layout, status_of, within, element_at, component_at}
use Rattle.message.specs.Judging.{spot}
use Rattle.examiner.specs.declared.measure.Measure.{Measure}
use Rattle.examiner.specs.Measuring.{class_in, size_in, spelled_in}

-- a component of a layout, and where it stands
pub record ComponentAt : Type 0 where
  pub spot : Spot
  pub component : Component

-- an element of a layout, and its number
pub record ElementAt : Type 0 where
  pub number : ℕ
  pub element : Element

abbrev pub component_of : (element number : ℕ) → Component → ComponentAt
component_of e c r = record { spot = spot e c; component = r }

abbrev pub element_of : (number : ℕ) → Element → ElementAt
element_of e r = record { number = e; element = r }

-- what a book tells of a component, with its codes
abbrev pub ruled : ComponentRule → List (List ℕ) → Component
ruled rule codes = record { class = rule.class; extent = rule.extent; status = rule.status; codes = codes }

abbrev pub codes_of : Option Component → List (List ℕ)
codes_of None = []
codes_of (Some r) = r.codes

-- the codes of a component of a row's layout
abbrev pub codes_at : List Layout → (row e c : ℕ) → List (List ℕ)
codes_at ls row e c = codes_of (component_at ls row e c)

abbrev pub rules_of : Option Element → List Component
rules_of None = []
rules_of (Some r) = r.components

-- the component rules of an element of a row's layout
abbrev pub rules_at : List Layout → (row e : ℕ) → List Component
rules_at ls row e = rules_of (element_at ls row e)

-- the characters are that code
abbrev pub spelled_at : Option (List ℕ) → Measure → Bool
spelled_at None m = false
spelled_at (Some code) m = spelled_in code m

-- the characters are one of the codes
abbrev pub among_in : List (List ℕ) → Measure → Bool
among_in [] m = false
among_in (code ∷ codes) m = cond (spelled_in code m) true (among_in codes m)

-- no codes bind nothing
abbrev pub listed_in : List (List ℕ) → Measure → Bool
listed_in [] m = true
listed_in (code ∷ codes) m = among_in (code ∷ codes) m

-- class, length, code
abbrev pub value_in : ComponentAt → Measure → Option SegmentFault
value_in r m =
    cond (class_in r.component.class m)
    (cond (within r.component.extent (size_in r.component.class m))
    (cond (listed_in r.component.codes m) None (Some (fault.NotListed r.spot)))
    (Some (fault.WrongLength r.spot)))
    (Some (fault.WrongClass r.spot))

abbrev pub component_by : Option Status → ComponentAt → Measure → Option SegmentFault
component_by None r m = None
component_by (Some Required) r m = cond (m.count == 0) (Some (fault.Missing r.spot)) (value_in r m)
component_by (Some Unused) r m = cond (m.count == 0) None (Some (fault.Unused r.spot))
component_by (Some Optional) r m = cond (m.count == 0) None (value_in r m)

-- a component of an element that has something filled
abbrev pub component_in : ComponentAt → Measure → Option SegmentFault
component_in r m = component_by (status_of r.component.status) r m

-- the number of the first filled component, where the next is component k
abbrev pub filled_by : Option ℕ → ℕ → Measure → Option ℕ
filled_by None k m = cond (m.count == 0) None (Some k)
filled_by (Some j) k m = Some j

-- a component beyond the layout
abbrev pub beyond_at : Bool → Spot → Option SegmentFault
beyond_at false at = None
beyond_at true at = Some (fault.Beyond at)

-- the faults of an element's components: those of the layout count only where something is filled
abbrev pub part_fault : Option ℕ → Option SegmentFault → Option SegmentFault → Option SegmentFault
part_fault None inner surplus = surplus
part_fault (Some k) None surplus = surplus
part_fault (Some k) (Some f) surplus = Some f
