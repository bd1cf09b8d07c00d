-- What is still to come of a segment.
use Rattle.std.specs.Prelude.{◌≡◌, ℕ, Bool, true, false, List, [], ◌∷◌, Some, None, Option}
use Rattle.syntax.specs.declared.marks.DecimalMark.{DecimalMark}
use Rattle.message.specs.Judging.{first, others}
use Rattle.examiner.specs.declared.measure.Measure.{Measure}
use Rattle.examiner.specs.Measuring.{measure_of}

-- the characters of the components of one element, and those of the elements behind it, with the decimal mark of their numbers
pub record Texts : Type 0 where
  pub decimal : DecimalMark
  pub current : List (List ℕ)
  pub later : List (List (List ℕ))

abbrev pub has_more : List (List ℕ) → Bool
has_more [] = false
has_more (x ∷ xs) = true

-- one step of a cursor over an element's components: the measure of the first that was left, or that none was
abbrev pub MeasuresNext : Texts → Option Measure → Texts → Type 0
MeasuresNext s None t = (s.current ≡ []) × (t ≡ s)
MeasuresNext s (Some m) t = (has_more s.current ≡ true) × (m ≡ measure_of s.decimal (first s.current)) × (t ≡ record s { current = others s.current })
