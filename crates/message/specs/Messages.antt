-- A book's meaning, and what a message of it is.
use Rattle.std.specs.Prelude.{◌≡◌, ℕ, ◌+◌, false, cond, List, [], ◌∷◌, ◌++◌, map, length, Some, None, Option, ◌==◌}
use Rattle.std.specs.List.{slice_get}
use Rattle.syntax.specs.declared.marks.DecimalMark.{DecimalMark}
use Rattle.syntax.specs.Split.{characters}
use Rattle.edifact.specs.Segments.{parts_of}
use Rattle.edifact.specs.Cutting.{Cut}
use Rattle.message.specs.declared.row.Row.{Row}
use Rattle.message.specs.declared.layout.SegmentFault.{SegmentFault}
use Rattle.message.specs.Rows.{Seat, ◌#◌, row_at, RowMessage}
use Rattle.message.specs.Layouts.{Layout}
use Rattle.message.specs.Judging.{first, layout_fault, header_fault, trailer_fault}

-- a book's meaning: its rows in order, each with its layout, and its identifier
pub record Meaning : Type 0 where
  pub rows : List Row
  pub layouts : List Layout
  pub identifier : List (List ℕ)

-- a segment: its tag, and the characters of its components, element by element
pub record Segment : Type 0 where
  pub tag : List ℕ
  pub elements : List (List (List ℕ))

abbrev pub behind_tag : List (List (List ℕ)) → List (List (List ℕ))
behind_tag [] = []
behind_tag (x ∷ xs) = xs

-- the segment that a cut one is
abbrev pub segment_of : Cut → Segment
segment_of s = record { tag = s.tag; elements = map (map (characters s.marks.release false)) (behind_tag (parts_of s.marks s.bytes)) }

-- the header's reference
abbrev pub reference_of : List Segment → List ℕ
reference_of [] = []
reference_of (s ∷ ss) = first (first s.elements)

abbrev pub layout_of : Option Layout → Layout
layout_of None = []
layout_of (Some l) = l

module _ (book : Meaning) (decimal : DecimalMark) where
  -- why a segment, the n-th, doesn't fit row j: the first row is the header's and the last the trailer's
  abbrev pub segment_fault : (reference : List ℕ) (n j : ℕ) → Segment → Option SegmentFault
  segment_fault reference n j s =
      cond (j == 0) (header_fault book.identifier s.elements)
      (cond (j + 1 == length book.rows) (trailer_fault n reference s.elements)
      (layout_fault (layout_of (slice_get book.layouts j)) decimal s.elements))

  -- the segments, the n-th and those behind it, have the tags of their rows and fit them. The trailer is the last segment, so its n counts all.
  abbrev pub Fit : (reference : List ℕ) (n : ℕ) → List Segment → List Seat → Type 0
  Fit reference n [] [] = Unit {0}
  Fit reference n [] (seat ∷ w) = ⊥
  Fit reference n (s ∷ ss) [] = ⊥
  Fit reference n (s ∷ ss) (j # k ∷ w) = (s.tag ≡ (row_at book.rows j).tag) × (segment_fault reference n j s ≡ None) × Fit reference (n + 1) ss w

  -- a placement gives each segment of a message its row and its occurrence
  pub record Placed (ss : List Segment) (w : List Seat) : Type 0 where
    pub rows : RowMessage book.rows w
    pub fit : Fit (reference_of ss) 1 ss w

  -- a message is a list of segments that has a placement
  abbrev pub Message : List Segment → Type 0
  Message ss = (w : List Seat) × Placed ss w

  -- some message begins with these segments
  abbrev pub Begins : List Segment → Type 0
  Begins ss = (rest : List Segment) × Message (ss ++ rest)

module _ (book : Meaning) where
  -- row q can follow row p: some message's placement has q directly after p
  abbrev pub CanFollow : (p q : ℕ) → Type 0
  CanFollow p q =
      (decimal : DecimalMark) × (ss : List Segment) × (u : List Seat) × (m : ℕ) × (n : ℕ) × (v : List Seat) × Placed book decimal ss (u ++ (p # m ∷ (q # n ∷ v)))

  -- no two different rows of one tag can follow the same row
  abbrev pub Clear : Type 0
  Clear = (p q r : ℕ) → CanFollow p q → CanFollow p r → (row_at book.rows q).tag ≡ (row_at book.rows r).tag → q ≡ r
