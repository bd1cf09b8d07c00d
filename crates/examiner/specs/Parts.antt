-- A segment's components one after the other, as one pass over its bytes meets them.
use Rattle.std.specs.Prelude.{ℕ, false, cond, List, [], ◌∷◌, map, ◌==◌}
use Rattle.syntax.specs.declared.marks.Marks.{Marks}
use Rattle.syntax.specs.Split.{characters}
use Rattle.edifact.specs.Segments.{parts_of}
use Rattle.message.specs.Judging.{first, others}
use Rattle.examiner.specs.declared.parts.Ahead.{Ahead}
use Rattle.examiner.specs.declared.parts.Ahead.TheVariants.{Component, Element, Nothing}
use Rattle.examiner.specs.declared.parts.Reading.{Reading}
use Rattle.examiner.specs.Texts.{Texts}

-- the characters of the components of bytes, element by element
abbrev pub texts_of : Marks → List ℕ → List (List (List ℕ))
texts_of m bs = map (map (characters m.release false)) (parts_of m bs)

-- behind a component: the further components of its element, and the further elements
abbrev pub same_element : Marks → List ℕ → List (List ℕ)
same_element m [] = []
same_element m (b ∷ bs) = cond (b == m.element) [] (first (texts_of m bs))

abbrev pub next_elements : Marks → List ℕ → List (List (List ℕ))
next_elements m [] = []
next_elements m (b ∷ bs) = cond (b == m.element) (texts_of m bs) (others (texts_of m bs))

-- the components of the element that a cursor is in, those that are still to come
abbrev pub current : Marks → Ahead → List (List ℕ)
current m (Component bs) = first (texts_of m bs.now)
current m (Element bs) = []
current m Nothing = []

-- the elements behind it
abbrev pub later : Marks → Ahead → List (List (List ℕ))
later m (Component bs) = others (texts_of m bs.now)
later m (Element bs) = texts_of m bs.now
later m Nothing = []

abbrev pub bytes_ahead : Ahead → List ℕ
bytes_ahead (Component bs) = bs.now
bytes_ahead (Element bs) = bs.now
bytes_ahead Nothing = []

abbrev pub texts_ahead : Reading → Ahead → Texts
texts_ahead r a = record { decimal = r.decimal; current = current r.marks a; later = later r.marks a }
