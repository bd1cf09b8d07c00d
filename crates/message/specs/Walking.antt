-- What the calls of a walk answer, and where it then stands.
use Rattle.std.specs.Prelude.{◌≡◌, ℕ, Bool, true, ◌↔◌, List, [], ◌∷◌, ◌++◌, Some, None, Option}
use Rattle.message.specs.declared.row.Row.{Row}
use Rattle.message.specs.declared.walk.Walk.{Walk}
use Rattle.message.specs.Rows.{Seat, ◌#◌, RowMessage}
use Rattle.message.specs.Walk.{Stands, Answered}
use Rattle.message.specs.Searching.{state_of}

-- the rows that an answer adds to those that have come
abbrev pub seats_of : Option (ℕ × ℕ) → List Seat
seats_of None = []
seats_of (Some a) = a.0 # a.1 ∷ []

module _ {D : Type 0} (rows_of : D → List Row) where
  -- the rows w, each with its occurrence, have come on this walk
  abbrev pub StandsAfter : Walk D → List Seat → Type 0
  StandsAfter k w = Stands (rows_of k.diagram.now) (state_of k.held.items) w

  -- the answer to a tag
  unfoldable pub Asks : Walk D → List ℕ → Option (ℕ × ℕ) → Type 0
  Asks k tag a = (w : List Seat) → StandsAfter k w → Answered (rows_of k.diagram.now) w tag a

  -- the same answer, with the walk moved to the row; it stays as it was if there is none
  pub record Offers (k l : Walk D) (tag : List ℕ) (a : Option (ℕ × ℕ)) : Type 0 where
    pub over : l.diagram ≡ k.diagram
    pub answer : Asks k tag a
    pub stands : (w : List Seat) → StandsAfter k w → StandsAfter l (w ++ seats_of a)
    pub kept : a ≡ None → l ≡ k

  -- whether the rows that have come are a message of rows
  unfoldable pub Completes : Walk D → Bool → Type 0
  Completes k b = (w : List Seat) → StandsAfter k w → (b ≡ true) ↔ RowMessage (rows_of k.diagram.now) w
