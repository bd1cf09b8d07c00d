-- What is true of the walk over every diagram's rows.
use Rattle.std.specs.Prelude.{◌≡◌, ℕ, ◌≤◌, true, ◌↔◌, List, [], ◌∷◌, ◌++◌, length, slice_index_or}
use mathlib.Core.List.{Memᴰ}
use Rattle.message.specs.declared.row.Row.{Row}
use Rattle.message.specs.declared.open.Open.{Open}
use Rattle.message.specs.Rows.{Seat, ◌#◌, RowMessage, RowsBegin, RowFollows, ClearRows, tags_of}
use Rattle.message.specs.Walk.{position, next_states, row_of, seat_of, Stands, MayCome}
use Rattle.message.specs.Successors.{successors, successors_differ}

pub record WalkLaws (rows : List Row) : Type 0 where
  -- a walk stands after exactly what a message of rows begins with
  pub stands_where_begun : (w : List Seat) → ((s : List Open) × Stands rows s w) ↔ RowsBegin rows w
  -- the rows that have come, and then row q, begin a message exactly where the walk's rule lets q come next
  pub next_exactly : (s : List Open) (w : List Seat) → Stands rows s w → (q n : ℕ) → MayCome rows w q n ↔ ((o : Open) × (gs : List Open) × Memᴰ (o ∷ gs) (next_states rows s) × (seat_of o ≡ q # n))
  -- in every such message q has the same occurrence
  pub one_occurrence : (w : List Seat) (q m n : ℕ) → MayCome rows w q m → MayCome rows w q n → m ≡ n
  -- the rows that have come are a message exactly where the walk stands at the last row
  pub message_at_last_row : (s : List Open) (w : List Seat) → Stands rows s w → RowMessage rows w ↔ (position s ≡ length rows)
  -- a message can always be completed, by at most as many rows as the diagram has
  pub completable : (s : List Open) (w : List Seat) → Stands rows s w → (v : List Seat) × RowMessage rows (w ++ v) × (length v ≤ length rows)
  -- the rows that are computed for row p are exactly those that can follow it
  pub followers_exactly : (p q : ℕ) → RowFollows rows p q ↔ ((t : List Open) × Memᴰ t (slice_index_or (successors rows) p []) × (row_of t ≡ q))
  -- a diagram is clear exactly where the computed test says so
  pub clear_exactly : ClearRows rows ↔ (successors_differ rows ≡ true)
  -- in a clear diagram tags have one placement at most, and so have the tags of a beginning
  pub one_placement : ClearRows rows → (w x : List Seat) → RowMessage rows w → RowMessage rows x → tags_of rows w ≡ tags_of rows x → w ≡ x
  pub one_beginning : ClearRows rows → (w x : List Seat) → RowsBegin rows w → RowsBegin rows x → tags_of rows w ≡ tags_of rows x → w ≡ x
