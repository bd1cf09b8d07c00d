-- The walk over a diagram's rows: which rows may come next after those that have come, as one pass over the rows behind the last.
use Rattle.std.specs.Prelude.{◌≡◌, ℕ, suc, ◌+◌, ◌≤◌, Bool, cond, not, List, [], ◌∷◌, ◌++◌, drop, Some, None, Option, ◌≢◌, nat_le, nat_lt}
use mathlib.Core.List.{Memᴰ}
use Rattle.std.specs.Str.{bytes_eq}
use Rattle.message.specs.declared.row.Kind.{Kind}
use Rattle.message.specs.declared.row.Kind.TheVariants.{Trigger, Plain}
use Rattle.message.specs.declared.row.Row.{Row}
use Rattle.message.specs.declared.open.Open.{Open}
use Rattle.message.specs.Rows.{Seat, ◌#◌, row_at, RowsBegin}
use Rattle.message.specs.RowTests.{is_required}

-- The state of a walk is the list of its open rows: the row that came last, and under it the triggers of the groups that it stands in, the innermost first.

abbrev pub depth_of : Kind → ℕ → ℕ
depth_of Trigger level = level
depth_of Plain level = suc level

-- how deep a row stands as a part of its surroundings: the plain rows of level l and the triggers of level l + 1 are the parts of level l
abbrev pub depth : Row → ℕ
depth r = depth_of r.kind r.level

-- the depth of the parts of the innermost open row, or of the message
abbrev pub within : List Open → ℕ
within [] = 1
within (o ∷ gs) = suc (depth o.row)

-- a row that comes for the first time in its surroundings
abbrev pub begun : ℕ → Row → Open
begun j r = record { number = j; occurrence = 1; row = r }

abbrev pub may_repeat : Open → Bool
may_repeat o = nat_lt o.occurrence o.row.limit

-- the next occurrence of an open row
abbrev pub repeated : Open → Open
repeated o = record { number = o.number; occurrence = o.occurrence + 1; row = o.row }

abbrev pub with_if : {X : Type 0} → Bool → X → List X → List X
with_if b x xs = cond b (x ∷ xs) xs

-- an open row has come to its end before a row of depth d
abbrev pub ends_at : ℕ → Open → Bool
ends_at d o = not (nat_lt (depth o.row) d)

-- those of the open rows that a row of depth d stands in
abbrev pub still_open : ℕ → List Open → List Open
still_open d [] = []
still_open d (o ∷ gs) = cond (ends_at d o) (still_open d gs) (o ∷ gs)

-- the states in which one of those that end before it has come again
abbrev pub come_again : ℕ → List Open → List (List Open)
come_again d [] = []
come_again d (o ∷ gs) = cond (ends_at d o) (with_if (may_repeat o) (repeated o ∷ gs) (come_again d gs)) []

-- the states that the next row may lead to, from row j on, where the open rows gs have come: a part of a group that is passed over is skipped, and a required row is passed by nothing
abbrev pub ahead : ℕ → List Open → List Row → List (List Open)
ahead j gs [] = []
ahead j gs (r ∷ rs) =
    let d : ℕ = depth r in
    let hs : List Open = still_open d gs in
    let rest : List (List Open) = ahead (suc j) hs rs in
    come_again d gs ++ cond (nat_lt (within hs) d) rest (with_if (nat_le 1 r.limit) (begun j r ∷ hs) (cond (is_required r.need) [] rest))

-- the row that the pass begins with
abbrev pub position : List Open → ℕ
position [] = 0
position (o ∷ gs) = o.number + 1

-- the states that a walk may come to next
abbrev pub next_states : List Row → List Open → List (List Open)
next_states rows s = ahead (position s) s (drop (position s) rows)

-- Of the states that an offered tag may lead to, the one whose row is the lowest

abbrev pub has_tag : List ℕ → Row → Bool
has_tag tag r = bytes_eq r.tag tag

abbrev pub of_tag : List ℕ → List Open → Option (List Open)
of_tag tag [] = None
of_tag tag (o ∷ gs) = cond (has_tag tag o.row) (Some (o ∷ gs)) None

abbrev pub row_of : List Open → ℕ
row_of [] = 0
row_of (o ∷ gs) = o.number

abbrev pub lower : Option (List Open) → Option (List Open) → Option (List Open)
lower None t = t
lower (Some s) None = Some s
lower (Some s) (Some t) = cond (nat_lt (row_of t) (row_of s)) (Some t) (Some s)

abbrev pub lowest : List ℕ → List (List Open) → Option (List Open)
lowest tag [] = None
lowest tag (s ∷ ss) = lower (of_tag tag s) (lowest tag ss)

abbrev pub next : List Row → List ℕ → List Open → Option (List Open)
next rows tag s = lowest tag (next_states rows s)

abbrev pub seat_of : Open → Seat
seat_of o = o.number # o.occurrence

-- a walk stands at s after the rows w, each with its occurrence: it has come to them one by one
pub data Stands (rows : List Row) : List Open → List Seat → Type 0 where
  start : Stands rows [] []
  moved : {s gs : List Open} {o : Open} {w : List Seat} → Stands rows s w → Memᴰ (o ∷ gs) (next_states rows s) → Stands rows (o ∷ gs) (w ++ (seat_of o ∷ []))

module _ (rows : List Row) where
  -- some message of rows begins with w and then row q, in its occurrence n
  abbrev pub MayCome : List Seat → (q n : ℕ) → Type 0
  MayCome w q n = RowsBegin rows (w ++ (q # n ∷ []))

  -- row q of the tag may come next after w, in occurrence n and in no other, and no lower row of the tag may
  pub record ComesNext (w : List Seat) (tag : List ℕ) (q n : ℕ) : Type 0 where
    pub tagged : (row_at rows q).tag ≡ tag
    pub begins : MayCome w q n
    pub once : (m : ℕ) → MayCome w q m → m ≡ n
    pub lowest : (p m : ℕ) → MayCome w p m → (row_at rows p).tag ≡ tag → q ≤ p

  -- what is answered to a tag after w: the row that comes next, or that no row of the tag may
  unfoldable pub Answered : List Seat → List ℕ → Option (ℕ × ℕ) → Type 0
  Answered w tag None = (q n : ℕ) → MayCome w q n → (row_at rows q).tag ≢ tag
  Answered w tag (Some a) = ComesNext w tag a.0 a.1
