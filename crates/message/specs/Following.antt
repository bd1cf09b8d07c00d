-- Which rows may come directly after which, as one computation over all rows of a diagram:
-- after a row that has occurred once, as have the triggers of the groups it stands in.
use Rattle.std.specs.Prelude.{ℕ, suc, ◌+◌, Bool, true, cond, not, ◌&&◌, ◌||◌, leb, List, [], ◌∷◌, ◌++◌, ◌==◌, nat_le, nat_lt}
use Rattle.std.specs.Str.{bytes_eq}
use Rattle.message.specs.declared.row.Row.{Row}
use Rattle.message.specs.Layouts.{all}
use Rattle.message.specs.RowTests.{is_plain, is_required}
use Rattle.message.specs.Walk.{depth, with_if}

-- a row with its number
pub record Numbered : Type 0 where
  pub number : ℕ
  pub row : Row

abbrev pub numbered : ℕ → Row → Numbered
numbered i r = record { number = i; row = r }

-- the depth of the parts of the innermost open group, or of the message
abbrev pub within : List Numbered → ℕ
within [] = 1
within (g ∷ gs) = suc (depth g.row)

-- those of the open groups, by their triggers, the innermost first, that a row of depth d stands in
abbrev pub still_open : ℕ → List Numbered → List Numbered
still_open d [] = []
still_open d (g ∷ gs) = cond (nat_lt (depth g.row) d) (g ∷ gs) (still_open d gs)

-- those that end before such a row, and may begin again
abbrev pub begin_again : ℕ → List Numbered → List Numbered
begin_again d [] = []
begin_again d (g ∷ gs) = cond (nat_lt (depth g.row) d) [] (with_if (nat_le 2 g.row.limit) g (begin_again d gs))

-- what may come next from row i on: a part of a group that is passed over is skipped, and a required row is passed by nothing
abbrev pub ahead : ℕ → List Numbered → List Row → List Numbered
ahead i gs [] = []
ahead i gs (r ∷ rs) =
    let d : ℕ = depth r in
    let hs : List Numbered = still_open d gs in
    let rest : List Numbered = ahead (i + 1) hs rs in
    begin_again d gs ++ cond (nat_lt (within hs) d) rest (with_if (nat_le 1 r.limit) (numbered i r) (cond (is_required r.need) [] rest))

-- whether a row can occur in open groups gs
abbrev pub can_occur : Row → List Numbered → Bool
can_occur r gs = nat_le 1 r.limit && all (λ g. leb 1 g.row.limit) gs

-- the rows that may come directly after row p, which stands in the open groups gs and has the rows rs behind it
abbrev pub after : Numbered → List Numbered → List Row → List Numbered
after p gs rs =
    cond (can_occur p.row gs)
    (cond (is_plain p.row.kind)
    (with_if (nat_le 2 p.row.limit) p (ahead (p.number + 1) gs rs))
    (ahead (p.number + 1) (p ∷ gs) rs))
    []

-- for each row from i on, the rows that may come directly after it
abbrev pub followers_from : ℕ → List Numbered → List Row → List (List Numbered)
followers_from i gs [] = []
followers_from i gs (r ∷ rs) =
    let hs : List Numbered = still_open (depth r) gs in
    let p : Numbered = numbered i r in
    after p hs rs ∷ followers_from (i + 1) (cond (is_plain r.kind) hs (p ∷ hs)) rs

abbrev pub followers : List Row → List (List Numbered)
followers rows = followers_from 0 [] rows

-- no two different rows of one tag
abbrev pub tags_differ : List Numbered → Bool
tags_differ [] = true
tags_differ (x ∷ xs) = all (λ y. (x.number == y.number) || not (bytes_eq x.row.tag y.row.tag)) xs && tags_differ xs

-- no two different rows of one tag may come directly after the same row
abbrev pub followers_differ : List Row → Bool
followers_differ rows = all tags_differ (followers rows)
