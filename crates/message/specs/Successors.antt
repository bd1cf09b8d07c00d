-- Which rows may come directly after which, as one computation over all rows of a diagram:
-- the walk's rule where each open row has come once.
use Rattle.std.specs.Prelude.{ℕ, suc, Bool, true, cond, not, ◌&&◌, ◌||◌, List, [], ◌∷◌, ◌==◌, nat_le}
use Rattle.std.specs.Str.{bytes_eq}
use Rattle.message.specs.declared.row.Row.{Row}
use Rattle.message.specs.declared.open.Open.{Open}
use Rattle.message.specs.Layouts.{all}
use Rattle.message.specs.Walk.{depth, within, begun, still_open, ahead, row_of}

-- for each row from j on, the states that may come directly after it; none where it can't occur
abbrev pub successors_from : ℕ → List Open → List Row → List (List (List Open))
successors_from j gs [] = []
successors_from j gs (r ∷ rs) =
    let hs : List Open = still_open (depth r) gs in
    let s : List Open = begun j r ∷ hs in
    cond (depth r == within hs && nat_le 1 r.limit)
    (let behind : List (List (List Open)) = successors_from (suc j) s rs in ahead (suc j) s rs ∷ behind)
    (let behind : List (List (List Open)) = successors_from (suc j) hs rs in [] ∷ behind)

abbrev pub successors : List Row → List (List (List Open))
successors rows = successors_from 0 [] rows

abbrev pub tag_of : List Open → List ℕ
tag_of [] = []
tag_of (o ∷ gs) = o.row.tag

-- two states whose rows are the same, or differ in their tags
abbrev pub differ : List Open → List Open → Bool
differ s t = row_of s == row_of t || not (bytes_eq (tag_of s) (tag_of t))

abbrev pub successor_tags_differ : List (List Open) → Bool
successor_tags_differ [] = true
successor_tags_differ (s ∷ ss) = all (differ s) ss && successor_tags_differ ss

-- no two different rows of one tag may come directly after the same row
abbrev pub successors_differ : List Row → Bool
successors_differ rows = all successor_tags_differ (successors rows)
