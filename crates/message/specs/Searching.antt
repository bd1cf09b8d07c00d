-- The search for the next row over a table of open rows, the innermost last.
use Rattle.std.specs.Prelude.{◌≡◌, ℕ, ◌≤◌, cond, ◌&&◌, List, ◌∷◌, ◌++◌, length, take, reverse, IfSome, Some, None, Option, nat_le, nat_lt}
use Rattle.std.specs.Option.{option_map}
use Rattle.message.specs.declared.row.Row.{Row}
use Rattle.message.specs.declared.open.Open.{Open}
use Rattle.message.specs.declared.open.Next.{Next}
use Rattle.message.specs.Walk.{begun, repeated, may_repeat, has_tag, still_open, come_again, lower, lowest}

-- the state that a table is: the last of its rows came last
abbrev pub state_of : List Open → List Open
state_of held = reverse held

-- the state that a next row leads to
abbrev pub leads_to : List Open → Next → List Open
leads_to held n = n.opened ∷ state_of (take n.under held)

-- the next occurrence of an open row, if it may repeat and has the tag
abbrev pub again_if : List ℕ → Open → ℕ → Option Next
again_if tag o under = cond (may_repeat o && has_tag tag o.row) (Some (record { opened = repeated o; under = under })) None

-- the first occurrence of a row, if it can occur and has the tag
abbrev pub first_if : List ℕ → ℕ → Row → ℕ → Option Next
first_if tag j r under = cond (nat_le 1 r.limit && has_tag tag r) (Some (record { opened = begun j r; under = under })) None

-- of two rows that may come next, the one with the lower number, and the first of two with the same
abbrev pub lower_next : Option Next → Option Next → Option Next
lower_next None b = b
lower_next (Some m) None = Some m
lower_next (Some m) (Some n) = cond (nat_lt n.opened.number m.opened.number) (Some n) (Some m)

-- a next row, which stands in rows that are open, leads to the state s; or there is neither
pub record Finds (held : List Open) (found : Option Next) (s : Option (List Open)) : Type 0 where
  pub state : option_map (leads_to held) found ≡ s
  pub within : IfSome found (λ n. n.under ≤ length held)

-- the open rows that end before a row of depth d are ended, and `best'` is the lowest of `best` and of those of them that may come again, in whatever rows they stand
pub record Closes (held : List Open) (d : ℕ) (tag : List ℕ) (best : Option Next) (open' : List Open) (best' : Option Next) : Type 0 where
  pub part : (ended : List Open) × (held ≡ open' ++ ended)
  pub still : state_of open' ≡ still_open d (state_of held)
  pub found : (whole more : List Open) → whole ≡ held ++ more → IfSome best (λ n. n.under ≤ length whole) → Finds whole best' (lower (option_map (leads_to whole) best) (lowest tag (come_again d (state_of held))))

-- what is answered where this row comes next
abbrev pub answer_of : Next → ℕ × ℕ
answer_of n = (n.opened.number, n.opened.occurrence)
