-- The row rules as one test that is computed over all rows of a diagram.
use Rattle.std.specs.Prelude.{ℕ, suc, ◌+◌, ◌-◌, Bool, true, false, not, ◌&&◌, ◌||◌, List, [], ◌∷◌, length, codes, ◌==◌, nat_le}
use Rattle.std.specs.Str.{bytes_eq}
use Rattle.syntax.specs.Bytes.{capital}
use Rattle.message.specs.declared.row.Kind.{Kind}
use Rattle.message.specs.declared.row.Kind.TheVariants.{Trigger, Plain}
use Rattle.message.specs.declared.row.Need.{Need}
use Rattle.message.specs.declared.row.Need.TheVariants.{Optional, Required}
use Rattle.message.specs.declared.row.Row.{Row}
use Rattle.message.specs.Layouts.{all}
use Rattle.message.specs.Rows.{row_at}

abbrev pub is_plain : Kind → Bool
is_plain Trigger = false
is_plain Plain = true

abbrev pub is_required : Need → Bool
is_required Optional = false
is_required Required = true

-- where b holds, c has to hold
abbrev pub implies : Bool → Bool → Bool
implies b c = not b || c

abbrev pub tag_test : List ℕ → Bool
tag_test tag = length tag == 3 && all capital tag

-- the next row's level rises by one at most, and only to a trigger
abbrev pub rises_test : Row → List Row → Bool
rises_test r [] = true
rises_test r (s ∷ ss) = nat_le s.level r.level || (s.level == suc r.level && not (is_plain s.kind))

-- row j of n rows, with the rows behind it
abbrev pub row_test : (n j : ℕ) → Row → List Row → Bool
row_test n j r rs =
    (tag_test r.tag && (implies (bytes_eq r.tag (codes "UNH")) (j == 0)
    && (implies (bytes_eq r.tag (codes "UNT")) (j == n - 1) && not (bytes_eq r.tag (codes "UNA")))))
    && ((nat_le r.level 7 && implies (r.level == 0) (is_plain r.kind))
    && (rises_test r rs && (nat_le r.limit 9999999 && implies (r.limit == 0) (not (is_required r.need)))))

abbrev pub each_row : (n j : ℕ) → List Row → Bool
each_row n j [] = true
each_row n j (r ∷ rs) = row_test n j r rs && each_row n (j + 1) rs

abbrev pub service_test : List ℕ → Row → Bool
service_test tag r = bytes_eq r.tag tag && (is_plain r.kind && (r.level == 0 && (is_required r.need && r.limit == 1)))

abbrev pub rows_test : List Row → Bool
rows_test rows =
    (nat_le 2 (length rows) && nat_le (length rows) 512)
    && (service_test (codes "UNH") (row_at rows 0) && (service_test (codes "UNT") (row_at rows (length rows - 1)) && each_row (length rows) 0 rows))
