-- Layouts: what a book says of the elements and components of a row's segment, and the rules it keeps.
use Rattle.std.specs.Prelude.{ℕ, suc, Bool, true, false, cond, ◌&&◌, ◌||◌, List, [], ◌∷◌, length, is_some, Some, None, Option, ◌==◌, nat_le}
use Rattle.std.specs.List.{slice_get}
use Rattle.syntax.specs.declared.marks.DecimalMark.{DecimalMark}
use Rattle.syntax.specs.declared.marks.DecimalMark.TheVariants.{Point}
use Rattle.syntax.specs.Bytes.{capital, small, digit}
use Rattle.syntax.specs.Marks.{decimal_byte}
use Rattle.message.specs.declared.layout.Class.{Class}
use Rattle.message.specs.declared.layout.Class.TheVariants.{Alphabetic, Numeric, Alphanumeric}
use Rattle.message.specs.declared.layout.Extent.{Extent}
use Rattle.message.specs.declared.layout.Extent.TheVariants.{Exactly, AtMost}
use Rattle.message.specs.declared.layout.Status.{Status}
use Rattle.message.specs.declared.layout.Status.TheVariants.{Required, Unused, Optional}
use Rattle.message.specs.declared.layout.ElementRule.{ElementRule}
use Rattle.message.specs.declared.layout.ComponentRule.{ComponentRule}

-- M and R mean required, N unused, A, O, D and C optional
abbrev pub status_of : ℕ → Option Status
status_of letter =
    cond (letter == 77 || letter == 82) (Some Required)
    (cond (letter == 78) (Some Unused)
    (cond (letter == 65 || letter == 79 || letter == 68 || letter == 67) (Some Optional) None))

-- the rule of a component: its codes are none where any value will do
pub record Component : Type 0 where
  pub class : Class
  pub extent : Extent
  pub status : ℕ
  pub codes : List (List ℕ)

pub record Element : Type 0 where
  pub status : ℕ
  pub components : List Component

abbrev pub Layout : Type 0
Layout = List Element

abbrev pub all : {X : Type 0} → (X → Bool) → List X → Bool
all p [] = true
all p (x ∷ xs) = p x && all p xs

-- Classes and lengths

abbrev pub letter_or_space : ℕ → Bool
letter_or_space c = capital c || small c || c == 32

-- one or more digits; after: a digit stands before them
abbrev pub digits : (after : Bool) → List ℕ → Bool
digits after [] = after
digits after (c ∷ cs) = digit c && digits true cs

-- one or more digits with at most one decimal mark, between digits
abbrev pub unsigned : DecimalMark → (after : Bool) → List ℕ → Bool
unsigned d after [] = after
unsigned d after (c ∷ cs) = cond (digit c) (unsigned d true cs) (after && c == decimal_byte d && digits false cs)

-- one optional minus before that
abbrev pub number : DecimalMark → List ℕ → Bool
number d [] = false
number d (c ∷ cs) = cond (c == 45) (unsigned d false cs) (unsigned d false (c ∷ cs))

-- the characters are of the class; every character of a cut text is alphanumeric
abbrev pub of_class : Class → DecimalMark → List ℕ → Bool
of_class Alphabetic d cs = all letter_or_space cs
of_class Numeric d cs = number d cs
of_class Alphanumeric d cs = true

abbrev pub digit_count : List ℕ → ℕ
digit_count [] = 0
digit_count (c ∷ cs) = cond (digit c) (suc (digit_count cs)) (digit_count cs)

-- the length counts characters, of a number the digits only
abbrev pub size : Class → List ℕ → ℕ
size Alphabetic cs = length cs
size Numeric cs = digit_count cs
size Alphanumeric cs = length cs

abbrev pub within : Extent → ℕ → Bool
within (Exactly n) k = k == n
within (AtMost n) k = nat_le k n

-- The layout rules

abbrev pub letter_or_digit : ℕ → Bool
letter_or_digit c = capital c || small c || digit c

-- 1 to most letters and digits
abbrev pub short_word : (most : ℕ) → List ℕ → Bool
short_word most cs = nat_le 1 (length cs) && nat_le (length cs) most && all letter_or_digit cs

-- a code fits its component's class and length; letters and digits do so under either decimal mark alike
abbrev pub code_rule : Component → List ℕ → Bool
code_rule r code = short_word 17 code && of_class r.class Point code && within r.extent (size r.class code)

abbrev pub extent_rule : Extent → Bool
extent_rule (Exactly n) = nat_le 1 n && nat_le n 999
extent_rule (AtMost n) = nat_le 1 n && nat_le n 999

abbrev pub component_rule : Component → Bool
component_rule r = extent_rule r.extent && is_some (status_of r.status) && nat_le (length r.codes) 255 && all (code_rule r) r.codes

abbrev pub is_unused : Option Status → Bool
is_unused None = false
is_unused (Some Required) = false
is_unused (Some Unused) = true
is_unused (Some Optional) = false

abbrev pub some_used : List Component → Bool
some_used [] = false
some_used (r ∷ rs) = cond (is_unused (status_of r.status)) (some_used rs) true

-- a required element has a component that isn't unused
abbrev pub fillable : Option Status → List Component → Bool
fillable None rs = false
fillable (Some Required) rs = some_used rs
fillable (Some Unused) rs = true
fillable (Some Optional) rs = true

abbrev pub element_rule : Element → Bool
element_rule e = nat_le 1 (length e.components) && nat_le (length e.components) 40 && all component_rule e.components && fillable (status_of e.status) e.components

abbrev pub layout_rule : Layout → Bool
layout_rule l = nat_le (length l) 40 && all element_rule l

-- the five parts of a book's identifier
abbrev pub identifier_rule : List (List ℕ) → Bool
identifier_rule parts = length parts == 5 && all (short_word 6) parts

-- What a book tells by number: rows, elements, components and codes count from 0 here.

abbrev pub element_head : Element → ElementRule
element_head e = record { status = e.status; components = length e.components }

abbrev pub component_head : Component → ComponentRule
component_head c = record { class = c.class; extent = c.extent; status = c.status; codes = length c.codes }

abbrev pub element_in : Option Layout → ℕ → Option Element
element_in None e = None
element_in (Some l) e = slice_get l e

abbrev pub component_in : Option Element → ℕ → Option Component
component_in None c = None
component_in (Some e) c = slice_get e.components c

abbrev pub code_in : Option Component → ℕ → Option (List ℕ)
code_in None k = None
code_in (Some c) k = slice_get c.codes k

abbrev pub element_at : List Layout → (row e : ℕ) → Option Element
element_at ls row e = element_in (slice_get ls row) e

abbrev pub component_at : List Layout → (row e c : ℕ) → Option Component
component_at ls row e c = component_in (element_at ls row e) c

abbrev pub code_at : List Layout → (row e c k : ℕ) → Option (List ℕ)
code_at ls row e c k = code_in (component_at ls row e c) k
