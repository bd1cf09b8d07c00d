-- What is shown of a book, by what a form shows of its identifier, rows, elements and components.
use Rattle.std.specs.Prelude.{ℕ, zero, suc, ◌+◌, cond, List, [], ◌∷◌, ◌++◌, length, Some, None, Option, nat_lt}
use Rattle.std.specs.List.{slice_get}
use Rattle.listing.specs.declared.command.Detail.{Detail}
use Rattle.listing.specs.declared.command.Detail.TheVariants.{Rows, Layouts}
use Rattle.message.specs.declared.row.Row.{Row}
use Rattle.message.specs.declared.layout.ElementRule.{ElementRule}
use Rattle.message.specs.declared.layout.ComponentRule.{ComponentRule}
use Rattle.message.specs.Layouts.{Component, Element, Layout, element_head, component_head, element_at, component_at, code_at}

-- what is shown of `count` things, from number n on
abbrev pub numbered : (ℕ → List ℕ) → (n count : ℕ) → List ℕ
numbered shown n zero = []
numbered shown n (suc count) = shown n ++ numbered shown (n + 1) count

-- code k of a component: each but the first stands behind a space
abbrev pub spaced : (k : ℕ) → Option (List ℕ) → List ℕ
spaced k None = []
spaced k (Some code) = cond (nat_lt 0 k) (32 ∷ code) code

-- the first `count` codes of a component
abbrev pub codes_text : List Layout → (n e c count : ℕ) → List ℕ
codes_text ls n e c count = numbered (λ k. spaced k (code_at ls n e c k)) 0 count

abbrev pub component_lines : (ℕ → ℕ → ℕ → ComponentRule → List ℕ) → List Layout → (n e c : ℕ) → Option Component → List ℕ
component_lines shown ls n e c None = []
component_lines shown ls n e c (Some k) = shown n (e + 1) (c + 1) (component_head k) ++ (codes_text ls n e c (length k.codes) ++ 10 ∷ [])

-- the first `count` components of element e
abbrev pub components_text : (ℕ → ℕ → ℕ → ComponentRule → List ℕ) → List Layout → (n e count : ℕ) → List ℕ
components_text shown ls n e count = numbered (λ c. component_lines shown ls n e c (component_at ls n e c)) 0 count

abbrev pub element_lines : (ℕ → ℕ → ElementRule → List ℕ) → (ℕ → ℕ → ℕ → ComponentRule → List ℕ) → List Layout → (n e : ℕ) → Option Element → List ℕ
element_lines element component ls n e None = []
element_lines element component ls n e (Some x) = element n (e + 1) (element_head x) ++ components_text component ls n e (length x.components)

-- the layout of row n: a book's layouts have at most 40 elements
abbrev pub layout_text : (ℕ → ℕ → ElementRule → List ℕ) → (ℕ → ℕ → ℕ → ComponentRule → List ℕ) → List Layout → (n : ℕ) → List ℕ
layout_text element component ls n = numbered (λ e. element_lines element component ls n e (element_at ls n e)) 0 40

abbrev pub row_lines : (ℕ → Row → List ℕ) → (layout : ℕ → List ℕ) → Detail → (n : ℕ) → Option Row → List ℕ
row_lines row layout d n None = []
row_lines row layout Rows n (Some r) = row n r
row_lines row layout Layouts n (Some r) = row n r ++ layout n

-- all rows, and their layouts where these are asked for
abbrev pub rows_text : (ℕ → Row → List ℕ) → (layout : ℕ → List ℕ) → Detail → List Row → List ℕ
rows_text row layout d rows = numbered (λ n. row_lines row layout d n (slice_get rows n)) 0 (length rows)
