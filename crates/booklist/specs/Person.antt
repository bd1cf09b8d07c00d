-- The listing of a book for a person.
use Rattle.std.specs.Prelude.{ℕ, cond, List, [], ◌∷◌, ◌++◌, Some, None, codes, decimal, Option, ◌==◌, nat_lt}
use Rattle.std.proofs.Math.Utf8.{encode}
use Rattle.std.specs.List.{slice_get, repeat}
use Rattle.listing.specs.Person.{aligned}
use Rattle.message.specs.Notation.{class_text, extent_text}
use Rattle.message.specs.declared.row.Kind.{Kind}
use Rattle.message.specs.declared.row.Kind.TheVariants.{Trigger, Plain}
use Rattle.message.specs.declared.row.Need.{Need}
use Rattle.message.specs.declared.row.Need.TheVariants.{Optional, Required}
use Rattle.message.specs.declared.row.Row.{Row}
use Rattle.message.specs.declared.layout.ElementRule.{ElementRule}
use Rattle.message.specs.declared.layout.ComponentRule.{ComponentRule}

-- a part of the identifier, if there is one
abbrev pub part_text : Option (List ℕ) → List ℕ
part_text None = []
part_text (Some cs) = cs

-- the five parts of an identifier, with a colon between them
abbrev pub identifier_text : List (List ℕ) → List ℕ
identifier_text parts =
    part_text (slice_get parts 0) ++ (58 ∷ (part_text (slice_get parts 1) ++ (58 ∷ (part_text (slice_get parts 2) ++ (58 ∷ (part_text (slice_get parts 3) ++ (58 ∷ (part_text (slice_get parts 4) ++ 10 ∷ []))))))))

abbrev pub kind_text : Kind → List ℕ
kind_text Trigger = codes " group"
kind_text Plain = []

abbrev pub need_text : Need → List ℕ
need_text Optional = codes "optional"
need_text Required = codes "required"

-- two spaces for each level
abbrev pub indented : (level : ℕ) → List ℕ
indented level = repeat level (codes "  ")

abbrev pub times_text : (limit : ℕ) → List ℕ
times_text limit = decimal limit ++ (32 ∷ cond (limit == 1) (codes "time") (codes "times"))

-- row n, as the diagram counts rows
abbrev pub row_text : (n : ℕ) → Row → List ℕ
row_text n r =
    (aligned 6 n ++ codes "  ") ++ (indented r.level ++ (r.tag ++ (kind_text r.kind ++ (codes ", " ++ (need_text r.need ++ (codes ", up to " ++ (times_text r.limit ++ 10 ∷ [])))))))

-- an element by its number
abbrev pub element_text : (e : ℕ) → ElementRule → List ℕ
element_text e rule = aligned 12 e ++ (32 ∷ (encode rule.status ++ (cond (nat_lt 1 rule.components) (codes " composite") [] ++ 10 ∷ [])))

-- a component by its numbers, up to its codes
abbrev pub component_text : (e c : ℕ) → ComponentRule → List ℕ
component_text e c rule =
    (aligned 12 e ++ (46 ∷ (decimal c ++ (32 ∷ class_text rule.class)))) ++ (extent_text rule.extent ++ (32 ∷ (encode rule.status ++ cond (nat_lt 0 rule.codes) (codes " one of ") [])))
