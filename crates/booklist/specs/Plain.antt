-- The plain listing of a book: lines of fields with a tab between them.
use Rattle.std.specs.Prelude.{ℕ, List, [], ◌∷◌, ◌++◌, Some, None, codes, Option}
use Rattle.std.proofs.Math.Utf8.{encode}
use Rattle.std.specs.List.{slice_get}
use Rattle.listing.specs.Plain.{field}
use Rattle.message.specs.declared.row.Kind.{Kind}
use Rattle.message.specs.declared.row.Kind.TheVariants.{Trigger, Plain}
use Rattle.message.specs.declared.row.Need.{Need}
use Rattle.message.specs.declared.row.Need.TheVariants.{Optional, Required}
use Rattle.message.specs.declared.row.Row.{Row}
use Rattle.message.specs.Notation.{class_text}
use Rattle.message.specs.declared.layout.Extent.{Extent}
use Rattle.message.specs.declared.layout.Extent.TheVariants.{Exactly, AtMost}
use Rattle.message.specs.declared.layout.ElementRule.{ElementRule}
use Rattle.message.specs.declared.layout.ComponentRule.{ComponentRule}

-- t or p
abbrev pub kind_letter : Kind → ℕ
kind_letter Trigger = 116
kind_letter Plain = 112

-- O or R
abbrev pub need_letter : Need → ℕ
need_letter Optional = 79
need_letter Required = 82

abbrev pub extent_mark : Extent → List ℕ
extent_mark (Exactly n) = codes "="
extent_mark (AtMost n) = codes ".."

abbrev pub extent_length : Extent → ℕ
extent_length (Exactly n) = n
extent_length (AtMost n) = n

-- a tab and a text
abbrev pub text_field : List ℕ → List ℕ
text_field cs = 9 ∷ cs

-- a part of the identifier, if there is one
abbrev pub part_field : Option (List ℕ) → List ℕ
part_field None = []
part_field (Some cs) = text_field cs

-- the five parts of an identifier
abbrev pub identifier_line : List (List ℕ) → List ℕ
identifier_line parts = codes "identifier" ++ (part_field (slice_get parts 0) ++ (part_field (slice_get parts 1) ++ (part_field (slice_get parts 2) ++ (part_field (slice_get parts 3) ++ (part_field (slice_get parts 4) ++ 10 ∷ [])))))

-- row n, as the diagram counts rows
abbrev pub row_line : (n : ℕ) → Row → List ℕ
row_line n r = (codes "row" ++ (field n ++ 9 ∷ [])) ++ (r.tag ++ (field r.level ++ (text_field (encode (kind_letter r.kind)) ++ (text_field (encode (need_letter r.need)) ++ (field r.limit ++ 10 ∷ [])))))

-- element e of row n, with the numbers as the line has them
abbrev pub element_fields : (n e : ℕ) → ElementRule → List ℕ
element_fields n e rule = codes "element" ++ (field n ++ (field e ++ (text_field (encode rule.status) ++ 10 ∷ [])))

-- component c of element e, up to its codes, with the numbers as the line has them
abbrev pub component_texts : (n e c : ℕ) → ComponentRule → List ℕ
component_texts n e c rule = (codes "component" ++ (field n ++ (field e ++ (field c ++ 9 ∷ [])))) ++ (class_text rule.class ++ (text_field (extent_mark rule.extent) ++ (field (extent_length rule.extent) ++ (text_field (encode rule.status) ++ 9 ∷ []))))
