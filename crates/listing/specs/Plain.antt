-- The plain listing of a text: lines of fields with a tab between them.
use Rattle.std.specs.Prelude.{ℕ, ◌+◌, List, [], ◌∷◌, ◌++◌, length, Some, None, codes, decimal, Option}
use Rattle.syntax.specs.declared.fault.CutFault.{CutFault}
use Rattle.syntax.specs.declared.fault.Refusal.{Refusal}
use Rattle.syntax.specs.declared.marks.Marks.{Marks}
use Rattle.syntax.specs.Faults.{refusal_of}
use Rattle.edifact.specs.Segments.{elements, components, others_of}
use Rattle.edifact.specs.Cutting.{Cut, Cutting, cut}

-- a tab and a number
abbrev pub field : ℕ → List ℕ
field n = 9 ∷ decimal n

-- component c of element e, with its bytes as in the text
abbrev pub component_line : (e c : ℕ) → List ℕ → List ℕ
component_line e c bs = (codes "component" ++ (field e ++ (field c ++ 9 ∷ []))) ++ (bs ++ 10 ∷ [])

-- the lines of things that are numbered from n on
abbrev pub lines : {X : Type 0} → (ℕ → X → List ℕ) → (n : ℕ) → List X → List ℕ
lines line n [] = []
lines line n (x ∷ xs) = line n x ++ lines line (n + 1) xs

-- the components of element e, whose bytes are bs
abbrev pub element_lines : Marks → (e : ℕ) → (bs : List ℕ) → List ℕ
element_lines m e bs = lines (component_line e) 1 (components m bs)

abbrev pub segment_line : Cut → List ℕ
segment_line s = (codes "segment" ++ (field s.number ++ 9 ∷ [])) ++ (s.tag ++ (field s.first ++ (field (length s.bytes) ++ 10 ∷ [])))

-- a segment and its components: those of the tag are left out
abbrev pub segment_lines : Cut → List ℕ
segment_lines s = segment_line s ++ lines (element_lines s.marks) 1 (others_of (elements s.marks s.bytes))

-- a refusal by its number and its places
abbrev pub refusal_line : Refusal → List ℕ
refusal_line r = codes "stopped" ++ (field r.number ++ (field r.place.segment ++ (field r.place.element ++ (field r.place.component ++ 10 ∷ []))))

-- the last line: how many segments there are, or why the text isn't cut throughout
abbrev pub last_line : ℕ → Option CutFault → List ℕ
last_line n None = codes "cut" ++ (field n ++ 10 ∷ [])
last_line n (Some f) = refusal_line (refusal_of f)

abbrev pub cut_lines : Cutting → List ℕ
cut_lines c = lines (λ _ s. segment_lines s) 1 c.segments ++ last_line (length c.segments) c.fault

abbrev pub file_line : List ℕ → List ℕ
file_line name = (codes "file" ++ 9 ∷ []) ++ (name ++ 10 ∷ [])

-- the listing of a text under a name
abbrev pub listing : (name text : List ℕ) → List ℕ
listing name text = file_line name ++ cut_lines (cut text)
