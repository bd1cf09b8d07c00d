-- The listing of a text for a person.
use Rattle.std.specs.Prelude.{ℕ, ◌^◌, ◌-◌, false, List, [], ◌∷◌, ◌++◌, length, Some, None, codes, decimal, Option}
use Rattle.std.specs.Fmt.{format_spec, styled_decimal}
use Rattle.std.specs.List.{join_by}
use Rattle.syntax.specs.declared.fault.CutFault.{CutFault}
use Rattle.syntax.specs.Faults.{fault_words}
use Rattle.syntax.specs.declared.marks.Marks.{Marks}
use Rattle.syntax.specs.Split.{characters}
use Rattle.edifact.specs.Segments.{elements, components, others_of}
use Rattle.edifact.specs.Cutting.{Cut, cut}
use Rattle.listing.specs.Plain.{lines}

-- a number at the end of so many places
abbrev pub aligned : (places n : ℕ) → List ℕ
aligned places n = styled_decimal (format_spec 32 3 0 places (2 ^ 64 - 1)) n

-- the characters of the components of an element, whose bytes are bs, with a bar between them
abbrev pub element_text : Marks → (bs : List ℕ) → List ℕ
element_text m bs = join_by (characters m.release false) (codes " | ") (components m bs)

abbrev pub element_line : Marks → (e : ℕ) → (bs : List ℕ) → List ℕ
element_line m e bs = (aligned 12 e ++ codes "  ") ++ (element_text m bs ++ 10 ∷ [])

abbrev pub head_text : Cut → List ℕ
head_text s = (aligned 6 s.number ++ codes "  ") ++ (s.tag ++ 10 ∷ [])

-- a segment: its number and its tag, then its elements but for the tag
abbrev pub segment_text : Cut → List ℕ
segment_text s = head_text s ++ lines (element_line s.marks) 1 (others_of (elements s.marks s.bytes))

-- the last line: how many segments there are, or why the text isn't cut throughout
abbrev pub end_text : ℕ → Option CutFault → List ℕ
end_text n None = codes "cut throughout, segments: " ++ (decimal n ++ 10 ∷ [])
end_text n (Some f) = codes "stopped at " ++ (fault_words f ++ 10 ∷ [])

abbrev pub name_text : List ℕ → List ℕ
name_text name = name ++ 10 ∷ []

-- the listing of a text under a name
abbrev pub person_listing : (name text : List ℕ) → List ℕ
person_listing name text = name_text name ++ (lines (λ _ s. segment_text s) 1 (cut text).segments ++ end_text (length (cut text).segments) (cut text).fault)
