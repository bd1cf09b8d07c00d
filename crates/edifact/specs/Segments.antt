-- One segment: its elements and components, its tag, and why it may be ill-cut.
use Rattle.std.specs.Prelude.{ℕ, ◌-◌, Bool, false, cond, not, ◌&&◌, List, [], ◌∷◌, map, length, take, Some, None, Ok, Err, Option, Result, ◌==◌, nat_lt}
use Rattle.std.specs.List.{slice_get}
use Rattle.syntax.specs.declared.fault.CutFault.{CutFault}
use Rattle.syntax.specs.declared.fault.CutFault.TheVariants.{ForbiddenByte, UnendedSegment, BadTag}
use Rattle.syntax.specs.declared.fault.Place.{Place}
use Rattle.syntax.specs.declared.marks.Marks.{Marks}
use Rattle.syntax.specs.Bytes.{capital, allowed_run}
use Rattle.syntax.specs.Split.{split, characters}

-- the elements of a segment's bytes
abbrev pub elements : Marks → List ℕ → List (List ℕ)
elements m bs = split m.release m.element false bs

-- the components of an element's bytes
abbrev pub components : Marks → List ℕ → List (List ℕ)
components m bs = split m.release m.component false bs

abbrev pub first_of : List (List ℕ) → List ℕ
first_of [] = []
first_of (p ∷ ps) = p

abbrev pub others_of : List (List ℕ) → List (List ℕ)
others_of [] = []
others_of (p ∷ ps) = ps

abbrev pub last_of : List (List ℕ) → List ℕ
last_of [] = []
last_of (p ∷ []) = p
last_of (p ∷ q ∷ ps) = last_of (q ∷ ps)

-- where segment k is behind the bytes bs of it: elements count from 0, which is the tag, and components from 1
abbrev pub place_behind : Marks → ℕ → List ℕ → Place
place_behind m k bs = record { segment = k; element = length (elements m bs) - 1; component = length (components m (last_of (elements m bs))) }

-- three letters A to Z, not UNA
abbrev pub is_tag : ℕ → ℕ → ℕ → Bool
is_tag a b c = capital a && capital b && capital c && not (a == 85 && b == 78 && c == 65)

abbrev pub tag_in : List ℕ → Option (List ℕ)
tag_in [] = None
tag_in (a ∷ []) = None
tag_in (a ∷ b ∷ []) = None
tag_in (a ∷ b ∷ c ∷ []) = cond (is_tag a b c) (Some (a ∷ b ∷ c ∷ [])) None
tag_in (a ∷ b ∷ c ∷ d ∷ ds) = None

-- the tag of a segment: the characters of element 0, which has one component
abbrev pub tag_of : Marks → List ℕ → Option (List ℕ)
tag_of m bs =
    let element : List ℕ = first_of (elements m bs) in
    cond (length (components m element) == 1) (tag_in (characters m.release false element)) None

-- whether a segment's bytes hold one that isn't allowed
abbrev pub holds_forbidden : List ℕ → Bool
holds_forbidden bs = nat_lt (allowed_run bs) (length bs)

abbrev pub tagged : ℕ → Option (List ℕ) → Result (List ℕ) CutFault
tagged k None = Err (BadTag k)
tagged k (Some t) = Ok t

-- the tag of segment k, whose bytes are bs, or why it is ill-cut: the first forbidden byte, else that no terminator ends it, else its tag
abbrev pub judged : Marks → ℕ → (ended : Bool) → List ℕ → Result (List ℕ) CutFault
judged m k ended bs =
    cond (holds_forbidden bs) (Err (ForbiddenByte (place_behind m k (take (allowed_run bs) bs))))
    (cond ended (tagged k (tag_of m bs)) (Err (UnendedSegment (place_behind m k bs))))

abbrev pub component_in : Marks → ℕ → Option (List ℕ) → Option (List ℕ)
component_in m c None = None
component_in m c (Some element) = cond (c == 0) None (slice_get (components m element) (c - 1))

-- component c, from 1, of element e, from 0, of a segment's bytes
abbrev pub component_at : Marks → List ℕ → (e c : ℕ) → Option (List ℕ)
component_at m bs e c = component_in m c (slice_get (elements m bs) e)

-- all elements of a segment's bytes, each with its components
abbrev pub parts_of : Marks → List ℕ → List (List (List ℕ))
parts_of m bs = map (components m) (elements m bs)
