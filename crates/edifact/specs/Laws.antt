-- How a text is put together from the parts of its segments, and the laws that tie its cut to that.
use Rattle.std.specs.Prelude.{◌≡◌, ℕ, ◌+◌, Bool, true, false, not, ◌&&◌, ◌||◌, List, [], ◌∷◌, ◌++◌, map, length, Some, None, Option, ◌==◌, ◌≢◌, nat_lt}
use Rattle.syntax.specs.declared.marks.Marks.{Marks}
use Rattle.syntax.specs.Bytes.{allowed, line_break}
use Rattle.syntax.specs.Marks.{lawful, has_header, header_length, marks_of, body}
use Rattle.syntax.specs.Split.{releases, join, characters}
use Rattle.edifact.specs.Segments.{tag_in, parts_of}
use Rattle.edifact.specs.Cutting.{Cut, cut}

-- whether b is a mark that ends a component
abbrev pub separates : Marks → ℕ → Bool
separates m b = b == m.component || b == m.element || b == m.terminator

-- bytes that a text can have as one component: allowed ones, with such marks protected, and no release mark at the end
abbrev pub is_whole : Marks → (protected : Bool) → List ℕ → Bool
is_whole m protected [] = not protected
is_whole m protected (b ∷ bs) = allowed b && (protected || not (separates m b)) && is_whole m (releases m.release protected b) bs

-- one or more such components
abbrev pub are_whole : Marks → List (List ℕ) → Bool
are_whole m [] = true
are_whole m (c ∷ cs) = is_whole m false c && are_whole m cs

abbrev pub have_whole : Marks → List (List (List ℕ)) → Bool
have_whole m [] = true
have_whole m (e ∷ es) = nat_lt 0 (length e) && are_whole m e && have_whole m es

-- the tag that element 0 gives: it has one component
abbrev pub tag_among : Marks → List (List (List ℕ)) → Option (List ℕ)
tag_among m [] = None
tag_among m ([] ∷ es) = None
tag_among m ((c ∷ []) ∷ es) = tag_in (characters m.release false c)
tag_among m ((c ∷ d ∷ cs) ∷ es) = None

abbrev pub are_breaks : List ℕ → Bool
are_breaks [] = true
are_breaks (b ∷ bs) = line_break b && are_breaks bs

-- a segment by its parts: elements of components, its tag, and the CR and LF behind its terminator
pub record Written : Type 0 where
  pub elements : List (List (List ℕ))
  pub tag : List ℕ
  pub breaks : List ℕ

-- parts that a segment can have
pub record IsWritten (m : Marks) (w : Written) : Type 0 where
  pub whole : have_whole m w.elements ≡ true
  pub tagged : tag_among m w.elements ≡ Some w.tag
  pub broken : are_breaks w.breaks ≡ true

abbrev pub AreWritten : Marks → List Written → Type 0
AreWritten m [] = Unit {0}
AreWritten m (w ∷ ws) = IsWritten m w × AreWritten m ws

-- a segment's parts, joined by the marks
abbrev pub segment_bytes : Marks → List (List (List ℕ)) → List ℕ
segment_bytes m es = join m.element (map (join m.component) es)

-- segments one behind the other, each with its terminator
abbrev pub joined : Marks → List Written → List ℕ
joined m [] = []
joined m (w ∷ ws) = segment_bytes m w.elements ++ m.terminator ∷ (w.breaks ++ joined m ws)

-- the cut segments that these are, the first being segment k and beginning at `at`
abbrev pub cuts_of : Marks → (k at : ℕ) → List Written → List Cut
cuts_of m k at [] = []
cuts_of m k at (w ∷ ws) =
    record { marks = m; number = k; first = at; bytes = segment_bytes m w.elements; tag = w.tag }
    ∷ cuts_of m (k + 1) (at + (length (segment_bytes m w.elements) + 1 + length w.breaks)) ws

-- the text is its header, CR and LF behind that, and the segments ws joined
pub record Composed (text : List ℕ) (m : Marks) (leading : List ℕ) (ws : List Written) : Type 0 where
  pub marked : marks_of text ≡ Some m
  pub broken : are_breaks leading ≡ true
  pub headed : has_header text ≡ false → leading ≡ []
  pub joins : body text ≡ leading ++ joined m ws
  pub written : AreWritten m ws

-- the cut of a text that is put together so
abbrev pub cuts_as : List ℕ → Marks → List ℕ → List Written → List Cut
cuts_as text m leading ws = cuts_of m 1 (header_length text + length leading) ws

-- joining the parts of a text that cuts throughout gives its bytes back, but for the skipped CR and LF
abbrev pub JoinsBack : List ℕ → Type 0
JoinsBack text =
    (cut text).fault ≡ None →
    (m : Marks) × (leading : List ℕ) × (ws : List Written) × (Composed text m leading ws × ((cut text).segments ≡ cuts_as text m leading ws))

-- the cut is the only one that does: whatever parts a text is put together from, it is cut into these
abbrev pub OnlyCut : List ℕ → Type 0
OnlyCut text =
    (m : Marks) (leading : List ℕ) (ws : List Written) → Composed text m leading ws →
    (cut text ≡ record { segments = cuts_as text m leading ws; fault = None })
    × (map (λ s. parts_of s.marks s.bytes) (cut text).segments ≡ map (λ w. w.elements) ws)

-- what is true of every segment that is cut: its parts join to its bytes, each component is whole, and element 0 gives its tag
pub record IsCut (s : Cut) : Type 0 where
  pub marked : lawful s.marks ≡ true
  pub joins : segment_bytes s.marks (parts_of s.marks s.bytes) ≡ s.bytes
  pub whole : have_whole s.marks (parts_of s.marks s.bytes) ≡ true
  pub tagged : tag_among s.marks (parts_of s.marks s.bytes) ≡ Some s.tag

-- bytes and the characters they spell: a release mark and the byte behind it are that byte, any other byte is itself
pub data Spells (release : ℕ) : List ℕ → List ℕ → Type 0 where
  none : Spells release [] []
  plain : (b : ℕ) (bs cs : List ℕ) → (b ≢ release) → Spells release bs cs → Spells release (b ∷ bs) (b ∷ cs)
  protected : (b : ℕ) (bs cs : List ℕ) → Spells release bs cs → Spells release (release ∷ b ∷ bs) (b ∷ cs)

-- the characters of a whole component are what it spells, and nothing else is
pub record CharactersSpelled (m : Marks) (bs : List ℕ) : Type 0 where
  pub spelled : is_whole m false bs ≡ true → Spells m.release bs (characters m.release false bs)
  pub alone : (cs : List ℕ) → Spells m.release bs cs → characters m.release false bs ≡ cs
