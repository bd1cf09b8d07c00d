-- Each layout, header and trailer under the rules has a segment without fault.
use Rattle.std.proofs.Common.{◌≡◌, ℕ, zero, suc, ◌+◌, ◌-◌, ◌*◌, ◌/◌, ◌%◌, ◌<◌, ◌≤◌, Bool, true, false, cond, ◌&&◌, eqb, leb, List, [], ◌∷◌, map, length, replicate, is_some, Some, None, Option, refl, ap, ◌∙◌, arith}
use Rattle.std.proofs.lemmas.Slice.Eq.{bytes_eq-Decides}
use Rattle.std.proofs.lemmas.Bool.{and_parts, and_from, leb-true, le-leb, eqb-true, eq-eqb, cond-true, true≢false, false≢true}
use Rattle.std.proofs.lemmas.Bool.Decides.{nat_tests}
use Rattle.std.proofs.lemmas.List.{length-replicate}
use Rattle.std.specs.Str.{bytes_eq}
use Rattle.syntax.specs.declared.marks.DecimalMark.{DecimalMark}
use Rattle.syntax.specs.declared.marks.DecimalMark.TheVariants.{Point, Comma}
use Rattle.syntax.specs.Bytes.{digit}
use Rattle.syntax.specs.Marks.{decimal_byte}
use Rattle.message.specs.declared.layout.Class.{Class}
use Rattle.message.specs.declared.layout.Class.TheVariants.{Alphabetic, Numeric, Alphanumeric}
use Rattle.message.specs.declared.layout.Extent.{Extent}
use Rattle.message.specs.declared.layout.Extent.TheVariants.{Exactly, AtMost}
use Rattle.message.specs.declared.layout.Status.{Status}
use Rattle.message.specs.declared.layout.Status.TheVariants.{Required, Unused, Optional}
use Rattle.message.specs.declared.layout.Spot.{Spot}
use Rattle.message.specs.declared.layout.SegmentFault.{SegmentFault}
use Rattle.message.specs.Layouts.{Component, Element, Layout, all, status_of, letter_or_space, digits, unsigned, of_class, digit_count, size, within, letter_or_digit, short_word, code_rule, extent_rule, component_rule, is_unused, some_used, fillable, element_rule}
use Rattle.message.specs.Judging.{spot, or_else, among, listed, value_fault, component_fault, components_fault, first_filled, whole_fault, elements_fault, wrong_component, before, value_of, is_count, as_header_fault, as_trailer_fault}
use Rattle.message.specs.Fillable.{LayoutsFillable, HeadersFillable, TrailersFillable}

-- Where a component has no codes it is filled with one character, as many times as its extent asks.

abbrev filler : Class → ℕ → List ℕ
filler Alphabetic n = replicate n 65
filler Numeric n = replicate n 49
filler Alphanumeric n = replicate n 65

abbrev how_many : Extent → ℕ
how_many (Exactly n) = n
how_many (AtMost n) = 1

all-replicate : (p : ℕ → Bool) (n c : ℕ) → p c ≡ true → all p (replicate n c) ≡ true
all-replicate p zero c h = refl
all-replicate p (suc n) c h = and_from (p c) (all p (replicate n c)) h (all-replicate p n c h)

digit_count-replicate : (n : ℕ) → digit_count (replicate n 49) ≡ n
digit_count-replicate zero = refl
digit_count-replicate (suc n) = ap suc (digit_count-replicate n)

unsigned-replicate : (d : DecimalMark) (n : ℕ) → unsigned d true (replicate n 49) ≡ true
unsigned-replicate d zero = refl
unsigned-replicate d (suc n) = unsigned-replicate d n

filler-class : (c : Class) (d : DecimalMark) (n : ℕ) → 1 ≤ n → of_class c d (filler c n) ≡ true
filler-class Alphabetic d n h = all-replicate letter_or_space n 65 refl
filler-class Numeric d zero h = absurd (omega arith)
filler-class Numeric d (suc n) h = unsigned-replicate d n
filler-class Alphanumeric d n h = refl

filler-size : (c : Class) (n : ℕ) → size c (filler c n) ≡ n
filler-size Alphabetic n = length-replicate n 65
filler-size Numeric n = digit_count-replicate n
filler-size Alphanumeric n = length-replicate n 65

filler-length : (c : Class) (n : ℕ) → length (filler c n) ≡ n
filler-length Alphabetic n = length-replicate n 65
filler-length Numeric n = length-replicate n 49
filler-length Alphanumeric n = length-replicate n 65

filler-plain : (c : Class) (n : ℕ) → all letter_or_digit (filler c n) ≡ true
filler-plain Alphabetic n = all-replicate letter_or_digit n 65 refl
filler-plain Numeric n = all-replicate letter_or_digit n 49 refl
filler-plain Alphanumeric n = all-replicate letter_or_digit n 65 refl

extent_met : (x : Extent) → extent_rule x ≡ true → (within x (how_many x) ≡ true) × (1 ≤ how_many x)
extent_met (Exactly n) h = (eq-eqb n n refl, leb-true 1 n (and_parts (leb 1 n) (leb n 999) h).0)
extent_met (AtMost n) h = ((and_parts (leb 1 n) (leb n 999) h).0, omega arith)

-- Letters and digits are no decimal mark, so a code is of its class under either.

unsigned_either : (d : DecimalMark) (after : Bool) (cs : List ℕ) → all letter_or_digit cs ≡ true → unsigned d after cs ≡ unsigned Point after cs
unsigned_either d after [] h = refl
unsigned_either d after (c ∷ cs) h =
    let p = and_parts (letter_or_digit c) (all letter_or_digit cs) h in
    ap (λ t. cond (digit c) (unsigned d true cs) (after && t && digits false cs)) (no_mark_lem d c p.0)
    ∙ ap (λ t. cond (digit c) t (after && eqb c 46 && digits false cs)) (unsigned_either d true cs p.1)
  where
    no_mark_lem : (d : DecimalMark) (c : ℕ) → letter_or_digit c ≡ true → eqb c (decimal_byte d) ≡ eqb c 46
    no_mark_lem Point c h = refl
    no_mark_lem Comma c h = grind (arith, nat_tests)

class_either : (k : Class) (d : DecimalMark) (cs : List ℕ) → all letter_or_digit cs ≡ true → of_class k d cs ≡ of_class k Point cs
class_either Alphabetic d cs h = refl
class_either Numeric d [] h = refl
class_either Numeric d (c ∷ cs) h =
    ap (λ t. cond (eqb c 45) t (unsigned d false (c ∷ cs))) (unsigned_either d false cs (and_parts (letter_or_digit c) (all letter_or_digit cs) h).1)
    ∙ ap (λ t. cond (eqb c 45) (unsigned Point false cs) t) (unsigned_either d false (c ∷ cs) h)
class_either Alphanumeric d cs h = refl

same : (cs : List ℕ) → bytes_eq cs cs ≡ true
same cs = (bytes_eq-Decides cs cs).1 refl

-- What a component can be filled with.

record Filling (r : Component) (d : DecimalMark) (cs : List ℕ) : Type 0 where
  filled : 1 ≤ length cs
  plain : all letter_or_digit cs ≡ true
  fits : (at : Spot) → value_fault r d at cs ≡ None

value_fits : (r : Component) (d : DecimalMark) (cs : List ℕ) → of_class r.class d cs ≡ true → within r.extent (size r.class cs) ≡ true → listed r.codes cs ≡ true → (at : Spot) → value_fault r d at cs ≡ None
value_fits r d cs p q l at = simp (p, q, l)

filling : (r : Component) (d : DecimalMark) → component_rule r ≡ true → (cs : List ℕ) × Filling r d cs
filling r d h =
    let p = and_parts (extent_rule r.extent && is_some (status_of r.status) && leb (length r.codes) 255) (all (code_rule r) r.codes) h in
    let q = and_parts (extent_rule r.extent && is_some (status_of r.status)) (leb (length r.codes) 255) p.0 in
    by r.codes refl (extent_met r.extent (and_parts (extent_rule r.extent) (is_some (status_of r.status)) q.0).0) p.1
  where
    by : (codes : List (List ℕ)) → r.codes ≡ codes → (within r.extent (how_many r.extent) ≡ true) × (1 ≤ how_many r.extent) → all (code_rule r) codes ≡ true → (cs : List ℕ) × Filling r d cs
    by [] e x g =
        let n = how_many r.extent in
        let cs = filler r.class n in (
          cs,
          record {
            filled = omega (arith, filler-length r.class n, x.1);
            plain = filler-plain r.class n;
            fits = value_fits r d cs (filler-class r.class d n x.1) (ap (within r.extent) (filler-size r.class n) ∙ x.0) (ap (λ t. listed t cs) e);
          },
        )
    by (code ∷ codes) e x g =
        let p = (and_parts (code_rule r code) (all (code_rule r) codes) g).0 in
        let q = and_parts (short_word 17 code && of_class r.class Point code) (within r.extent (size r.class code)) p in
        let w = and_parts (short_word 17 code) (of_class r.class Point code) q.0 in
        let s = and_parts (leb 1 (length code) && leb (length code) 17) (all letter_or_digit code) w.0 in (
          code,
          record {
            filled = leb-true 1 (length code) (and_parts (leb 1 (length code)) (leb (length code) 17) s.0).0;
            plain = s.1;
            fits = value_fits r d code (class_either r.class d code s.1 ∙ w.1) q.1 (ap (λ t. listed t code) e ∙ cond-true (bytes_eq code code) true (among codes code) (same code));
          },
        )

-- an unused component stays empty
record Part (s : Option Status) (r : Component) (d : DecimalMark) : Type 0 where
  text : List ℕ
  fits : (at : Spot) → component_fault s r d at text ≡ None
  plain : all letter_or_digit text ≡ true
  filled : is_unused s ≡ false → 1 ≤ length text

part : (s : Option Status) (r : Component) (d : DecimalMark) (cs : List ℕ) → Filling r d cs → Part s r d
part None r d cs f = record { text = cs; fits = λ at. refl; plain = f.plain; filled = λ _. f.filled }
part (Some Unused) r d cs f = record { text = []; fits = λ at. refl; plain = refl; filled = λ e. absurd (true≢false e) }
part (Some Required) r d [] f = absurd (omega (arith, f.filled))
part (Some Required) r d (c ∷ cs) f = record { text = c ∷ cs; fits = f.fits; plain = f.plain; filled = λ _. f.filled }
part (Some Optional) r d [] f = absurd (omega (arith, f.filled))
part (Some Optional) r d (c ∷ cs) f = record { text = c ∷ cs; fits = f.fits; plain = f.plain; filled = λ _. f.filled }

-- the components of element e from c on
record Parts (d : DecimalMark) (e c : ℕ) (rs : List Component) : Type 0 where
  texts : List (List ℕ)
  fits : components_fault true d e c rs texts ≡ None
  many : length texts ≡ length rs
  plain : all (all letter_or_digit) texts ≡ true
  found : some_used rs ≡ true → is_some (first_filled c texts) ≡ true

parts_of_lem : (d : DecimalMark) (e c : ℕ) (rs : List Component) → all component_rule rs ≡ true → Parts d e c rs
parts_of_lem d e c [] h = record { texts = []; fits = refl; many = refl; plain = refl; found = λ u. absurd (false≢true u) }
parts_of_lem d e c (r ∷ rs) h =
    let p = and_parts (component_rule r) (all component_rule rs) h in
    let f = filling r d p.0 in
    let x = part (status_of r.status) r d f.0 f.1 in
    let xs = parts_of_lem d e (c + 1) rs p.1 in
    record {
      texts = x.text ∷ xs.texts;
      fits = ap (λ t. or_else t (components_fault true d e (c + 1) rs xs.texts)) (x.fits (spot e c)) ∙ xs.fits;
      many = ap suc xs.many;
      plain = and_from (all letter_or_digit x.text) (all (all letter_or_digit) xs.texts) x.plain xs.plain;
      found = some-found x.text xs.texts (is_unused (status_of r.status)) (some_used rs) x.filled xs.found;
    }
  where
    some-found : (x : List ℕ) (xs : List (List ℕ)) (unused used : Bool) → (unused ≡ false → 1 ≤ length x) → (used ≡ true → is_some (first_filled (c + 1) xs) ≡ true) → cond unused used true ≡ true → is_some (first_filled c (x ∷ xs)) ≡ true
    some-found [] xs true used f g u = g u
    some-found [] xs false used f g u = absurd (omega (arith, f refl))
    some-found (y ∷ x) xs unused used f g u = refl

-- Elements that aren't required stay empty.

bare : (d : DecimalMark) (e c : ℕ) (rs : List Component) → components_fault false d e c rs [] ≡ None
bare d e c [] = refl
bare d e c (r ∷ rs) = bare d e (c + 1) rs

empty : (d : DecimalMark) (e c : ℕ) (rs : List Component) → 1 ≤ length rs → components_fault false d e c rs ([] ∷ []) ≡ None
empty d e c [] h = absurd (omega arith)
empty d e c (r ∷ rs) h = bare d e (c + 1) rs

record Whole (r : Element) (s : Option Status) (d : DecimalMark) (e : ℕ) : Type 0 where
  texts : List (List ℕ)
  fits : or_else (whole_fault s e (first_filled 1 texts)) (components_fault (is_some (first_filled 1 texts)) d e 1 r.components texts) ≡ None
  some : leb 1 (length texts) ≡ true
  plain : all (all letter_or_digit) texts ≡ true

whole : (r : Element) (d : DecimalMark) (e : ℕ) → element_rule r ≡ true → Whole r (status_of r.status) d e
whole r d e h =
    let rs = r.components in
    let p = and_parts (leb 1 (length rs) && leb (length rs) 40 && all component_rule rs) (fillable (status_of r.status) rs) h in
    let q = and_parts (leb 1 (length rs) && leb (length rs) 40) (all component_rule rs) p.0 in
    by (status_of r.status) (leb-true 1 (length rs) (and_parts (leb 1 (length rs)) (leb (length rs) 40) q.0).0) (parts_of_lem d e 1 rs q.1) p.1
  where
    required : (o : Option ℕ) (f : Bool → Option SegmentFault) → is_some o ≡ true → f true ≡ None → or_else (whole_fault (Some Required) e o) (f (is_some o)) ≡ None
    required None f h g = absurd (false≢true h)
    required (Some c) f h g = g

    by : (s : Option Status) → 1 ≤ length r.components → Parts d e 1 r.components → fillable s r.components ≡ true → Whole r s d e
    by None n xs u = absurd (false≢true u)
    by (Some Required) n xs u =
        record {
          texts = xs.texts;
          fits = required (first_filled 1 xs.texts) (λ t. components_fault t d e 1 r.components xs.texts) (xs.found u) xs.fits;
          some = le-leb 1 (length xs.texts) (omega (arith, xs.many));
          plain = xs.plain;
        }
    by (Some Unused) n xs u = record { texts = [] ∷ []; fits = empty d e 1 r.components n; some = refl; plain = refl }
    by (Some Optional) n xs u = record { texts = [] ∷ []; fits = empty d e 1 r.components n; some = refl; plain = refl }

elements_of : (d : DecimalMark) (e : ℕ) (l : Layout) → all element_rule l ≡ true → (xs : List (List (List ℕ))) × (elements_fault d e l xs ≡ None) × (all (λ x. leb 1 (length x)) xs ≡ true) × (all (all (all letter_or_digit)) xs ≡ true)
elements_of d e [] h = ([], refl, refl, refl)
elements_of d e (r ∷ rs) h =
    let p = and_parts (element_rule r) (all element_rule rs) h in
    let x = whole r d e p.0 in
    let xs = elements_of d (e + 1) rs p.1 in (
      x.texts ∷ xs.0,
      ap (λ t. or_else t (elements_fault d (e + 1) rs xs.0)) x.fits ∙ xs.1,
      and_from (leb 1 (length x.texts)) (all (λ x. leb 1 (length x)) xs.0) x.some xs.2,
      and_from (all (all letter_or_digit) x.texts) (all (all (all letter_or_digit)) xs.0) x.plain xs.3,
    )

pub layouts-fillable : LayoutsFillable
layouts-fillable l d h = elements_of d 1 l (and_parts (leb (length l) 40) (all element_rule l) h).1

-- The header has the reference and the identifier's parts.

pub headers_fillable : HeadersFillable
headers_fillable parts reference h g =
    let p = and_parts (eqb (length parts) 5) (all (short_word 6) parts) h in (
      (reference ∷ []) ∷ (parts ∷ []),
      ap as_header_fault (ap (λ t. before (cond t None (Some (spot 1 1))) (before (wrong_component 2 1 (map bytes_eq parts) parts) None)) g ∙ ap (λ t. before t None) (same_parts 2 1 parts)),
      refl,
      and_from (leb 1 (length parts)) true (le-leb 1 (length parts) (omega (arith, eqb-true (length parts) 5 p.0))) refl,
      λ r. and_from (all (all letter_or_digit) (reference ∷ [])) (all (all (all letter_or_digit)) (parts ∷ [])) (and_from (all letter_or_digit reference) true r refl) (and_from (all (all letter_or_digit) parts) true (words parts p.1) refl),
    )
  where
    same_parts : (e c : ℕ) (ps : List (List ℕ)) → wrong_component e c (map bytes_eq ps) ps ≡ None
    same_parts e c [] = refl
    same_parts e c (p ∷ ps) = ap (λ t. cond t (wrong_component e (c + 1) (map bytes_eq ps) ps) (Some (spot e c))) (same p) ∙ same_parts e (c + 1) ps

    words : (ps : List (List ℕ)) → all (short_word 6) ps ≡ true → all (all letter_or_digit) ps ≡ true
    words [] h = refl
    words (p ∷ ps) h =
        let q = and_parts (short_word 6 p) (all (short_word 6) ps) h in
        and_from (all letter_or_digit p) (all (all letter_or_digit) ps) (and_parts (leb 1 (length p) && leb (length p) 6) (all letter_or_digit p) q.0).1 (words ps q.1)

-- The trailer has the count in six digits, with zeros in front.

-- the last k digits of n, before others
abbrev written : (k n : ℕ) → List ℕ → List ℕ
written zero n cs = cs
written (suc k) n cs = written k (n / 10) ((48 + n % 10) ∷ cs)

abbrev tens : ℕ → ℕ
tens zero = 1
tens (suc k) = 10 * tens k

written_value : (k n : ℕ) (cs : List ℕ) → n < tens k → value_of 0 (written k n cs) ≡ value_of n cs
written_value zero n cs h = let z : 0 ≡ n = omega arith in ap (λ t. value_of t cs) z
written_value (suc k) n cs h =
    let z : n / 10 * 10 + (48 + n % 10 - 48) ≡ n = omega arith in
    written_value k (n / 10) ((48 + n % 10) ∷ cs) (omega arith) ∙ ap (λ t. value_of t cs) z

written-digits : (p : ℕ → Bool) → ((x : ℕ) → x < 10 → p (48 + x) ≡ true) → (k n : ℕ) (cs : List ℕ) → all p cs ≡ true → all p (written k n cs) ≡ true
written-digits p f zero n cs h = h
written-digits p f (suc k) n cs h = written-digits p f k (n / 10) ((48 + n % 10) ∷ cs) (and_from (p (48 + n % 10)) (all p cs) (f (n % 10) (omega arith)) h)

pub trailers_fillable : TrailersFillable
trailers_fillable n reference h g =
    let cs = written 6 n [] in
    let count : is_count n cs ≡ true =
    and_from (all digit cs) (eqb (value_of 0 cs) n)
    (written-digits digit (λ x l. and_from (leb 48 (48 + x)) (leb (48 + x) 57) (le-leb 48 (48 + x) (omega arith)) (le-leb (48 + x) 57 (omega arith))) 6 n [] refl)
    (eq-eqb (value_of 0 cs) n (written_value 6 n [] (omega arith)))
    in (
      (cs ∷ []) ∷ ((reference ∷ []) ∷ []),
      ap as_trailer_fault (ap (λ t. before (cond t None (Some (spot 1 1))) (before (cond (bytes_eq reference reference) None (Some (spot 2 1))) None)) count ∙ ap (λ t. before (cond t None (Some (spot 2 1))) None) (same reference)),
      refl,
      λ r. and_from (all (all letter_or_digit) (cs ∷ [])) (all (all (all letter_or_digit)) ((reference ∷ []) ∷ []))
          (and_from (all letter_or_digit cs) true (written-digits letter_or_digit (λ x l. grind (arith, nat_tests)) 6 n [] refl) refl)
          (and_from (all (all letter_or_digit) (reference ∷ [])) true (and_from (all letter_or_digit reference) true r refl) refl),
    )
