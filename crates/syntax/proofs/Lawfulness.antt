-- What lawful marks are, and that a text's marks are lawful.
use Rattle.std.proofs.Common.{◌≡◌, ℕ, ◌≤◌, Bool, true, cond, not, ◌&&◌, eqb, leb, List, length, get_or, Some, None, Option, refl, subst, arith}
use Rattle.std.proofs.lemmas.Bool.{and_parts, cond_both, leb-true, eqb-false, not-true}
use Rattle.syntax.specs.declared.marks.Marks.{Marks}
use Rattle.syntax.specs.declared.marks.DecimalMark.{DecimalMark}
use Rattle.syntax.specs.Bytes.{capital, small, digit}
use Rattle.syntax.specs.Marks.{decimal_byte, decimal_of, markable, differs, lawful, usual, if_lawful, with_decimal, marks_in, has_header, marks_of}

pub record Between (b : ℕ) : Type 0 where
  pub low : 33 ≤ b
  pub high : b ≤ 126

-- four marks that may stand in a segment and differ
pub record Distinct (m : Marks) : Type 0 where
  pub component : Between m.component
  pub element : Between m.element
  pub release : Between m.release
  pub terminator : Between m.terminator
  pub component-release : m.component ≡ m.release → ⊥
  pub element-release : m.element ≡ m.release → ⊥
  pub terminator-release : m.terminator ≡ m.release → ⊥
  pub component-element : m.component ≡ m.element → ⊥
  pub component-terminator : m.component ≡ m.terminator → ⊥
  pub element-terminator : m.element ≡ m.terminator → ⊥

markable_between : (b : ℕ) → markable b ≡ true → Between b
markable_between b h =
    let a = (and_parts (leb 33 b && leb b 126 && not (capital b) && not (small b) && not (digit b))
    (not (eqb b 45)) h).0 in
    let a1 = (and_parts (leb 33 b && leb b 126 && not (capital b) && not (small b)) (not (digit b)) a).0 in
    let a2 = (and_parts (leb 33 b && leb b 126 && not (capital b)) (not (small b)) a1).0 in
    let a3 = (and_parts (leb 33 b && leb b 126) (not (capital b)) a2).0 in
    let a4 = and_parts (leb 33 b) (leb b 126) a3 in
    record { low = leb-true 33 b a4.0; high = leb-true b 126 a4.1 }

apart : (a b : ℕ) → not (eqb a b) ≡ true → a ≡ b → ⊥
apart a b h = eqb-false a b (not-true (eqb a b) h)

differs-apart : (b w x y z : ℕ) → differs b w x y z ≡ true → (b ≡ w → ⊥) × (b ≡ y → ⊥) × (b ≡ z → ⊥)
differs-apart b w x y z h =
    let a = and_parts (not (eqb b w) && not (eqb b x) && not (eqb b y)) (not (eqb b z)) h in
    let a1 = and_parts (not (eqb b w) && not (eqb b x)) (not (eqb b y)) a.0 in
    let a2 = and_parts (not (eqb b w)) (not (eqb b x)) a1.0 in
    (apart b w a2.0, apart b y a1.1, apart b z a.1)

pub lawful_distinct : (m : Marks) → lawful m ≡ true → Distinct m
lawful_distinct m h =
    let c : ℕ = m.component in
    let e : ℕ = m.element in
    let d : ℕ = decimal_byte m.decimal in
    let r : ℕ = m.release in
    let t : ℕ = m.terminator in
    let a = and_parts (markable c && markable e && markable r && markable t)
    (differs c e d r t && (differs e c d r t && (differs r c e d t && differs t c e d r))) h in
    let a1 = and_parts (markable c && markable e && markable r) (markable t) a.0 in
    let a2 = and_parts (markable c && markable e) (markable r) a1.0 in
    let a3 = and_parts (markable c) (markable e) a2.0 in
    let b1 = and_parts (differs c e d r t) (differs e c d r t && (differs r c e d t && differs t c e d r)) a.1 in
    let b2 = and_parts (differs e c d r t) (differs r c e d t && differs t c e d r) b1.1 in
    let b3 = and_parts (differs r c e d t) (differs t c e d r) b2.1 in
    let dc = differs-apart c e d r t b1.0 in
    let de = differs-apart e c d r t b2.0 in
    let dt = differs-apart t c e d r b3.1 in
    record {
      component = markable_between c a3.0;
      element = markable_between e a3.1;
      release = markable_between r a2.1;
      terminator = markable_between t a1.1;
      component-release = dc.1;
      element-release = de.1;
      terminator-release = dt.2;
      component-element = dc.0;
      component-terminator = dc.2;
      element-terminator = de.2;
    }

if_lawful_lem : (n m : Marks) → if_lawful n ≡ Some m → lawful m ≡ true
if_lawful_lem n m =
    cond_both (lawful n) (Some n) None (λ o. o ≡ Some m → lawful m ≡ true)
    (λ e f. let same : n ≡ m = cc in subst (λ x. lawful x ≡ true) same e)
    (λ e f. let z : ◌≡◌ {A = ℕ} 0 1 = cc in absurd (omega arith))

with_decimal_lawful : (c e r t : ℕ) (d : Option DecimalMark) (m : Marks) →
    with_decimal c e r t d ≡ Some m → lawful m ≡ true
with_decimal_lawful c e r t None m f = let z : ◌≡◌ {A = ℕ} 0 1 = cc in absurd (omega arith)
with_decimal_lawful c e r t (Some d) m f =
    if_lawful_lem (record { component = c; element = e; decimal = d; release = r; terminator = t }) m f

-- the marks of a text are lawful
pub marks-lawful : (text : List ℕ) (m : Marks) → marks_of text ≡ Some m → lawful m ≡ true
marks-lawful text m =
    let c : ℕ = get_or text 3 0 in
    let e : ℕ = get_or text 4 0 in
    let d : ℕ = get_or text 5 0 in
    let r : ℕ = get_or text 6 0 in
    let t : ℕ = get_or text 8 0 in
    let fits : Bool = leb 9 (length text) && eqb (get_or text 7 0) 32 in
    cond_both (has_header text) (cond fits (marks_in c e d r t) None) (Some usual) (λ o. o ≡ Some m → lawful m ≡ true)
    (λ _. cond_both fits (marks_in c e d r t) None (λ o. o ≡ Some m → lawful m ≡ true)
    (λ _ f. with_decimal_lawful c e r t (decimal_of d) m f)
    (λ _ f. let z : ◌≡◌ {A = ℕ} 0 1 = cc in absurd (omega arith)))
    (λ _ f. let same : usual ≡ m = cc in subst (λ x. lawful x ≡ true) same refl)
