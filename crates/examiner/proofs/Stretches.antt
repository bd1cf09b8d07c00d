-- A component's bytes, one by one.
use Rattle.std.proofs.Common.{◌≡◌, ℕ, suc, ◌+◌, ◌<◌, ◌≤◌, Bool, true, false, cond, List, [], ◌∷◌, length, get_or, take, drop, sym, refl, ap, ◌∙◌, arith}
use Rattle.std.proofs.lemmas.List.{at_drop_more, at_drop_all}
use Rattle.std.proofs.lemmas.Bool.{cond_both}
use Rattle.syntax.specs.declared.marks.DecimalMark.{DecimalMark}
use Rattle.syntax.specs.declared.marks.Marks.{Marks}
use Rattle.syntax.specs.Bytes.{digit}
use Rattle.syntax.specs.Split.{releases, characters}
use Rattle.examiner.specs.declared.measure.Measure.{Measure}
use Rattle.examiner.specs.declared.measure.Scan.{Scan}
use Rattle.examiner.specs.Measuring.{grown, measured, measure_of, start, passed, ends, stretch}

-- whether b is a mark that ends the component
abbrev ends_at : Marks → (protected : Bool) → ℕ → Bool
ends_at k p b = ends k.release k.component k.element p b

-- how many bytes stand before the first mark
abbrev length_to : Marks → (protected : Bool) → List ℕ → ℕ
length_to k p bs = stretch k.release k.component k.element p bs

-- the measure of the component, with the bytes that are still to come
unfoldable pub scanned : DecimalMark → Marks → Scan → List ℕ → Measure
scanned d k s [] = s.measure
scanned d k s (b ∷ bs) = let rest : Measure = scanned d k (passed d k.release s b) bs in cond (ends_at k s.protected b) s.measure rest

scanned_is : (d : DecimalMark) (k : Marks) (s : Scan) (bs : List ℕ) → scanned d k s bs ≡ measured d s.measure (characters k.release s.protected (take (length_to k s.protected bs) bs))
unfolding scanned
scanned_is d k s [] = refl
scanned_is d k s (b ∷ bs) =
    let p : Bool = s.protected in
    let m : Measure = s.measure in
    elim (ends_at k p b)
    as (λ t. cond t m (scanned d k (passed d k.release s b) bs) ≡ measured d m (characters k.release p (take (cond t 0 (suc (length_to k (releases k.release p b) bs))) (b ∷ bs)))) [
      | true ↦ refl
      | false ↦ elim (releases k.release p b)
          as (λ t. scanned d k (record { measure = cond t m (grown d m b); protected = t }) bs ≡
          measured d m (cond t (characters k.release t (take (length_to k t bs) bs)) (b ∷ characters k.release t (take (length_to k t bs) bs))))
          [ true ↦ scanned_is d k (record { measure = m; protected = true }) bs | false ↦ scanned_is d k (record { measure = grown d m b; protected = false }) bs ]
    ]

pub scanned_more : (d : DecimalMark) (k : Marks) (s : Scan) (bs : List ℕ) (i : ℕ) → i < length bs →
    scanned d k s (drop i bs) ≡ cond (ends k.release k.component k.element s.protected (get_or bs i 0)) s.measure (scanned d k (passed d k.release s (get_or bs i 0)) (drop (i + 1) bs))
unfolding scanned
scanned_more d k s bs i h = at_drop_more (scanned d k s) bs i 0 h

pub scanned_done : (d : DecimalMark) (k : Marks) (s : Scan) (bs : List ℕ) (i : ℕ) → length bs ≤ i → scanned d k s (drop i bs) ≡ s.measure
unfolding scanned
scanned_done d k s bs i h = at_drop_all (scanned d k s) bs i h

-- the measure at the first mark or the end is that of the component's characters
pub scanned-whole : (d : DecimalMark) (k : Marks) (m : Measure) (bs : List ℕ) (i : ℕ) → scanned d k start bs ≡ m → i ≡ stretch k.release k.component k.element false bs → m ≡ measure_of d (characters k.release false (take i bs))
scanned-whole d k m bs i e l = sym e ∙ scanned_is d k start bs ∙ ap (λ n. measure_of d (characters k.release false (take n bs))) (sym l)

-- a byte is at most one character, and at most one digit
pub passed_count : (d : DecimalMark) (r : ℕ) (s : Scan) (b : ℕ) → (passed d r s b).measure.count ≤ s.measure.count + 1
passed_count d r s b =
    cond_both (releases r s.protected b) s.measure (grown d s.measure b) (λ m. m.count ≤ s.measure.count + 1) (λ _. omega arith) (λ _. omega arith)

one_more : (t : Bool) (n : ℕ) → n + cond t 1 0 ≤ n + 1
one_more true n = omega arith
one_more false n = omega arith

pub passed-digits : (d : DecimalMark) (r : ℕ) (s : Scan) (b : ℕ) → (passed d r s b).measure.digits ≤ s.measure.digits + 1
passed-digits d r s b =
    cond_both (releases r s.protected b) s.measure (grown d s.measure b) (λ m. m.digits ≤ s.measure.digits + 1)
    (λ _. omega arith) (λ _. one_more (digit b) s.measure.digits)

pub length_more : (k : Marks) (p : Bool) (bs : List ℕ) (i : ℕ) → i < length bs →
    stretch k.release k.component k.element p (drop i bs)
    ≡ cond (ends k.release k.component k.element p (get_or bs i 0)) 0 (suc (stretch k.release k.component k.element (releases k.release p (get_or bs i 0)) (drop (i + 1) bs)))
length_more k p bs i h = at_drop_more (length_to k p) bs i 0 h

pub length_done : (k : Marks) (p : Bool) (bs : List ℕ) (i : ℕ) → length bs ≤ i → stretch k.release k.component k.element p (drop i bs) ≡ 0
length_done k p bs i h = at_drop_all (length_to k p) bs i h

pub ruleset stretch_steps = (scanned_more, scanned_done, scanned-whole, passed_count, passed-digits, length_more, length_done)
