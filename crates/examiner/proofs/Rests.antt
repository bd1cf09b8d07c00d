-- The rest of an element's components, one measure after the other.
use Rattle.std.proofs.Common.{◌≡◌, ℕ, suc, ◌+◌, Bool, true, false, cond, not, eqb, ltb, List, [], ◌∷◌, map, length, Some, None, Option, sym, refl, ap, ◌∙◌, arith}
use Rattle.std.proofs.lemmas.Bool.{true≢false}
use Rattle.std.proofs.lemmas.Bool.Decides.{nat_tests}
use Rattle.std.proofs.lemmas.Iterator.{YieldsList}
use Rattle.std.specs.Iterator.{Yields, YieldsThen, AlwaysYields}
use Rattle.std.specs.List.{position_or_len}
use Rattle.std.specs.Option.{option_map}
use Rattle.syntax.specs.declared.marks.DecimalMark.{DecimalMark}
use Rattle.message.specs.Judging.{first, others, first_filled}
use Rattle.examiner.specs.declared.measure.Measure.{Measure}
use Rattle.examiner.specs.Measuring.{measure_of}
use Rattle.examiner.specs.Texts.{Texts, has_more, MeasuresNext}
use Rattle.examiner.proofs.Measures.{filled-measured}

-- the cursor as a list of measures

abbrev pub measures : Texts → List Measure
measures t = map (measure_of t.decimal) t.current

always : (d : DecimalMark) (xs : List (List ℕ)) (t : Texts) → t.decimal ≡ d → t.current ≡ xs → AlwaysYields MeasuresNext (λ m. m) t (map (measure_of d) xs)
always d [] t ed ec = λ m u h. true≢false (sym h.0 ∙ ap has_more ec)
always d (x ∷ xs) t ed ec = (
  λ u h. true≢false (sym (ap has_more (sym h.0 ∙ ec))),
  λ m u h. (
    h.1 ∙ ap (λ (y : DecimalMark). measure_of y (first t.current)) ed ∙ ap (λ (ys : List (List ℕ)). measure_of d (first ys)) ec,
    always d xs u (ap (λ (y : Texts). y.decimal) h.2 ∙ ed) (ap (λ (y : Texts). y.current) h.2 ∙ ap others ec),
  ),
)

pub yields_measures : (t : Texts) → YieldsList MeasuresNext (λ m. m) t (measures t)
yields_measures t = record { runs = always t.decimal t.current t refl refl }

-- only the element's components are passed
yields_stays : (ms : List Measure) (s t : Texts) → Yields MeasuresNext s ms t → t ≡ record s { current = t.current }
yields_stays [] s t h = sym h ∙ ap (λ (y : Texts). record s { current = y.current }) h
yields_stays (m ∷ ms) s t h = yields_stays ms h.0 t h.2 ∙ ap (λ (y : Texts). record y { current = t.current }) h.1.2

pub passed_any : (s u : Texts) (ms : List Measure) (o : Option Measure) → YieldsThen MeasuresNext s ms o u → record u { current = [] } ≡ record s { current = [] }
passed_any s u ms None h = ap (λ (y : Texts). record y { current = [] }) (h.2.1 ∙ yields_stays ms s h.0 h.1)
passed_any s u ms (Some m) h = ap (λ (y : Texts). record y { current = [] }) h.2.2 ∙ ap (λ (y : Texts). record y { current = [] }) (yields_stays ms s h.0 h.1)

-- the first filled component, by the number of those before it
abbrev pub filled : Measure → Bool
filled m = not (eqb m.count 0)

abbrev place : ℕ → ℕ → ℕ → Option ℕ
place k n l = cond (ltb n l) (Some (k + n)) None

one-add : (n : ℕ) → 1 + n ≡ suc n
one-add n = omega arith

one_further : (k n l : ℕ) → place k (suc n) (suc l) ≡ place (k + 1) n l
one_further k n l = grind (arith, nat_tests)

at_once : (k l : ℕ) → place k 0 (suc l) ≡ Some k
at_once k l = grind (arith, nat_tests)

filled_place : (d : DecimalMark) (k : ℕ) (xs : List (List ℕ)) → place k (position_or_len filled (map (measure_of d) xs)) (length (map (measure_of d) xs)) ≡ first_filled k xs
filled_place d k [] = refl
filled_place d k ([] ∷ xs) =
    let n : ℕ = position_or_len filled (map (measure_of d) xs) in
    let l : ℕ = length (map (measure_of d) xs) in
    ap (λ (i : ℕ). place k i (suc l)) (one-add n) ∙ one_further k n l ∙ filled_place d (k + 1) xs
filled_place d k ((c ∷ cs) ∷ xs) =
    let l : ℕ = length (map (measure_of d) xs) in
    ap (λ (t : Bool). place k (cond (not (not t)) (1 + position_or_len filled (map (measure_of d) xs)) 0) (suc l)) (filled-measured d c cs) ∙ at_once k l

pub position_is : (k : ℕ) (t : Texts) (r : Option ℕ) → r ≡ (let n : ℕ = position_or_len filled (measures t) in cond (ltb n (length (measures t))) (Some n) None) → option_map (λ i. k + i) r ≡ first_filled k t.current
position_is k t r e =
    let n : ℕ = position_or_len filled (measures t) in
    ap (option_map (λ (i : ℕ). k + i)) e
    ∙ (elim (ltb n (length (measures t))) as (λ b. option_map (λ (i : ℕ). k + i) (cond b (Some n) None) ≡ cond b (Some (k + n)) None) [ true ↦ refl | false ↦ refl ])
    ∙ filled_place t.decimal k t.current
