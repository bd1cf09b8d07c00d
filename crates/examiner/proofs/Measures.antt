-- A measure tells of its characters what the layout check asks.
use Rattle.std.proofs.Common.{◌≡◌, ℕ, zero, suc, ◌+◌, ◌≤◌, Bool, true, false, cond, ◌&&◌, eqb, ltb, leb, List, [], ◌∷◌, ◌++◌, length, take, set, sym, refl, ap, ◌∙◌, arith}
use Rattle.std.proofs.lemmas.List.{append-nil, append_assoc, length_push}
use Rattle.std.proofs.lemmas.Bool.{cond_both, ne_eqb, le-leb, leb-true, eqb-true, eqb-false, ltb-false, and_parts}
use Rattle.std.proofs.lemmas.Bool.Decides.{nat_tests}
use Rattle.std.specs.Str.{bytes_eq}
use Rattle.syntax.specs.declared.marks.DecimalMark.{DecimalMark}
use Rattle.syntax.specs.Bytes.{digit}
use Rattle.syntax.specs.Marks.{decimal_byte}
use Rattle.message.specs.declared.layout.Class.{Class}
use Rattle.message.specs.declared.layout.Class.TheVariants.{Alphabetic, Numeric, Alphanumeric}
use Rattle.message.specs.Layouts.{all, letter_or_space, digits, unsigned, number, of_class, digit_count, size}
use Rattle.message.specs.Judging.{is_reference, is_count, value_of}
use Rattle.examiner.specs.declared.measure.Measure.{Measure}
use Rattle.examiner.specs.declared.measure.Numeral.{Numeral}
use Rattle.examiner.specs.declared.measure.Numeral.TheVariants.{Nothing, Minus, Whole, Mark, Fraction, Wrong}
use Rattle.examiner.specs.Measuring.{advanced, complete, nothing, kept, grown, measured, measure_of, class_in, size_in, spelled_in, reference_in, count_in}

-- Counts

count_of : (d : DecimalMark) (m : Measure) (cs : List ℕ) → (measured d m cs).count ≡ m.count + length cs
count_of d m [] = omega arith
count_of d m (c ∷ cs) = omega (arith, count_of d (grown d m c) cs)

pub count_measured : (d : DecimalMark) (cs : List ℕ) → (measure_of d cs).count ≡ length cs
count_measured d cs = omega (arith, count_of d nothing cs)

-- where there is a character, the measure counts it
pub filled-measured : (d : DecimalMark) (c : ℕ) (cs : List ℕ) → eqb (measure_of d (c ∷ cs)).count 0 ≡ false
filled-measured d c cs = ap (λ (n : ℕ). eqb n 0) (count_measured d (c ∷ cs)) ∙ ne_eqb (suc (length cs)) 0 (λ z. omega arith)

one-digit : (b : Bool) (n k : ℕ) → (n + cond b 1 0) + k ≡ n + cond b (suc k) k
one-digit true n k = omega arith
one-digit false n k = omega arith

digits_of : (d : DecimalMark) (m : Measure) (cs : List ℕ) → (measured d m cs).digits ≡ m.digits + digit_count cs
digits_of d m [] = omega arith
digits_of d m (c ∷ cs) = digits_of d (grown d m c) cs ∙ one-digit (digit c) m.digits (digit_count cs)

pub digits-measured : (d : DecimalMark) (cs : List ℕ) → (measure_of d cs).digits ≡ digit_count cs
digits-measured d cs = omega (arith, digits_of d nothing cs)

-- Classes

and_true : (a : Bool) → a ≡ (a && true)
and_true true = refl
and_true false = refl

and_regroup : (a b c : Bool) → ((a && b) && c) ≡ (a && (b && c))
and_regroup true b c = refl
and_regroup false b c = refl

alphabetic_of : (d : DecimalMark) (m : Measure) (cs : List ℕ) → (measured d m cs).alphabetic ≡ (m.alphabetic && all letter_or_space cs)
alphabetic_of d m [] = and_true m.alphabetic
alphabetic_of d m (c ∷ cs) = alphabetic_of d (grown d m c) cs ∙ and_regroup m.alphabetic (letter_or_space c) (all letter_or_space cs)

-- whether the characters that follow complete the number
abbrev completes : DecimalMark → Numeral → List ℕ → Bool
completes d Nothing cs = number d cs
completes d Minus cs = unsigned d false cs
completes d Whole cs = unsigned d true cs
completes d Mark cs = digits false cs
completes d Fraction cs = digits true cs
completes d Wrong cs = false

completes-none : (d : DecimalMark) (n : Numeral) → complete n ≡ completes d n []
completes-none d Nothing = refl
completes-none d Minus = refl
completes-none d Whole = refl
completes-none d Mark = refl
completes-none d Fraction = refl
completes-none d Wrong = refl

completes_more : (d : DecimalMark) (n : Numeral) (c : ℕ) (cs : List ℕ) → completes d (advanced d n c) cs ≡ completes d n (c ∷ cs)
completes_more d Nothing c cs =
    elim (eqb c 45) as (λ t. completes d (cond t Minus (cond (digit c) Whole Wrong)) cs ≡ cond t (unsigned d false cs) (cond (digit c) (unsigned d true cs) false)) [
      | true ↦ refl
      | false ↦ elim (digit c) as (λ t. completes d (cond t Whole Wrong) cs ≡ cond t (unsigned d true cs) false) [ true ↦ refl | false ↦ refl ]
    ]
completes_more d Minus c cs = elim (digit c) as (λ t. completes d (cond t Whole Wrong) cs ≡ cond t (unsigned d true cs) false) [ true ↦ refl | false ↦ refl ]
completes_more d Whole c cs =
    elim (digit c) as (λ t. completes d (cond t Whole (cond (eqb c (decimal_byte d)) Mark Wrong)) cs ≡ cond t (unsigned d true cs) (eqb c (decimal_byte d) && digits false cs)) [
      | true ↦ refl
      | false ↦ elim (eqb c (decimal_byte d)) as (λ t. completes d (cond t Mark Wrong) cs ≡ (t && digits false cs)) [ true ↦ refl | false ↦ refl ]
    ]
completes_more d Mark c cs = elim (digit c) as (λ t. completes d (cond t Fraction Wrong) cs ≡ (t && digits true cs)) [ true ↦ refl | false ↦ refl ]
completes_more d Fraction c cs = elim (digit c) as (λ t. completes d (cond t Fraction Wrong) cs ≡ (t && digits true cs)) [ true ↦ refl | false ↦ refl ]
completes_more d Wrong c cs = refl

numeral_of : (d : DecimalMark) (m : Measure) (cs : List ℕ) → complete (measured d m cs).numeral ≡ completes d m.numeral cs
numeral_of d m [] = completes-none d m.numeral
numeral_of d m (c ∷ cs) = numeral_of d (grown d m c) cs ∙ completes_more d m.numeral c cs

pub class-measured : (class : Class) (d : DecimalMark) (cs : List ℕ) → class_in class (measure_of d cs) ≡ of_class class d cs
class-measured Alphabetic d cs = alphabetic_of d nothing cs
class-measured Numeric d cs = numeral_of d nothing cs
class-measured Alphanumeric d cs = refl

pub size-measured : (class : Class) (d : DecimalMark) (cs : List ℕ) → size_in class (measure_of d cs) ≡ size class cs
size-measured Alphabetic d cs = count_measured d cs
size-measured Numeric d cs = digits-measured d cs
size-measured Alphanumeric d cs = count_measured d cs

-- Letters

-- the first n characters, with zeros behind
abbrev pub padded : ℕ → List ℕ → List ℕ
padded zero cs = []
padded (suc n) [] = 0 ∷ padded n []
padded (suc n) (c ∷ cs) = c ∷ padded n cs

padded_set : (n : ℕ) (ps : List ℕ) (c : ℕ) → set (padded n ps) (length ps) c ≡ padded n (ps ++ c ∷ [])
padded_set zero ps c = refl
padded_set (suc n) [] c = refl
padded_set (suc n) (p ∷ ps) c = ap (λ x. p ∷ x) (padded_set n ps c)

padded_full : (n : ℕ) (ps qs : List ℕ) → n ≤ length ps → padded n ps ≡ padded n (ps ++ qs)
padded_full zero ps qs h = refl
padded_full (suc n) [] qs h = absurd (omega arith)
padded_full (suc n) (p ∷ ps) qs h = ap (λ x. p ∷ x) (padded_full n ps qs (omega arith))

kept-padded : (ps : List ℕ) (c : ℕ) → kept (padded 17 ps) (length ps) c ≡ padded 17 (ps ++ c ∷ [])
kept-padded ps c =
    cond_both (ltb (length ps) 17) (set (padded 17 ps) (length ps) c) (padded 17 ps) (λ x. x ≡ padded 17 (ps ++ c ∷ []))
    (λ _. padded_set 17 ps c)
    (λ e. padded_full 17 ps (c ∷ []) (ltb-false (length ps) 17 e))

letters_of_lem : (d : DecimalMark) (m : Measure) (ps cs : List ℕ) → m.count ≡ length ps → m.letters ≡ padded 17 ps → (measured d m cs).letters ≡ padded 17 (ps ++ cs)
letters_of_lem d m ps [] n l = l ∙ ap (padded 17) (sym (append-nil ps))
letters_of_lem d m ps (c ∷ cs) n l =
    letters_of_lem d (grown d m c) (ps ++ c ∷ []) cs (omega (arith, length_push ps c)) (ap (λ x. kept x m.count c) l ∙ ap (λ x. kept (padded 17 ps) x c) n ∙ kept-padded ps c)
    ∙ ap (padded 17) (append_assoc ps (c ∷ []) cs)

pub letters-measured : (d : DecimalMark) (cs : List ℕ) → (measure_of d cs).letters ≡ padded 17 cs
letters-measured d cs = letters_of_lem d nothing [] cs refl refl

take-padded : (n : ℕ) (cs : List ℕ) → length cs ≤ n → take (length cs) (padded n cs) ≡ cs
take-padded n [] h = refl
take-padded zero (c ∷ cs) h = absurd (omega arith)
take-padded (suc n) (c ∷ cs) h = ap (λ x. c ∷ x) (take-padded n cs (omega arith))

-- at most 17 characters can be read back
pub letters-back : (d : DecimalMark) (cs : List ℕ) → length cs ≤ 17 → take (length cs) (measure_of d cs).letters ≡ cs
letters-back d cs h = ap (take (length cs)) (letters-measured d cs) ∙ take-padded 17 cs h

other_length : (xs ys : List ℕ) → (length xs ≡ length ys → ⊥) → false ≡ bytes_eq xs ys
other_length [] [] h = absurd (h refl)
other_length [] (y ∷ ys) h = refl
other_length (x ∷ xs) [] h = refl
other_length (x ∷ xs) (y ∷ ys) h = elim (eqb x y) as (λ t. false ≡ (t && bytes_eq xs ys)) [ true ↦ other_length xs ys (λ e. h (ap suc e)) | false ↦ refl ]

pub spelled-measured : (d : DecimalMark) (word cs : List ℕ) → length word ≤ 17 → spelled_in word (measure_of d cs) ≡ bytes_eq word cs
spelled-measured d word cs h =
    ap (λ t. (t && eqb (length word) (measure_of d cs).count) && bytes_eq word (take (length word) (measure_of d cs).letters)) (le-leb (length word) 17 h)
    ∙ ap (λ n. eqb (length word) n && bytes_eq word (take (length word) (measure_of d cs).letters)) (count_measured d cs)
    ∙ (elim (eqb (length word) (length cs)) as (λ t. eqb (length word) (length cs) ≡ t → (t && bytes_eq word (take (length word) (measure_of d cs).letters)) ≡ bytes_eq word cs) [
      | true ↦ λ e.
          let same : length word ≡ length cs = eqb-true (length word) (length cs) e in
          ap (λ n. bytes_eq word (take n (measure_of d cs).letters)) same ∙ ap (bytes_eq word) (letters-back d cs (omega arith))
      | false ↦ λ e. other_length word cs (eqb-false (length word) (length cs) e)
    ]) refl

-- References and counts

pub reference_measured : (d : DecimalMark) (cs : List ℕ) → reference_in (measure_of d cs) ≡ is_reference cs
reference_measured d cs = ap (λ n. leb 1 n && leb n 14) (count_measured d cs)

-- a reference can be read back from the letters
pub reference_back : (d : DecimalMark) (cs : List ℕ) → is_reference cs ≡ true → take (length cs) (measure_of d cs).letters ≡ cs
reference_back d cs h =
    letters-back d cs (omega (arith, leb-true (length cs) 14 (and_parts (leb 1 (length cs)) (leb (length cs) 14) h).1))

few-digits : (cs : List ℕ) → digit_count cs ≤ length cs
few-digits [] = omega arith
few-digits (c ∷ cs) =
    cond_both (digit c) (suc (digit_count cs)) (digit_count cs) (λ x. x ≤ suc (length cs)) (λ _. omega (arith, few-digits cs)) (λ _. omega (arith, few-digits cs))

eqb-suc : (a b : ℕ) → eqb (suc a) (suc b) ≡ eqb a b
eqb-suc a b = grind (arith, nat_tests)

-- all are digits where as many as there are characters are
all_digits : (cs : List ℕ) → eqb (digit_count cs) (length cs) ≡ all digit cs
all_digits [] = refl
all_digits (c ∷ cs) =
    elim (digit c) as (λ t. eqb (cond t (suc (digit_count cs)) (digit_count cs)) (suc (length cs)) ≡ (t && all digit cs)) [
      | true ↦ eqb-suc (digit_count cs) (length cs) ∙ all_digits cs
      | false ↦ ne_eqb (digit_count cs) (suc (length cs)) (λ e. omega (arith, few-digits cs))
    ]

and_swap : (a b b' : Bool) → (a ≡ true → b ≡ b') → (a && b) ≡ (a && b')
and_swap true b b' h = h refl
and_swap false b b' h = refl

pub number-measured : (n : ℕ) (d : DecimalMark) (cs : List ℕ) → count_in n (measure_of d cs) ≡ is_count n cs
number-measured n d cs =
    ap (λ k. leb 1 k && leb k 6 && eqb (measure_of d cs).digits k && eqb (value_of 0 (take k (measure_of d cs).letters)) n) (count_measured d cs)
    ∙ ap (λ k. leb 1 (length cs) && leb (length cs) 6 && eqb k (length cs) && eqb (value_of 0 (take (length cs) (measure_of d cs).letters)) n) (digits-measured d cs)
    ∙ ap (λ t. leb 1 (length cs) && leb (length cs) 6 && t && eqb (value_of 0 (take (length cs) (measure_of d cs).letters)) n) (all_digits cs)
    ∙ and_swap (leb 1 (length cs) && leb (length cs) 6 && all digit cs) _ _
    (λ h. ap (λ x. eqb (value_of 0 x) n) (letters-back d cs (omega (arith, leb-true (length cs) 6 (and_parts (leb 1 (length cs)) (leb (length cs) 6) (and_parts (leb 1 (length cs) && leb (length cs) 6) (all digit cs) h).0).1))))
