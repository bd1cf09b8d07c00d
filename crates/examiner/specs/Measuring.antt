-- What one pass over a component's bytes finds of its characters.
use Rattle.std.specs.Prelude.{ℕ, suc, ◌+◌, Bool, true, false, cond, ◌&&◌, ◌||◌, List, [], ◌∷◌, length, take, replicate, ◌==◌, nat_le, nat_lt, slice_set}
use Rattle.std.specs.Str.{bytes_eq}
use Rattle.syntax.specs.declared.marks.DecimalMark.{DecimalMark}
use Rattle.syntax.specs.Bytes.{digit}
use Rattle.syntax.specs.Marks.{decimal_byte}
use Rattle.syntax.specs.Split.{releases, divides}
use Rattle.message.specs.declared.layout.Class.{Class}
use Rattle.message.specs.declared.layout.Class.TheVariants.{Alphabetic, Numeric, Alphanumeric}
use Rattle.message.specs.Layouts.{letter_or_space}
use Rattle.message.specs.Judging.{value_of}
use Rattle.examiner.specs.declared.measure.Measure.{Measure}
use Rattle.examiner.specs.declared.measure.Scan.{Scan}
use Rattle.examiner.specs.declared.measure.Numeral.{Numeral}
use Rattle.examiner.specs.declared.measure.Numeral.TheVariants.{Nothing, Minus, Whole, Mark, Fraction, Wrong}

-- how far a number has come with one character more
abbrev pub advanced : DecimalMark → Numeral → ℕ → Numeral
advanced d Nothing c = cond (c == 45) Minus (cond (digit c) Whole Wrong)
advanced d Minus c = cond (digit c) Whole Wrong
advanced d Whole c = cond (digit c) Whole (cond (c == decimal_byte d) Mark Wrong)
advanced d Mark c = cond (digit c) Fraction Wrong
advanced d Fraction c = cond (digit c) Fraction Wrong
advanced d Wrong c = Wrong

-- a number as it stands: a digit is its last character
abbrev pub complete : Numeral → Bool
complete Nothing = false
complete Minus = false
complete Whole = true
complete Mark = false
complete Fraction = true
complete Wrong = false

-- the measure of no characters
abbrev pub nothing : Measure
nothing = record { count = 0; digits = 0; alphabetic = true; numeral = Nothing; letters = replicate 17 0 }

-- the letters with the one behind n others; only the first 17 are kept
abbrev pub kept : List ℕ → ℕ → ℕ → List ℕ
kept letters n c = cond (nat_lt n 17) (slice_set letters n c) letters

-- the measure with one character more
abbrev pub grown : DecimalMark → Measure → ℕ → Measure
grown d m c = record {
  count = m.count + 1;
  digits = m.digits + cond (digit c) 1 0;
  alphabetic = m.alphabetic && letter_or_space c;
  numeral = advanced d m.numeral c;
  letters = kept m.letters m.count c;
}

-- the measure with more characters
abbrev pub measured : DecimalMark → Measure → List ℕ → Measure
measured d m [] = m
measured d m (c ∷ cs) = measured d (grown d m c) cs

-- the measure of characters
abbrev pub measure_of : DecimalMark → List ℕ → Measure
measure_of d cs = measured d nothing cs

-- a component before its first byte
abbrev pub start : Scan
start = record { measure = nothing; protected = false }

-- a component with one byte more: a release mark is no character
abbrev pub passed : DecimalMark → (release : ℕ) → Scan → ℕ → Scan
passed d r s b = record { measure = cond (releases r s.protected b) s.measure (grown d s.measure b); protected = releases r s.protected b }

-- whether b is an unprotected component or element mark
abbrev pub ends : (release component element : ℕ) (protected : Bool) → ℕ → Bool
ends r c e p b = divides r c p b || divides r e p b

-- how many bytes stand before the first such mark
abbrev pub stretch : (release component element : ℕ) (protected : Bool) → List ℕ → ℕ
stretch r c e p [] = 0
stretch r c e p (b ∷ bs) = cond (ends r c e p b) 0 (suc (stretch r c e (releases r p b) bs))

-- the characters are of the class
abbrev pub class_in : Class → Measure → Bool
class_in Alphabetic m = m.alphabetic
class_in Numeric m = complete m.numeral
class_in Alphanumeric m = true

-- the length counts characters, of a number the digits only
abbrev pub size_in : Class → Measure → ℕ
size_in Alphabetic m = m.count
size_in Numeric m = m.digits
size_in Alphanumeric m = m.count

-- the characters are the word, of at most 17 letters
abbrev pub spelled_in : List ℕ → Measure → Bool
spelled_in word m = nat_le (length word) 17 && length word == m.count && bytes_eq word (take (length word) m.letters)

-- 1 to 14 characters
abbrev pub reference_in : Measure → Bool
reference_in m = nat_le 1 m.count && nat_le m.count 14

-- 1 to 6 digits of that value
abbrev pub count_in : ℕ → Measure → Bool
count_in n m = nat_le 1 m.count && nat_le m.count 6 && m.digits == m.count && value_of 0 (take m.count m.letters) == n
