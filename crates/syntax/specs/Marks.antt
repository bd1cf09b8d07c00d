-- The five marks of a text, and the header that may carry them.
use Rattle.std.specs.Prelude.{ℕ, Bool, cond, not, ◌&&◌, List, length, take, drop, Some, None, codes, Option, ◌==◌, nat_le, slice_index}
use Rattle.std.specs.Str.{bytes_eq}
use Rattle.syntax.specs.declared.marks.Marks.{Marks}
use Rattle.syntax.specs.declared.marks.DecimalMark.{DecimalMark}
use Rattle.syntax.specs.declared.marks.DecimalMark.TheVariants.{Point, Comma}
use Rattle.syntax.specs.Bytes.{capital, small, digit}

-- a decimal mark as the text has it
abbrev pub decimal_byte : DecimalMark → ℕ
decimal_byte Point = 46
decimal_byte Comma = 44

-- the decimal mark that a byte is
abbrev pub decimal_of : ℕ → Option DecimalMark
decimal_of b = cond (b == 46) (Some Point) (cond (b == 44) (Some Comma) None)

-- a byte that may be a mark: 33 to 126, no letter, digit or minus
abbrev pub markable : ℕ → Bool
markable b = nat_le 33 b && nat_le b 126 && not (capital b) && not (small b) && not (digit b) && not (b == 45)

-- b is none of four others
abbrev pub differs : (b w x y z : ℕ) → Bool
differs b w x y z = not (b == w) && not (b == x) && not (b == y) && not (b == z)

-- the five marks may be marks, and differ
abbrev pub lawful : Marks → Bool
lawful m =
    let d : ℕ = decimal_byte m.decimal in
    (markable m.component && markable m.element && markable m.release && markable m.terminator)
    && (differs m.component m.element d m.release m.terminator
    && (differs m.element m.component d m.release m.terminator
    && (differs m.release m.component m.element d m.terminator
    && differs m.terminator m.component m.element d m.release)))

-- the marks of a text without a header
abbrev pub usual : Marks
usual = record { component = 58; element = 43; decimal = Point; release = 63; terminator = 39 }

abbrev pub if_lawful : Marks → Option Marks
if_lawful m = cond (lawful m) (Some m) None

abbrev pub with_decimal : (component element release terminator : ℕ) → Option DecimalMark → Option Marks
with_decimal c e r t None = None
with_decimal c e r t (Some d) = if_lawful (record { component = c; element = e; decimal = d; release = r; terminator = t })

-- the marks that five bytes are, if they are lawful
abbrev pub marks_in : (component element decimal release terminator : ℕ) → Option Marks
marks_in c e d r t = with_decimal c e r t (decimal_of d)

-- whether a text begins with the three bytes of a header
abbrev pub has_header : List ℕ → Bool
has_header text = bytes_eq (take 3 text) (codes "UNA")

-- the marks of a text, or none where its header is bad: under nine bytes, no space before the terminator, or unlawful marks
abbrev pub marks_of : List ℕ → Option Marks
marks_of text =
    cond (has_header text)
    (cond (nat_le 9 (length text) && slice_index text 7 == 32) (marks_in (slice_index text 3) (slice_index text 4) (slice_index text 5) (slice_index text 6) (slice_index text 8)) None)
    (Some usual)

-- how many bytes the header has
abbrev pub header_length : List ℕ → ℕ
header_length text = cond (has_header text) 9 0

-- what follows the header
abbrev pub body : List ℕ → List ℕ
body text = drop (header_length text) text
