-- That the rules leave something to fill in: each layout, header and trailer under them has a segment without fault.
use Rattle.std.specs.Prelude.{◌≡◌, ℕ, ◌≤◌, true, List, length, None, nat_le}
use Rattle.syntax.specs.declared.marks.DecimalMark.{DecimalMark}
use Rattle.message.specs.Layouts.{Layout, all, letter_or_digit, layout_rule, identifier_rule}
use Rattle.message.specs.Judging.{first, layout_fault, header_fault, trailer_fault, is_reference}

-- some segment fits, under either decimal mark, whose elements have a component each, of letters and digits alone
abbrev pub LayoutsFillable : Type 0
LayoutsFillable =
    (l : Layout) (d : DecimalMark) → layout_rule l ≡ true →
    (xs : List (List (List ℕ))) × (layout_fault l d xs ≡ None) × (all (λ x. nat_le 1 (length x)) xs ≡ true) × (all (all (all letter_or_digit)) xs ≡ true)

-- the header of an identifier with any reference; it has only letters and digits if the reference has
abbrev pub HeadersFillable : Type 0
HeadersFillable =
    (parts : List (List ℕ)) (reference : List ℕ) → identifier_rule parts ≡ true → is_reference reference ≡ true →
    (xs : List (List (List ℕ))) × (header_fault parts xs ≡ None) × (first (first xs) ≡ reference) × (all (λ x. nat_le 1 (length x)) xs ≡ true) × (all letter_or_digit reference ≡ true → all (all (all letter_or_digit)) xs ≡ true)

-- the trailer of any reference and of any count up to 999999
abbrev pub TrailersFillable : Type 0
TrailersFillable =
    (n : ℕ) (reference : List ℕ) → n ≤ 999999 → is_reference reference ≡ true →
    (xs : List (List (List ℕ))) × (trailer_fault n reference xs ≡ None) × (all (λ x. nat_le 1 (length x)) xs ≡ true) × (all letter_or_digit reference ≡ true → all (all (all letter_or_digit)) xs ≡ true)
