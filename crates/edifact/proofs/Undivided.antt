-- One piece alone, told by the length of the first.
use Rattle.std.proofs.Common.{◌≡◌, ℕ, ◌+◌, ◌-◌, ◌≤◌, Bool, true, false, eqb, List, length, take, drop, sym, ap, ◌∙◌, inl, inr, arith}
use Rattle.std.proofs.lemmas.Bool.{ne_eqb, eq-eqb, cases_lt}
use Rattle.syntax.specs.Split.{split, reach}
use Rattle.syntax.proofs.Splits.{split-some, split-next, split-last}

pub undivided : (rl k n : ℕ) (bs : List ℕ) → n ≡ reach rl k false bs → n ≤ length bs → eqb n (length bs) ≡ eqb (length (split rl k false bs)) 1
undivided rl k n bs e w = elim (cases_lt n (length bs)) [
  | inl l ↦
      let more = split-some rl k false (take (length bs - (n + 1)) (drop (n + 1) bs)) in
      ne_eqb n (length bs) (λ f. omega (arith, l, f)) ∙ sym (ne_eqb (length (split rl k false bs)) 1 (λ f. omega (arith, more, f, ap length (split-next rl k n bs e l))))
  | inr g ↦
      eq-eqb n (length bs) (omega (arith, g, w)) ∙ sym (eq-eqb (length (split rl k false bs)) 1 (ap length (split-last rl k n bs e g)))
]
