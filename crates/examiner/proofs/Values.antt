-- The value of digits, digit by digit.
use Rattle.std.proofs.Common.{◌≡◌, ℕ, zero, suc, ◌+◌, ◌-◌, ◌*◌, ◌<◌, ◌≤◌, List, length, get_or, drop, ap, add-one, zero-add, le_refl, suc-add, arith}
use Rattle.std.proofs.lemmas.List.{at_drop_more, at_drop_all}
use Rattle.message.specs.Judging.{value_of}

-- the highest value that n bytes can have
unfoldable pub highest : ℕ → ℕ
highest zero = 0
highest (suc n) = highest n * 10 + 207

pub highest_more : (n : ℕ) → highest (n + 1) ≡ highest n * 10 + 207
unfolding highest
highest_more n = ap highest (add-one n)

highest-below : (n k : ℕ) → highest n ≤ highest (k + n)
unfolding highest
highest-below n zero = rw zero-add (le_refl _)
highest-below n (suc k) = rw suc-add (omega (arith, highest-below n k))

-- 17 bytes stay far below the limit
pub highest-low : (n : ℕ) → n ≤ 16 → highest n ≤ 229999999999999977
unfolding highest
highest-low n h = let e : (16 - n) + n ≡ 16 = omega arith in rw e at (highest-below n (16 - n))

pub value_more : (n : ℕ) (s : List ℕ) (i : ℕ) → i < length s → value_of n (drop i s) ≡ value_of (n * 10 + (get_or s i 0 - 48)) (drop (i + 1) s)
value_more n s i h = at_drop_more (value_of n) s i 0 h

pub value_done : (n : ℕ) (s : List ℕ) (i : ℕ) → length s ≤ i → value_of n (drop i s) ≡ n
value_done n s i h = at_drop_all (value_of n) s i h

pub ruleset value_steps = (highest_more, highest-low, value_more, value_done)
