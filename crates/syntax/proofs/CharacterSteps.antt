-- One character more, in a loop that compares characters with a word.
use Rattle.std.proofs.Common.{◌≡◌, ℕ, ◌+◌, ◌<◌, ◌≤◌, suc, Bool, true, false, cond, ◌&&◌, eqb, List, [], ◌∷◌, length, get_or, drop, refl, ◌∙◌}
use Rattle.std.proofs.lemmas.List.{at_drop_more, at_drop_all}
use Rattle.std.specs.Str.{bytes_eq}
use Rattle.syntax.specs.Split.{releases, characters}

pub count_more : (rl : ℕ) (r : Bool) (s : List ℕ) (i : ℕ) → i < length s →
    length (characters rl r (drop i s)) ≡ cond (releases rl r (get_or s i 0)) (length (characters rl true (drop (i + 1) s))) (suc (length (characters rl false (drop (i + 1) s))))
count_more rl r s i h = at_drop_more (λ x. length (characters rl r x)) s i 0 h ∙
    (elim (releases rl r (get_or s i 0)) as (λ t. length (cond t (characters rl t (drop (i + 1) s)) (get_or s i 0 ∷ characters rl t (drop (i + 1) s))) ≡ cond t (length (characters rl true (drop (i + 1) s))) (suc (length (characters rl false (drop (i + 1) s)))))
    [ true ↦ refl | false ↦ refl ])

pub count_done : (rl : ℕ) (r : Bool) (s : List ℕ) (i : ℕ) → length s ≤ i → length (characters rl r (drop i s)) ≡ 0
count_done rl r s i h = at_drop_all (λ x. length (characters rl r x)) s i h

pub same_more : (x : ℕ) (xs s : List ℕ) (i : ℕ) → i < length s → bytes_eq (x ∷ xs) (drop i s) ≡ (eqb x (get_or s i 0) && bytes_eq xs (drop (i + 1) s))
same_more x xs s i h = at_drop_more (bytes_eq (x ∷ xs)) s i 0 h

pub same_short : (s : List ℕ) (i : ℕ) → i < length s → bytes_eq [] (drop i s) ≡ false
same_short s i h = at_drop_more (bytes_eq []) s i 0 h

pub same-long : (x : ℕ) (xs s : List ℕ) (i : ℕ) → length s ≤ i → bytes_eq (x ∷ xs) (drop i s) ≡ false
same-long x xs s i h = at_drop_all (bytes_eq (x ∷ xs)) s i h

pub same_end : (s : List ℕ) (i : ℕ) → length s ≤ i → bytes_eq [] (drop i s) ≡ true
same_end s i h = at_drop_all (bytes_eq []) s i h
