use Rattle.std.proofs.Common.{◌≡◌, ℕ, suc, ◌+◌, ◌-◌, ◌<◌, ◌≤◌, Bool, true, false, cond, ltb, List, [], ◌∷◌, length, get_or, take, drop, sym, refl, ap, ◌∙◌, add-one, arith}
use Rattle.std.proofs.lemmas.List.{take_rest, take_all, length-drop, drop-drop, at_drop_more, at_drop_all}
use Rattle.std.proofs.lemmas.Bool.{cond-true, cond-false, cond_both, lt-ltb, le-ltb}
use Rattle.std.proofs.lemmas.Bool.Decides.{nat_tests}
use Rattle.syntax.specs.Split.{releases, divides, onto, split, reach, join, characters}

pub divides_is : (rl k : ℕ) (r : Bool) (b : ℕ) → divides rl k r b ≡ true → (b ≡ k) × (releases rl r b ≡ false)
divides_is rl k r b h = grind (arith, nat_tests)

join-onto : (k b : ℕ) (ps : List (List ℕ)) → join k (onto b ps) ≡ b ∷ join k ps
join-onto k b [] = refl
join-onto k b (p ∷ []) = refl
join-onto k b (p ∷ q ∷ ps) = refl

join_cons : (k : ℕ) (ps : List (List ℕ)) → 0 < length ps → join k ([] ∷ ps) ≡ k ∷ join k ps
join_cons k [] h = absurd (omega arith)
join_cons k (p ∷ ps) h = refl

long-onto : (b : ℕ) (ps : List (List ℕ)) → 0 < length (onto b ps)
long-onto b [] = omega arith
long-onto b (p ∷ ps) = omega arith

pub length-onto : (b : ℕ) (ps : List (List ℕ)) → 0 < length ps → length (onto b ps) ≡ length ps
length-onto b [] h = absurd (omega arith)
length-onto b (p ∷ ps) h = refl

pub split-some : (rl k : ℕ) (r : Bool) (bs : List ℕ) → 0 < length (split rl k r bs)
split-some rl k r [] = omega arith
split-some rl k r (b ∷ bs) = cond_both (divides rl k r b) ([] ∷ split rl k (releases rl r b) bs) (onto b (split rl k (releases rl r b) bs)) (λ x. 0 < length x) (λ _. omega arith) (λ _. long-onto b _)

pub join-split : (rl k : ℕ) (r : Bool) (bs : List ℕ) → join k (split rl k r bs) ≡ bs
join-split rl k r [] = refl
join-split rl k r (b ∷ bs) =
    let rest : List (List ℕ) = split rl k (releases rl r b) bs in
    let again : join k rest ≡ bs = join-split rl k (releases rl r b) bs in
    cond_both (divides rl k r b) ([] ∷ rest) (onto b rest) (λ x. join k x ≡ b ∷ bs)
    (λ e. join_cons k rest (split-some rl k (releases rl r b) bs) ∙ ap (λ x. k ∷ x) again ∙ ap (λ x. x ∷ bs) (sym (divides_is rl k r b e).0))
    (λ _. join-onto k b rest ∙ ap (λ x. b ∷ x) again)

pub reach-within : (rl k : ℕ) (r : Bool) (bs : List ℕ) → reach rl k r bs ≤ length bs
reach-within rl k r [] = omega arith
reach-within rl k r (b ∷ bs) =
    cond_both (divides rl k r b) 0 (suc (reach rl k (releases rl r b) bs)) (λ x. x ≤ suc (length bs)) (λ _. omega arith) (λ _. omega (arith, reach-within rl k (releases rl r b) bs))

onto-cond : (b : ℕ) (t : Bool) (x y : List (List ℕ)) → onto b (cond t x y) ≡ cond t (onto b x) (onto b y)
onto-cond b true x y = refl
onto-cond b false x y = refl

pub ltb-suc : (a b : ℕ) → ltb (suc a) (suc b) ≡ ltb a b
ltb-suc a b = grind (arith, nat_tests)

-- the first piece, and what is left behind its mark
pub split-reach : (rl k : ℕ) (r : Bool) (bs : List ℕ) →
    split rl k r bs ≡ cond (ltb (reach rl k r bs) (length bs)) (take (reach rl k r bs) bs ∷ split rl k false (drop (suc (reach rl k r bs)) bs)) (bs ∷ [])
split-reach rl k r [] = refl
split-reach rl k r (b ∷ bs) =
    let n : ℕ = reach rl k (releases rl r b) bs in
    (elim (divides rl k r b) as (λ t. divides rl k r b ≡ t → cond t ([] ∷ split rl k (releases rl r b) bs) (onto b (split rl k (releases rl r b) bs))
    ≡ cond (ltb (cond t 0 (suc n)) (suc (length bs))) (take (cond t 0 (suc n)) (b ∷ bs) ∷ split rl k false (drop (suc (cond t 0 (suc n))) (b ∷ bs))) ((b ∷ bs) ∷ [])) [
      | true ↦ λ e. ap (λ x. [] ∷ split rl k x bs) (divides_is rl k r b e).1 ∙ sym (ap (λ t. cond t ([] ∷ split rl k false bs) ((b ∷ bs) ∷ [])) (lt-ltb 0 (suc (length bs)) (omega arith)))
      | false ↦ λ _. ap (onto b) (split-reach rl k (releases rl r b) bs) ∙ onto-cond b (ltb n (length bs)) (take n bs ∷ split rl k false (drop (suc n) bs)) (bs ∷ []) ∙ sym (ap (λ t. cond t ((b ∷ take n bs) ∷ split rl k false (drop (suc n) bs)) ((b ∷ bs) ∷ [])) (ltb-suc n (length bs)))
    ]) refl

-- the first piece, up to its mark at n, and the others behind it
pub split-next : (rl k n : ℕ) (bs : List ℕ) → n ≡ reach rl k false bs → n < length bs →
    split rl k false bs ≡ take n bs ∷ split rl k false (take (length bs - (n + 1)) (drop (n + 1) bs))
split-next rl k n bs e h =
    split-reach rl k false bs ∙ cond-true _ _ _ (lt-ltb (reach rl k false bs) (length bs) (omega arith))
    ∙ ap (λ x. take x bs ∷ split rl k false (drop (suc x) bs)) (sym e)
    ∙ ap (λ x. take n bs ∷ split rl k false x) (ap (λ x. drop x bs) (sym (add-one n)) ∙ sym (take_rest bs (n + 1)))

pub split-last : (rl k n : ℕ) (bs : List ℕ) → n ≡ reach rl k false bs → length bs ≤ n → split rl k false bs ≡ bs ∷ []
split-last rl k n bs e h = split-reach rl k false bs ∙ cond-false _ _ _ (le-ltb (reach rl k false bs) (length bs) (omega arith))

-- one step of a cursor, which cuts the bytes in two in front of the first mark
pub pieces-next : (rl k n : ℕ) (bs front back : List ℕ) → n ≡ reach rl k false bs → front ≡ take n bs → back ≡ drop n bs → 1 ≤ length back →
    split rl k false bs ≡ front ∷ split rl k false (take (length back - 1) (drop 1 back))
pieces-next rl k n bs front back e f g h =
    let long : length back ≡ length bs - n = ap length g ∙ length-drop n bs in
    split-next rl k n bs e (omega (arith, long, h)) ∙ ap (λ x. x ∷ split rl k false (take (length bs - (n + 1)) (drop (n + 1) bs))) (sym f)
    ∙ ap (λ x. front ∷ split rl k false x) (take_rest bs (n + 1) ∙ sym (drop-drop 1 n bs) ∙ ap (drop 1) (sym g) ∙ sym (take_rest back 1))

pub pieces-last : (rl k n : ℕ) (bs front back : List ℕ) → n ≡ reach rl k false bs → front ≡ take n bs → back ≡ drop n bs → length back < 1 → split rl k false bs ≡ front ∷ []
pieces-last rl k n bs front back e f g h =
    let long : length back ≡ length bs - n = ap length g ∙ length-drop n bs in
    let all : length bs ≤ n = omega (arith, long, h) in
    split-last rl k n bs e all ∙ ap (λ x. x ∷ []) (sym (f ∙ take_all n bs all))

-- there is at most one piece more than there are bytes
pub split-short : (rl k : ℕ) (r : Bool) (bs : List ℕ) → length (split rl k r bs) ≤ length bs + 1
split-short rl k r [] = omega arith
split-short rl k r (b ∷ bs) =
    let rest : List (List ℕ) = split rl k (releases rl r b) bs in
    let short : length rest ≤ length bs + 1 = split-short rl k (releases rl r b) bs in
    cond_both (divides rl k r b) ([] ∷ rest) (onto b rest) (λ x. length x ≤ suc (length bs) + 1) (λ _. omega (arith, short)) (λ _. omega (arith, short, length-onto b rest (split-some rl k (releases rl r b) bs)))

-- there are at most as many characters as bytes
pub characters-short : (rl : ℕ) (r : Bool) (bs : List ℕ) → length (characters rl r bs) ≤ length bs
characters-short rl r [] = omega arith
characters-short rl r (b ∷ bs) =
    let rest : List ℕ = characters rl (releases rl r b) bs in
    let short : length rest ≤ length bs = characters-short rl (releases rl r b) bs in
    cond_both (releases rl r b) rest (b ∷ rest) (λ x. length x ≤ suc (length bs)) (λ _. omega (arith, short)) (λ _. omega (arith, short))

pub count_more : (rl k : ℕ) (r : Bool) (s : List ℕ) (i : ℕ) → i < length s →
    length (split rl k r (drop i s)) ≡ cond (divides rl k r (get_or s i 0)) (suc (length (split rl k (releases rl r (get_or s i 0)) (drop (i + 1) s)))) (length (split rl k (releases rl r (get_or s i 0)) (drop (i + 1) s)))
count_more rl k r s i h =
    let b : ℕ = get_or s i 0 in
    let rest : List (List ℕ) = split rl k (releases rl r b) (drop (i + 1) s) in
    at_drop_more (λ x. length (split rl k r x)) s i 0 h
    ∙ (elim (divides rl k r b) as (λ t. length (cond t ([] ∷ rest) (onto b rest)) ≡ cond t (suc (length rest)) (length rest))
    [ true ↦ refl | false ↦ length-onto b rest (split-some rl k (releases rl r b) (drop (i + 1) s)) ])

pub count_done : (rl k : ℕ) (r : Bool) (s : List ℕ) (i : ℕ) → length s ≤ i → length (split rl k r (drop i s)) ≡ 1
count_done rl k r s i h = at_drop_all (λ x. length (split rl k r x)) s i h

pub reach_more : (rl k : ℕ) (r : Bool) (s : List ℕ) (i : ℕ) → i < length s →
    reach rl k r (drop i s) ≡ cond (divides rl k r (get_or s i 0)) 0 (suc (reach rl k (releases rl r (get_or s i 0)) (drop (i + 1) s)))
reach_more rl k r s i h = at_drop_more (reach rl k r) s i 0 h

pub reach_done : (rl k : ℕ) (r : Bool) (s : List ℕ) (i : ℕ) → length s ≤ i → reach rl k r (drop i s) ≡ 0
reach_done rl k r s i h = at_drop_all (reach rl k r) s i h
