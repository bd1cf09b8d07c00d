-- The first component of a segment's bytes, and what is behind it.
use Rattle.std.proofs.Common.{◌≡◌, ℕ, suc, Bool, true, false, cond, not, ◌&&◌, ◌||◌, eqb, ◌≤◌, ◌⊎◌, List, [], ◌∷◌, map, length, take, drop, sym, refl, ap, ◌∙◌, subst, inl, inr, arith}
use Rattle.std.proofs.lemmas.List.{length-map}
use Rattle.std.proofs.lemmas.Bool.{cond-true, cond-false, cond_both, true≢false, and_parts, and_from, eqb-true, eq-eqb, not-true, both_ways, cases_Bool, or_left, or_right, or_from}
use Rattle.syntax.specs.declared.marks.Marks.{Marks}
use Rattle.syntax.specs.Split.{releases, divides, onto, split, characters}
use Rattle.edifact.specs.Segments.{elements, components, parts_of}
use Rattle.message.specs.Judging.{first, others}
use Rattle.message.specs.Messages.{behind_tag}
use Rattle.examiner.specs.Measuring.{stretch}
use Rattle.examiner.specs.Texts.{has_more}
use Rattle.examiner.specs.Parts.{texts_of, same_element, next_elements}

-- pieces of bytes that may begin protected, the first with that flag
module _ (r c e : ℕ) where
  abbrev parts_from : Bool → List (List ℕ) → List (List (List ℕ))
  parts_from p [] = []
  parts_from p (x ∷ xs) = split r c p x ∷ map (split r c false) xs

  abbrev in_first : List ℕ → List (List ℕ)
  in_first [] = []
  in_first (b ∷ bs) = cond (eqb b e) [] (first (parts_from false (split r e false bs)))

  abbrev in_others : List ℕ → List (List (List ℕ))
  in_others [] = []
  in_others (b ∷ bs) = cond (eqb b e) (parts_from false (split r e false bs)) (others (parts_from false (split r e false bs)))

  split_plain : (m : ℕ) (p : Bool) (b : ℕ) (x : List ℕ) → divides r m p b ≡ false → split r m p (b ∷ x) ≡ onto b (split r m (releases r p b) x)
  split_plain m p b x h = cond-false (divides r m p b) ([] ∷ split r m (releases r p b) x) (onto b (split r m (releases r p b) x)) h

  split_mark : (m : ℕ) (p : Bool) (b : ℕ) (x : List ℕ) → divides r m p b ≡ true → split r m p (b ∷ x) ≡ [] ∷ split r m (releases r p b) x
  split_mark m p b x h = cond-true (divides r m p b) ([] ∷ split r m (releases r p b) x) (onto b (split r m (releases r p b) x)) h

  -- a mark is the byte, and protects nothing
  divides_is : (m : ℕ) (p : Bool) (b : ℕ) → divides r m p b ≡ true → (b ≡ m) × (releases r p b ≡ false)
  divides_is m p b h =
      let a = and_parts (not (releases r p b)) (not p && eqb b m) h in
      (eqb-true b m (and_parts (not p) (eqb b m) a.1).1, not-true (releases r p b) a.0)

  -- an unprotected mark of either kind
  same_mark : (p : Bool) (b : ℕ) → divides r e p b ≡ false → divides r c p b ≡ true → eqb b e ≡ false
  same_mark p b de dc =
      let a = and_parts (not (releases r p b)) (not p && eqb b c) dc in
      let free : not p ≡ true = (and_parts (not p) (eqb b c) a.1).0 in
      at (eqb b e) refl a.0 free
    where
      at : (t : Bool) → eqb b e ≡ t → not (releases r p b) ≡ true → not p ≡ true → eqb b e ≡ false
      at false x y z = x
      at true x y z = absurd (both_ways (divides r e p b) de (and_from (not (releases r p b)) (not p && eqb b e) y (and_from (not p) (eqb b e) z x)))

  -- a byte that is no mark stands in front of the first component
  step-plain : (p : Bool) (b : ℕ) (bs : List ℕ) (n : ℕ) (xs : List (List ℕ)) → divides r c p b ≡ false →
      parts_from (releases r p b) xs ≡ (take n bs ∷ in_first (drop n bs)) ∷ in_others (drop n bs) → parts_from p (onto b xs) ≡ ((b ∷ take n bs) ∷ in_first (drop n bs)) ∷ in_others (drop n bs)
  step-plain p b bs n [] dc ih = let z : ◌≡◌ {A = ℕ} 0 1 = cc in absurd (omega arith)
  step-plain p b bs n (x ∷ xs) dc ih =
      let a : split r c (releases r p b) x ≡ take n bs ∷ in_first (drop n bs) = cc in
      let d : map (split r c false) xs ≡ in_others (drop n bs) = cc in
      let s = split_plain c p b x dc in
      let f : split r c p (b ∷ x) ≡ (b ∷ take n bs) ∷ in_first (drop n bs) = s ∙ ap (onto b) a in
      cc

  -- there is always a piece
  split-some : (m : ℕ) (p : Bool) (bs : List ℕ) → (x : List ℕ) × (xs : List (List ℕ)) × (split r m p bs ≡ x ∷ xs)
  split-some m p [] = ([], [], refl)
  split-some m p (b ∷ bs) = at (cases_Bool (divides r m p b)) (split-some m (releases r p b) bs)
    where
      at : (divides r m p b ≡ true) ⊎ (divides r m p b ≡ false) → (x : List ℕ) × (xs : List (List ℕ)) × (split r m (releases r p b) bs ≡ x ∷ xs) → (x : List ℕ) × (xs : List (List ℕ)) × (split r m p (b ∷ bs) ≡ x ∷ xs)
      at (inl h) k = ([], split r m (releases r p b) bs, split_mark m p b bs h)
      at (inr h) (x, xs, k) = (b ∷ x, xs, split_plain m p b bs h ∙ ap (onto b) k)

  step-component : (p : Bool) (b : ℕ) (x : List ℕ) (xs : List (List ℕ)) → divides r c p b ≡ true → parts_from p (onto b (x ∷ xs)) ≡ ([] ∷ first (parts_from false (x ∷ xs))) ∷ others (parts_from false (x ∷ xs))
  step-component p b x xs dc =
      let q = (divides_is c p b dc).1 in
      let s : split r c p (b ∷ x) ≡ [] ∷ split r c false x = split_mark c p b x dc ∙ ap (λ (t : Bool). [] ∷ split r c t x) q in
      ap (λ (y : List (List ℕ)). y ∷ map (split r c false) xs) s

  parts_false : (bs : List ℕ) → map (split r c false) (split r e false bs) ≡ parts_from false (split r e false bs)
  parts_false bs = let (x, xs, k) = split-some e false bs in subst (λ (ys : List (List ℕ)). map (split r c false) ys ≡ parts_from false ys) (sym k) refl

  -- a byte at which the stretch ends, and one that it passes
  stretch_mark : (p : Bool) (b : ℕ) (bs : List ℕ) → (divides r c p b || divides r e p b) ≡ true → stretch r c e p (b ∷ bs) ≡ 0
  stretch_mark p b bs h = cond-true (divides r c p b || divides r e p b) 0 (suc (stretch r c e (releases r p b) bs)) h

  stretch-plain : (p : Bool) (b : ℕ) (bs : List ℕ) → (divides r c p b || divides r e p b) ≡ false → stretch r c e p (b ∷ bs) ≡ suc (stretch r c e (releases r p b) bs)
  stretch-plain p b bs h = cond-false (divides r c p b || divides r e p b) 0 (suc (stretch r c e (releases r p b) bs)) h

  -- the first component with what is behind it, the length of the stretch as a number of its own
  abbrev StretchedBy : Bool → List ℕ → ℕ → Type 0
  StretchedBy p bs n = parts_from p (split r e p bs) ≡ (take n bs ∷ in_first (drop n bs)) ∷ in_others (drop n bs)

  by-element : (p : Bool) (b : ℕ) (bs : List ℕ) → divides r e p b ≡ true → StretchedBy p (b ∷ bs) 0
  by-element p b bs h =
      let (be, q) = divides_is e p b h in
      let s : split r e p (b ∷ bs) ≡ [] ∷ split r e false bs = split_mark e p b bs h ∙ ap (λ (t : Bool). [] ∷ split r e t bs) q in
      let a : parts_from p (split r e p (b ∷ bs)) ≡ ([] ∷ []) ∷ parts_from false (split r e false bs) = ap (parts_from p) s ∙ ap (λ (ys : List (List (List ℕ))). ([] ∷ []) ∷ ys) (parts_false bs) in
      let t : eqb b e ≡ true = eq-eqb b e be in
      a ∙ ap (λ (y : Bool). ([] ∷ cond y [] (first (parts_from false (split r e false bs)))) ∷ cond y (parts_from false (split r e false bs)) (others (parts_from false (split r e false bs)))) (sym t)

  by-component : (p : Bool) (b : ℕ) (bs : List ℕ) → divides r e p b ≡ false → divides r c p b ≡ true → StretchedBy p (b ∷ bs) 0
  by-component p b bs he hc =
      let (x, xs, k) = split-some e false bs in
      let q = (divides_is c p b hc).1 in
      let s : split r e p (b ∷ bs) ≡ onto b (split r e false bs) = split_plain e p b bs he ∙ ap (λ (t : Bool). onto b (split r e t bs)) q in
      let a : parts_from p (onto b (split r e false bs)) ≡ ([] ∷ first (parts_from false (split r e false bs))) ∷ others (parts_from false (split r e false bs)) =
      subst (λ (ys : List (List ℕ)). parts_from p (onto b ys) ≡ ([] ∷ first (parts_from false ys)) ∷ others (parts_from false ys)) (sym k) (step-component p b x xs hc) in
      let t : eqb b e ≡ false = same_mark p b he hc in
      ap (parts_from p) s ∙ a ∙ ap (λ (y : Bool). ([] ∷ cond y [] (first (parts_from false (split r e false bs)))) ∷ cond y (parts_from false (split r e false bs)) (others (parts_from false (split r e false bs)))) (sym t)

  by-plain : (p : Bool) (b : ℕ) (bs : List ℕ) (n : ℕ) → divides r e p b ≡ false → divides r c p b ≡ false → StretchedBy (releases r p b) bs n → StretchedBy p (b ∷ bs) (suc n)
  by-plain p b bs n he hc ih = ap (parts_from p) (split_plain e p b bs he) ∙ step-plain p b bs n (split r e (releases r p b) bs) hc ih

  stretched : (p : Bool) (bs : List ℕ) → StretchedBy p bs (stretch r c e p bs)
  stretched p [] = refl
  stretched p (b ∷ bs) = at (cases_Bool (divides r e p b)) (cases_Bool (divides r c p b)) (stretched (releases r p b) bs)
    where
      at : (divides r e p b ≡ true) ⊎ (divides r e p b ≡ false) → (divides r c p b ≡ true) ⊎ (divides r c p b ≡ false) → StretchedBy (releases r p b) bs (stretch r c e (releases r p b) bs) → StretchedBy p (b ∷ bs) (stretch r c e p (b ∷ bs))
      at (inl h) k ih = subst (StretchedBy p (b ∷ bs)) (sym (stretch_mark p b bs (or_right (divides r c p b) (divides r e p b) h))) (by-element p b bs h)
      at (inr h) (inl k) ih = subst (StretchedBy p (b ∷ bs)) (sym (stretch_mark p b bs (or_left (divides r c p b) (divides r e p b) k))) (by-component p b bs h k)
      at (inr h) (inr k) ih = subst (StretchedBy p (b ∷ bs)) (sym (stretch-plain p b bs (or_from (divides r c p b) (divides r e p b) k h))) (by-plain p b bs (stretch r c e (releases r p b) bs) h k ih)

-- at most one piece more than there are bytes, the first no longer than them
length-onto : (b n : ℕ) (ps : List (List ℕ)) → length ps ≤ suc n → length (onto b ps) ≤ suc n
length-onto b n [] h = omega arith
length-onto b n (p ∷ ps) h = h

few_pieces : (r m : ℕ) (p : Bool) (bs : List ℕ) → length (split r m p bs) ≤ suc (length bs)
few_pieces r m p [] = omega arith
few_pieces r m p (b ∷ bs) =
    cond_both (divides r m p b) ([] ∷ split r m (releases r p b) bs) (onto b (split r m (releases r p b) bs)) (λ ps. length ps ≤ suc (suc (length bs)))
    (λ _. omega (arith, few_pieces r m (releases r p b) bs)) (λ _. length-onto b (suc (length bs)) (split r m (releases r p b) bs) (omega (arith, few_pieces r m (releases r p b) bs)))

first_onto : (b : ℕ) (ps : List (List ℕ)) → first (onto b ps) ≡ b ∷ first ps
first_onto b [] = refl
first_onto b (p ∷ ps) = refl

first_short : (r m : ℕ) (p : Bool) (bs : List ℕ) → length (first (split r m p bs)) ≤ length bs
first_short r m p [] = omega arith
first_short r m p (b ∷ bs) =
    cond_both (divides r m p b) ([] ∷ split r m (releases r p b) bs) (onto b (split r m (releases r p b) bs)) (λ ps. length (first ps) ≤ suc (length bs))
    (λ _. omega arith) (λ _. omega (arith, ap length (first_onto b (split r m (releases r p b) bs)), first_short r m (releases r p b) bs))

-- the same of a segment's parts, by their characters
module _ (m : Marks) where
  read : List (List (List ℕ)) → List (List (List ℕ))
  read = map (map (characters m.release false))

  first_read : (ps : List (List (List ℕ))) → first (map (map (characters m.release false)) ps) ≡ map (characters m.release false) (first ps)
  first_read [] = refl
  first_read (x ∷ xs) = refl

  others-read : (ps : List (List (List ℕ))) → others (map (map (characters m.release false)) ps) ≡ map (map (characters m.release false)) (others ps)
  others-read [] = refl
  others-read (x ∷ xs) = refl

  in_first_lem : (bs : List ℕ) → map (characters m.release false) (in_first m.release m.component m.element bs) ≡ same_element m bs
  in_first_lem [] = refl
  in_first_lem (b ∷ bs) = at (eqb b m.element)
    where
      at : (t : Bool) → map (characters m.release false) (cond t [] (first (parts_from m.release m.component m.element false (elements m bs)))) ≡ cond t [] (first (texts_of m bs))
      at true = refl
      at false = ap (λ (ps : List (List (List ℕ))). map (characters m.release false) (first ps)) (sym (parts_false m.release m.component m.element bs)) ∙ sym (first_read (parts_of m bs))

  in_others_lem : (bs : List ℕ) → map (map (characters m.release false)) (in_others m.release m.component m.element bs) ≡ next_elements m bs
  in_others_lem [] = refl
  in_others_lem (b ∷ bs) = at (eqb b m.element)
    where
      at : (t : Bool) → map (map (characters m.release false)) (cond t (parts_from m.release m.component m.element false (elements m bs)) (others (parts_from m.release m.component m.element false (elements m bs)))) ≡ cond t (texts_of m bs) (others (texts_of m bs))
      at true = ap (map (map (characters m.release false))) (sym (parts_false m.release m.component m.element bs))
      at false = ap (λ (ps : List (List (List ℕ))). map (map (characters m.release false)) (others ps)) (sym (parts_false m.release m.component m.element bs)) ∙ sym (others-read (parts_of m bs))

  -- the characters of a segment's bytes: the first component, then the others of its element, then the other elements
  pub texts-step : (bs : List ℕ) (n : ℕ) → n ≡ stretch m.release m.component m.element false bs → texts_of m bs ≡ (characters m.release false (take n bs) ∷ same_element m (drop n bs)) ∷ next_elements m (drop n bs)
  texts-step bs n e =
      let s : parts_of m bs ≡ (take n bs ∷ in_first m.release m.component m.element (drop n bs)) ∷ in_others m.release m.component m.element (drop n bs) =
      parts_false m.release m.component m.element bs ∙ subst (StretchedBy m.release m.component m.element false bs) (sym e) (stretched m.release m.component m.element false bs) in
      ap (map (map (characters m.release false))) s
      ∙ ap (λ (ys : List (List ℕ)). (characters m.release false (take n bs) ∷ ys) ∷ map (map (characters m.release false)) (in_others m.release m.component m.element (drop n bs))) (in_first_lem (drop n bs))
      ∙ ap (λ (ys : List (List (List ℕ))). (characters m.release false (take n bs) ∷ same_element m (drop n bs)) ∷ ys) (in_others_lem (drop n bs))

  -- an element always has a component
  pub first_more : (bs : List ℕ) → true ≡ has_more (first (texts_of m bs))
  first_more bs = sym (ap (λ (ts : List (List (List ℕ))). has_more (first ts)) (texts-step bs (stretch m.release m.component m.element false bs) refl))

  pub first_some : (bs : List ℕ) → first (texts_of m bs) ≡ [] → ⊥
  first_some bs e = let z : true ≡ false = first_more bs ∙ ap has_more e in true≢false z

  -- the bytes hold at most one component more than there are bytes
  pub first_few : (bs : List ℕ) → length (first (texts_of m bs)) ≤ suc (length bs)
  first_few bs =
      let (x, xs, k) = split-some m.release m.component m.element m.element false bs in
      let short : length x ≤ length bs = omega (arith, ap (λ (ps : List (List ℕ)). length (first ps)) k, first_short m.release m.element false bs) in
      let here : first (texts_of m bs) ≡ map (characters m.release false) (components m x) = ap (λ (ps : List (List ℕ)). first (map (map (characters m.release false)) (map (components m) ps))) k in
      omega (arith, ap length here, length-map (components m x) (characters m.release false), few_pieces m.release m.component false x, short)

  -- the bytes behind the first component
  module _ (bs rest : List ℕ) (n : ℕ) (at : n ≡ stretch m.release m.component m.element false bs) (behind : rest ≡ drop n bs) where
    step : texts_of m bs ≡ (characters m.release false (take n bs) ∷ same_element m rest) ∷ next_elements m rest
    step = texts-step bs n at ∙ ap (λ (ys : List ℕ). (characters m.release false (take n bs) ∷ same_element m ys) ∷ next_elements m ys) (sym behind)

    pub first_component_is : first (first (texts_of m bs)) ≡ characters m.release false (take n bs)
    first_component_is = ap (λ (ts : List (List (List ℕ))). first (first ts)) step

    pub other_components_are : others (first (texts_of m bs)) ≡ same_element m rest
    other_components_are = ap (λ (ts : List (List (List ℕ))). others (first ts)) step

    pub later_elements_are : others (texts_of m bs) ≡ next_elements m rest
    later_elements_are = ap others step

-- the elements behind the tag
pub behind-tag : (m : Marks) (bs : List ℕ) → others (texts_of m bs) ≡ map (map (characters m.release false)) (behind_tag (parts_of m bs))
behind-tag m bs = at (parts_of m bs)
  where
    at : (ps : List (List (List ℕ))) → others (map (map (characters m.release false)) ps) ≡ map (map (characters m.release false)) (behind_tag ps)
    at [] = refl
    at (x ∷ xs) = refl

pub ruleset cursor_steps = (first_some, first_more, first_few)

pub ruleset measure_steps = (first_component_is, other_components_are, later_elements_are)
