-- The scanner, byte by byte, and that it tells what `end_in` says.
use Rattle.std.proofs.Common.{◌≡◌, ℕ, suc, ◌+◌, ◌-◌, ◌<◌, ◌≤◌, Bool, true, false, cond, ltb, List, [], ◌∷◌, length, get_or, take, drop, Ok, Err, Result, sym, refl, ap, ◌∙◌, ⊎_elim, add-zero, zero-add, arith}
use Rattle.std.proofs.lemmas.List.{at_drop_more, at_drop_all, length-take-le, take-take, take_all}
use Rattle.std.proofs.lemmas.Bool.{cond_both, lt-ltb, cases_lt}
use Rattle.syntax.specs.declared.fault.CutFault.{CutFault}
use Rattle.syntax.specs.declared.fault.CutFault.TheVariants.{ForbiddenByte, UnendedSegment}
use Rattle.syntax.specs.declared.marks.Marks.{Marks}
use Rattle.syntax.specs.Bytes.{allowed, allowed_run}
use Rattle.syntax.specs.Split.{releases, divides, onto, split, reach}
use Rattle.edifact.specs.Segments.{elements, components, last_of, place_behind}
use Rattle.edifact.specs.declared.scan.Standing.{Standing}
use Rattle.edifact.specs.Scanning.{after, start, placed, bounded, end_in}
use Rattle.syntax.proofs.Splits.{split-some, divides_is, length-onto, ltb-suc, reach-within}

abbrev pub scan : Marks → (k : ℕ) → Standing → ℕ → List ℕ → Result ℕ CutFault
scan m k p i [] = Err (UnendedSegment (placed k p))
scan m k p i (b ∷ bs) =
    cond (divides m.release m.terminator p.protected b) (Ok i)
    (cond (allowed b) (scan m k (after m p b) (i + 1) bs) (Err (ForbiddenByte (placed k p))))

pub scan_more : (m : Marks) (k : ℕ) (p : Standing) (s : List ℕ) (i : ℕ) → i < length s →
    scan m k p i (drop i s) ≡ cond (divides m.release m.terminator p.protected (get_or s i 0)) (Ok i)
    (cond (allowed (get_or s i 0)) (scan m k (after m p (get_or s i 0)) (i + 1) (drop (i + 1) s)) (Err (ForbiddenByte (placed k p))))
scan_more m k p s i h = at_drop_more (scan m k p i) s i 0 h

pub scan_done : (m : Marks) (k : ℕ) (p : Standing) (s : List ℕ) (i : ℕ) → length s ≤ i → scan m k p i (drop i s) ≡ Err (UnendedSegment (placed k p))
scan_done m k p s i h = at_drop_all (scan m k p i) s i h

-- the standing behind some bytes
abbrev run : Marks → Standing → List ℕ → Standing
run m p [] = p
run m p (b ∷ bs) = run m (after m p b) bs

-- n bytes up to the terminator, q of them before the first forbidden one
abbrev told : Marks → (k : ℕ) → Standing → ℕ → List ℕ → ℕ → ℕ → Result ℕ CutFault
told m k p i bs n q =
    cond (ltb q n) (Err (ForbiddenByte (placed k (run m p (take q bs)))))
    (cond (ltb n (length bs)) (Ok (i + n)) (Err (UnendedSegment (placed k (run m p bs)))))

abbrev judge : Marks → (k : ℕ) → Standing → ℕ → List ℕ → Result ℕ CutFault
judge m k p i bs =
    told m k p i bs (reach m.release m.terminator p.protected bs) (allowed_run (take (reach m.release m.terminator p.protected bs) bs))

told-end : (m : Marks) (k : ℕ) (p : Standing) (i b : ℕ) (bs : List ℕ) → told m k p i (b ∷ bs) 0 0 ≡ Ok i
told-end m k p i b bs = rw (lt-ltb 0 (suc (length bs)) (omega arith)) (ap Ok (add-zero i))

told_bad : (m : Marks) (k : ℕ) (p : Standing) (i b : ℕ) (bs : List ℕ) (n : ℕ) → told m k p i (b ∷ bs) (suc n) 0 ≡ Err (ForbiddenByte (placed k p))
told_bad m k p i b bs n = rw (lt-ltb 0 (suc n) (omega arith))

told_more : (m : Marks) (k : ℕ) (p : Standing) (i b : ℕ) (bs : List ℕ) (n q : ℕ) → told m k p i (b ∷ bs) (suc n) (suc q) ≡ told m k (after m p b) (i + 1) bs n q
told_more m k p i b bs n q =
    let e : i + suc n ≡ i + 1 + n = omega arith in
    rw (ltb-suc q n, ltb-suc n (length bs), e)

scan-judge : (m : Marks) (k : ℕ) (p : Standing) (i : ℕ) (bs : List ℕ) → scan m k p i bs ≡ judge m k p i bs
scan-judge m k p i [] = refl
scan-judge m k p i (b ∷ bs) =
    let n : ℕ = reach m.release m.terminator (releases m.release p.protected b) bs in
    elim (divides m.release m.terminator p.protected b)
    as (λ t. cond t (Ok i) (cond (allowed b) (scan m k (after m p b) (i + 1) bs) (Err (ForbiddenByte (placed k p))))
    ≡ told m k p i (b ∷ bs) (cond t 0 (suc n)) (allowed_run (take (cond t 0 (suc n)) (b ∷ bs)))) [
      | true ↦ sym (told-end m k p i b bs)
      | false ↦ elim (allowed b)
          as (λ u. cond u (scan m k (after m p b) (i + 1) bs) (Err (ForbiddenByte (placed k p))) ≡ told m k p i (b ∷ bs) (suc n) (cond u (suc (allowed_run (take n bs))) 0)) [
            | true ↦ scan-judge m k (after m p b) (i + 1) bs ∙ sym (told_more m k p i b bs n (allowed_run (take n bs)))
            | false ↦ sym (told_bad m k p i b bs n)
          ]
    ]

-- the standing behind some bytes is the one that their elements and components show
element-step : (t : Bool) (e b : ℕ) (ps : List (List ℕ)) → 0 < length ps → cond t (e + 1) e + (length ps - 1) ≡ e + (length (cond t ([] ∷ ps) (onto b ps)) - 1)
element-step true e b ps h = omega arith
element-step false e b ps h = omega (arith, length-onto b ps h)

run-element : (m : Marks) (p : Standing) (bs : List ℕ) → (run m p bs).element ≡ p.element + (length (split m.release m.element p.protected bs) - 1)
run-element m p [] = omega arith
run-element m p (b ∷ bs) =
    run-element m (after m p b) bs
    ∙ element-step (divides m.release m.element p.protected b) p.element b (split m.release m.element (releases m.release p.protected b) bs) (split-some m.release m.element (releases m.release p.protected b) bs)

-- the component behind some bytes, from their elements; c: the component they begin in
abbrev counted : Marks → Bool → ℕ → List (List ℕ) → ℕ
counted m r c [] = 0
counted m r c (x ∷ []) = c + (length (split m.release m.component r x) - 1)
counted m r c (x ∷ y ∷ ys) = length (components m (last_of (y ∷ ys)))

counted_fresh : (m : Marks) (r : Bool) (c : ℕ) (ps : List (List ℕ)) → 0 < length ps → counted m false 1 ps ≡ counted m r c ([] ∷ ps)
counted_fresh m r c [] h = absurd (omega arith)
counted_fresh m r c (x ∷ []) h = omega (arith, split-some m.release m.component false x)
counted_fresh m r c (x ∷ y ∷ ys) h = refl

counted-onto : (m : Marks) (r : Bool) (c b : ℕ) (ps : List (List ℕ)) → 0 < length ps →
    counted m (releases m.release r b) (cond (divides m.release m.component r b) (c + 1) c) ps ≡ counted m r c (onto b ps)
counted-onto m r c b [] h = absurd (omega arith)
counted-onto m r c b (x ∷ []) h =
    element-step (divides m.release m.component r b) c b (split m.release m.component (releases m.release r b) x) (split-some m.release m.component (releases m.release r b) x)
counted-onto m r c b (x ∷ y ∷ ys) h = refl

counted_step : (m : Marks) (r : Bool) (c b : ℕ) (ps : List (List ℕ)) → 0 < length ps →
    counted m (releases m.release r b) (cond (divides m.release m.element r b) 1 (cond (divides m.release m.component r b) (c + 1) c)) ps ≡ counted m r c (cond (divides m.release m.element r b) ([] ∷ ps) (onto b ps))
counted_step m r c b ps h =
    (elim (divides m.release m.element r b)
    as (λ t. divides m.release m.element r b ≡ t → counted m (releases m.release r b) (cond t 1 (cond (divides m.release m.component r b) (c + 1) c)) ps ≡ counted m r c (cond t ([] ∷ ps) (onto b ps))) [
      | true ↦ λ e. ap (λ x. counted m x 1 ps) (divides_is m.release m.element r b e).1 ∙ counted_fresh m r c ps h
      | false ↦ λ _. counted-onto m r c b ps h
    ]) refl

run-component : (m : Marks) (p : Standing) (bs : List ℕ) → (run m p bs).component ≡ counted m p.protected p.component (split m.release m.element p.protected bs)
run-component m p [] = omega arith
run-component m p (b ∷ bs) =
    run-component m (after m p b) bs
    ∙ counted_step m p.protected p.component b (split m.release m.element (releases m.release p.protected b) bs) (split-some m.release m.element (releases m.release p.protected b) bs)

counted-last : (m : Marks) (ps : List (List ℕ)) → 0 < length ps → counted m false 1 ps ≡ length (components m (last_of ps))
counted-last m [] h = absurd (omega arith)
counted-last m (x ∷ []) h = omega (arith, split-some m.release m.component false x)
counted-last m (x ∷ y ∷ ys) h = refl

place_behind_lem : (m : Marks) (k : ℕ) (bs : List ℕ) → placed k (run m start bs) ≡ place_behind m k bs
place_behind_lem m k bs =
    let e : (run m start bs).element ≡ length (elements m bs) - 1 = omega (arith, run-element m start bs) in
    let c : (run m start bs).component ≡ length (components m (last_of (elements m bs))) = run-component m start bs ∙ counted-last m (elements m bs) (split-some m.release m.element false bs) in
    cc

pub allowed_run-within : (bs : List ℕ) → allowed_run bs ≤ length bs
allowed_run-within [] = omega arith
allowed_run-within (b ∷ bs) = cond_both (allowed b) (suc (allowed_run bs)) 0 (λ x. x ≤ suc (length bs)) (λ _. omega (arith, allowed_run-within bs)) (λ _. omega arith)

-- the first piece in place of all the bytes
told_piece : (m : Marks) (k : ℕ) (bs : List ℕ) (n : ℕ) → n ≤ length bs →
    cond (ltb (allowed_run (take n bs)) n) (Err (ForbiddenByte (place_behind m k (take (allowed_run (take n bs)) bs))))
    (cond (ltb n (length bs)) (Ok n) (Err (UnendedSegment (place_behind m k bs))))
    ≡ bounded m k (ltb n (length bs)) (take n bs)
told_piece m k bs n h =
    let long : length (take n bs) ≡ n = length-take-le n bs h in
    let short : allowed_run (take n bs) ≤ n = omega (arith, allowed_run-within (take n bs)) in
    let front : take (allowed_run (take n bs)) (take n bs) ≡ take (allowed_run (take n bs)) bs = take-take (allowed_run (take n bs)) n bs short in
    simp (long, front) (ap (λ x. cond (ltb (allowed_run (take n bs)) n) (Err (ForbiddenByte (place_behind m k (take (allowed_run (take n bs)) bs)))) x) (last_way m k bs n))
  where
    last_way : (m : Marks) (k : ℕ) (bs : List ℕ) (n : ℕ) →
        cond (ltb n (length bs)) (Ok n) (Err (UnendedSegment (place_behind m k bs))) ≡ cond (ltb n (length bs)) (Ok n) (Err (UnendedSegment (place_behind m k (take n bs))))
    last_way m k bs n = ⊎_elim
        (λ g. ap (λ t. cond t (Ok n) (Err (UnendedSegment (place_behind m k bs)))) (lt-ltb n (length bs) g) ∙ sym (ap (λ t. cond t (Ok n) (Err (UnendedSegment (place_behind m k (take n bs))))) (lt-ltb n (length bs) g)))
        (λ g. ap (λ x. cond (ltb n (length bs)) (Ok n) (Err (UnendedSegment (place_behind m k x)))) (sym (take_all n bs g))) (cases_lt n (length bs))

pub scan_segment : (m : Marks) (k : ℕ) (bs : List ℕ) → scan m k start 0 bs ≡ end_in m k bs
scan_segment m k bs =
    scan-judge m k start 0 bs
    ∙ simp (place_behind_lem, zero-add) (told_piece m k bs (reach m.release m.terminator false bs) (reach-within m.release m.terminator false bs))
