-- Bytes of which each fits where it stands, and how splitting and joining keep that.
use Rattle.std.proofs.Common.{◌≡◌, ℕ, ◌<◌, Bool, true, false, not, ◌&&◌, List, [], ◌∷◌, ◌++◌, length, sym, refl, ap, ◌∙◌, subst, arith}
use Rattle.std.proofs.lemmas.Bool.{and_parts, and_from, not_from_false, cond-true, cond-false, cond_both}
use Rattle.std.proofs.lemmas.Bool.Decides.{nat_tests}
use Rattle.syntax.specs.Split.{releases, divides, onto, split, join}
use Rattle.edifact.specs.Segments.{first_of, others_of}
use Rattle.syntax.proofs.Splits.{split-some, divides_is}

-- each byte fits, given whether it is protected, and the bytes don't end behind a release mark
abbrev pub closed : (fits : Bool → ℕ → Bool) (release : ℕ) (protected : Bool) → List ℕ → Bool
closed fits rl r [] = not r
closed fits rl r (b ∷ bs) = fits r b && closed fits rl (releases rl r b) bs

abbrev pub all_closed : (fits : Bool → ℕ → Bool) (release : ℕ) → List (List ℕ) → Bool
all_closed fits rl [] = true
all_closed fits rl (p ∷ ps) = closed fits rl false p && all_closed fits rl ps

-- all pieces but the last are closed, the first being p
abbrev pub EndedClosed : (fits : Bool → ℕ → Bool) (release : ℕ) (protected : Bool) → List ℕ → List (List ℕ) → Type 0
EndedClosed fits rl r p [] = Unit {0}
EndedClosed fits rl r p (q ∷ qs) = (closed fits rl r p ≡ true) × EndedClosed fits rl false q qs

-- a byte that fits in one sense fits in another
abbrev pub Implies : (fits also : Bool → ℕ → Bool) → Type 0
Implies fits also = (r : Bool) (b : ℕ) → fits r b ≡ true → also r b ≡ true

-- a byte that fits is no unprotected mark
abbrev pub Excludes : (fits : Bool → ℕ → Bool) (release mark : ℕ) → Type 0
Excludes fits rl k = (r : Bool) (b : ℕ) → fits r b ≡ true → divides rl k r b ≡ false

module _ (fits also : Bool → ℕ → Bool) (rl : ℕ) (implies : Implies fits also) where
  pub closed-implied : (r : Bool) (bs : List ℕ) → closed fits rl r bs ≡ true → closed also rl r bs ≡ true
  closed-implied r [] h = h
  closed-implied r (b ∷ bs) h =
      let a = and_parts (fits r b) (closed fits rl (releases rl r b) bs) h in
      and_from (also r b) (closed also rl (releases rl r b) bs) (implies r b a.0)
      (closed-implied (releases rl r b) bs a.1)

  pub all-closed-implied : (ps : List (List ℕ)) → all_closed fits rl ps ≡ true → all_closed also rl ps ≡ true
  all-closed-implied [] h = refl
  all-closed-implied (p ∷ ps) h =
      let a = and_parts (closed fits rl false p) (all_closed fits rl ps) h in
      and_from (closed also rl false p) (all_closed also rl ps) (closed-implied false p a.0)
      (all-closed-implied ps a.1)

mark_divides : (rl k : ℕ) (r : Bool) → (k ≡ rl → ⊥) → not r ≡ true →
    (divides rl k r k ≡ true) × (releases rl r k ≡ false)
mark_divides rl k r ne h = grind (arith, nat_tests)

-- splitting at a mark that no byte of a closed piece is
module _ (fits : Bool → ℕ → Bool) (rl k : ℕ) (excludes : Excludes fits rl k) where
  pub split-closed : (r : Bool) (p : List ℕ) → closed fits rl r p ≡ true → split rl k r p ≡ p ∷ []
  split-closed r [] h = refl
  split-closed r (b ∷ p) h =
      let a = and_parts (fits r b) (closed fits rl (releases rl r b) p) h in
      let rest : List (List ℕ) = split rl k (releases rl r b) p in
      cond-false (divides rl k r b) ([] ∷ rest) (onto b rest) (excludes r b a.0)
      ∙ ap (onto b) (split-closed (releases rl r b) p a.1)

  pub split-before : (r : Bool) (p rest : List ℕ) → (k ≡ rl → ⊥) → closed fits rl r p ≡ true →
      split rl k r (p ++ k ∷ rest) ≡ p ∷ split rl k false rest
  split-before r [] rest ne h =
      let a = mark_divides rl k r ne h in
      let after : List (List ℕ) = split rl k (releases rl r k) rest in
      cond-true (divides rl k r k) ([] ∷ after) (onto k after) a.0 ∙ ap (λ x. [] ∷ split rl k x rest) a.1
  split-before r (b ∷ p) rest ne h =
      let a = and_parts (fits r b) (closed fits rl (releases rl r b) p) h in
      let after : List (List ℕ) = split rl k (releases rl r b) (p ++ k ∷ rest) in
      cond-false (divides rl k r b) ([] ∷ after) (onto b after) (excludes r b a.0)
      ∙ ap (onto b) (split-before (releases rl r b) p rest ne a.1)

  -- closed pieces, joined, are split into themselves
  pub split-join : (k ≡ rl → ⊥) → (ps : List (List ℕ)) → 0 < length ps → all_closed fits rl ps ≡ true →
      split rl k false (join k ps) ≡ ps
  split-join ne [] h a = absurd (omega arith)
  split-join ne (p ∷ []) h a = split-closed false p (and_parts (closed fits rl false p) true a).0
  split-join ne (p ∷ q ∷ ps) h a =
      let b = and_parts (closed fits rl false p) (all_closed fits rl (q ∷ ps)) a in
      split-before false p (join k (q ∷ ps)) ne b.0 ∙ ap (λ x. p ∷ x) (split-join ne (q ∷ ps) (omega arith) b.1)

-- joining by a mark that fits and is no release mark
module _ (fits : Bool → ℕ → Bool) (rl c : ℕ) (ne : c ≡ rl → ⊥) (fit : fits false c ≡ true) where
  closed-before : (r : Bool) (p rest : List ℕ) → closed fits rl r p ≡ true → closed fits rl false rest ≡ true →
      closed fits rl r (p ++ c ∷ rest) ≡ true
  closed-before true [] rest h w = grind arith
  closed-before false [] rest h w =
      let a = mark_divides rl c false ne refl in
      and_from (fits false c) (closed fits rl (releases rl false c) rest) fit (rw a.1 w)
  closed-before r (b ∷ p) rest h w =
      let a = and_parts (fits r b) (closed fits rl (releases rl r b) p) h in
      and_from (fits r b) (closed fits rl (releases rl r b) (p ++ c ∷ rest)) a.0
      (closed-before (releases rl r b) p rest a.1 w)

  pub closed-join : (ps : List (List ℕ)) → all_closed fits rl ps ≡ true → closed fits rl false (join c ps) ≡ true
  closed-join [] h = refl
  closed-join (p ∷ []) h = (and_parts (closed fits rl false p) true h).0
  closed-join (p ∷ q ∷ ps) h =
      let a = and_parts (closed fits rl false p) (all_closed fits rl (q ∷ ps)) h in
      closed-before false p (join c (q ∷ ps)) a.0 (closed-join (q ∷ ps) a.1)

pub first-onto : (b : ℕ) (ps : List (List ℕ)) → first_of (onto b ps) ≡ b ∷ first_of ps
first-onto b [] = refl
first-onto b (p ∷ ps) = refl

pub others-onto : (b : ℕ) (ps : List (List ℕ)) → others_of (onto b ps) ≡ others_of ps
others-onto b [] = refl
others-onto b (p ∷ ps) = refl

pub first-others : (ps : List (List ℕ)) → 0 < length ps → ps ≡ first_of ps ∷ others_of ps
first-others [] h = absurd (omega arith)
first-others (p ∷ ps) h = refl

-- the first piece is closed behind the byte before it, and the others are closed
abbrev pub FirstClosed : (fits : Bool → ℕ → Bool) (release : ℕ) (protected : Bool) → List (List ℕ) → Type 0
FirstClosed fits rl r ps = (closed fits rl r (first_of ps) ≡ true) × (all_closed fits rl (others_of ps) ≡ true)

first-closed-all : (fits : Bool → ℕ → Bool) (rl : ℕ) (ps : List (List ℕ)) → 0 < length ps →
    FirstClosed fits rl false ps → all_closed fits rl ps ≡ true
first-closed-all fits rl [] h a = absurd (omega arith)
first-closed-all fits rl (p ∷ ps) h a = and_from (closed fits rl false p) (all_closed fits rl ps) a.0 a.1

unprotected : (rl k : ℕ) (r : Bool) (b : ℕ) → divides rl k r b ≡ true → not r ≡ true
unprotected rl k r b h = grind (arith, nat_tests)

-- a byte that fits and isn't the unprotected mark fits in another sense
abbrev pub Gains : (fits also : Bool → ℕ → Bool) (release mark : ℕ) → Type 0
Gains fits also rl k = (r : Bool) (b : ℕ) → fits r b ≡ true → divides rl k r b ≡ false → also r b ≡ true

-- the pieces of closed bytes are closed, and free of the mark
module _ (fits also : Bool → ℕ → Bool) (rl k : ℕ) (gains : Gains fits also rl k) where
  split-first-closed : (r : Bool) (bs : List ℕ) → closed fits rl r bs ≡ true → FirstClosed also rl r (split rl k r bs)
  split-first-closed r [] h = (h, refl)
  split-first-closed r (b ∷ bs) h =
      let a = and_parts (fits r b) (closed fits rl (releases rl r b) bs) h in
      let rest : List (List ℕ) = split rl k (releases rl r b) bs in
      let again : FirstClosed also rl (releases rl r b) rest = split-first-closed (releases rl r b) bs a.1 in
      cond_both (divides rl k r b) ([] ∷ rest) (onto b rest) (FirstClosed also rl r)
      (λ e. (
        unprotected rl k r b e,
        first-closed-all also rl rest (split-some rl k (releases rl r b) bs)
            (subst (λ x. FirstClosed also rl x rest) (divides_is rl k r b e).1 again),
      ))
      (λ e. (
        subst (λ x. closed also rl r x ≡ true) (sym (first-onto b rest))
            (and_from (also r b) (closed also rl (releases rl r b) (first_of rest)) (gains r b a.0 e) again.0),
        ap (all_closed also rl) (others-onto b rest) ∙ again.1,
      ))

  pub split-all-closed : (bs : List ℕ) → closed fits rl false bs ≡ true → all_closed also rl (split rl k false bs) ≡ true
  split-all-closed bs h =
      first-closed-all also rl (split rl k false bs) (split-some rl k false bs) (split-first-closed false bs h)

-- whether a byte isn't the unprotected mark
abbrev pub no_mark : (release mark : ℕ) (protected : Bool) → ℕ → Bool
no_mark rl k r b = not (divides rl k r b)

ended_cons : (fits : Bool → ℕ → Bool) (rl : ℕ) (r : Bool) (b : ℕ) (p : List ℕ) (ps : List (List ℕ)) → fits r b ≡ true →
    EndedClosed fits rl (releases rl r b) p ps → EndedClosed fits rl r (b ∷ p) ps
ended_cons fits rl r b p [] f h = tt
ended_cons fits rl r b p (q ∷ qs) f h = (and_from (fits r b) (closed fits rl (releases rl r b) p) f h.0, h.1)

ended-empty : (fits : Bool → ℕ → Bool) (rl : ℕ) (r : Bool) (ps : List (List ℕ)) → not r ≡ true →
    EndedClosed fits rl false (first_of ps) (others_of ps) → EndedClosed fits rl r [] ps
ended-empty fits rl r [] f h = tt
ended-empty fits rl r (p ∷ ps) f h = (f, h)

-- each piece that a mark ends is free of that mark, and closed
pub split-ended-closed : (rl k : ℕ) (r : Bool) (bs : List ℕ) →
    EndedClosed (no_mark rl k) rl r (first_of (split rl k r bs)) (others_of (split rl k r bs))
split-ended-closed rl k r [] = tt
split-ended-closed rl k r (b ∷ bs) =
    let fits : Bool → ℕ → Bool = no_mark rl k in
    let rest : List (List ℕ) = split rl k (releases rl r b) bs in
    let again : EndedClosed fits rl (releases rl r b) (first_of rest) (others_of rest) =
    split-ended-closed rl k (releases rl r b) bs in
    cond_both (divides rl k r b) ([] ∷ rest) (onto b rest) (λ ps. EndedClosed fits rl r (first_of ps) (others_of ps))
    (λ e. ended-empty fits rl r rest (unprotected rl k r b e)
    (subst (λ x. EndedClosed fits rl x (first_of rest) (others_of rest)) (divides_is rl k r b e).1 again))
    (λ e. subst (λ x. EndedClosed fits rl r x (others_of (onto b rest))) (sym (first-onto b rest))
    (subst (λ x. EndedClosed fits rl r (b ∷ first_of rest) x) (sym (others-onto b rest))
    (ended_cons fits rl r b (first_of rest) (others_of rest) (not_from_false (divides rl k r b) e) again)))
