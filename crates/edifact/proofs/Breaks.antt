-- CR and LF in front of bytes: they are no marks, so that splitting and skipping them may change places.
use Rattle.std.proofs.Common.{◌≡◌, ℕ, suc, ◌≤◌, Bool, true, false, cond, List, [], ◌∷◌, ◌++◌, length, take, drop, sym, refl, ap, ◌∙◌, subst, arith}
use Rattle.std.proofs.lemmas.Bool.{and_parts, and_from, cond_both, cond-true, cond-false}
use Rattle.std.proofs.lemmas.Bool.Decides.{nat_tests}
use Rattle.std.specs.List.{prefix_len}
use Rattle.syntax.specs.Bytes.{line_break, break_run}
use Rattle.syntax.specs.Split.{releases, divides, onto, split}
use Rattle.edifact.specs.Segments.{first_of, others_of}
use Rattle.edifact.specs.Laws.{are_breaks}
use Rattle.syntax.proofs.Splits.{split-some}
use Rattle.edifact.proofs.Wholes.{closed, EndedClosed, first-onto, others-onto, first-others}

break_is_no_mark : (rl k b : ℕ) → 33 ≤ rl → 33 ≤ k → line_break b ≡ true →
    (releases rl false b ≡ false) × (divides rl k false b ≡ false)
break_is_no_mark rl k b h g e = grind (arith, nat_tests)

split_break : (rl k b : ℕ) (bs : List ℕ) → 33 ≤ rl → 33 ≤ k → line_break b ≡ true →
    split rl k false (b ∷ bs) ≡ onto b (split rl k false bs)
split_break rl k b bs h g e =
    let n = break_is_no_mark rl k b h g e in
    ap (λ t. cond t ([] ∷ split rl k (releases rl false b) bs) (onto b (split rl k (releases rl false b) bs))) n.1
    ∙ ap (λ r. onto b (split rl k r bs)) n.0

-- the CR and LF in front of the first piece are those in front of all bytes
pub break_run-first : (rl k : ℕ) → 33 ≤ rl → 33 ≤ k → (bs : List ℕ) →
    break_run (first_of (split rl k false bs)) ≡ break_run bs
break_run-first rl k h g [] = refl
break_run-first rl k h g (b ∷ bs) =
    let rest : List (List ℕ) = split rl k (releases rl false b) bs in
    (elim (line_break b)
    as (λ t. line_break b ≡ t → break_run (first_of (split rl k false (b ∷ bs))) ≡ cond t (suc (break_run bs)) 0) [
      | true ↦ λ e. ap (λ x. break_run (first_of x)) (split_break rl k b bs h g e)
          ∙ ap break_run (first-onto b (split rl k false bs))
          ∙ ap (λ t. cond t (suc (break_run (first_of (split rl k false bs)))) 0) e ∙ ap suc (break_run-first rl k h g bs)
      | false ↦ λ e. cond_both (divides rl k false b) ([] ∷ rest) (onto b rest) (λ x. break_run (first_of x) ≡ 0)
          (λ _. refl) (λ _. ap break_run (first-onto b rest) ∙ ap (λ t. cond t (suc (break_run (first_of rest))) 0) e)
    ]) refl

-- skipping them before splitting, or in the first piece
pub split_skipped : (rl k : ℕ) → 33 ≤ rl → 33 ≤ k → (bs : List ℕ) →
    split rl k false (drop (break_run bs) bs)
    ≡ drop (break_run bs) (first_of (split rl k false bs)) ∷ others_of (split rl k false bs)
split_skipped rl k h g [] = refl
split_skipped rl k h g (b ∷ bs) =
    let rest : List (List ℕ) = split rl k false bs in
    (elim (line_break b)
    as (λ t. line_break b ≡ t → split rl k false (drop (cond t (suc (break_run bs)) 0) (b ∷ bs))
    ≡ drop (cond t (suc (break_run bs)) 0) (first_of (split rl k false (b ∷ bs))) ∷ others_of (split rl k false (b ∷ bs))) [
      | true ↦ λ e. split_skipped rl k h g bs
          ∙ sym (ap (λ x. drop (suc (break_run bs)) (first_of x) ∷ others_of x) (split_break rl k b bs h g e)
          ∙ ap (λ x. drop (suc (break_run bs)) x ∷ others_of (onto b rest)) (first-onto b rest)
          ∙ ap (λ x. drop (break_run bs) (first_of rest) ∷ x) (others-onto b rest))
      | false ↦ λ _. first-others (split rl k false (b ∷ bs)) (split-some rl k false (b ∷ bs))
    ]) refl

-- CR and LF in front of bytes that begin with neither
pub break_run-append : (breaks bs : List ℕ) → are_breaks breaks ≡ true → break_run bs ≡ 0 →
    break_run (breaks ++ bs) ≡ length breaks
break_run-append [] bs h z = z
break_run-append (b ∷ breaks) bs h z =
    let a = and_parts (line_break b) (are_breaks breaks) h in
    cond-true (line_break b) (suc (break_run (breaks ++ bs))) 0 a.0 ∙ ap suc (break_run-append breaks bs a.1 z)

-- what is skipped is CR and LF
pub skipped_breaks : (bs : List ℕ) → are_breaks (take (break_run bs) bs) ≡ true
skipped_breaks [] = refl
skipped_breaks (b ∷ bs) =
    (elim (line_break b) as (λ t. line_break b ≡ t → are_breaks (take (cond t (suc (break_run bs)) 0) (b ∷ bs)) ≡ true) [
      | true ↦ λ e. and_from (line_break b) (are_breaks (take (break_run bs) bs)) e (skipped_breaks bs)
      | false ↦ λ _. refl
    ]) refl

pub break_run-within : (bs : List ℕ) → break_run bs ≤ length bs
break_run-within [] = omega arith
break_run-within (b ∷ bs) =
    cond_both (line_break b) (suc (break_run bs)) 0 (λ x. x ≤ suc (length bs))
    (λ _. omega (arith, break_run-within bs)) (λ _. omega arith)

-- what is left of a closed piece is closed
closed_skipped : (fits : Bool → ℕ → Bool) (rl : ℕ) → 33 ≤ rl → (p : List ℕ) → closed fits rl false p ≡ true →
    closed fits rl false (drop (break_run p) p) ≡ true
closed_skipped fits rl h [] c = refl
closed_skipped fits rl h (b ∷ p) c =
    let a = and_parts (fits false b) (closed fits rl (releases rl false b) p) c in
    (elim (line_break b)
    as (λ t. line_break b ≡ t → closed fits rl false (drop (cond t (suc (break_run p)) 0) (b ∷ p)) ≡ true) [
      | true ↦ λ e. closed_skipped fits rl h p
          (subst (λ r. closed fits rl r p ≡ true) (break_is_no_mark rl rl b h h e).0 a.1)
      | false ↦ λ _. c
    ]) refl

pub ended_closed_skipped : (fits : Bool → ℕ → Bool) (rl : ℕ) → 33 ≤ rl → (p : List ℕ) (ps : List (List ℕ)) →
    EndedClosed fits rl false p ps → EndedClosed fits rl false (drop (break_run p) p) ps
ended_closed_skipped fits rl h p [] c = tt
ended_closed_skipped fits rl h p (q ∷ qs) c = (closed_skipped fits rl h p c.0, c.1)

-- an allowed byte is neither CR nor LF
pub break_run-allowed : (b : ℕ) (bs : List ℕ) → 32 ≤ b → break_run (b ∷ bs) ≡ 0
break_run-allowed b bs h = cond-false (line_break b) (suc (break_run bs)) 0 (no_break b h)
  where
    no_break : (b : ℕ) → 32 ≤ b → line_break b ≡ false
    no_break b h = grind (arith, nat_tests)

-- as std counts them
pub break_run_prefix : (bs : List ℕ) → prefix_len line_break bs ≡ break_run bs
break_run_prefix [] = refl
break_run_prefix (b ∷ bs) = ap (λ n. cond (line_break b) n 0) (omega (arith, break_run_prefix bs))
