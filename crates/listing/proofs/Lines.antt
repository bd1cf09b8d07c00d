-- The lines that are written so far and those that are to come make up the whole.
use Rattle.std.proofs.Common.{◌≡◌, ℕ, ◌+◌, ◌-◌, ◌^◌, ◌<◌, false, List, [], ◌∷◌, ◌++◌, ◌⊎◌, map, length, codes, Some, None, Option, sym, refl, ap, ◌∙◌, inl, inr, append_assoc, append-nil, arith}
use Rattle.std.specs.declared.iter.Zip.{Zip}
use Rattle.std.specs.declared.ops.RangeFrom.{RangeFrom}
use Rattle.std.specs.Iterator.Adapters.{zip_first, zip_second}
use Rattle.std.specs.List.{flat_map, join_by}
use Rattle.syntax.specs.declared.marks.Marks.{Marks}
use Rattle.syntax.specs.Split.{characters}
use Rattle.edifact.specs.Segments.{others_of}
use Rattle.std.specs.Iterator.{YieldsFirstBy}
use Rattle.edifact.specs.Cursors.{Part, part}
use Rattle.listing.specs.Plain.{lines}

-- the lines of parts that have the same marks
pub part-lines : (line : ℕ → Part → List ℕ) (m : Marks) (n : ℕ) (bs : List (List ℕ)) → lines line n (map (part m) bs) ≡ lines (λ k b. line k (part m b)) n bs
part-lines line m n [] = refl
part-lines line m n (b ∷ bs) = ap (λ x. line n (part m b) ++ x) (part-lines line m (n + 1) bs)

-- nothing more: all parts are written
pub parts-written : (line : ℕ → Part → List ℕ) (m : Marks) (n k : ℕ) (out was : List ℕ) (left start : List Part) (bs : List (List ℕ)) → left ≡ [] →
    out ++ lines line n left ≡ was ++ lines line k start → start ≡ map (part m) bs → out ≡ was ++ lines (λ i b. line i (part m b)) k bs
parts-written line m n k out was left start bs el inv es =
    sym (ap (λ y. out ++ lines line n y) el ∙ append-nil out) ∙ inv
    ∙ ap (λ y. was ++ lines line k y) es ∙ ap (λ y. was ++ y) (part-lines line m k bs)

-- one step of a cursor over parts leaves the others
pub step-others : {T A : Type 0} (left : T → List Part) (v : A → Part) (m : Marks) (bs : List (List ℕ)) (s t : T) (r : Option A) → left s ≡ map (part m) bs → YieldsFirstBy v left s r t → left t ≡ map (part m) (others_of bs)
step-others left v m [] s t None e h = h.1
step-others left v m [] s t (Some p) e h = absurd (omega (arith, ap length (sym e ∙ h)))
step-others left v m (b ∷ bs) s t None e h = absurd (omega (arith, ap length (sym e ∙ h.0)))
step-others left v m (b ∷ bs) s t (Some p) e h =
    let whole : part m b ∷ map (part m) bs ≡ v p ∷ left t = sym e ∙ h in
    cc

pub left_none : {X : Type 0} (left : List X) → length left ≡ 0 → left ≡ []
left_none [] h = refl
left_none (p ∷ ps) h = absurd (omega arith)

-- where a loop over a cursor whose things are numbered from 1 ends
pub numbered-end : {T : Type 0} (left : T → List Part) (line : ℕ → Part → List ℕ) (m : Marks) (bs : List (List ℕ)) (out was : List ℕ) (z first : Zip (RangeFrom ℕ) T) →
    ((u : RangeFrom ℕ) × ((2 ^ 64 - 1 - (zip_first z).start ≡ 0) × (u ≡ zip_first z))) ⊎ ((u : T) × ((left (zip_second z) ≡ []) × (left u ≡ []))) →
    ((zip_first z).start + length (left (zip_second z)) < 2 ^ 64) × (out ++ lines line (zip_first z).start (left (zip_second z)) ≡ was ++ lines line 1 (left (zip_second first))) →
    left (zip_second first) ≡ map (part m) bs → out ≡ was ++ lines (λ k b. line k (part m b)) 1 bs
numbered-end left line m bs out was z first h inv e =
    let none : left (zip_second z) ≡ [] = elim h [
      | inl p ↦ left_none (left (zip_second z)) (omega (arith, p.1.0, inv.0))
      | inr p ↦ p.1.0
    ] in
    parts-written line m (zip_first z).start 1 out was (left (zip_second z)) (left (zip_second first)) bs none inv.1 e

-- the components behind the first, each behind a bar
abbrev pub behind_bar : Part → List ℕ
behind_bar p = codes " | " ++ characters p.marks.release false p.bytes

barred-parts : (m : Marks) (bs : List (List ℕ)) → flat_map behind_bar (map (part m) bs) ≡ flat_map (λ b. codes " | " ++ characters m.release false b) bs
barred-parts m [] = refl
barred-parts m (b ∷ bs) = ap (λ x. behind_bar (part m b) ++ x) (barred-parts m bs)

pub barred-first : (m : Marks) (bs : List (List ℕ)) (p : Part) (after : List Part) (was named out : List ℕ) → map (part m) bs ≡ p ∷ after →
    named ≡ was ++ characters p.marks.release false p.bytes → out ≡ named ++ flat_map behind_bar after → out ≡ was ++ join_by (characters m.release false) (codes " | ") bs
barred-first m [] p after was named out e en eo = let z : ◌≡◌ {A = ℕ} 0 1 = cc in absurd (omega arith)
barred-first m (b ∷ bs) p after was named out e en eo =
    let ep : part m b ≡ p = cc in
    let ea : map (part m) bs ≡ after = cc in
    eo ∙ ap (λ x. x ++ flat_map behind_bar after) en
    ∙ append_assoc was (characters p.marks.release false p.bytes) (flat_map behind_bar after)
    ∙ sym (ap (λ q. was ++ (characters q.marks.release false q.bytes ++ flat_map behind_bar after)) ep)
    ∙ sym (ap (λ x. was ++ (characters m.release false b ++ flat_map behind_bar x)) ea)
    ∙ ap (λ x. was ++ (characters m.release false b ++ x)) (barred-parts m bs)

pub barred-none : (m : Marks) (bs : List (List ℕ)) (after : List Part) (was named out : List ℕ) → map (part m) bs ≡ [] → after ≡ [] → named ≡ was →
    out ≡ named ++ flat_map behind_bar after → out ≡ was ++ join_by (characters m.release false) (codes " | ") bs
barred-none m [] after was named out e ea en eo = eo ∙ ap (λ x. named ++ flat_map behind_bar x) ea ∙ ap (λ x. x ++ []) en
barred-none m (b ∷ bs) after was named out e ea en eo = let z : ◌≡◌ {A = ℕ} 0 1 = cc in absurd (omega arith)
