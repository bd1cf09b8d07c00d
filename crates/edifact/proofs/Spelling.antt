-- The characters of a whole component are what it spells.
use Rattle.std.proofs.Common.{◌≡◌, ℕ, Bool, true, false, cond, not, ◌&&◌, ◌||◌, eqb, List, [], ◌∷◌, sym, refl, ap, ◌∙◌, subst, arith}
use Rattle.std.proofs.lemmas.Bool.{and_parts, eqb-true, eqb-false, eq-eqb, ne_eqb}
use Rattle.syntax.specs.declared.marks.Marks.{Marks}
use Rattle.syntax.specs.Bytes.{allowed}
use Rattle.syntax.specs.Split.{releases, characters}
use Rattle.edifact.specs.Laws.{separates, is_whole, Spells, CharactersSpelled}

-- the characters of bytes of which the first is a release mark or isn't
characters-first-plain : (rl b : ℕ) (bs : List ℕ) → eqb b rl ≡ false →
    characters rl false (b ∷ bs) ≡ b ∷ characters rl false bs
characters-first-plain rl b bs e = ap (λ t. cond t (characters rl t bs) (b ∷ characters rl t bs)) e

characters-first-release : (rl b x : ℕ) (bs : List ℕ) → eqb b rl ≡ true →
    characters rl false (b ∷ x ∷ bs) ≡ x ∷ characters rl false bs
characters-first-release rl b x bs e =
    ap (λ t. cond t (characters rl t (x ∷ bs)) (b ∷ characters rl t (x ∷ bs))) e

-- what is left of a whole component behind its first byte
whole-rest : (m : Marks) (r : Bool) (b : ℕ) (bs : List ℕ) → is_whole m r (b ∷ bs) ≡ true →
    is_whole m (releases m.release r b) bs ≡ true
whole-rest m r b bs h =
    (and_parts (allowed b && (r || not (separates m b))) (is_whole m (releases m.release r b) bs) h).1

spells_protected : (rl b x : ℕ) (bs cs : List ℕ) → b ≡ rl → Spells rl bs cs → Spells rl (b ∷ x ∷ bs) (x ∷ cs)
spells_protected rl b x bs cs e s = subst (λ y. Spells rl (y ∷ x ∷ bs) (x ∷ cs)) (sym e) (Spells.protected x bs cs s)

spells_characters : (m : Marks) (bs : List ℕ) → is_whole m false bs ≡ true →
    Spells m.release bs (characters m.release false bs)
spells_characters m [] h = Spells.none
spells_characters m (b ∷ []) h =
    let rl : ℕ = m.release in
    (elim (eqb b rl) as (λ t. eqb b rl ≡ t → is_whole m t [] ≡ true → Spells rl (b ∷ []) (cond t [] (b ∷ []))) [
      | true ↦ λ e w. grind arith
      | false ↦ λ e w. Spells.plain b [] [] (eqb-false b rl e) Spells.none
    ]) refl (whole-rest m false b [] h)
spells_characters m (b ∷ x ∷ bs) h =
    let rl : ℕ = m.release in
    let left : is_whole m (eqb b rl) (x ∷ bs) ≡ true = whole-rest m false b (x ∷ bs) h in
    (elim (eqb b rl)
    as (λ t. eqb b rl ≡ t → is_whole m t (x ∷ bs) ≡ true →
    Spells rl (b ∷ x ∷ bs) (cond t (characters rl t (x ∷ bs)) (b ∷ characters rl t (x ∷ bs)))) [
      | true ↦ λ e w. spells_protected rl b x bs (characters rl false bs) (eqb-true b rl e)
          (spells_characters m bs (whole-rest m true x bs w))
      | false ↦ λ e w. Spells.plain b (x ∷ bs) (characters rl false (x ∷ bs)) (eqb-false b rl e)
          (spells_characters m (x ∷ bs) w)
    ]) refl left

-- nothing else is spelled
spells_alone : (rl : ℕ) (bs cs : List ℕ) → Spells rl bs cs → characters rl false bs ≡ cs
spells_alone rl _ _ Spells.none = refl
spells_alone rl _ _ (Spells.plain b bs cs ne s) =
    characters-first-plain rl b bs (ne_eqb b rl ne) ∙ ap (λ x. b ∷ x) (spells_alone rl bs cs s)
spells_alone rl _ _ (Spells.protected b bs cs s) =
    characters-first-release rl rl b bs (eq-eqb rl rl refl) ∙ ap (λ x. b ∷ x) (spells_alone rl bs cs s)

pub characters-spelled : (m : Marks) (bs : List ℕ) → CharactersSpelled m bs
characters-spelled m bs = record { spelled = spells_characters m bs; alone = λ cs s. spells_alone m.release bs cs s }
