-- The parts of a segment's bytes: they join to these bytes, whole parts are those that their bytes are split into,
-- and the parts of a segment that was cut are whole.
use Rattle.std.proofs.Common.{◌≡◌, ℕ, suc, ◌<◌, ◌≤◌, Bool, true, false, cond, not, ◌&&◌, ◌||◌, eqb, ltb, List, [], ◌∷◌, map, length, take, Some, None, Ok, Err, Option, sym, refl, ap, ◌∙◌, arith}
use Rattle.std.proofs.lemmas.List.{length-map}
use Rattle.std.proofs.lemmas.Bool.{and_parts, and_from, cond_both, cond-true, cond-false, ne_eqb, lt-ltb, le-ltb, ltb-true, ltb-false}
use Rattle.std.proofs.lemmas.Bool.Decides.{nat_tests}
use Rattle.syntax.specs.declared.fault.CutFault.{CutFault}
use Rattle.syntax.specs.declared.fault.CutFault.TheVariants.{ForbiddenByte}
use Rattle.syntax.specs.declared.marks.Marks.{Marks}
use Rattle.syntax.specs.Bytes.{allowed, allowed_run}
use Rattle.syntax.specs.Marks.{lawful}
use Rattle.syntax.specs.Split.{releases, divides, join, characters}
use Rattle.edifact.specs.Segments.{elements, components, first_of, tag_in, tag_of, holds_forbidden, place_behind, tagged, judged, parts_of}
use Rattle.edifact.specs.Laws.{separates, is_whole, are_whole, have_whole, tag_among, segment_bytes}
use Rattle.syntax.proofs.Splits.{split-some, join-split}
use Rattle.syntax.proofs.Lawfulness.{Between, Distinct, lawful_distinct}
use Rattle.edifact.proofs.Wholes.{closed, all_closed, no_mark, all-closed-implied, split-join, closed-join, split-all-closed}

-- the bytes of a segment, of an element and of a component
abbrev pub segment_fits : Marks → Bool → ℕ → Bool
segment_fits m r b = allowed b && no_mark m.release m.terminator r b

abbrev pub element_fits : Marks → Bool → ℕ → Bool
element_fits m r b = segment_fits m r b && no_mark m.release m.element r b

abbrev pub component_fits : Marks → Bool → ℕ → Bool
component_fits m r b = allowed b && (r || not (separates m b))

whole-closed : (m : Marks) (r : Bool) (bs : List ℕ) → is_whole m r bs ≡ closed (component_fits m) m.release r bs
whole-closed m r [] = refl
whole-closed m r (b ∷ bs) = ap (λ t. component_fits m r b && t) (whole-closed m (releases m.release r b) bs)

whole-all-closed : (m : Marks) (cs : List (List ℕ)) → are_whole m cs ≡ all_closed (component_fits m) m.release cs
whole-all-closed m [] = refl
whole-all-closed m (c ∷ cs) =
    ap (λ t. t && are_whole m cs) (whole-closed m false c)
    ∙ ap (λ t. closed (component_fits m) m.release false c && t) (whole-all-closed m cs)

-- a mark that isn't the release mark, told by its byte
divides-eqb : (rl k b : ℕ) → (k ≡ rl → ⊥) → divides rl k false b ≡ eqb b k
divides-eqb rl k b ne = grind (arith, nat_tests)

-- a byte of an element that isn't the component mark is one of a component, and so for the bytes of a segment
gains_component : (m : Marks) → Distinct m → (r : Bool) (b : ℕ) → element_fits m r b ≡ true →
    divides m.release m.component r b ≡ false → component_fits m r b ≡ true
gains_component m d true b h n = still-allowed (allowed b) h
  where
    still-allowed : (a : Bool) → (a && true && true) ≡ true → (a && true) ≡ true
    still-allowed true e = refl
    still-allowed false e = e
gains_component m d false b h n =
    let rl : ℕ = m.release in
    let e1 = divides-eqb rl m.terminator b d.terminator-release in
    let e2 = divides-eqb rl m.element b d.element-release in
    let e3 = divides-eqb rl m.component b d.component-release in
    separates-none (allowed b)
    (divides rl m.terminator false b) (divides rl m.element false b) (divides rl m.component false b)
    (eqb b m.terminator) (eqb b m.element) (eqb b m.component) e1 e2 e3 h n
  where
    separates-none : (a t e c t2 e2 c2 : Bool) → t ≡ t2 → e ≡ e2 → c ≡ c2 → (a && not t && not e) ≡ true →
        c ≡ false → (a && (false || not (c2 || e2 || t2))) ≡ true
    separates-none a t e c t2 e2 c2 p q s h n = grind (arith, nat_tests)

gains_element : (m : Marks) (r : Bool) (b : ℕ) → segment_fits m r b ≡ true →
    divides m.release m.element r b ≡ false → element_fits m r b ≡ true
gains_element m r b h n = grind (arith, nat_tests)

-- a byte of a component is none of the three marks, and is one of an element; a byte of an element is one of a segment
component_excludes : (m : Marks) (r : Bool) (b : ℕ) → component_fits m r b ≡ true →
    (divides m.release m.component r b ≡ false) × (element_fits m r b ≡ true)
component_excludes m r b h = grind (arith, nat_tests)

element-implies : (m : Marks) (r : Bool) (b : ℕ) → element_fits m r b ≡ true → segment_fits m r b ≡ true
element-implies m r b h = (and_parts (segment_fits m r b) (no_mark m.release m.element r b) h).0

element_excludes : (m : Marks) (r : Bool) (b : ℕ) → element_fits m r b ≡ true →
    divides m.release m.element r b ≡ false
element_excludes m r b h = grind (arith, nat_tests)

pub segment_excludes : (m : Marks) (r : Bool) (b : ℕ) → segment_fits m r b ≡ true →
    divides m.release m.terminator r b ≡ false
segment_excludes m r b h = grind (arith, nat_tests)

between_allowed : (b : ℕ) → Between b → allowed b ≡ true
between_allowed b h = let l = h.low in let u = h.high in grind (arith, nat_tests)

no_other_mark : (rl k b : ℕ) → (b ≡ k → ⊥) → no_mark rl k false b ≡ true
no_other_mark rl k b ne = grind (arith, nat_tests)

component-fits-element : (m : Marks) → Distinct m → element_fits m false m.component ≡ true
component-fits-element m d =
    let c : ℕ = m.component in
    let rl : ℕ = m.release in
    and_from (allowed c && no_mark rl m.terminator false c) (no_mark rl m.element false c)
    (and_from (allowed c) (no_mark rl m.terminator false c) (between_allowed c d.component)
    (no_other_mark rl m.terminator c d.component-terminator))
    (no_other_mark rl m.element c d.component-element)

element_fits_segment : (m : Marks) → Distinct m → segment_fits m false m.element ≡ true
element_fits_segment m d =
    and_from (allowed m.element) (no_mark m.release m.terminator false m.element)
    (between_allowed m.element d.element)
    (no_other_mark m.release m.terminator m.element d.element-terminator)

-- whole components, joined, are closed as an element, and whole elements as a segment
element-closed : (m : Marks) → Distinct m → (cs : List (List ℕ)) → are_whole m cs ≡ true →
    closed (element_fits m) m.release false (join m.component cs) ≡ true
element-closed m d cs h =
    closed-join (element_fits m) m.release m.component d.component-release (component-fits-element m d) cs
    (all-closed-implied (component_fits m) (element_fits m) m.release (λ r b f. (component_excludes m r b f).1) cs
    (sym (whole-all-closed m cs) ∙ h))

elements-closed : (m : Marks) → Distinct m → (es : List (List (List ℕ))) → have_whole m es ≡ true →
    all_closed (element_fits m) m.release (map (join m.component) es) ≡ true
elements-closed m d [] h = refl
elements-closed m d (e ∷ es) h =
    let a = and_parts (ltb 0 (length e) && are_whole m e) (have_whole m es) h in
    let b = and_parts (ltb 0 (length e)) (are_whole m e) a.0 in
    and_from (closed (element_fits m) m.release false (join m.component e))
    (all_closed (element_fits m) m.release (map (join m.component) es))
    (element-closed m d e b.1) (elements-closed m d es a.1)

pub segment_closed : (m : Marks) → Distinct m → (es : List (List (List ℕ))) → have_whole m es ≡ true →
    closed (segment_fits m) m.release false (segment_bytes m es) ≡ true
segment_closed m d es h =
    let ps : List (List ℕ) = map (join m.component) es in
    closed-join (segment_fits m) m.release m.element d.element-release (element_fits_segment m d) ps
    (all-closed-implied (element_fits m) (segment_fits m) m.release (element-implies m) ps
    (elements-closed m d es h))

-- whole parts are those that their bytes are split into
components-back : (m : Marks) → Distinct m → (es : List (List (List ℕ))) → have_whole m es ≡ true →
    map (components m) (map (join m.component) es) ≡ es
components-back m d [] h = refl
components-back m d (e ∷ es) h =
    let a = and_parts (ltb 0 (length e) && are_whole m e) (have_whole m es) h in
    let b = and_parts (ltb 0 (length e)) (are_whole m e) a.0 in
    let first : components m (join m.component e) ≡ e =
    split-join (component_fits m) m.release m.component (λ r x f. (component_excludes m r x f).0)
    d.component-release e (ltb-true 0 (length e) b.0) (sym (whole-all-closed m e) ∙ b.1) in
    ap (λ x. x ∷ map (components m) (map (join m.component) es)) first
    ∙ ap (λ x. e ∷ x) (components-back m d es a.1)

pub parts-back : (m : Marks) → Distinct m → (es : List (List (List ℕ))) → 0 < length es → have_whole m es ≡ true →
    parts_of m (segment_bytes m es) ≡ es
parts-back m d es some h =
    let ps : List (List ℕ) = map (join m.component) es in
    ap (map (components m))
    (split-join (element_fits m) m.release m.element (element_excludes m) d.element-release ps
    (simp length-map some) (elements-closed m d es h))
    ∙ components-back m d es h

-- the parts of any bytes join to these bytes
joins-components : (m : Marks) (ps : List (List ℕ)) → map (join m.component) (map (components m) ps) ≡ ps
joins-components m [] = refl
joins-components m (p ∷ ps) =
    ap (λ x. x ∷ map (join m.component) (map (components m) ps))
    (join-split m.release m.component false p)
    ∙ ap (λ x. p ∷ x) (joins-components m ps)

pub parts_join : (m : Marks) (bs : List ℕ) → segment_bytes m (parts_of m bs) ≡ bs
parts_join m bs =
    ap (join m.element) (joins-components m (elements m bs)) ∙ join-split m.release m.element false bs

-- the tag of bytes is the tag among their parts
tag-among-components : (m : Marks) (p : List ℕ) (cs : List (List ℕ)) (es : List (List (List ℕ))) →
    0 < length cs → join m.component cs ≡ p →
    cond (eqb (length cs) 1) (tag_in (characters m.release false p)) None ≡ tag_among m (cs ∷ es)
tag-among-components m p [] es h e = absurd (omega arith)
tag-among-components m p (c ∷ []) es h e = ap (λ x. tag_in (characters m.release false x)) (sym e)
tag-among-components m p (c ∷ x ∷ cs) es h e =
    cond-false (eqb (length (c ∷ x ∷ cs)) 1) (tag_in (characters m.release false p)) None
    (ne_eqb (length (c ∷ x ∷ cs)) 1 (λ f. omega arith))

tag-among-elements : (m : Marks) (ps : List (List ℕ)) → 0 < length ps →
    cond (eqb (length (components m (first_of ps))) 1) (tag_in (characters m.release false (first_of ps))) None
    ≡ tag_among m (map (components m) ps)
tag-among-elements m [] h = absurd (omega arith)
tag-among-elements m (p ∷ ps) h =
    tag-among-components m p (components m p) (map (components m) ps)
    (split-some m.release m.component false p) (join-split m.release m.component false p)

pub tag-among-parts : (m : Marks) (bs : List ℕ) → tag_of m bs ≡ tag_among m (parts_of m bs)
tag-among-parts m bs =
    tag-among-elements m (elements m bs) (split-some m.release m.element false bs)

-- the allowed bytes of a piece
allowed-closed : (fits : Bool → ℕ → Bool) (rl : ℕ) (r : Bool) (bs : List ℕ) → length bs ≤ allowed_run bs →
    closed fits rl r bs ≡ true → closed (λ t b. allowed b && fits t b) rl r bs ≡ true
allowed-closed fits rl r [] le h = h
allowed-closed fits rl r (b ∷ bs) le h =
    let a = and_parts (fits r b) (closed fits rl (releases rl r b) bs) h in
    (elim (allowed b) as (λ t. allowed b ≡ t → suc (length bs) ≤ cond t (suc (allowed_run bs)) 0 →
    (t && fits r b && closed (λ t b. allowed b && fits t b) rl (releases rl r b) bs) ≡ true) [
      | true ↦ λ e l. and_from (true && fits r b) (closed (λ t b. allowed b && fits t b) rl (releases rl r b) bs)
          (and_from true (fits r b) refl a.0)
          (allowed-closed fits rl (releases rl r b) bs (omega arith) a.1)
      | false ↦ λ e l. absurd (omega arith)
    ]) refl le

closed-allowed : (m : Marks) (r : Bool) (bs : List ℕ) → closed (segment_fits m) m.release r bs ≡ true →
    allowed_run bs ≡ length bs
closed-allowed m r [] h = refl
closed-allowed m r (b ∷ bs) h =
    let a = and_parts (segment_fits m r b) (closed (segment_fits m) m.release (releases m.release r b) bs) h in
    let f = and_parts (allowed b) (no_mark m.release m.terminator r b) a.0 in
    cond-true (allowed b) (suc (allowed_run bs)) 0 f.0
    ∙ ap suc (closed-allowed m (releases m.release r b) bs a.1)

-- closed bytes with a tag are well cut, and what is well cut has allowed bytes and a tag
pub judged-closed : (m : Marks) (k : ℕ) (p t : List ℕ) → closed (segment_fits m) m.release false p ≡ true →
    tag_of m p ≡ Some t → judged m k true p ≡ Ok t
judged-closed m k p t h e =
    let all = closed-allowed m false p h in
    let fault : CutFault = ForbiddenByte (place_behind m k (take (allowed_run p) p)) in
    cond-false (holds_forbidden p) (Err fault) (tagged k (tag_of m p))
    (le-ltb (allowed_run p) (length p) (omega arith))
    ∙ ap (tagged k) e

tagged_ok : (k : ℕ) (o : Option (List ℕ)) (t : List ℕ) → tagged k o ≡ Ok t → o ≡ Some t
tagged_ok k None t e = cc
tagged_ok k (Some s) t e = cc

judged_ok : (m : Marks) (k : ℕ) (p t : List ℕ) → judged m k true p ≡ Ok t →
    (length p ≤ allowed_run p) × (tag_of m p ≡ Some t)
judged_ok m k p t =
    let fault : CutFault = ForbiddenByte (place_behind m k (take (allowed_run p) p)) in
    cond_both (holds_forbidden p) (Err fault) (tagged k (tag_of m p))
    (λ v. v ≡ Ok t → (length p ≤ allowed_run p) × (tag_of m p ≡ Some t))
    (λ f e. grind arith)
    (λ f e. (ltb-false (allowed_run p) (length p) f, tagged_ok k (tag_of m p) t e))

-- the elements of closed bytes have whole components
split-whole : (m : Marks) → Distinct m → (ps : List (List ℕ)) → all_closed (element_fits m) m.release ps ≡ true →
    have_whole m (map (components m) ps) ≡ true
split-whole m d [] h = refl
split-whole m d (p ∷ ps) h =
    let a = and_parts (closed (element_fits m) m.release false p) (all_closed (element_fits m) m.release ps) h in
    and_from (ltb 0 (length (components m p)) && are_whole m (components m p)) (have_whole m (map (components m) ps))
    (and_from (ltb 0 (length (components m p))) (are_whole m (components m p))
    (lt-ltb 0 (length (components m p)) (split-some m.release m.component false p))
    (whole-all-closed m (components m p)
    ∙ split-all-closed (element_fits m) (component_fits m) m.release m.component (gains_component m d) p
    a.0))
    (split-whole m d ps a.1)

-- every component of a segment that was cut is whole, and its tag is the tag among them:
-- p has no unprotected terminator, doesn't end behind a release mark, and is well cut
pub part-whole : (m : Marks) (k : ℕ) (p t : List ℕ) → lawful m ≡ true →
    closed (no_mark m.release m.terminator) m.release false p ≡ true → judged m k true p ≡ Ok t →
    (have_whole m (parts_of m p) ≡ true) × (tag_among m (parts_of m p) ≡ Some t)
part-whole m k p t law h e =
    let d = lawful_distinct m law in
    let j = judged_ok m k p t e in
    let all : closed (segment_fits m) m.release false p ≡ true =
    allowed-closed (no_mark m.release m.terminator) m.release false p j.0 h in (
      split-whole m d (elements m p)
          (split-all-closed (segment_fits m) (element_fits m) m.release m.element (gains_element m) p all),
      sym (tag-among-parts m p) ∙ j.1,
    )
