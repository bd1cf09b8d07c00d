-- The pass over an element's components, and over a segment's elements.
use Rattle.std.proofs.Common.{◌≡◌, ℕ, suc, ◌+◌, ◌<◌, Bool, true, false, cond, eqb, List, [], ◌∷◌, map, length, drop, is_some, Some, None, Option, sym, refl, ap, ◌∙◌, add-one, arith}
use Rattle.std.proofs.lemmas.Bool.{cond-false}
use Rattle.std.proofs.lemmas.List.{drop_all}
use Rattle.std.proofs.lemmas.Option.{none-some, slice_get_within}
use Rattle.std.specs.List.{slice_get}
use Rattle.std.specs.Option.{option_map, option_or}
use Rattle.std.specs.Str.{bytes_eq}
use Rattle.syntax.specs.declared.marks.DecimalMark.{DecimalMark}
use Rattle.message.specs.declared.layout.Status.{Status}
use Rattle.message.specs.declared.layout.Status.TheVariants.{Required, Unused, Optional}
use Rattle.message.specs.declared.layout.Spot.{Spot}
use Rattle.message.specs.declared.layout.SegmentFault.{SegmentFault}
use Rattle.message.specs.declared.layout.SegmentFault.TheVariants as fault
use Rattle.message.specs.Layouts.{Component, Element, Layout, status_of, of_class, size, within, component_rule}
use Rattle.message.specs.Judging.{first, others, spot, or_else, among, listed, value_fault, component_fault, components_fault, first_filled, whole_fault, element_fault, elements_fault}
use Rattle.examiner.specs.declared.measure.Measure.{Measure}
use Rattle.examiner.specs.declared.layout_check.Tally.{Tally}
use Rattle.examiner.specs.Measuring.{size_in, measure_of}
use Rattle.examiner.specs.Texts.{Texts, has_more}
use Rattle.examiner.specs.Checking.{ComponentAt, ElementAt, component_of, element_of, among_in, listed_in, value_in, component_by, component_in, filled_by, beyond_at, part_fault}
use Rattle.examiner.specs.Passing.{tallied, Passing}
use Rattle.examiner.proofs.Measures.{filled-measured, class-measured, size-measured, spelled-measured}
use Rattle.syntax.specs.declared.marks.Marks.{Marks}
use Rattle.syntax.specs.Split.{characters}
use Rattle.edifact.specs.Segments.{parts_of}
use Rattle.message.specs.Messages.{behind_tag}
use Rattle.examiner.specs.Parts.{texts_of}
use Rattle.examiner.proofs.PartSteps.{behind-tag}
use Rattle.examiner.proofs.Rules.{nth_drop, nth_some, nth_end, Short, codes_short}

-- A measured component

among-measured : (d : DecimalMark) (codes : List (List ℕ)) (cs : List ℕ) → Short codes → among_in codes (measure_of d cs) ≡ among codes cs
among-measured d [] cs h = refl
among-measured d (code ∷ codes) cs h =
    ap (λ (t : Bool). cond t true (among_in codes (measure_of d cs))) (spelled-measured d code cs (h 0 code refl))
    ∙ ap (λ (t : Bool). cond (bytes_eq code cs) true t) (among-measured d codes cs (λ i x e. h (suc i) x e))

listed-measured : (d : DecimalMark) (codes : List (List ℕ)) (cs : List ℕ) → Short codes → listed_in codes (measure_of d cs) ≡ listed codes cs
listed-measured d [] cs h = refl
listed-measured d (code ∷ codes) cs h = among-measured d (code ∷ codes) cs h

value_measured : (k : ComponentAt) (d : DecimalMark) (cs : List ℕ) → component_rule k.component ≡ true → value_in k (measure_of d cs) ≡ value_fault k.component d k.spot cs
value_measured k d cs h =
    let r : Component = k.component in
    ap (λ (t : Bool). cond t (cond (within r.extent (size_in r.class (measure_of d cs))) (cond (listed_in r.codes (measure_of d cs)) None (Some (fault.NotListed k.spot))) (Some (fault.WrongLength k.spot))) (Some (fault.WrongClass k.spot))) (class-measured r.class d cs)
    ∙ ap (λ (n : ℕ). cond (of_class r.class d cs) (cond (within r.extent n) (cond (listed_in r.codes (measure_of d cs)) None (Some (fault.NotListed k.spot))) (Some (fault.WrongLength k.spot))) (Some (fault.WrongClass k.spot))) (size-measured r.class d cs)
    ∙ ap (λ (t : Bool). cond (of_class r.class d cs) (cond (within r.extent (size r.class cs)) (cond t None (Some (fault.NotListed k.spot))) (Some (fault.WrongLength k.spot))) (Some (fault.WrongClass k.spot))) (listed-measured d r.codes cs (codes_short r h))

by_measured : (st : Option Status) (k : ComponentAt) (d : DecimalMark) (cs : List ℕ) → component_rule k.component ≡ true → component_by st k (measure_of d cs) ≡ component_fault st k.component d k.spot cs
by_measured None k d cs h = refl
by_measured (Some Required) k d [] h = refl
by_measured (Some Required) k d (c ∷ cs) h = cond-false (eqb (measure_of d (c ∷ cs)).count 0) (Some (fault.Missing k.spot)) (value_in k (measure_of d (c ∷ cs))) (filled-measured d c cs) ∙ value_measured k d (c ∷ cs) h
by_measured (Some Unused) k d [] h = refl
by_measured (Some Unused) k d (c ∷ cs) h = cond-false (eqb (measure_of d (c ∷ cs)).count 0) None (Some (fault.Unused k.spot)) (filled-measured d c cs)
by_measured (Some Optional) k d [] h = refl
by_measured (Some Optional) k d (c ∷ cs) h = cond-false (eqb (measure_of d (c ∷ cs)).count 0) None (value_in k (measure_of d (c ∷ cs))) (filled-measured d c cs) ∙ value_measured k d (c ∷ cs) h

component-measured : (k : ComponentAt) (d : DecimalMark) (cs : List ℕ) → component_rule k.component ≡ true → component_in k (measure_of d cs) ≡ component_fault (status_of k.component.status) k.component d k.spot cs
component-measured k d cs h = by_measured (status_of k.component.status) k d cs h

-- The first filled component

fills-empty : (d : DecimalMark) (f : Option ℕ) (k : ℕ) → filled_by f k (measure_of d []) ≡ f
fills-empty d None k = refl
fills-empty d (Some j) k = refl

pub fills-step : (d : DecimalMark) (f : Option ℕ) (k : ℕ) (xs : List (List ℕ)) → option_or (filled_by f k (measure_of d (first xs))) (first_filled (k + 1) (others xs)) ≡ option_or f (first_filled k xs)
fills-step d f k [] = ap (λ (g : Option ℕ). option_or g None) (fills-empty d f k)
fills-step d f k ([] ∷ xs) = ap (λ (g : Option ℕ). option_or g (first_filled (k + 1) xs)) (fills-empty d f k)
fills-step d None k ((c ∷ cs) ∷ xs) = ap (λ (g : Option ℕ). option_or g (first_filled (k + 1) xs)) (cond-false (eqb (measure_of d (c ∷ cs)).count 0) None (Some k) (filled-measured d c cs))
fills-step d (Some j) k ((c ∷ cs) ∷ xs) = refl

or_else_assoc : (a b c : Option SegmentFault) → or_else (or_else a b) c ≡ or_else a (or_else b c)
or_else_assoc None b c = refl
or_else_assoc (Some f) b c = refl

-- The pass over an element's components

module _ (l : ElementAt) (old : Texts) where
  abbrev rules : List Component
  rules = l.element.components

  component_here : (c : ℕ) (k : ComponentAt) → Some k ≡ option_map (component_of l.number (c + 1)) (slice_get rules c) → (r : Component) × (drop c rules ≡ r ∷ drop (c + 1) rules) × (k ≡ component_of l.number (c + 1) r)
  component_here c k told = at (slice_get rules c) refl told
    where
      at : (o : Option Component) → slice_get rules c ≡ o → Some k ≡ option_map (component_of l.number (c + 1)) o → (r : Component) × (drop c rules ≡ r ∷ drop (c + 1) rules) × (k ≡ component_of l.number (c + 1) r)
      at None e h = absurd (none-some k (sym h))
      at (Some r) e h = (r, rw add-one (nth_drop rules c r e), cc)

  -- one component more
  pub passing_more : (c : ℕ) (t u : Tally) (new newer : Texts) (k : ComponentAt) (m : Measure) → Passing l old c t new → Some k ≡ option_map (component_of l.number (c + 1)) (slice_get rules c) → component_rule k.component ≡ true →
      m ≡ measure_of new.decimal (first new.current) → newer ≡ record new { current = others new.current } → u ≡ tallied t k m → Passing l old (c + 1) u newer
  passing_more c t u new newer k m p told lawful em en eu =
      let (r, here, ek) = component_here c k told in
      let same : new.decimal ≡ old.decimal = ap (λ (x : Texts). x.decimal) p.stays in
      let em' : m ≡ measure_of old.decimal (first new.current) = em ∙ ap (λ (d : DecimalMark). measure_of d (first new.current)) same in
      let left : newer.current ≡ others new.current = ap (λ (x : Texts). x.current) en in
      let filled : u.filled ≡ filled_by t.filled (c + 1) (measure_of old.decimal (first new.current)) =
      ap (λ (x : Tally). x.filled) eu ∙ ap (λ (x : ComponentAt). filled_by t.filled x.spot.component m) ek ∙ ap (filled_by t.filled (c + 1)) em' in
      let fault-here : u.fault ≡ or_else t.fault (component_fault (status_of r.status) r old.decimal (spot l.number (c + 1)) (first new.current)) =
      ap (λ (x : Tally). x.fault) eu ∙ ap (λ (x : Measure). or_else t.fault (component_in k x)) em'
      ∙ ap (or_else t.fault) (component-measured k old.decimal (first new.current) lawful ∙ ap (λ (x : ComponentAt). component_fault (status_of x.component.status) x.component old.decimal x.spot (first new.current)) ek) in
      record {
        fills = ap (λ (x : Option ℕ). option_or x (first_filled (c + 1 + 1) newer.current)) filled
            ∙ ap (λ (x : List (List ℕ)). option_or (filled_by t.filled (c + 1) (measure_of old.decimal (first new.current))) (first_filled (c + 1 + 1) x)) left
            ∙ fills-step old.decimal t.filled (c + 1) new.current ∙ p.fills;
        inner = ap (λ (x : Option SegmentFault). or_else x (components_fault true old.decimal l.number (c + 1 + 1) (drop (c + 1) rules) newer.current)) fault-here
            ∙ ap (λ (x : List (List ℕ)). or_else (or_else t.fault (component_fault (status_of r.status) r old.decimal (spot l.number (c + 1)) (first new.current))) (components_fault true old.decimal l.number (c + 1 + 1) (drop (c + 1) rules) x)) left
            ∙ or_else_assoc t.fault (component_fault (status_of r.status) r old.decimal (spot l.number (c + 1)) (first new.current)) (components_fault true old.decimal l.number (c + 1 + 1) (drop (c + 1) rules) (others new.current))
            ∙ ap (λ (x : List Component). or_else t.fault (components_fault true old.decimal l.number (c + 1) x new.current)) (sym here)
            ∙ p.inner;
        surplus = ap (components_fault false old.decimal l.number (c + 1 + 1) (drop (c + 1) rules)) left
            ∙ ap (λ (x : List Component). components_fault false old.decimal l.number (c + 1) x new.current) (sym here)
            ∙ p.surplus;
        stays = en ∙ ap (λ (x : Texts). record x { current = others new.current }) p.stays ∙ ap (λ (x : List (List ℕ)). record old { current = x }) (sym left);
      }

  pub component_missing : (c : ℕ) → None ≡ option_map (component_of l.number (c + 1)) (slice_get rules c) → c < length rules → ⊥
  component_missing c h k = at (slice_get rules c) refl h
    where
      at : (o : Option Component) → slice_get rules c ≡ o → None ≡ option_map (component_of l.number (c + 1)) o → ⊥
      at None e x = nth_some rules c k e
      at (Some r) e x = none-some (component_of l.number (c + 1) r) x

-- Behind the layout's components

pub beyond_is : (b : Bool) (d : DecimalMark) (e k : ℕ) (xs : List (List ℕ)) → beyond_at (has_more xs) (spot e k) ≡ components_fault b d e k [] xs
beyond_is b d e k [] = refl
beyond_is b d e k (x ∷ xs) = refl

-- where nothing is filled, the components of the layout don't count
part_is : (d : DecimalMark) (e : ℕ) (rs : List Component) (xs : List (List ℕ)) (filled : Option ℕ) (f s : Option SegmentFault) → or_else f s ≡ components_fault true d e 1 rs xs → s ≡ components_fault false d e 1 rs xs → part_fault filled f s ≡ components_fault (is_some filled) d e 1 rs xs
part_is d e rs xs None f s i o = o
part_is d e rs xs (Some k) None s i o = i
part_is d e rs xs (Some k) (Some g) s i o = i

-- the element, from the pass over its components
pub element_is : (l : ElementAt) (old passed : Texts) (t : Tally) (n : ℕ) (rest all-filled : Option ℕ) (more : Bool) (at : Spot) (whole s f : Option SegmentFault) → Passing l old (length l.element.components) t passed → n ≡ length l.element.components →
    rest ≡ first_filled (n + 1) passed.current → all-filled ≡ option_or t.filled rest → more ≡ has_more passed.current → at ≡ spot l.number (n + 1) → s ≡ beyond_at more at →
    whole ≡ whole_fault (status_of l.element.status) l.number all-filled → f ≡ or_else whole (part_fault all-filled t.fault s) → f ≡ element_fault l.element old.decimal l.number old.current
element_is l old passed t n rest all-filled more at whole s f p en er ea em eat es ew ef =
    let d : DecimalMark = old.decimal in
    let e : ℕ = l.number in
    let k : ℕ = length l.element.components in
    let none-left : drop k l.element.components ≡ [] = drop_all k l.element.components (omega arith) in
    let fills : all-filled ≡ first_filled 1 old.current = ea ∙ ap (option_or t.filled) (er ∙ ap (λ (i : ℕ). first_filled (i + 1) passed.current) en) ∙ p.fills in
    let s-is : s ≡ beyond_at (has_more passed.current) (spot e (k + 1)) = es ∙ ap (λ (b : Bool). beyond_at b at) em ∙ ap (beyond_at (has_more passed.current)) (eat ∙ ap (λ (i : ℕ). spot e (i + 1)) en) in
    let inner : or_else t.fault s ≡ components_fault true d e 1 l.element.components old.current =
    ap (or_else t.fault) (s-is ∙ beyond_is true d e (k + 1) passed.current) ∙ ap (λ (x : List Component). or_else t.fault (components_fault true d e (k + 1) x passed.current)) (sym none-left) ∙ p.inner in
    let surplus : s ≡ components_fault false d e 1 l.element.components old.current =
    s-is ∙ beyond_is false d e (k + 1) passed.current ∙ ap (λ (x : List Component). components_fault false d e (k + 1) x passed.current) (sym none-left) ∙ p.surplus in
    ef ∙ ap (λ (x : Option SegmentFault). or_else x (part_fault all-filled t.fault s)) (ew ∙ ap (whole_fault (status_of l.element.status) e) fills)
    ∙ ap (or_else (whole_fault (status_of l.element.status) e (first_filled 1 old.current))) (part_is d e l.element.components old.current all-filled t.fault s inner surplus ∙ ap (λ (x : Option ℕ). components_fault (is_some x) d e 1 l.element.components old.current) fills)

-- One element more: the cursor p before it, q inside it, and s behind it

module _ (l : Layout) (n : ℕ) (p q : Texts) (total : Option SegmentFault)
    (so_far : elements_fault p.decimal (n + 1) (drop n l) p.later ≡ total) (closed : p.current ≡ []) (entered : p.current ≡ [] → q ≡ record p { current = first p.later; later = others p.later }) where
  element_here : (k : ElementAt) → Some k ≡ option_map (element_of (n + 1)) (slice_get l n) → (r : Element) × (drop n l ≡ r ∷ drop (n + 1) l) × (k ≡ element_of (n + 1) r)
  element_here k told = at (slice_get l n) refl told
    where
      at : (o : Option Element) → slice_get l n ≡ o → Some k ≡ option_map (element_of (n + 1)) o → (r : Element) × (drop n l ≡ r ∷ drop (n + 1) l) × (k ≡ element_of (n + 1) r)
      at None e h = absurd (none-some k (sym h))
      at (Some r) e h = (r, rw add-one (nth_drop l n r e), cc)

  pub turn_within : (k : ElementAt) → Some k ≡ option_map (element_of (n + 1)) (slice_get l n) → n < length l
  turn_within k told = at (slice_get l n) refl told
    where
      at : (o : Option Element) → slice_get l n ≡ o → Some k ≡ option_map (element_of (n + 1)) o → n < length l
      at None e h = absurd (none-some k (sym h))
      at (Some r) e h = slice_get_within l n r e

  module _ (k : ElementAt) (told : Some k ≡ option_map (element_of (n + 1)) (slice_get l n)) (f : Option SegmentFault) (found : f ≡ element_fault k.element q.decimal k.number q.current) where
    one_more : or_else f (elements_fault p.decimal (n + 1 + 1) (drop (n + 1) l) (others p.later)) ≡ total
    one_more =
        let (r, here, ek) = element_here k told in
        let fault-here : f ≡ element_fault r p.decimal (n + 1) (first p.later) =
        found ∙ ap (λ (x : Texts). element_fault k.element x.decimal k.number x.current) (entered closed) ∙ ap (λ (x : ElementAt). element_fault x.element p.decimal x.number (first p.later)) ek in
        ap (λ (x : Option SegmentFault). or_else x (elements_fault p.decimal (n + 1 + 1) (drop (n + 1) l) (others p.later))) fault-here
        ∙ ap (λ (x : Layout). elements_fault p.decimal (n + 1) x p.later) (sym here) ∙ so_far

    pub turn_faulty : (g : SegmentFault) → f ≡ Some g → Some g ≡ total
    turn_faulty g e = sym (ap (λ (x : Option SegmentFault). or_else x (elements_fault p.decimal (n + 1 + 1) (drop (n + 1) l) (others p.later))) e) ∙ one_more

    pub turn_fits : (s : Texts) → f ≡ None → s ≡ record q { current = [] } → elements_fault s.decimal (n + 1 + 1) (drop (n + 1) l) s.later ≡ total
    turn_fits s e es =
        ap (λ (x : Texts). elements_fault x.decimal (n + 1 + 1) (drop (n + 1) l) x.later) (es ∙ ap (λ (x : Texts). record x { current = [] }) (entered closed))
        ∙ sym (ap (λ (x : Option SegmentFault). or_else x (elements_fault p.decimal (n + 1 + 1) (drop (n + 1) l) (others p.later))) e) ∙ one_more

  -- behind the layout's elements
  behind_is : (d : DecimalMark) (xs : List (List (List ℕ))) → (first xs ≡ [] → xs ≡ []) → components_fault true d (n + 1) 1 [] (first xs) ≡ elements_fault d (n + 1) [] xs
  behind_is d [] h = refl
  behind_is d ([] ∷ xs) h = let z : [] ∷ xs ≡ [] = h refl in let w : ◌≡◌ {A = ℕ} 0 1 = cc in absurd (omega arith)
  behind_is d ((c ∷ cs) ∷ xs) h = refl

  pub turn_last : (f : Option SegmentFault) (more : Bool) (at : Spot) → None ≡ option_map (element_of (n + 1)) (slice_get l n) → (p.current ≡ [] → q.current ≡ [] → p.later ≡ []) → more ≡ has_more q.current → at ≡ spot (n + 1) 1 → f ≡ beyond_at more at → f ≡ total
  turn_last f more at told ends em ea ef =
      let inside : q.current ≡ first p.later = ap (λ (x : Texts). x.current) (entered closed) in
      let none : drop n l ≡ [] = nth_end l n (slice_none (slice_get l n) told) in
      ef ∙ ap (λ (b : Bool). beyond_at b at) em ∙ ap (beyond_at (has_more q.current)) ea ∙ beyond_is true p.decimal (n + 1) 1 q.current
      ∙ ap (components_fault true p.decimal (n + 1) 1 []) inside ∙ behind_is p.decimal p.later (λ h. ends closed (inside ∙ h))
      ∙ ap (λ (x : Layout). elements_fault p.decimal (n + 1) x p.later) (sym none) ∙ so_far
    where
      slice_none : (o : Option Element) → None ≡ option_map (element_of (n + 1)) o → o ≡ None
      slice_none None h = refl
      slice_none (Some r) h = absurd (none-some (element_of (n + 1) r) h)

-- a segment's elements from its bytes
pub elements_of_segment : (m m' : Marks) (bs bs' : List ℕ) (xs : List (List (List ℕ))) → m' ≡ m → bs' ≡ bs → xs ≡ others (texts_of m' bs') → xs ≡ map (map (characters m.release false)) (behind_tag (parts_of m bs))
elements_of_segment m m' bs bs' xs em eb ex = ex ∙ ap (λ (x : Marks). others (texts_of x bs')) em ∙ ap (λ (x : List ℕ). others (texts_of m x)) eb ∙ behind-tag m bs
