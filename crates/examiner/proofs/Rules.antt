-- What the layout rules give of each element and component that a book tells.
use Rattle.std.proofs.Common.{◌≡◌, ℕ, zero, suc, ◌<◌, ◌≤◌, Bool, true, ◌&&◌, leb, List, [], ◌∷◌, length, drop, is_some, Some, None, Option, sym, refl, ap, ◌∙◌, arith}
use Rattle.std.proofs.lemmas.Bool.{and_parts, leb-true}
use Rattle.std.proofs.lemmas.List.{drop_all}
use Rattle.std.proofs.lemmas.Option.{none-some, slice_get_within}
use Rattle.std.specs.List.{slice_get}
use Rattle.std.specs.Option.{option_map}
use Rattle.message.specs.declared.layout.ComponentRule.{ComponentRule}
use Rattle.message.specs.declared.layout.ElementRule.{ElementRule}
use Rattle.message.specs.Layouts.{Component, Element, Layout, all, status_of, of_class, size, within, short_word, letter_or_digit, code_rule, extent_rule, component_rule, fillable, element_rule, layout_rule, component_head, element_head, element_in, component_in, element_at, component_at}
use Rattle.message.specs.Messages.{layout_of}
use Rattle.syntax.specs.declared.marks.DecimalMark.TheVariants.{Point}
use Rattle.examiner.specs.Checking.{ruled, codes_of, codes_at}

all_nth : {X : Type 0} (p : X → Bool) (xs : List X) (i : ℕ) (x : X) → all p xs ≡ true → slice_get xs i ≡ Some x → p x ≡ true
all_nth p [] i x h e = absurd (none-some x e)
all_nth p (y ∷ xs) zero x h e = let same : y ≡ x = cc in ap p (sym same) ∙ (and_parts (p y) (all p xs) h).0
all_nth p (y ∷ xs) (suc i) x h e = all_nth p xs i x (and_parts (p y) (all p xs) h).1 e

-- an entry of a list, by its number
pub nth_drop : {X : Type 0} (xs : List X) (i : ℕ) (x : X) → slice_get xs i ≡ Some x → drop i xs ≡ x ∷ drop (suc i) xs
nth_drop [] i x e = absurd (none-some x e)
nth_drop (y ∷ xs) zero x e = cc
nth_drop (y ∷ xs) (suc i) x e = nth_drop xs i x e

pub nth_some : {X : Type 0} (xs : List X) (i : ℕ) → i < length xs → slice_get xs i ≡ None → ⊥
nth_some [] i h e = omega arith
nth_some (y ∷ xs) zero h e = none-some y (sym e)
nth_some (y ∷ xs) (suc i) h e = nth_some xs i (omega arith) e

pub nth_end : {X : Type 0} (xs : List X) (i : ℕ) → slice_get xs i ≡ None → drop i xs ≡ []
nth_end [] i e = drop_all i [] (omega arith)
nth_end (y ∷ xs) zero e = absurd (none-some y (sym e))
nth_end (y ∷ xs) (suc i) e = nth_end xs i e

-- an element has at most 40 components
element-parts : (el : Element) → element_rule el ≡ true → (length el.components ≤ 40) × (all component_rule el.components ≡ true)
element-parts el h =
    let n : ℕ = length el.components in
    let a = and_parts (leb 1 n && leb n 40 && all component_rule el.components) (fillable (status_of el.status) el.components) h in
    let b = and_parts (leb 1 n && leb n 40) (all component_rule el.components) a.0 in
    let c = and_parts (leb 1 n) (leb n 40) b.0 in
    (leb-true n 40 c.1, b.1)

-- an element and a component that a book tells by number are of the lists, and so under their rules
element_in_lem : (o : Option Layout) (e : ℕ) (el : Element) → ((l : Layout) → o ≡ Some l → layout_rule l ≡ true) → element_in o e ≡ Some el → (e < 40) × (element_rule el ≡ true)
element_in_lem None e el h k = absurd (none-some el k)
element_in_lem (Some l) e el h k =
    let a = and_parts (leb (length l) 40) (all element_rule l) (h l refl) in
    (omega (arith, slice_get_within l e el k, leb-true (length l) 40 a.0), all_nth element_rule l e el a.1 k)

component_in_lem : (o : Option Element) (c : ℕ) (r : Component) → ((el : Element) → o ≡ Some el → element_rule el ≡ true) → component_in o c ≡ Some r → component_rule r ≡ true
component_in_lem None c r h k = absurd (none-some r k)
component_in_lem (Some el) c r h k = all_nth component_rule el.components c r (element-parts el (h el refl)).1 k

module _ (ls : List Layout) (regular : all layout_rule ls ≡ true) (row : ℕ) where
  lawful : (l : Layout) → slice_get ls row ≡ Some l → layout_rule l ≡ true
  lawful l k = all_nth layout_rule ls row l regular k

  -- a row has at most 40 elements
  pub few-elements : length (layout_of (slice_get ls row)) ≤ 40
  few-elements = at (slice_get ls row) lawful
    where
      at : (o : Option Layout) → ((l : Layout) → o ≡ Some l → layout_rule l ≡ true) → length (layout_of o) ≤ 40
      at None h = omega arith
      at (Some l) h = leb-true (length l) 40 (and_parts (leb (length l) 40) (all element_rule l) (h l refl)).0

  pub element_rule_lem : (e : ℕ) (el : Element) → element_at ls row e ≡ Some el → (e < 40) × (element_rule el ≡ true)
  element_rule_lem e el k = element_in_lem (slice_get ls row) e el lawful k

  pub component_rule_lem : (e c : ℕ) (r : Component) → component_at ls row e c ≡ Some r → component_rule r ≡ true
  component_rule_lem e c r k = component_in_lem (element_at ls row e) c r (λ el x. (element_rule_lem e el x).1) k

  -- an element that a book tells
  pub element_bounds : (e : ℕ) (rule : ElementRule) → Some rule ≡ option_map element_head (element_at ls row e) → (e < 40) × (rule.components ≤ 40)
  element_bounds e rule h = at (element_at ls row e) refl h
    where
      at : (o : Option Element) → element_at ls row e ≡ o → Some rule ≡ option_map element_head o → (e < 40) × (rule.components ≤ 40)
      at None k x = absurd (none-some rule (sym x))
      at (Some el) k x =
          let same : rule ≡ element_head el = cc in
          let told = element_rule_lem e el k in
          (told.0, omega (arith, ap (λ (r : ElementRule). r.components) same, (element-parts el told.1).0))

  -- a component that a book tells, with its codes
  pub component_lawful : (e c : ℕ) (rule : ComponentRule) → Some rule ≡ option_map component_head (component_at ls row e c) → component_rule (ruled rule (codes_at ls row e c)) ≡ true
  component_lawful e c rule h = at (component_at ls row e c) refl h
    where
      at : (o : Option Component) → component_at ls row e c ≡ o → Some rule ≡ option_map component_head o → component_rule (ruled rule (codes_of o)) ≡ true
      at None k x = absurd (none-some rule (sym x))
      at (Some r) k x =
          let same : rule ≡ component_head r = cc in
          ap (λ (y : ComponentRule). component_rule (ruled y r.codes)) same ∙ component_rule_lem e c r k

-- a code has at most 17 letters
code_short : (r : Component) (code : List ℕ) → code_rule r code ≡ true → length code ≤ 17
code_short r code h =
    let a = and_parts (short_word 17 code && of_class r.class Point code) (within r.extent (size r.class code)) h in
    let b = and_parts (short_word 17 code) (of_class r.class Point code) a.0 in
    let c = and_parts (leb 1 (length code) && leb (length code) 17) (all letter_or_digit code) b.0 in
    leb-true (length code) 17 (and_parts (leb 1 (length code)) (leb (length code) 17) c.0).1

abbrev pub Short : List (List ℕ) → Type 0
Short codes = (i : ℕ) (code : List ℕ) → slice_get codes i ≡ Some code → length code ≤ 17

pub codes_short : (r : Component) → component_rule r ≡ true → Short r.codes
codes_short r h i code e =
    let a = and_parts (extent_rule r.extent && is_some (status_of r.status) && leb (length r.codes) 255) (all (code_rule r) r.codes) h in
    code_short r code (all_nth (code_rule r) r.codes i code a.1 e)
