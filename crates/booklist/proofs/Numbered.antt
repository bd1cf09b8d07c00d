-- What is shown so far of things that are told by number, and what is to come.
use Rattle.std.proofs.Common.{◌≡◌, ℕ, zero, suc, ◌+◌, ◌-◌, ◌<◌, ◌≤◌, List, [], ◌∷◌, ◌++◌, Some, None, Option, sym, refl, ap, ◌∙◌, inl, inr, append_assoc, append-nil, arith}
use Rattle.std.specs.List.{slice_get}
use Rattle.std.specs.Option.{option_map}
use Rattle.std.proofs.lemmas.Option.{slice_get_cases, slice_get_past}
use Rattle.message.specs.declared.layout.ElementRule.{ElementRule}
use Rattle.message.specs.declared.layout.ComponentRule.{ComponentRule}
use Rattle.message.specs.Layouts.{Component, Element, Layout, element_head, component_head, element_in, component_at, code_in, element_at, code_at}
use Rattle.booklist.specs.Form.{numbered, spaced, codes_text, component_lines, components_text, element_lines}

-- one thing more
pub numbered-more : (shown : ℕ → List ℕ) (out next all : List ℕ) (n total : ℕ) → n < total → next ≡ out ++ shown n →
    out ++ numbered shown n (total - n) ≡ all → next ++ numbered shown (n + 1) (total - (n + 1)) ≡ all
numbered-more shown out next all n total h e inv =
    let rest : ℕ = total - (n + 1) in
    let more : total - n ≡ suc rest = omega arith in
    ap (λ x. x ++ numbered shown (n + 1) rest) e
    ∙ append_assoc out (shown n) (numbered shown (n + 1) rest)
    ∙ ap (λ x. out ++ x) (sym (ap (numbered shown n) more)) ∙ inv

pub component-shown : (shown : ℕ → ℕ → ℕ → ComponentRule → List ℕ) (ls : List Layout) (n e c : ℕ) (o : Option Component) (rule : ComponentRule) → Some rule ≡ option_map component_head o →
    shown n (e + 1) (c + 1) rule ++ (codes_text ls n e c rule.codes ++ 10 ∷ []) ≡ component_lines shown ls n e c o
component-shown shown ls n e c None rule h = let z : ◌≡◌ {A = ℕ} 0 1 = cc in absurd (omega arith)
component-shown shown ls n e c (Some k) rule h =
    let same : rule ≡ component_head k = cc in
    ap (λ r. shown n (e + 1) (c + 1) r ++ (codes_text ls n e c r.codes ++ 10 ∷ [])) same

pub component-absent : (shown : ℕ → ℕ → ℕ → ComponentRule → List ℕ) (ls : List Layout) (n e c : ℕ) (o : Option Component) → None ≡ option_map component_head o →
    [] ≡ component_lines shown ls n e c o
component-absent shown ls n e c None h = refl
component-absent shown ls n e c (Some k) h = let z : ◌≡◌ {A = ℕ} 0 1 = cc in absurd (omega arith)

pub element-shown : (element : ℕ → ℕ → ElementRule → List ℕ) (component : ℕ → ℕ → ℕ → ComponentRule → List ℕ) (ls : List Layout) (n e : ℕ) (o : Option Element) (rule : ElementRule) → Some rule ≡ option_map element_head o →
    element n (e + 1) rule ++ components_text component ls n e rule.components ≡ element_lines element component ls n e o
element-shown element component ls n e None rule h = let z : ◌≡◌ {A = ℕ} 0 1 = cc in absurd (omega arith)
element-shown element component ls n e (Some x) rule h =
    let same : rule ≡ element_head x = cc in
    ap (λ r. element n (e + 1) r ++ components_text component ls n e r.components) same

pub element-absent : (element : ℕ → ℕ → ElementRule → List ℕ) (component : ℕ → ℕ → ℕ → ComponentRule → List ℕ) (ls : List Layout) (n e : ℕ) (o : Option Element) → None ≡ option_map element_head o →
    [] ≡ element_lines element component ls n e o
element-absent element component ls n e None h = refl
element-absent element component ls n e (Some x) h = let z : ◌≡◌ {A = ℕ} 0 1 = cc in absurd (omega arith)

-- nothing more, where nothing is shown from a number on
numbered-nothing : (shown : ℕ → List ℕ) (n count : ℕ) → ((k : ℕ) → n ≤ k → shown k ≡ []) → numbered shown n count ≡ []
numbered-nothing shown n zero h = refl
numbered-nothing shown n (suc count) h =
    ap (λ x. x ++ numbered shown (n + 1) count) (h n (omega arith))
    ∙ numbered-nothing shown (n + 1) count (λ k l. h k (omega (arith, l)))

pub numbered-end : (shown : ℕ → List ℕ) (out all : List ℕ) (n total : ℕ) → ((k : ℕ) → n ≤ k → shown k ≡ []) →
    out ++ numbered shown n (total - n) ≡ all → out ≡ all
numbered-end shown out all n total h inv =
    sym (ap (λ x. out ++ x) (numbered-nothing shown n (total - n) h) ∙ append-nil out) ∙ inv

-- behind the first number that a list hasn't there is none
none-behind : {X : Type 0} (xs : List X) (i k : ℕ) → None ≡ slice_get xs i → i ≤ k → slice_get xs k ≡ None
none-behind xs i k h l = elim ((slice_get_cases xs i).1) [
  | inl (x, within, s, r) ↦ cc
  | inr (past, s) ↦ slice_get_past xs k (omega (arith, past, l))
]

code-behind : (o : Option Component) (i k : ℕ) → None ≡ code_in o i → i ≤ k → code_in o k ≡ None
code-behind None i k h l = refl
code-behind (Some c) i k h l = none-behind c.codes i k h l

pub codes-behind : (ls : List Layout) (n e c i : ℕ) → None ≡ code_at ls n e c i → (k : ℕ) → i ≤ k → spaced k (code_at ls n e c k) ≡ []
codes-behind ls n e c i h k l = ap (spaced k) (code-behind (component_at ls n e c) i k h l)

headless : (o : Option Element) → None ≡ option_map element_head o → None ≡ o
headless None h = refl
headless (Some x) h = let z : ◌≡◌ {A = ℕ} 0 1 = cc in absurd (omega arith)

element-behind : (o : Option Layout) (i k : ℕ) → None ≡ element_in o i → i ≤ k → element_in o k ≡ None
element-behind None i k h l = refl
element-behind (Some x) i k h l = none-behind x i k h l

pub elements-behind : (element : ℕ → ℕ → ElementRule → List ℕ) (component : ℕ → ℕ → ℕ → ComponentRule → List ℕ) (ls : List Layout) (n i : ℕ) → None ≡ option_map element_head (element_at ls n i) →
    (k : ℕ) → i ≤ k → element_lines element component ls n k (element_at ls n k) ≡ []
elements-behind element component ls n i h k l =
    ap (element_lines element component ls n k) (element-behind (slice_get ls n) i k (headless (element_at ls n i) h) l)
