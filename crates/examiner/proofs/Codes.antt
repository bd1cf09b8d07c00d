-- The search through a code list.
use Rattle.std.proofs.Common.{◌≡◌, ℕ, zero, suc, ◌+◌, ◌<◌, Bool, true, false, cond, ◌||◌, List, [], ◌∷◌, length, get_or, drop, Some, None, Option, sym, refl, ap, ◌∙◌, add-one, arith, drop-cons}
use Rattle.std.proofs.lemmas.List.{drop_all}
use Rattle.std.proofs.lemmas.Option.{slice_get-get_or}
use Rattle.std.specs.List.{slice_get, list_any, range_with_len}
use Rattle.message.specs.Layouts.{Component, Layout, code_in, component_at, code_at}
use Rattle.examiner.specs.declared.measure.Measure.{Measure}
use Rattle.examiner.specs.Measuring.{spelled_in}
use Rattle.examiner.specs.Checking.{codes_of, codes_at, spelled_at, among_in, listed_in}

-- the codes that a book tells by number are those of the list
code_in_lem : (o : Option Component) (k : ℕ) → code_in o k ≡ slice_get (codes_of o) k
code_in_lem None k = refl
code_in_lem (Some r) k = refl

pub code_at_lem : (ls : List Layout) (row e c k : ℕ) → code_at ls row e c k ≡ slice_get (codes_at ls row e c) k
code_at_lem ls row e c k = code_in_lem (component_at ls row e c) k

module _ (m : Measure) (codes : List (List ℕ)) where
  abbrev pub spelled : ℕ → Bool
  spelled k = spelled_at (slice_get codes k) m

  from_number : (n a : ℕ) → a + n ≡ length codes → list_any spelled (range_with_len a n) ≡ among_in (drop a codes) m
  from_number zero a e = sym (ap (λ (cs : List (List ℕ)). among_in cs m) (drop_all a codes (omega arith)))
  from_number (suc n) a e =
      let code : List ℕ = get_or codes a [] in
      let here : a < length codes = omega arith in
      let front : drop a codes ≡ code ∷ drop (a + 1) codes = rw (add-one, drop-cons codes a []) in
      let at : spelled a ≡ spelled_in code m = ap (λ o. spelled_at o m) (slice_get-get_or codes a [] here) in
      ap (λ t. t || list_any spelled (range_with_len (a + 1) n)) at
      ∙ (elim (spelled_in code m) as (λ t. (t || list_any spelled (range_with_len (a + 1) n)) ≡ cond t true (among_in (drop (a + 1) codes) m)) [ true ↦ refl | false ↦ from_number n (a + 1) (omega arith) ])
      ∙ sym (ap (λ (cs : List (List ℕ)). among_in cs m) front)

-- some code is spelled, where there is one
pub listed_any : (m : Measure) (codes : List (List ℕ)) → 0 < length codes → list_any (spelled m codes) (range_with_len 0 (length codes)) ≡ listed_in codes m
listed_any m [] h = absurd (omega arith)
listed_any m (code ∷ codes) h = from_number m (code ∷ codes) (length (code ∷ codes)) 0 (omega arith)
