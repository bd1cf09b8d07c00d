-- Messages of rows, built from the definition.
use Rattle.std.proofs.Common.{◌≡◌, ℕ, ◌≤◌, List, [], ◌∷◌, codes, sym, refl, ◌∙◌, subst, inl, inr, ⊎_elim, arith}
use Rattle.message.specs.declared.row.Kind.TheVariants.{Trigger, Plain}
use Rattle.message.specs.declared.row.Need.TheVariants.{Optional, Required}
use Rattle.message.specs.declared.row.Row.{Row}
use Rattle.message.specs.Rows.{◌#◌, row_at, Times, Outside, GroupEnd, PlainRun, Runs, GroupRun, RowMessage}

-- a date required in an optional reference group, a party group that ends before the trailer, and a row that can't occur
abbrev rows : List Row
rows =
    record { tag = codes "UNH"; level = 0; kind = Plain; need = Required; limit = 1 }
    ∷ record { tag = codes "RFF"; level = 1; kind = Trigger; need = Optional; limit = 2 }
    ∷ record { tag = codes "DTM"; level = 1; kind = Plain; need = Required; limit = 1 }
    ∷ record { tag = codes "NAD"; level = 1; kind = Trigger; need = Required; limit = 2 }
    ∷ record { tag = codes "FTX"; level = 0; kind = Plain; need = Optional; limit = 0 }
    ∷ record { tag = codes "UNT"; level = 0; kind = Plain; need = Required; limit = 1 }
    ∷ []

never : Optional ≡ Required → ⊥
never e = cc

-- an optional row, or a group, that doesn't occur
left_out : (j : ℕ) → (row_at rows j).need ≡ Optional → Times rows j 0
left_out j e = record { most = omega arith; least = λ r. absurd (never (sym e ∙ r)) }

plain_no_trigger : Plain ≡ Trigger → ⊥
plain_no_trigger e = cc

-- DTM stands in the group of RFF
date_inside : Outside rows 1 2 → ⊥
date_inside o = ⊎_elim (λ h. omega arith) (λ p. ⊎_elim (λ h. omega arith) (λ h. plain_no_trigger h.1) p) o

-- the group of RFF ends at its sibling trigger NAD
reference_end : GroupEnd rows 1 2 3
reference_end = record {
  behind = omega arith;
  outside = inr (inr (refl, refl));
  first = λ i low high o. let e : i ≡ 2 = omega arith in date_inside (subst (Outside rows 1) e o);
}

-- the group of NAD ends at FTX, which has a lower level
party_end : GroupEnd rows 1 4 4
party_end = record {
  behind = omega arith;
  outside = inr (inl (omega arith));
  first = λ i low high o. omega arith;
}

past_end : Outside rows 0 6
past_end = inl (omega arith)

-- once: a row or a group occurs one time
once : (j : ℕ) → 1 ≤ (row_at rows j).limit → Times rows j 1
once j h = record { most = h; least = λ _. omega arith }

-- from the party on: NAD, FTX left out, UNT
from_party : Runs rows 0 3 (3 # 1 ∷ 5 # 1 ∷ []) []
from_party =
    Runs.group refl refl (once 3 (omega arith)) (GroupRun.one (Runs.end (inr (inl (omega arith)))) GroupRun.none) party_end
    (Runs.plain refl refl (left_out 4 refl) PlainRun.none
    (Runs.plain refl refl (once 5 (omega arith)) (PlainRun.one PlainRun.none) (Runs.end past_end)))

-- the reference group is optional, so that the date that is required in it isn't asked for
without_reference : RowMessage rows (0 # 1 ∷ 3 # 1 ∷ 5 # 1 ∷ [])
without_reference =
    Runs.plain refl refl (once 0 (omega arith)) (PlainRun.one PlainRun.none)
    (Runs.group refl refl (left_out 1 refl) GroupRun.none reference_end from_party)

twice : Times rows 1 2
twice = record { most = omega arith; least = λ _. omega arith }

-- two references, each with its date, which is occurrence 1 in either
with_references : RowMessage rows (0 # 1 ∷ 1 # 1 ∷ 2 # 1 ∷ 1 # 2 ∷ 2 # 1 ∷ 3 # 1 ∷ 5 # 1 ∷ [])
with_references =
    Runs.plain refl refl (once 0 (omega arith)) (PlainRun.one PlainRun.none)
    (Runs.group refl refl twice
    (GroupRun.one (Runs.plain refl refl (once 2 (omega arith)) (PlainRun.one PlainRun.none) (Runs.end (inr (inr (refl, refl)))))
    (GroupRun.one (Runs.plain refl refl (once 2 (omega arith)) (PlainRun.one PlainRun.none) (Runs.end (inr (inr (refl, refl))))) GroupRun.none))
    reference_end from_party)
