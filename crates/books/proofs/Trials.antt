-- Which rows may come after which in the trial book, computed.
use Rattle.std.proofs.Common.{◌≡◌, ℕ, true, false, List, [], ◌∷◌, map, refl}
use Rattle.message.specs.declared.row.Kind.TheVariants.{Plain}
use Rattle.message.specs.declared.row.Need.TheVariants.{Optional, Required}
use Rattle.message.specs.declared.row.Row.{Row}
use Rattle.message.specs.Walk.{row_of}
use Rattle.message.specs.Following.{Numbered, followers, followers_differ}
use Rattle.message.specs.Successors.{successors, successors_differ}
use Rattle.books.specs.Notation.{row}
use Rattle.books.specs.Trial.{trial_rows}
use Rattle.books.specs.Recadv.{recadv_rows}

abbrev numbers : List Row → List (List ℕ)
numbers rows = map (map (λ (x : Numbered). x.number)) (followers rows)

trial : numbers trial_rows ≡
    (1 ∷ [])  -- UNH: BGM
    ∷ (2 ∷ [])  -- BGM: DTM
    ∷ (2 ∷ 3 ∷ 5 ∷ [])  -- DTM: DTM again, a reference, a party
    ∷ (4 ∷ 3 ∷ 5 ∷ [])  -- RFF: its date, another reference, a party
    ∷ (3 ∷ 5 ∷ [])
    ∷ (5 ∷ 6 ∷ 10 ∷ [])  -- NAD: another party, a line, the trailer
    ∷ (7 ∷ 8 ∷ 6 ∷ 10 ∷ [])  -- LIN: its quantity, a package, another line, the trailer
    ∷ (8 ∷ 6 ∷ 10 ∷ [])
    ∷ (9 ∷ 8 ∷ 6 ∷ 10 ∷ [])  -- PCI: its quantity, another package, another line, the trailer
    ∷ (8 ∷ 6 ∷ 10 ∷ [])
    ∷ []
    ∷ []
trial = refl

trial_clear : followers_differ trial_rows ≡ true
trial_clear = refl

recadv_clear : followers_differ recadv_rows ≡ true
recadv_clear = refl

-- two optional rows of one tag behind the same row
abbrev unclear_rows : List Row
unclear_rows = row "UNH" 0 Plain Required 1 ∷ row "DTM" 0 Plain Optional 1 ∷ row "DTM" 0 Plain Optional 1 ∷ row "UNT" 0 Plain Required 1 ∷ []

unclear : followers_differ unclear_rows ≡ false
unclear = refl

-- with a limit of 0 the first can't come, so that nothing clashes
cleared : followers_differ (row "UNH" 0 Plain Required 1 ∷ row "DTM" 0 Plain Optional 0 ∷ row "DTM" 0 Plain Optional 1 ∷ row "UNT" 0 Plain Required 1 ∷ []) ≡ true
cleared = refl

-- a required row lets nothing behind it come
required-stops : followers_differ (row "UNH" 0 Plain Required 1 ∷ row "DTM" 0 Plain Required 1 ∷ row "DTM" 0 Plain Optional 1 ∷ row "UNT" 0 Plain Required 1 ∷ []) ≡ true
required-stops = refl

-- the same rows by the walk's rule
abbrev successor_numbers : List Row → List (List ℕ)
successor_numbers rows = map (map row_of) (successors rows)

trial-successors : successor_numbers trial_rows ≡ numbers trial_rows
trial-successors = refl

recadv-successors : successor_numbers recadv_rows ≡ numbers recadv_rows
recadv-successors = refl

unclear-successors : successors_differ unclear_rows ≡ false
unclear-successors = refl

-- with a limit of 0 the first can't come, so that nothing clashes
cleared-successors : successors_differ (row "UNH" 0 Plain Required 1 ∷ row "DTM" 0 Plain Optional 0 ∷ row "DTM" 0 Plain Optional 1 ∷ row "UNT" 0 Plain Required 1 ∷ []) ≡ true
cleared-successors = refl

-- a required row lets nothing behind it come
required-stops-successors : successors_differ (row "UNH" 0 Plain Required 1 ∷ row "DTM" 0 Plain Required 1 ∷ row "DTM" 0 Plain Optional 1 ∷ row "UNT" 0 Plain Required 1 ∷ []) ≡ true
required-stops-successors = refl
