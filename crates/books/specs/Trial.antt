-- The trial book: a small diagram in which each user segment has one required element an..35.
use Rattle.std.specs.Prelude.{ℕ, List, [], ◌∷◌, codes}
use Rattle.message.specs.declared.row.Kind.TheVariants.{Trigger, Plain}
use Rattle.message.specs.declared.row.Need.TheVariants.{Optional, Required}
use Rattle.message.specs.declared.row.Row.{Row}
use Rattle.message.specs.Layouts.{Layout}
use Rattle.message.specs.Messages.{Meaning}
use Rattle.books.specs.Notation.{row, an, simple, R}

abbrev pub trial_identifier : List (List ℕ)
trial_identifier = codes "TSTMSG" ∷ codes "D" ∷ codes "01B" ∷ codes "UN" ∷ codes "EAN005" ∷ []

-- tag, level, kind, need, limit
abbrev pub trial_rows : List Row
trial_rows =
    row "UNH" 0 Plain Required 1  -- 0 message header
    ∷ row "BGM" 0 Plain Required 1  -- 1 beginning of the message
    ∷ row "DTM" 0 Plain Required 2  -- 2 date of the message
    ∷ row "RFF" 1 Trigger Optional 2  -- 3 SG1 reference
    ∷ row "DTM" 1 Plain Optional 1  -- 4 SG1 date of the reference
    ∷ row "NAD" 1 Trigger Required 2  -- 5 SG2 party
    ∷ row "LIN" 1 Trigger Optional 3  -- 6 SG3 line
    ∷ row "QTY" 1 Plain Optional 1  -- 7 SG3 quantity of the line
    ∷ row "PCI" 2 Trigger Optional 2  -- 8 SG4 package
    ∷ row "QTY" 2 Plain Optional 1  -- 9 SG4 quantity in the package
    ∷ row "UNT" 0 Plain Required 1  -- 10 message trailer
    ∷ []

-- 1 BGM: beginning of the message
abbrev trial_layout1 : Layout
trial_layout1 =
    simple (an 35 R)
    ∷ []

-- 2 DTM: date of the message
abbrev trial_layout2 : Layout
trial_layout2 =
    simple (an 35 R)
    ∷ []

-- 3 RFF: SG1 reference
abbrev trial_layout3 : Layout
trial_layout3 =
    simple (an 35 R)
    ∷ []

-- 4 DTM: SG1 date of the reference
abbrev trial_layout4 : Layout
trial_layout4 =
    simple (an 35 R)
    ∷ []

-- 5 NAD: SG2 party
abbrev trial_layout5 : Layout
trial_layout5 =
    simple (an 35 R)
    ∷ []

-- 6 LIN: SG3 line
abbrev trial_layout6 : Layout
trial_layout6 =
    simple (an 35 R)
    ∷ []

-- 7 QTY: SG3 quantity of the line
abbrev trial_layout7 : Layout
trial_layout7 =
    simple (an 35 R)
    ∷ []

-- 8 PCI: SG4 package
abbrev trial_layout8 : Layout
trial_layout8 =
    simple (an 35 R)
    ∷ []

-- 9 QTY: SG4 quantity in the package
abbrev trial_layout9 : Layout
trial_layout9 =
    simple (an 35 R)
    ∷ []

-- the header and the trailer have no elements in a book
abbrev pub trial_layouts : List Layout
trial_layouts =
    []
    ∷ trial_layout1
    ∷ trial_layout2
    ∷ trial_layout3
    ∷ trial_layout4
    ∷ trial_layout5
    ∷ trial_layout6
    ∷ trial_layout7
    ∷ trial_layout8
    ∷ trial_layout9
    ∷ []
    ∷ []

abbrev pub trial_meaning : Meaning
trial_meaning = record { rows = trial_rows; layouts = trial_layouts; identifier = trial_identifier }
