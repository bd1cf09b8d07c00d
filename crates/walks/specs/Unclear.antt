-- The rows of a diagram that isn't clear.
use Rattle.std.specs.Prelude.{List, [], ◌∷◌, codes}
use Rattle.message.specs.declared.row.Kind.TheVariants.{Trigger, Plain}
use Rattle.message.specs.declared.row.Need.TheVariants.{Optional, Required}
use Rattle.message.specs.declared.row.Row.{Row}

-- behind PCI both rows LIN can come, and behind LIN or the first DTM both rows DTM
abbrev pub unclear_rows : List Row
unclear_rows =
    record { tag = codes "UNH"; level = 0; kind = Plain; need = Required; limit = 1 }
    ∷ record { tag = codes "LIN"; level = 1; kind = Trigger; need = Optional; limit = 2 }
    ∷ record { tag = codes "PCI"; level = 2; kind = Trigger; need = Optional; limit = 1 }
    ∷ record { tag = codes "LIN"; level = 2; kind = Plain; need = Optional; limit = 1 }
    ∷ record { tag = codes "DTM"; level = 0; kind = Plain; need = Optional; limit = 1 }
    ∷ record { tag = codes "DTM"; level = 0; kind = Plain; need = Optional; limit = 2 }
    ∷ record { tag = codes "UNT"; level = 0; kind = Plain; need = Required; limit = 1 }
    ∷ []
