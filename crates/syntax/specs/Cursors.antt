-- What the cursors over bytes have still to tell, and the character with which bytes begin.
use Rattle.std.specs.Prelude.{ℕ, false, cond, List, [], length, Some, None, Option, ◌==◌, nat_lt, slice_index}
use Rattle.std.specs.Option.{option_map}
use Rattle.syntax.specs.declared.characters.Characters.{Characters}
use Rattle.syntax.specs.declared.characters.FoundCharacter.{FoundCharacter}
use Rattle.syntax.specs.declared.pieces.Divider.{Divider}
use Rattle.syntax.specs.declared.pieces.Pieces.{Pieces}
use Rattle.syntax.specs.Split.{split, characters}

-- the pieces of bytes that are still to come, or none behind the last
abbrev pub pieces_in : Divider → Option (List ℕ) → List (List ℕ)
pieces_in d None = []
pieces_in d (Some bs) = split d.release d.mark false bs

-- the pieces that are still to come
abbrev pub pieces_left : Pieces → List (List ℕ)
pieces_left c = pieces_in c.divider (option_map (λ x. x.now) c.rest)

-- the characters that are still to come
abbrev pub characters_left : Characters → List ℕ
characters_left c = characters c.release false c.rest.now

-- the character with which bytes begin
abbrev pub character_in : (release : ℕ) → List ℕ → Option FoundCharacter
character_in release bs =
    cond (length bs == 0) None
    (cond (slice_index bs 0 == release)
    (cond (nat_lt (length bs) 2) None (Some (record { character = slice_index bs 1; length = 2 })))
    (Some (record { character = slice_index bs 0; length = 1 })))
