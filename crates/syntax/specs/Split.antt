-- Splitting bytes at a mark that no release mark protects, and taking release marks out.
-- The flag `protected` says that a release mark stands before the first byte and protects it.
use Rattle.std.specs.Prelude.{ℕ, suc, Bool, cond, not, ◌&&◌, List, [], ◌∷◌, ◌++◌, ◌==◌}

-- whether b is a release mark that protects the next byte
abbrev pub releases : (release : ℕ) (protected : Bool) → ℕ → Bool
releases release protected b = not protected && b == release

-- whether b is the mark, unprotected
abbrev pub divides : (release mark : ℕ) (protected : Bool) → ℕ → Bool
divides release mark protected b = not (releases release protected b) && (not protected && b == mark)

-- the byte in front of the first piece
abbrev pub onto : ℕ → List (List ℕ) → List (List ℕ)
onto b [] = (b ∷ []) ∷ []
onto b (p ∷ ps) = (b ∷ p) ∷ ps

-- the pieces between the unprotected marks: always one more than there are marks
abbrev pub split : (release mark : ℕ) (protected : Bool) → List ℕ → List (List ℕ)
split release mark protected [] = [] ∷ []
split release mark protected (b ∷ bs) =
    let rest : List (List ℕ) = split release mark (releases release protected b) bs in
    cond (divides release mark protected b) ([] ∷ rest) (onto b rest)

-- the length of the first piece
abbrev pub reach : (release mark : ℕ) (protected : Bool) → List ℕ → ℕ
reach release mark protected [] = 0
reach release mark protected (b ∷ bs) =
    cond (divides release mark protected b) 0 (suc (reach release mark (releases release protected b) bs))

-- the pieces with the mark between them
abbrev pub join : (mark : ℕ) → List (List ℕ) → List ℕ
join mark [] = []
join mark (p ∷ []) = p
join mark (p ∷ q ∷ ps) = p ++ mark ∷ join mark (q ∷ ps)

-- the characters: each byte but the release marks that protect another
abbrev pub characters : (release : ℕ) (protected : Bool) → List ℕ → List ℕ
characters release protected [] = []
characters release protected (b ∷ bs) =
    let rest : List ℕ = characters release (releases release protected b) bs in
    cond (releases release protected b) rest (b ∷ rest)
