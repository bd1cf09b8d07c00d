-- Which bytes a text may hold, and what they are.
use Rattle.std.specs.Prelude.{ℕ, suc, Bool, cond, ◌&&◌, ◌||◌, List, [], ◌∷◌, ◌==◌, nat_le}

-- a byte that may stand in a segment
abbrev pub allowed : ℕ → Bool
allowed b = nat_le 32 b && nat_le b 126

-- CR or LF
abbrev pub line_break : ℕ → Bool
line_break b = b == 13 || b == 10

-- A to Z
abbrev pub capital : ℕ → Bool
capital b = nat_le 65 b && nat_le b 90

-- a to z
abbrev pub small : ℕ → Bool
small b = nat_le 97 b && nat_le b 122

-- 0 to 9
abbrev pub digit : ℕ → Bool
digit b = nat_le 48 b && nat_le b 57

-- how many bytes stand before the first that isn't allowed
abbrev pub allowed_run : List ℕ → ℕ
allowed_run [] = 0
allowed_run (b ∷ bs) = cond (allowed b) (suc (allowed_run bs)) 0

-- how many CR and LF stand in front
abbrev pub break_run : List ℕ → ℕ
break_run [] = 0
break_run (b ∷ bs) = cond (line_break b) (suc (break_run bs)) 0
