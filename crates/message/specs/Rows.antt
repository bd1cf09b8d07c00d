-- The rows of a branching diagram, the rules they keep, and what a message is as far as its rows go.
use Rattle.std.specs.Prelude.{◌≡◌, ℕ, suc, ◌-◌, ◌<◌, ◌≤◌, ◌⊎◌, List, [], ◌∷◌, ◌++◌, length, codes, slice_index, slice_index_or}
use Rattle.message.specs.declared.row.Kind.TheVariants.{Trigger, Plain}
use Rattle.message.specs.declared.row.Need.TheVariants.{Optional, Required}
use Rattle.message.specs.declared.row.Row.{Row}

-- what is read past the last row
abbrev pub past_last : Row
past_last = record { tag = []; level = 0; kind = Trigger; need = Optional; limit = 0 }

abbrev pub row_at : List Row → ℕ → Row
row_at rows j = slice_index_or rows j past_last

-- three letters A to Z
pub record IsTag (tag : List ℕ) : Type 0 where
  pub three : length tag ≡ 3
  pub letters : (i : ℕ) → i < 3 → (65 ≤ slice_index tag i) × (slice_index tag i ≤ 90)

-- a row and its occurrence: which one of its run this is, from 1
infix 90 ◌#◌
pub data Seat : Type 0 where
  ◌#◌ : (row occurrence : ℕ) → Seat

module _ (rows : List Row) where
  -- how often a run of row j, or of its group, may occur: up to its limit, and at least once if required
  pub record Times (j m : ℕ) : Type 0 where
    pub most : m ≤ (row_at rows j).limit
    pub least : (row_at rows j).need ≡ Required → 1 ≤ m

  -- what stands at row i is no more in a group of level l: there is no row, or one of lower level, or a trigger of level l
  abbrev pub Outside : (l i : ℕ) → Type 0
  Outside l i = (length rows ≤ i) ⊎ (((row_at rows i).level < l) ⊎ (((row_at rows i).level ≡ l) × ((row_at rows i).kind ≡ Trigger)))

  -- a group of level l whose trigger stands before row j reaches up to row e
  pub record GroupEnd (l j e : ℕ) : Type 0 where
    pub behind : j ≤ e
    pub outside : Outside l e
    pub first : (i : ℕ) → j ≤ i → i < e → Outside l i → ⊥

  -- PlainRun j n m w v: w is the occurrences n + 1 to m of the plain row j, and then v
  pub data PlainRun (j : ℕ) : (n m : ℕ) → List Seat → List Seat → Type 0 where
    none : {n : ℕ} {w : List Seat} → PlainRun j n n w w
    one : {n m : ℕ} {w v : List Seat} → PlainRun j (suc n) m w v → PlainRun j n m (j # suc n ∷ w) v

  mutual
    -- Runs l j w v: w is the runs of the plain rows of level l and of the groups directly inside, in row order, from row j to the end of that level, and then v
    pub data Runs : (l j : ℕ) → List Seat → List Seat → Type 0 where
      end : {l j : ℕ} {w : List Seat} → Outside l j → Runs l j w w
      plain : {l j m : ℕ} {w u v : List Seat} → (row_at rows j).kind ≡ Plain → (row_at rows j).level ≡ l →
          Times j m → PlainRun j 0 m w u → Runs l (suc j) u v → Runs l j w v
      group : {l j m e : ℕ} {w u v : List Seat} → (row_at rows j).kind ≡ Trigger → (row_at rows j).level ≡ suc l →
          Times j m → GroupRun j 0 m w u → GroupEnd (suc l) (suc j) e → Runs l e u v → Runs l j w v

    -- GroupRun j n m w v: w is the occurrences n + 1 to m of the group of the trigger row j, and then v.
    -- An occurrence is the trigger, numbered as it, and then the runs of the rows and groups directly inside.
    pub data GroupRun : (j n m : ℕ) → List Seat → List Seat → Type 0 where
      none : {j n : ℕ} {w : List Seat} → GroupRun j n n w w
      one : {j n m : ℕ} {w u v : List Seat} → Runs (row_at rows j).level (suc j) w u → GroupRun j (suc n) m u v → GroupRun j n m (j # suc n ∷ w) v

  -- a message of rows: the runs of level 0 and of its groups
  abbrev pub RowMessage : List Seat → Type 0
  RowMessage w = Runs 0 0 w []

  -- some message of rows begins with these
  abbrev pub RowsBegin : List Seat → Type 0
  RowsBegin w = (v : List Seat) × RowMessage (w ++ v)

  -- row q can follow row p: some message of rows has q directly after p
  abbrev pub RowFollows : (p q : ℕ) → Type 0
  RowFollows p q = (u : List Seat) × (m : ℕ) × (n : ℕ) × (v : List Seat) × RowMessage (u ++ (p # m ∷ (q # n ∷ v)))

  -- a clear diagram: no two different rows of one tag can follow the same row
  abbrev pub ClearRows : Type 0
  ClearRows = (p q r : ℕ) → RowFollows p q → RowFollows p r → (row_at rows q).tag ≡ (row_at rows r).tag → q ≡ r

  abbrev pub tags_of : List Seat → List (List ℕ)
  tags_of [] = []
  tags_of (j # n ∷ w) = (row_at rows j).tag ∷ tags_of w

  -- a service row: plain, level 0, required, limit 1
  pub record Service (j : ℕ) (tag : List ℕ) : Type 0 where
    pub tagged : (row_at rows j).tag ≡ tag
    pub plain : (row_at rows j).kind ≡ Plain
    pub flat : (row_at rows j).level ≡ 0
    pub required : (row_at rows j).need ≡ Required
    pub once : (row_at rows j).limit ≡ 1

  -- what is asked of each row j
  pub record RowRule (j : ℕ) : Type 0 where
    pub tagged : IsTag (row_at rows j).tag
    pub header : (row_at rows j).tag ≡ codes "UNH" → j ≡ 0
    pub trailer : (row_at rows j).tag ≡ codes "UNT" → j ≡ length rows - 1
    pub other : (row_at rows j).tag ≡ codes "UNA" → ⊥
    pub deep : (row_at rows j).level ≤ 7
    pub flat : (row_at rows j).level ≡ 0 → (row_at rows j).kind ≡ Plain
    pub rises : suc j < length rows → ((row_at rows (suc j)).level ≤ (row_at rows j).level) ⊎ (((row_at rows (suc j)).level ≡ suc (row_at rows j).level) × ((row_at rows (suc j)).kind ≡ Trigger))
    pub limited : (row_at rows j).limit ≤ 9999999
    pub never : (row_at rows j).limit ≡ 0 → (row_at rows j).need ≡ Optional

  pub record RowRules : Type 0 where
    pub many : 2 ≤ length rows
    pub few : length rows ≤ 512
    pub header : Service 0 (codes "UNH")
    pub trailer : Service (length rows - 1) (codes "UNT")
    pub each : (j : ℕ) → j < length rows → RowRule j
