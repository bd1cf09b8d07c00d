-- The pass over the rows behind the last finds exactly the rows that can come next.
use Rattle.std.proofs.Common.{◌≡◌, ℕ, zero, suc, ◌+◌, ◌<◌, ◌≤◌, Bool, true, false, cond, not, ltb, leb, ◌⊎◌, List, [], ◌∷◌, ◌++◌, length, drop, sym, refl, ap, ◌∙◌, subst, inl, inr, ⊎_elim, add-one, arith}
use mathlib.Core.List.{Memᴰ}
use native.Mathlib.Decide.{dec_le, dec_lt}
use Rattle.std.proofs.lemmas.List.{drop_all, drop_more}
use Rattle.std.proofs.lemmas.Bool.{ltb-true, ltb-false, lt-ltb, le-ltb, leb-true, le-leb, not-true, not-false}
use Rattle.message.specs.declared.row.Need.{Need}
use Rattle.message.specs.declared.row.Need.TheVariants.{Optional, Required}
use Rattle.message.specs.declared.row.Row.{Row}
use Rattle.message.specs.declared.open.Open.{Open}
use Rattle.message.specs.Rows.{Seat, ◌#◌, row_at, past_last, RowRules}
use Rattle.message.specs.RowTests.{is_required}
use Rattle.message.specs.Walk.{depth, within, begun, may_repeat, repeated, with_if, ends_at, still_open, come_again, ahead, position, row_of, seat_of}
use Rattle.message.proofs.Levels.{limit, Omissible, depth_at}
use Rattle.message.proofs.Afters.{After, Nested, bare, sound, under, depth_is, nested-on, nested-under, nested-begun, nested-repeated, pass-inner, pass-absent, come_first, come_again_lem, leave, skip-inner, Begins, begin_or_pass, Repeats, repeat_or_leave}
use Rattle.message.proofs.Completions.{depth_in, past_end}

-- The pass in two steps

pub ends_when : (d : ℕ) (o : Open) → d ≤ depth o.row → ends_at d o ≡ true
ends_when d o h = ap not (le-ltb (depth o.row) d h)

pub open_when : (d : ℕ) (o : Open) → depth o.row < d → ends_at d o ≡ false
open_when d o h = ap not (lt-ltb (depth o.row) d h)

pub when_ends : (d : ℕ) (o : Open) → ends_at d o ≡ true → d ≤ depth o.row
when_ends d o h = ltb-false (depth o.row) d (not-true _ h)

pub when_open : (d : ℕ) (o : Open) → ends_at d o ≡ false → depth o.row < d
when_open d o h = ltb-true (depth o.row) d (not-false _ h)

with_if-append : {X : Type 0} (b : Bool) (x : X) (xs ys : List X) → with_if b x xs ++ ys ≡ with_if b x (xs ++ ys)
with_if-append true x xs ys = refl
with_if-append false x xs ys = refl

-- what a row that stands in all of the open rows leaves
unfoldable pub at_row : ℕ → List Open → Row → List Row → List (List Open)
at_row j gs r rs = cond (ltb (within gs) (depth r)) (ahead (suc j) gs rs) (with_if (leb 1 r.limit) (begun j r ∷ gs) (cond (is_required r.need) [] (ahead (suc j) gs rs)))

-- the innermost open row ends before row j
pub ahead-ends : (j : ℕ) (o : Open) (gs : List Open) (r : Row) (rs : List Row) → depth r ≤ depth o.row → ahead j (o ∷ gs) (r ∷ rs) ≡ with_if (may_repeat o) (repeated o ∷ gs) (ahead j gs (r ∷ rs))
unfolding at_row
ahead-ends j o gs r rs h = at (ends_at (depth r) o) (ends_when (depth r) o h)
  where
    at : (b : Bool) → b ≡ true →
        cond b (with_if (may_repeat o) (repeated o ∷ gs) (come_again (depth r) gs)) [] ++ at_row j (cond b (still_open (depth r) gs) (o ∷ gs)) r rs
        ≡ with_if (may_repeat o) (repeated o ∷ gs) (come_again (depth r) gs ++ at_row j (still_open (depth r) gs) r rs)
    at true e = with_if-append (may_repeat o) (repeated o ∷ gs) (come_again (depth r) gs) (at_row j (still_open (depth r) gs) r rs)
    at false e = cc

-- none of the open rows ends before row j
pub ahead_open : (j : ℕ) (gs : List Open) (r : Row) (rs : List Row) → within gs ≤ depth r → ahead j gs (r ∷ rs) ≡ at_row j gs r rs
unfolding at_row
ahead_open j [] r rs h = refl
ahead_open j (o ∷ gs) r rs h = at (ends_at (depth r) o) (open_when (depth r) o (omega arith))
  where
    at : (b : Bool) → b ≡ false →
        cond b (with_if (may_repeat o) (repeated o ∷ gs) (come_again (depth r) gs)) [] ++ at_row j (cond b (still_open (depth r) gs) (o ∷ gs)) r rs ≡ at_row j (o ∷ gs) r rs
    at true e = cc
    at false e = refl

mem_with_if : {X : Type 0} {y : X} (b : Bool) (x : X) (xs : List X) → Memᴰ y (with_if b x xs) → ((b ≡ true) × (y ≡ x)) ⊎ Memᴰ y xs
mem_with_if true x xs m = at (mathlib.Core.List.Memᴰ.cases_cons m)
  where
    at : {y : _} → (y ≡ x) ⊎ Memᴰ y xs → ((true ≡ true) × (y ≡ x)) ⊎ Memᴰ y xs
    at (inl e) = inl (refl, e)
    at (inr n) = inr n
mem_with_if false x xs m = inr m

with_if_head : {X : Type 0} (b : Bool) (x : X) (xs : List X) → b ≡ true → Memᴰ x (with_if b x xs)
with_if_head true x xs e = mathlib.Core.List.Memᴰ.head refl
with_if_head false x xs e = cc

with_if_tail : {X : Type 0} {y : X} (b : Bool) (x : X) (xs : List X) → Memᴰ y xs → Memᴰ y (with_if b x xs)
with_if_tail true x xs m = mathlib.Core.List.Memᴰ.tail m
with_if_tail false x xs m = m

module _ (rows : List Row) where
  -- Ahead j gs t: from row j on, inside the open rows gs, a row may come next, and the walk then stands at t
  pub data Ahead : ℕ → List Open → List Open → Type 0 where
    again : {j : ℕ} {o : Open} {gs : List Open} → j < length rows → depth_at rows j ≤ depth o.row → o.occurrence < o.row.limit → Ahead j (o ∷ gs) (repeated o ∷ gs)
    end : {j : ℕ} {o : Open} {gs t : List Open} → j < length rows → depth_at rows j ≤ depth o.row → Ahead j gs t → Ahead j (o ∷ gs) t
    first : {j : ℕ} {gs : List Open} → j < length rows → depth_at rows j ≡ within gs → 1 ≤ limit rows j → Ahead j gs (begun j (row_at rows j) ∷ gs)
    pass : {j : ℕ} {gs t : List Open} → j < length rows → depth_at rows j ≡ within gs → Omissible rows j → Ahead (suc j) gs t → Ahead j gs t
    skip : {j : ℕ} {gs t : List Open} → j < length rows → within gs < depth_at rows j → Ahead (suc j) gs t → Ahead j gs t

  pub row_here : (j : ℕ) (r : Row) (rs : List Row) → drop j rows ≡ r ∷ rs → (row_at rows j ≡ r) × (drop (suc j) rows ≡ rs) × (j < length rows)
  row_here j r rs e = at (dec_lt j (length rows))
    where
      at : Dec (j < length rows) → (row_at rows j ≡ r) × (drop (suc j) rows ≡ rs) × (j < length rows)
      at (yes p) = let m = drop_more rows j past_last p in let a : row_at rows j ≡ r = cc in let b : drop (j + 1) rows ≡ rs = cc in (a, (rw add-one at b), p)
      at (no p) = let m = drop_all j rows (omega arith) in cc

  pub rows_from : (j : ℕ) → j < length rows → drop j rows ≡ row_at rows j ∷ drop (suc j) rows
  rows_from j h = let m = drop_more rows j past_last h in rw add-one at m

  pub need_optional : (n : Need) → is_required n ≡ false → n ≡ Optional
  need_optional Optional e = refl
  need_optional Required e = cc

  module _ (K : RowRules rows) where
    -- a state that the pass finds

    at-row : (j : ℕ) (gs : List Open) (t : List Open) (rs : List Row) → j < length rows → within gs ≤ depth_at rows j → (Memᴰ t (ahead (suc j) gs rs) → Ahead (suc j) gs t) → Memᴰ t (at_row j gs (row_at rows j) rs) → Ahead j gs t
    unfolding at_row depth_at
    at-row j gs t rs l h go m = by-depth (ltb (within gs) (depth (row_at rows j))) refl m
      where
        others : List (List Open)
        others = ahead (suc j) gs rs

        by_need : (b : Bool) → is_required (row_at rows j).need ≡ b → depth_at rows j ≡ within gs → Memᴰ t (cond b [] others) → Ahead j gs t
        by_need true e d n = absurd (mathlib.Core.List.Memᴰ.not-nil n)
        by_need false e d n = pass l d (need_optional (row_at rows j).need e) (go n)

        by-limit : depth_at rows j ≡ within gs → ((leb 1 (limit rows j) ≡ true) × (t ≡ begun j (row_at rows j) ∷ gs)) ⊎ Memᴰ t (cond (is_required (row_at rows j).need) [] others) → Ahead j gs t
        by-limit d (inl (b, e)) = rw e (first l d (leb-true 1 (limit rows j) b))
        by-limit d (inr n) = by_need (is_required (row_at rows j).need) refl d n

        by-depth : (b : Bool) → ltb (within gs) (depth (row_at rows j)) ≡ b → Memᴰ t (cond b others (with_if (leb 1 (limit rows j)) (begun j (row_at rows j) ∷ gs) (cond (is_required (row_at rows j).need) [] others))) → Ahead j gs t
        by-depth true e n = skip l (ltb-true (within gs) (depth (row_at rows j)) e) (go n)
        by-depth false e n = by-limit (omega (arith, ltb-false (within gs) (depth (row_at rows j)) e)) (mem_with_if (leb 1 (limit rows j)) (begun j (row_at rows j) ∷ gs) (cond (is_required (row_at rows j).need) [] others) n)

    found-on : (j : ℕ) (r : Row) (rs : List Row) → j < length rows → row_at rows j ≡ r → ((hs t : List Open) → Memᴰ t (ahead (suc j) hs rs) → Ahead (suc j) hs t) → (gs t : List Open) → Memᴰ t (ahead j gs (r ∷ rs)) → Ahead j gs t
    found-on j r rs l e go [] t m =
        let n = subst (λ (ts : List (List Open)). Memᴰ t ts) (ahead_open j [] r rs (omega (arith, depth_in rows K j l, depth_is rows j, ap depth e))) m in
        at-row j [] t rs l (depth_in rows K j l) (go [] t) (rw (← e) at n)
    found-on j r rs l e go (o ∷ gs) t m = at (dec_le (depth r) (depth o.row)) (found-on j r rs l e go gs t)
      where
        same : depth r ≡ depth_at rows j
        same = sym (ap depth e) ∙ depth_is rows j

        by_repeat : depth r ≤ depth o.row → ((may_repeat o ≡ true) × (t ≡ repeated o ∷ gs)) ⊎ Memᴰ t (ahead j gs (r ∷ rs)) → (Memᴰ t (ahead j gs (r ∷ rs)) → Ahead j gs t) → Ahead j (o ∷ gs) t
        by_repeat h (inl (b, x)) rec = rw x (again {o = o} l (omega (arith, same)) (ltb-true o.occurrence o.row.limit b))
        by_repeat h (inr n) rec = end {o = o} l (omega (arith, same)) (rec n)

        at : Dec (depth r ≤ depth o.row) → (Memᴰ t (ahead j gs (r ∷ rs)) → Ahead j gs t) → Ahead j (o ∷ gs) t
        at (yes h) rec = by_repeat h (mem_with_if (may_repeat o) (repeated o ∷ gs) (ahead j gs (r ∷ rs)) (subst (λ (ts : List (List Open)). Memᴰ t ts) (ahead-ends j o gs r rs h) m)) rec
        at (no h) rec =
            let n = subst (λ (ts : List (List Open)). Memᴰ t ts) (ahead_open j (o ∷ gs) r rs (omega arith)) m in
            at-row j (o ∷ gs) t rs l (omega (arith, same)) (go (o ∷ gs) t) (rw (← e) at n)

    pub found : (rs : List Row) (j : ℕ) → drop j rows ≡ rs → (gs t : List Open) → Memᴰ t (ahead j gs rs) → Ahead j gs t
    found [] j e gs t m = absurd (mathlib.Core.List.Memᴰ.not-nil m)
    found (r ∷ rs) j e gs t m = let h = row_here j r rs e in found-on j r rs h.2 h.0 (found rs (suc j) h.1) gs t m

    -- and all of them

    abbrev Finds : ℕ → List Open → List Open → Type 0
    Finds j gs t = Memᴰ t (ahead j gs (drop j rows))

    by_row : (j : ℕ) (gs t : List Open) → j < length rows → Memᴰ t (ahead j gs (row_at rows j ∷ drop (suc j) rows)) → Finds j gs t
    by_row j gs t l m = subst (λ (rs : List Row). Memᴰ t (ahead j gs rs)) (sym (rows_from j l)) m

    from_row : (j : ℕ) (gs t : List Open) → j < length rows → Finds j gs t → Memᴰ t (ahead j gs (row_at rows j ∷ drop (suc j) rows))
    from_row j gs t l m = subst (λ (rs : List Row). Memᴰ t (ahead j gs rs)) (rows_from j l) m

    finds-end : (j : ℕ) (o : Open) (gs t : List Open) → j < length rows → depth_at rows j ≤ depth o.row → Memᴰ t (with_if (may_repeat o) (repeated o ∷ gs) (ahead j gs (row_at rows j ∷ drop (suc j) rows))) → Finds j (o ∷ gs) t
    finds-end j o gs t l h m = by_row j (o ∷ gs) t l (subst (λ (ts : List (List Open)). Memᴰ t ts) (sym (ahead-ends j o gs (row_at rows j) (drop (suc j) rows) (omega (arith, depth_is rows j)))) m)

    finds_open : (j : ℕ) (gs t : List Open) → j < length rows → within gs ≤ depth_at rows j → Memᴰ t (at_row j gs (row_at rows j) (drop (suc j) rows)) → Finds j gs t
    finds_open j gs t l h m = by_row j gs t l (subst (λ (ts : List (List Open)). Memᴰ t ts) (sym (ahead_open j gs (row_at rows j) (drop (suc j) rows) (omega (arith, depth_is rows j)))) m)

    part_of : (j : ℕ) (gs : List Open) (rs : List Row) → depth_at rows j ≡ within gs → at_row j gs (row_at rows j) rs ≡ with_if (leb 1 (limit rows j)) (begun j (row_at rows j) ∷ gs) (cond (is_required (row_at rows j).need) [] (ahead (suc j) gs rs))
    unfolding at_row
    part_of j gs rs h = rw (le-ltb (within gs) (depth (row_at rows j)) (omega (arith, depth_is rows j)))

    skip_of : (j : ℕ) (gs : List Open) (rs : List Row) → within gs < depth_at rows j → at_row j gs (row_at rows j) rs ≡ ahead (suc j) gs rs
    unfolding at_row
    skip_of j gs rs h = rw (lt-ltb (within gs) (depth (row_at rows j)) (omega (arith, depth_is rows j)))

    pub finds : {j : ℕ} {gs t : List Open} → Ahead j gs t → Finds j gs t
    finds {j} (again {o = o} {gs = gs} l h k) = finds-end j o gs (repeated o ∷ gs) l h (with_if_head (may_repeat o) (repeated o ∷ gs) (ahead j gs (row_at rows j ∷ drop (suc j) rows)) (lt-ltb o.occurrence o.row.limit k))
    finds {j} (end {o = o} {gs = gs} {t = t} l h a) = finds-end j o gs t l h (with_if_tail (may_repeat o) (repeated o ∷ gs) (ahead j gs (row_at rows j ∷ drop (suc j) rows)) (from_row j gs t l (finds a)))
    finds {j} {gs} (first l h k) =
        finds_open j gs (begun j (row_at rows j) ∷ gs) l (omega arith) (subst (λ (ts : List (List Open)). Memᴰ (begun j (row_at rows j) ∷ gs) ts) (sym (part_of j gs (drop (suc j) rows) h)) (with_if_head (leb 1 (limit rows j)) (begun j (row_at rows j) ∷ gs) (cond (is_required (row_at rows j).need) [] (ahead (suc j) gs (drop (suc j) rows))) (le-leb 1 (limit rows j) k)))
    finds {j} {gs} {t} (pass l h o a) =
        let m : Memᴰ t (cond (is_required (row_at rows j).need) [] (ahead (suc j) gs (drop (suc j) rows))) = rw o (finds a) in
        finds_open j gs t l (omega arith) (subst (λ (ts : List (List Open)). Memᴰ t ts) (sym (part_of j gs (drop (suc j) rows) h)) (with_if_tail (leb 1 (limit rows j)) (begun j (row_at rows j) ∷ gs) (cond (is_required (row_at rows j).need) [] (ahead (suc j) gs (drop (suc j) rows))) m))
    finds {j} {gs} {t} (skip l h a) = finds_open j gs t l (omega arith) (subst (λ (ts : List (List Open)). Memᴰ t ts) (sym (skip_of j gs (drop (suc j) rows) h)) (finds a))

  -- what a step leads to

  abbrev pub seat_at : List Open → Seat
  seat_at [] = 0 # 0
  seat_at (o ∷ gs) = seat_of o

  pub ahead-nested : {j : ℕ} {gs t : List Open} → Ahead j gs t → Nested rows j gs → Nested rows (position t) t
  ahead-nested (again l h k) n = rw add-one (nested-repeated rows n k)
  ahead-nested (end l h a) n = ahead-nested a (nested-under rows n)
  ahead-nested (first l h k) n = rw add-one (nested-begun rows n h k)
  ahead-nested (pass l h o a) n = ahead-nested a (nested-on rows n (omega arith))
  ahead-nested (skip l h a) n = ahead-nested a (nested-on rows n (omega arith))

  -- what completes a message after the step completes it, behind the row that comes, before the step
  pub ahead-back : {w : List Seat} {j : ℕ} {gs t : List Open} → Ahead j gs t → Nested rows j gs → After rows (position t) t w → After rows j gs (seat_at t ∷ w)
  ahead-back (again l h k) n a = come_again_lem rows n h k (rw add-one at a)
  ahead-back (end l h s) n a = leave rows n h (ahead-back s (nested-under rows n) a)
  ahead-back (first l h k) n a = come_first rows n h k (rw add-one at a)
  ahead-back (pass l h o s) n a = pass-absent rows n h o (ahead-back s (nested-on rows n (omega arith)) a)
  ahead-back (skip l h s) n a = pass-inner rows n h (ahead-back s (nested-on rows n (omega arith)) a)

  -- where a row comes that the open rows gs lead to from row j on
  abbrev pub Comes : ℕ → List Open → Seat → List Seat → Type 0
  Comes j gs q w = (t : List Open) × Ahead j gs t × (seat_at t ≡ q) × After rows (position t) t w

  module _ (K : RowRules rows) {q : Seat} {w : List Seat} where
    comes-part : (j : ℕ) (gs : List Open) → j < length rows → Nested rows j gs → depth_at rows j ≡ within gs → (After rows (suc j) gs (q ∷ w) → Comes (suc j) gs q w) → After rows j gs (q ∷ w) → Comes j gs q w
    comes-part j gs l n h go a = at (begin_or_pass rows n h a)
      where
        at : Begins rows j gs (q ∷ w) ⊎ (Omissible rows j × After rows (suc j) gs (q ∷ w)) → Comes j gs q w
        at (inl (v, e, k, r)) =
            let eq : j # 1 ≡ q = cc in
            let ew : v ≡ w = cc in
            (begun j (row_at rows j) ∷ gs, first l h k, eq, rw (add-one, ← ew) r)
        at (inr (o, r)) = let (t, s, e, x) = go r in (t, pass l h o s, e, x)

    comes-on : (j : ℕ) → j < length rows → ((hs : List Open) → Nested rows (suc j) hs → After rows (suc j) hs (q ∷ w) → Comes (suc j) hs q w) → (gs : List Open) → Nested rows j gs → After rows j gs (q ∷ w) → Comes j gs q w
    comes-on j l go [] n a = at (dec_lt 1 (depth_at rows j))
      where
        at : Dec (1 < depth_at rows j) → Comes j [] q w
        at (yes h) = let (t, s, e, x) = go [] bare (skip-inner rows n h a) in (t, skip l h s, e, x)
        at (no h) = comes-part j [] l n (omega (arith, depth_in rows K j l)) (go [] bare) a
    comes-on j l go (o ∷ gs) n a = at (dec_le (depth_at rows j) (depth o.row)) (dec_lt (suc (depth o.row)) (depth_at rows j)) (comes-on j l go gs (nested-under rows n))
      where
        by_repeat : depth_at rows j ≤ depth o.row → Repeats rows o gs (q ∷ w) ⊎ After rows j gs (q ∷ w) → (After rows j gs (q ∷ w) → Comes j gs q w) → Comes j (o ∷ gs) q w
        by_repeat h (inl (v, e, k, r)) rec =
            let eq : o.number # (o.occurrence + 1) ≡ q = cc in
            let ew : v ≡ w = cc in
            (repeated o ∷ gs, again l h k, eq, rw (add-one, ← ew) r)
        by_repeat h (inr r) rec = let (t, s, e, x) = rec r in (t, end {o = o} l h s, e, x)

        at : Dec (depth_at rows j ≤ depth o.row) → Dec (suc (depth o.row) < depth_at rows j) → (After rows j gs (q ∷ w) → Comes j gs q w) → Comes j (o ∷ gs) q w
        at (yes h) x rec = by_repeat h (repeat_or_leave rows n h a) rec
        at (no h) (yes x) rec = let (t, s, e, y) = go (o ∷ gs) (nested-on rows n (omega arith)) (skip-inner rows n x a) in (t, skip l x s, e, y)
        at (no h) (no x) rec = comes-part j (o ∷ gs) l n (omega arith) (go (o ∷ gs) (nested-on rows n (omega arith))) a

    comes-by : (m j : ℕ) → length rows ≤ j + m → (gs : List Open) → Nested rows j gs → After rows j gs (q ∷ w) → Comes j gs q w
    comes-by zero j h gs n a = absurd (past_end rows K j gs n (omega arith) a)
    comes-by (suc m) j h gs n a = at (dec_lt j (length rows)) (comes-by m (suc j) (omega arith))
      where
        at : Dec (j < length rows) → ((hs : List Open) → Nested rows (suc j) hs → After rows (suc j) hs (q ∷ w) → Comes (suc j) hs q w) → Comes j gs q w
        at (yes l) go = comes-on j l go gs n a
        at (no l) go = absurd (past_end rows K j gs n (omega arith) a)

    -- what comes next is a step
    pub comes : (j : ℕ) (gs : List Open) → Nested rows j gs → After rows j gs (q ∷ w) → Comes j gs q w
    comes j gs n a = comes-by (length rows) j (omega arith) gs n a

  -- a row leads to one state

  pub position-behind : {j : ℕ} (gs : List Open) → Nested rows j gs → position gs ≤ j
  position-behind [] n = omega arith
  position-behind (o ∷ gs) n = omega (arith, (sound rows n).behind)

  pub ahead_bounds : {j : ℕ} {gs t : List Open} → Ahead j gs t → Nested rows j gs → (j ≤ row_of t) ⊎ (row_of t < position gs)
  ahead_bounds (again l h k) n = inr (omega arith)
  ahead_bounds {j} {t = t} (end {o = o} {gs = gs} l h a) n = ⊎_elim (λ x. inl x) (λ x. inr (omega (arith, position-behind gs (under rows n)))) (ahead_bounds a (nested-under rows n))
  ahead_bounds (first l h k) n = inl (omega arith)
  ahead_bounds (pass l h o a) n = ⊎_elim (λ x. inl (omega arith)) (λ x. inr x) (ahead_bounds a (nested-on rows n (omega arith)))
  ahead_bounds (skip l h a) n = ⊎_elim (λ x. inl (omega arith)) (λ x. inr x) (ahead_bounds a (nested-on rows n (omega arith)))

  again-apart : {j : ℕ} {o : Open} {gs t : List Open} → Nested rows j (o ∷ gs) → Ahead j gs t → o.number ≡ row_of t → ⊥
  again-apart {gs = gs} n a e = ⊎_elim (λ x. omega (arith, (sound rows n).behind)) (λ x. omega (arith, position-behind gs (under rows n))) (ahead_bounds a (nested-under rows n))

  first-apart : {j : ℕ} {gs t : List Open} → Nested rows j gs → depth_at rows j ≡ within gs → Ahead (suc j) gs t → j ≡ row_of t → ⊥
  first-apart {gs = gs} n h a e = ⊎_elim (λ x. omega arith) (λ x. omega (arith, position-behind gs n)) (ahead_bounds a (nested-on rows n (omega arith)))

  pub ahead-single : {j : ℕ} {gs t u : List Open} → Ahead j gs t → Ahead j gs u → row_of t ≡ row_of u → Nested rows j gs → t ≡ u
  ahead-single (again l h k) (again l' h' k') e n = refl
  ahead-single (again l h k) (end l' h' b) e n = absurd (again-apart n b e)
  ahead-single (again l h k) (first l' h' k') e n = absurd (omega arith)
  ahead-single (again l h k) (pass l' h' o' b) e n = absurd (omega arith)
  ahead-single (again l h k) (skip l' h' b) e n = absurd (omega arith)
  ahead-single (end l h a) (again l' h' k') e n = absurd (again-apart n a (sym e))
  ahead-single (end l h a) (end l' h' b) e n = ahead-single a b e (nested-under rows n)
  ahead-single (end l h a) (first l' h' k') e n = absurd (omega arith)
  ahead-single (end l h a) (pass l' h' o' b) e n = absurd (omega arith)
  ahead-single (end l h a) (skip l' h' b) e n = absurd (omega arith)
  ahead-single (first l h k) (again l' h' k') e n = absurd (omega arith)
  ahead-single (first l h k) (end l' h' b) e n = absurd (omega arith)
  ahead-single (first l h k) (first l' h' k') e n = refl
  ahead-single (first l h k) (pass l' h' o' b) e n = absurd (first-apart n h b e)
  ahead-single (first l h k) (skip l' h' b) e n = absurd (omega arith)
  ahead-single (pass l h o a) (again l' h' k') e n = absurd (omega arith)
  ahead-single (pass l h o a) (end l' h' b) e n = absurd (omega arith)
  ahead-single (pass l h o a) (first l' h' k') e n = absurd (first-apart n h a (sym e))
  ahead-single (pass l h o a) (pass l' h' o' b) e n = ahead-single a b e (nested-on rows n (omega arith))
  ahead-single (pass l h o a) (skip l' h' b) e n = absurd (omega arith)
  ahead-single (skip l h a) (again l' h' k') e n = absurd (omega arith)
  ahead-single (skip l h a) (end l' h' b) e n = absurd (omega arith)
  ahead-single (skip l h a) (first l' h' k') e n = absurd (omega arith)
  ahead-single (skip l h a) (pass l' h' o' b) e n = absurd (omega arith)
  ahead-single (skip l h a) (skip l' h' b) e n = ahead-single a b e (nested-on rows n (omega arith))
