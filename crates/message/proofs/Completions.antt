-- From open rows a message can be completed, at most one of each row that is left; with nothing only at the last row.
use Rattle.std.proofs.Common.{◌≡◌, ℕ, zero, suc, ◌+◌, ◌-◌, ◌<◌, ◌≤◌, ◌⊎◌, List, [], ◌∷◌, length, sym, refl, ap, ◌∙◌, inl, inr, ⊎_elim, arith}
use native.Mathlib.Decide.{dec_le, dec_lt}
use Rattle.message.specs.declared.row.Kind.{Kind}
use Rattle.message.specs.declared.row.Kind.TheVariants.{Trigger, Plain}
use Rattle.message.specs.declared.row.Need.{Need}
use Rattle.message.specs.declared.row.Need.TheVariants.{Optional, Required}
use Rattle.message.specs.declared.row.Row.{Row}
use Rattle.message.specs.declared.open.Open.{Open}
use Rattle.message.specs.Rows.{Seat, ◌#◌, row_at, RowRules}
use Rattle.message.specs.Walk.{depth, within, begun}
use Rattle.message.proofs.Levels.{kind, level, limit, Omissible, depth_at, Level, over, kind_cases, depth-plain, depth_trigger, depth-past, past}
use Rattle.message.proofs.Afters.{Tails, whole, After, after, Sound, Nested, bare, sound, depth_of_lem, nested-on, nested-under, nested-begun, pass-inner, pass-absent, come_first, leave, skip-inner, Begins, begin_or_pass, Repeats, repeat_or_leave}

module _ (rows : List Row) (K : RowRules rows) where
  pub depth_in : (j : ℕ) → j < length rows → 1 ≤ depth_at rows j
  depth_in j h = ⊎_elim (λ k. omega (arith, depth-plain rows j k)) (λ k. at k (dec_le 1 (level rows j))) (kind_cases (kind rows j))
    where
      at : kind rows j ≡ Trigger → Dec (1 ≤ level rows j) → 1 ≤ depth_at rows j
      at k (yes p) = omega (arith, depth_trigger rows j k)
      at k (no p) = let z : ◌≡◌ {A = Kind} Plain Trigger = sym ((K.each j h).flat (omega arith)) ∙ k in cc

  pub depth-last : depth_at rows (length rows - 1) ≡ 1
  depth-last = depth-plain rows (length rows - 1) K.trailer.plain ∙ ap suc K.trailer.flat

  -- a row that can occur is one of the diagram's
  pub limit_in : (j : ℕ) → 1 ≤ limit rows j → j < length rows
  limit_in j h = at (dec_lt j (length rows))
    where
      at : Dec (j < length rows) → j < length rows
      at (yes p) = p
      at (no p) = let z : limit rows j ≡ 0 = ap (λ (r : Row). r.limit) (past rows j (omega arith)) in absurd (omega arith)

  pub number_in : {j : ℕ} {o : Open} {gs : List Open} → Sound rows j o gs → o.number < length rows
  number_in {o = o} s = limit_in o.number (omega (arith, s.some, s.most, ap (λ (r : Row). r.limit) s.row))

  pub within_positive : (gs : List Open) → 1 ≤ within gs
  within_positive [] = omega arith
  within_positive (o ∷ gs) = omega arith

  -- a required row can occur
  required-some : (j : ℕ) → j < length rows → (row_at rows j).need ≡ Required → 1 ≤ limit rows j
  required-some j h e = at (dec_le 1 (limit rows j))
    where
      at : Dec (1 ≤ limit rows j) → 1 ≤ limit rows j
      at (yes p) = p
      at (no p) = let o = (K.each j h).never (omega arith) in cc

  depth-inside : (j : ℕ) → 1 ≤ depth_at rows j → j < length rows
  depth-inside j h = at (dec_lt j (length rows))
    where
      at : Dec (j < length rows) → j < length rows
      at (yes p) = p
      at (no p) = absurd (omega (arith, depth-past rows j (omega arith)))

  -- w completes a message from row j on, with n rows at most
  Completion : ℕ → ℕ → List Open → Type 0
  Completion n j gs = (w : List Seat) × After rows j gs w × (length w ≤ n)

  at-end : (n j : ℕ) → length rows ≤ j → (gs : List Open) → Nested rows j gs → Completion n j gs
  unfolding Completion
  at-end n j h [] k = ([], after (over (omega (arith, depth-past rows j h))) whole, omega arith)
  at-end n j h (o ∷ gs) k = let r = at-end n j h gs (nested-under rows k) in (r.0, leave rows k (omega (arith, depth-past rows j h)) r.1, r.2)

  -- past row j, or with it once, where it is a part of the innermost open row
  complete-part : (n j : ℕ) (gs : List Open) → Nested rows j gs → depth_at rows j ≡ within gs → ((hs : List Open) → Nested rows (suc j) hs → Completion n (suc j) hs) → Completion (suc n) j gs
  unfolding Completion
  complete-part n j gs k e go = at (row_at rows j).need refl
    where
      in_rows : j < length rows
      in_rows = depth-inside j (omega (arith, within_positive gs))

      at : (x : Need) → (row_at rows j).need ≡ x → Completion (suc n) j gs
      at Optional x = let r = go gs (nested-on rows k (omega arith)) in (r.0, pass-absent rows k e x r.1, omega (arith, r.2))
      at Required x =
          let some = required-some j in_rows x in
          let r = go (begun j (row_at rows j) ∷ gs) (nested-begun rows k e some) in
          (j # 1 ∷ r.0, come_first rows k e some r.1, omega (arith, r.2))

  complete-on : (n j : ℕ) → ((hs : List Open) → Nested rows (suc j) hs → Completion n (suc j) hs) → (gs : List Open) → Nested rows j gs → (1 ≤ depth_at rows j) → Completion (suc n) j gs
  unfolding Completion
  complete-on n j go [] k p = at (dec_lt 1 (depth_at rows j))
    where
      at : Dec (1 < depth_at rows j) → Completion (suc n) j []
      at (yes h) = let r = go [] bare in (r.0, pass-inner rows k h r.1, omega (arith, r.2))
      at (no h) = complete-part n j [] k (omega arith) go
  complete-on n j go (o ∷ gs) k p = at (dec_le (depth_at rows j) (depth o.row)) (dec_lt (suc (depth o.row)) (depth_at rows j)) (complete-on n j go gs (nested-under rows k) p)
    where
      at : Dec (depth_at rows j ≤ depth o.row) → Dec (suc (depth o.row) < depth_at rows j) → Completion (suc n) j gs → Completion (suc n) j (o ∷ gs)
      at (yes h) x r = (r.0, leave rows k h r.1, r.2)
      at (no h) (yes x) r = let q = go (o ∷ gs) (nested-on rows k (omega arith)) in (q.0, pass-inner rows k x q.1, omega (arith, q.2))
      at (no h) (no x) r = complete-part n j (o ∷ gs) k (omega arith) go

  complete : (n j : ℕ) → length rows ≤ j + n → (gs : List Open) → Nested rows j gs → Completion n j gs
  complete zero j h gs k = at-end 0 j (omega arith) gs k
  complete (suc n) j h gs k = at (dec_lt j (length rows)) (complete n (suc j) (omega arith))
    where
      at : Dec (j < length rows) → ((hs : List Open) → Nested rows (suc j) hs → Completion n (suc j) hs) → Completion (suc n) j gs
      at (yes p) go = complete-on n j go gs k (depth_in j p)
      at (no p) go = at-end (suc n) j (omega arith) gs k

  pub completed : (j : ℕ) (gs : List Open) → Nested rows j gs → (w : List Seat) × After rows j gs w × (length w ≤ length rows)
  unfolding Completion
  completed j gs k = complete (length rows) j (omega arith) gs k

  -- at the end nothing need come
  pub ended : (j : ℕ) (gs : List Open) → Nested rows j gs → length rows ≤ j → After rows j gs []
  unfolding Completion
  ended j gs k h = at (complete zero j (omega arith) gs k)
    where
      none_left : (w : List Seat) → length w ≤ 0 → w ≡ []
      none_left [] l = refl
      none_left (x ∷ w) l = absurd (omega arith)

      at : Completion 0 j gs → After rows j gs []
      at (w, a, l) = rw (none_left w l) at a

  not_optional : (j : ℕ) → j ≡ length rows - 1 → Omissible rows j → ⊥
  not_optional j e o = let z : (row_at rows (length rows - 1)).need ≡ Required = K.trailer.required in cc

  seat_nil : {x : Seat} {w : List Seat} → [] ≡ x ∷ w → ⊥
  seat_nil e = cc

  -- before the end something must come
  empty-part : (n j : ℕ) (gs : List Open) → length rows ≡ j + suc n → Nested rows j gs → depth_at rows j ≡ within gs → (After rows (suc j) gs [] → ⊥) ⊎ (n ≡ 0) → After rows j gs [] → ⊥
  empty-part n j gs h k e go a = at (begin_or_pass rows k e a) go
    where
      at : Begins rows j gs [] ⊎ (Omissible rows j × After rows (suc j) gs []) → (After rows (suc j) gs [] → ⊥) ⊎ (n ≡ 0) → ⊥
      at (inl (w, x, l, r)) g = seat_nil x
      at (inr (o, r)) (inl g) = g r
      at (inr (o, r)) (inr z) = not_optional j (omega arith) o

  empty-on : (n j : ℕ) → length rows ≡ j + suc n → ((hs : List Open) → Nested rows (suc j) hs → After rows (suc j) hs [] → ⊥) ⊎ (n ≡ 0) → (gs : List Open) → Nested rows j gs → After rows j gs [] → ⊥
  empty-on n j h go [] k a = at (dec_lt 1 (depth_at rows j)) go
    where
      at : Dec (1 < depth_at rows j) → ((hs : List Open) → Nested rows (suc j) hs → After rows (suc j) hs [] → ⊥) ⊎ (n ≡ 0) → ⊥
      at (yes p) (inl g) = g [] bare (skip-inner rows k p a)
      at (yes p) (inr z) = let e : j ≡ length rows - 1 = omega arith in omega (arith, ap (depth_at rows) e, depth-last)
      at (no p) (inl g) = empty-part n j [] h k (omega (arith, depth_in j (omega arith))) (inl (g [] bare)) a
      at (no p) (inr z) = empty-part n j [] h k (omega (arith, depth_in j (omega arith))) (inr z) a
  empty-on n j h go (o ∷ gs) k a = at (dec_le (depth_at rows j) (depth o.row)) (dec_lt (suc (depth o.row)) (depth_at rows j)) go (empty-on n j h go gs (nested-under rows k))
    where
      left_open : Repeats rows o gs [] ⊎ After rows j gs [] → (After rows j gs [] → ⊥) → ⊥
      left_open (inl (w, x, l, r)) no_way = seat_nil x
      left_open (inr r) no_way = no_way r

      at : Dec (depth_at rows j ≤ depth o.row) → Dec (suc (depth o.row) < depth_at rows j) → ((hs : List Open) → Nested rows (suc j) hs → After rows (suc j) hs [] → ⊥) ⊎ (n ≡ 0) → (After rows j gs [] → ⊥) → ⊥
      at (yes p) x g no_way = left_open (repeat_or_leave rows k p a) no_way
      at (no p) (yes x) (inl g) no_way = g (o ∷ gs) (nested-on rows k (omega arith)) (skip-inner rows k x a)
      at (no p) (yes x) (inr z) no_way = let e : j ≡ length rows - 1 = omega arith in omega (arith, ap (depth_at rows) e, depth-last)
      at (no p) (no x) (inl g) no_way = empty-part n j (o ∷ gs) h k (omega arith) (inl (g (o ∷ gs) (nested-on rows k (omega arith)))) a
      at (no p) (no x) (inr z) no_way = empty-part n j (o ∷ gs) h k (omega arith) (inr z) a

  empty-not : (n j : ℕ) → length rows ≡ j + suc n → (gs : List Open) → Nested rows j gs → After rows j gs [] → ⊥
  empty-not zero j h gs k a = empty-on 0 j h (inr refl) gs k a
  empty-not (suc n) j h gs k a = empty-on (suc n) j h (inl (empty-not n (suc j) (omega arith))) gs k a

  pub only-ended : (j : ℕ) (gs : List Open) → Nested rows j gs → After rows j gs [] → length rows ≤ j
  only-ended j gs k a = at (dec_le (length rows) j)
    where
      at : Dec (length rows ≤ j) → length rows ≤ j
      at (yes p) = p
      at (no p) = absurd (empty-not (length rows - suc j) j (omega arith) gs k a)

  -- past the last row nothing can come
  pub past_end : (j : ℕ) (gs : List Open) → Nested rows j gs → length rows ≤ j → {q : Seat} {w : List Seat} → After rows j gs (q ∷ w) → ⊥
  past_end j [] k h (after (Level.over x) t) = at t refl
    where
      at : {v u : List Seat} {p : Seat} → Tails rows j [] v → v ≡ p ∷ u → ⊥
      at whole e = cc
  past_end j [] k h (after (Level.inner x l) t) = absurd (omega (arith, depth-past rows j h))
  past_end j [] k h (after (Level.absent x o l) t) = absurd (omega (arith, depth-past rows j h))
  past_end j [] k h (after (Level.present x m a b c) t) = absurd (omega (arith, depth-past rows j h))
  past_end j (o ∷ gs) k h {q} {w} a = at (repeat_or_leave rows k (omega (arith, depth-past rows j h)) a) (λ r. past_end j gs (nested-under rows k) h r)
    where
      s : Sound rows j o gs
      s = sound rows k

      number : o.number < length rows
      number = number_in s

      -- no row behind an open one is less deep, so that the last row is open
      last : o.number ≡ length rows - 1
      last = here (dec_lt o.number (length rows - 1))
        where
          here : Dec (o.number < length rows - 1) → o.number ≡ length rows - 1
          here (yes p) = absurd (omega (arith, s.inside (length rows - 1) p (omega arith), depth-last, depth_of_lem rows o.row o.number s.row, depth_in o.number number))
          here (no p) = omega (arith, number)

      at : Repeats rows o gs (q ∷ w) ⊎ After rows j gs (q ∷ w) → (After rows j gs (q ∷ w) → ⊥) → ⊥
      at (inl (v, e, lim, r)) go = omega (arith, s.some, ap (λ (r : Row). r.limit) s.row, ap (limit rows) last, K.trailer.once)
      at (inr r) go = go r
