-- Runs by level and kind, and by depth alone, are one. A row of depth d is a part of its surroundings; a deeper one stands inside a part that is passed, a shallower one ends the surroundings.
use Rattle.std.proofs.Common.{◌≡◌, ℕ, zero, suc, ◌+◌, ◌-◌, ◌<◌, ◌≤◌, ◌⊎◌, List, [], ◌∷◌, length, refl, ap, ◌∙◌, inl, inr, ⊎_elim, arith}
use native.Mathlib.Decide.{dec_le, dec_lt}
use lib.ListN.{get_or-eq_default}
use Rattle.message.specs.declared.row.Kind.{Kind}
use Rattle.message.specs.declared.row.Kind.TheVariants.{Trigger, Plain}
use Rattle.message.specs.declared.row.Need.{Need}
use Rattle.message.specs.declared.row.Need.TheVariants.{Optional, Required}
use Rattle.message.specs.declared.row.Row.{Row}
use Rattle.message.specs.Rows.{Seat, ◌#◌, row_at, past_last, Times, Outside, GroupEnd, PlainRun, Runs, GroupRun, none, one, end, plain, group, RowMessage, RowRules}
use Rattle.message.specs.Walk.{depth}

abbrev pub kind : List Row → ℕ → Kind
kind rows j = (row_at rows j).kind

abbrev pub level : List Row → ℕ → ℕ
level rows j = (row_at rows j).level

abbrev pub limit : List Row → ℕ → ℕ
limit rows j = (row_at rows j).limit

abbrev pub Omissible : List Row → ℕ → Type 0
Omissible rows j = (row_at rows j).need ≡ Optional

unfoldable pub depth_at : List Row → ℕ → ℕ
depth_at rows j = depth (row_at rows j)

module _ (rows : List Row) where
  mutual
    -- Level d j w v: w is the runs of the rows of depth d, from row j to the first row that is less deep, and then v
    pub data Level : (d j : ℕ) → List Seat → List Seat → Type 0 where
      over : {d j : ℕ} {w : List Seat} → depth_at rows j < d → Level d j w w
      inner : {d j : ℕ} {w v : List Seat} → d < depth_at rows j → Level d (suc j) w v → Level d j w v
      absent : {d j : ℕ} {w v : List Seat} → depth_at rows j ≡ d → Omissible rows j → Level d (suc j) w v → Level d j w v
      present : {d j : ℕ} {w t u v : List Seat} → depth_at rows j ≡ d → 1 ≤ limit rows j → Level (suc d) (suc j) w t → Further j 1 t u → Level d (suc j) u v → Level d j (j # 1 ∷ w) v

    -- Further j n w v: w is occurrences of row j behind the n-th, each with what stands inside, and then v
    pub data Further : (j n : ℕ) → List Seat → List Seat → Type 0 where
      stop : {j n : ℕ} {w : List Seat} → Further j n w w
      again : {j n : ℕ} {w u v : List Seat} → n < limit rows j → Level (suc (depth_at rows j)) (suc j) w u → Further j (suc n) u v → Further j n (j # suc n ∷ w) v

pub kind_cases : (k : Kind) → (k ≡ Plain) ⊎ (k ≡ Trigger)
kind_cases Plain = inl refl
kind_cases Trigger = inr refl

module _ (rows : List Row) where
  pub depth-plain : (j : ℕ) → kind rows j ≡ Plain → depth_at rows j ≡ suc (level rows j)
  unfolding depth_at
  depth-plain j e = rw e

  pub depth_trigger : (j : ℕ) → kind rows j ≡ Trigger → depth_at rows j ≡ level rows j
  unfolding depth_at
  depth_trigger j e = rw e

  pub past : (j : ℕ) → length rows ≤ j → row_at rows j ≡ past_last
  past j h = get_or-eq_default rows past_last h

  pub depth-past : (j : ℕ) → length rows ≤ j → depth_at rows j ≡ 0
  unfolding depth_at
  depth-past j h = rw (past j h)

  outside-depth : (l i : ℕ) → Outside rows l i → depth_at rows i < suc l
  outside-depth l i (inl h) = omega (arith, depth-past i h)
  outside-depth l i (inr (inl h)) = ⊎_elim (λ e. omega (arith, depth-plain i e)) (λ e. omega (arith, depth_trigger i e)) (kind_cases (kind rows i))
  outside-depth l i (inr (inr (h, e))) = omega (arith, depth_trigger i e)

  depth-outside : (l i : ℕ) → depth_at rows i < suc l → Outside rows l i
  depth-outside l i h = ⊎_elim (λ e. inr (inl (omega (arith, depth-plain i e)))) (λ e. by_trigger e (dec_lt (level rows i) l)) (kind_cases (kind rows i))
    where
      by_trigger : kind rows i ≡ Trigger → Dec (level rows i < l) → Outside rows l i
      by_trigger e (yes p) = inr (inl p)
      by_trigger e (no p) = inr (inr (omega (arith, depth_trigger i e), e))

  -- past what stands deeper
  skip-back : {w v : List Seat} (d j e n : ℕ) → e ≡ j + n → ((i : ℕ) → j ≤ i → i < e → d < depth_at rows i) → Level rows d e w v → Level rows d j w v
  skip-back d j e zero at deep r = let same : e ≡ j = omega arith in rw same at r
  skip-back d j e (suc n) at deep r = inner (deep j (omega arith) (omega arith)) (skip-back d (suc j) e n (omega arith) (λ i a b. deep i (omega arith) b) r)

  beyond : {w v : List Seat} (l j e : ℕ) → GroupEnd rows l j e → Level rows l e w v → Level rows l j w v
  beyond l j e u r = skip-back l j e (e - j) (omega (arith, u.behind)) (λ i a b. deep i (u.first i a b) (dec_lt l (depth_at rows i))) r
    where
      deep : (i : ℕ) → (Outside rows l i → ⊥) → Dec (l < depth_at rows i) → l < depth_at rows i
      deep i h (yes p) = p
      deep i h (no p) = absurd (h (depth-outside l i (omega arith)))

  -- the first row from j on that is no more in a group of level l
  end-at : (l j n : ℕ) → length rows ≤ j + suc n → Dec (depth_at rows j < suc l) → (e : ℕ) × GroupEnd rows l (suc j) e → (e : ℕ) × GroupEnd rows l j e
  end-at l j n h (yes p) r = (j, record { behind = omega arith; outside = depth-outside l j p; first = λ i a b _. omega arith })
  end-at l j n h (no p) (e, u) = (e, record { behind = omega (arith, u.behind); outside = u.outside; first = λ i a b o. at_i i a b o (dec_le (suc j) i) })
    where
      at_i : (i : ℕ) → j ≤ i → i < e → Outside rows l i → Dec (suc j ≤ i) → ⊥
      at_i i a b o (yes c) = u.first i c b o
      at_i i a b o (no c) = let same : i ≡ j = omega arith in omega (arith, outside-depth l j (rw same at o))

  end_of : (l j n : ℕ) → length rows ≤ j + n → (e : ℕ) × GroupEnd rows l j e
  end_of l j zero h = (j, record { behind = omega arith; outside = inl (omega arith); first = λ i a b _. omega arith })
  end_of l j (suc n) h = end-at l j n h (dec_lt (depth_at rows j) (suc l)) (end_of l (suc j) n (omega arith))

  -- the depth rises by one at most, and not at all after a Plain row
  module _ (K : RowRules rows) where
    level_cases : (j : ℕ) → (level rows (suc j) ≤ level rows j) ⊎ ((level rows (suc j) ≡ suc (level rows j)) × (kind rows (suc j) ≡ Trigger))
    level_cases j = at (dec_lt (suc j) (length rows))
      where
        at : Dec (suc j < length rows) → (level rows (suc j) ≤ level rows j) ⊎ ((level rows (suc j) ≡ suc (level rows j)) × (kind rows (suc j) ≡ Trigger))
        at (yes p) = (K.each j (omega arith)).rises p
        at (no p) = inl (omega (arith, ap (λ (r : Row). r.level) (past (suc j) (omega arith))))

    pub depth-after-plain : (j : ℕ) → kind rows j ≡ Plain → depth_at rows (suc j) ≤ depth_at rows j
    depth-after-plain j e = at (level_cases j) (kind_cases (kind rows (suc j)))
      where
        at : (level rows (suc j) ≤ level rows j) ⊎ ((level rows (suc j) ≡ suc (level rows j)) × (kind rows (suc j) ≡ Trigger)) → (kind rows (suc j) ≡ Plain) ⊎ (kind rows (suc j) ≡ Trigger) → depth_at rows (suc j) ≤ depth_at rows j
        at (inl h) (inl p) = omega (arith, depth-plain j e, depth-plain (suc j) p)
        at (inl h) (inr p) = omega (arith, depth-plain j e, depth_trigger (suc j) p)
        at (inr (h, t)) _ = omega (arith, depth-plain j e, depth_trigger (suc j) t)

    pub depth-after : (j : ℕ) → depth_at rows (suc j) ≤ suc (depth_at rows j)
    depth-after j = by_kind (kind_cases (kind rows j))
      where
        at : kind rows j ≡ Trigger → (level rows (suc j) ≤ level rows j) ⊎ ((level rows (suc j) ≡ suc (level rows j)) × (kind rows (suc j) ≡ Trigger)) → (kind rows (suc j) ≡ Plain) ⊎ (kind rows (suc j) ≡ Trigger) → depth_at rows (suc j) ≤ suc (depth_at rows j)
        at e (inl h) (inl p) = omega (arith, depth_trigger j e, depth-plain (suc j) p)
        at e (inl h) (inr p) = omega (arith, depth_trigger j e, depth_trigger (suc j) p)
        at e (inr (h, t)) _ = omega (arith, depth_trigger j e, depth_trigger (suc j) t)

        by_kind : (kind rows j ≡ Plain) ⊎ (kind rows j ≡ Trigger) → depth_at rows (suc j) ≤ suc (depth_at rows j)
        by_kind (inl e) = omega (arith, depth-after-plain j e)
        by_kind (inr e) = at e (level_cases j) (kind_cases (kind rows (suc j)))

    -- a run of a Plain row, nothing inside
    run_le : {j n m : ℕ} {w v : List Seat} → PlainRun rows j n m w v → n ≤ m
    run_le none = omega arith
    run_le (one r) = omega (arith, run_le r)

    group_le : {j n m : ℕ} {w v : List Seat} → GroupRun rows j n m w v → n ≤ m
    group_le none = omega arith
    group_le (one f r) = omega (arith, group_le r)

    empty-inside : {w : List Seat} (j : ℕ) → kind rows j ≡ Plain → Level rows (suc (depth_at rows j)) (suc j) w w
    empty-inside j e = over (omega (arith, depth-after-plain j e))

    run-further : {j n m : ℕ} {w v : List Seat} → kind rows j ≡ Plain → m ≤ limit rows j → PlainRun rows j n m w v → Further rows j n w v
    run-further e h none = stop
    run-further {j} e h (one r) = again (omega (arith, run_le r)) (empty-inside j e) (run-further e h r)

    pub need_cases : (j : ℕ) → ((row_at rows j).need ≡ Required → ⊥) → Omissible rows j
    need_cases j h = at (row_at rows j).need h
      where
        at : (n : Need) → (n ≡ Required → ⊥) → n ≡ Optional
        at Required h = absurd (h refl)
        at Optional h = refl

    plain-level : {l j n m : ℕ} {w u v : List Seat} → PlainRun rows j n m w u → n ≡ 0 → depth_at rows j ≡ suc l → kind rows j ≡ Plain → Times rows j m → Level rows (suc l) (suc j) u v → Level rows (suc l) j w v
    plain-level {j = j} none z d k t f = absent d (need_cases j (λ e. omega (arith, t.least e))) f
    plain-level {j = j} {n = n} (one {w = x} {v = y} r) z d k t f =
        let long : 1 ≤ limit rows j = omega (arith, run_le r, t.most) in
        let first : suc n ≡ 1 = omega arith in
        rw z (present d long (rw d at (empty-inside {w = x} j k)) (rw first at (run-further k t.most r)) f)

    mutual
      runs_level : {l j : ℕ} {w v : List Seat} → Runs rows l j w v → Level rows (suc l) j w v
      runs_level {l} {j} (end o) = over (outside-depth l j o)
      runs_level {l} {j} (plain k e t r f) = plain-level r refl (depth-plain j k ∙ ap suc e) k t (runs_level f)
      runs_level {l} {j} (group {e = e} k h t o u f) = group-level o refl (depth_trigger j k ∙ h) k h t (beyond (suc l) (suc j) e u (runs_level f))

      group-further : {j n m : ℕ} {w v : List Seat} → GroupRun rows j n m w v → kind rows j ≡ Trigger → m ≤ limit rows j → Further rows j n w v
      group-further none k h = stop
      group-further {j} (one f r) k h = again (omega (arith, group_le r)) (rw (depth_trigger j k) (runs_level f)) (group-further r k h)

      group-level : {j n m l : ℕ} {w u v : List Seat} → GroupRun rows j n m w u → n ≡ 0 → depth_at rows j ≡ suc l → kind rows j ≡ Trigger → level rows j ≡ suc l → Times rows j m → Level rows (suc l) (suc j) u v → Level rows (suc l) j w v
      group-level {j} none z d k h t f = absent d (need_cases j (λ e. omega (arith, t.least e))) f
      group-level {j} {n} (one a r) z d k h t f =
          let long : 1 ≤ limit rows j = omega (arith, group_le r, t.most) in
          let first : suc n ≡ 1 = omega arith in
          rw z (present d long (rw h at (runs_level a)) (rw first at (group-further r k t.most)) f)

    same : {d j : ℕ} {w v : List Seat} → Level rows d j w v → depth_at rows j < d → w ≡ v
    same (over h) l = refl
    same (inner h r) l = absurd (omega arith)
    same (absent h o r) l = absurd (omega arith)
    same (present h k a b c) l = absurd (omega arith)

    -- where the rows from j to e stand deeper than d, and e does not
    abbrev Resumes : ℕ → ℕ → ℕ → Type 0
    Resumes d j e = (j ≤ e) × ((i : ℕ) → j ≤ i → i < e → d < depth_at rows i) × (depth_at rows e ≤ d)

    at_once : (d j : ℕ) → depth_at rows j ≤ d → Resumes d j j
    at_once d j h = (omega arith, (λ i p q. absurd (omega arith)), h)

    settled : (d j e : ℕ) → Resumes d j e → depth_at rows j ≤ d → e ≡ j
    settled d j e (b, deep, f) h = at (dec_lt j e)
      where
        at : Dec (j < e) → e ≡ j
        at (yes p) = absurd (omega (arith, deep j (omega arith) p))
        at (no p) = omega arith

    further : (d j e : ℕ) → Resumes d j e → d < depth_at rows j → Resumes d (suc j) e
    further d j e (b, deep, f) h = (at (dec_lt j e), (λ i p q. deep i (omega arith) q), f)
      where
        at : Dec (j < e) → suc j ≤ e
        at (yes p) = p
        at (no p) = let q : e ≡ j = omega arith in absurd (omega (arith, ap (depth_at rows) q))

    end_resumes : (l j e : ℕ) → GroupEnd rows l j e → Resumes l j e
    end_resumes l j e u = (u.behind, (λ i p q. deep i (u.first i p q) (dec_lt l (depth_at rows i))), omega (arith, outside-depth l e u.outside))
      where
        deep : (i : ℕ) → (Outside rows l i → ⊥) → Dec (l < depth_at rows i) → l < depth_at rows i
        deep i h (yes p) = p
        deep i h (no p) = absurd (h (depth-outside l i (omega arith)))

    run-one : {j n : ℕ} {w u v : List Seat} → w ≡ u → (m : ℕ) × (suc n ≤ m) × (m ≤ limit rows j) × PlainRun rows j (suc n) m u v → (m : ℕ) × (suc n ≤ m) × (m ≤ limit rows j) × PlainRun rows j n m (j # suc n ∷ w) v
    run-one e (m, x, y, z) = (m, x, y, one (rw (← e) at z))

    run_weaker : {j n : ℕ} {w v : List Seat} → (m : ℕ) × (suc n ≤ m) × (m ≤ limit rows j) × PlainRun rows j n m w v → (m : ℕ) × (n ≤ m) × (m ≤ limit rows j) × PlainRun rows j n m w v
    run_weaker (m, x, y, z) = (m, omega arith, y, z)

    further-run : {j n : ℕ} {w v : List Seat} → Further rows j n w v → kind rows j ≡ Plain → n ≤ limit rows j → (m : ℕ) × (n ≤ m) × (m ≤ limit rows j) × PlainRun rows j n m w v
    further-run {j} {n} stop k h = (n, omega arith, h, none)
    further-run {j} {n} (again h a r) k l = run_weaker (run-one (same a (omega (arith, depth-after-plain j k))) (further-run r k (omega arith)))

    not-required : (j : ℕ) → Omissible rows j → (row_at rows j).need ≡ Required → 1 ≤ 0
    not-required j o e = cc

    -- what is left of the level, from where it resumes
    abbrev Rest : ℕ → ℕ → List Seat → List Seat → Type 0
    Rest l j w v = (e : ℕ) → Resumes (suc l) j e → Runs rows l e w v

    after-plain : {w v : List Seat} (l j : ℕ) → depth_at rows j ≡ suc l → kind rows j ≡ Plain → Rest l (suc j) w v → Runs rows l (suc j) w v
    after-plain l j h k r = r (suc j) (at_once (suc l) (suc j) (omega (arith, depth-after-plain j k)))

    part-absent : {w v : List Seat} (l j : ℕ) → depth_at rows j ≡ suc l → Omissible rows j → Rest l (suc j) w v → Runs rows l j w v
    part-absent {w} {v} l j h o r = ⊎_elim
        (λ k. plain k (omega (arith, depth-plain j k)) (record { most = omega arith; least = not-required j o }) none (after-plain l j h k r))
        (λ k. by-group k (end_of (suc l) (suc j) (length rows) (omega arith)))
        (kind_cases (kind rows j))
      where
        by-group : kind rows j ≡ Trigger → (e : ℕ) × GroupEnd rows (suc l) (suc j) e → Runs rows l j w v
        by-group k (e, u) = group k (omega (arith, depth_trigger j k)) (record { most = omega arith; least = not-required j o }) none u (r e (end_resumes (suc l) (suc j) e u))

    part-present : {w t u v : List Seat} (l j : ℕ) → depth_at rows j ≡ suc l → 1 ≤ limit rows j → Level rows (suc (suc l)) (suc j) w t → Further rows j 1 t u → Runs rows (suc l) (suc j) w t → (kind rows j ≡ Trigger → (m : ℕ) × (1 ≤ m) × (m ≤ limit rows j) × GroupRun rows j 1 m t u) → Rest l (suc j) u v → Runs rows l j (j # 1 ∷ w) v
    part-present {w} {t} {u} {v} l j h lim a b f occ r = ⊎_elim
        (λ k. by-run k (run-one (same a (omega (arith, depth-after-plain j k))) (further-run b k lim)))
        (λ k. by-group k (end_of (suc l) (suc j) (length rows) (omega arith)) (occ k))
        (kind_cases (kind rows j))
      where
        by-run : kind rows j ≡ Plain → (m : ℕ) × (1 ≤ m) × (m ≤ limit rows j) × PlainRun rows j 0 m (j # 1 ∷ w) u → Runs rows l j (j # 1 ∷ w) v
        by-run k (m, x, y, z) = plain k (omega (arith, depth-plain j k)) (record { most = y; least = λ _. x }) z (after-plain l j h k r)

        by-group : kind rows j ≡ Trigger → (e : ℕ) × GroupEnd rows (suc l) (suc j) e → (m : ℕ) × (1 ≤ m) × (m ≤ limit rows j) × GroupRun rows j 1 m t u → Runs rows l j (j # 1 ∷ w) v
        by-group k (e, q) (m, x, y, z) = let lev : level rows j ≡ suc l = omega (arith, depth_trigger j k) in group k lev (record { most = y; least = λ _. x }) (one (rw lev f) z) q (r e (end_resumes (suc l) (suc j) e q))

    group-one : {j n : ℕ} {w u v : List Seat} → Runs rows (level rows j) (suc j) w u → (m : ℕ) × (suc n ≤ m) × (m ≤ limit rows j) × GroupRun rows j (suc n) m u v → (m : ℕ) × (n ≤ m) × (m ≤ limit rows j) × GroupRun rows j n m (j # suc n ∷ w) v
    group-one f (m, x, y, z) = (m, omega arith, y, one f z)

    mutual
      level_runs : {d j : ℕ} {w v : List Seat} → Level rows d j w v → (l e : ℕ) → d ≡ suc l → Resumes d j e → Runs rows l e w v
      level_runs {d} {j} (over h) l e s b = rw (settled d j e b (omega arith)) (end (depth-outside l j (omega arith)))
      level_runs {d} {j} (inner h r) l e s b = level_runs r l e s (further d j e b h)
      level_runs {d} {j} (absent h o r) l e s b = rw (settled d j e b (omega arith)) (part-absent l j (h ∙ s) o (λ e' b'. level_runs r l e' s (rw s b')))
      level_runs {d} {j} (present h k a b c) l e s g = rw (settled d j e g (omega arith)) (part-present l j (h ∙ s) k (rw s at a) b (level_runs a (suc l) (suc j) (ap suc s) (at_once (suc d) (suc j) (omega (arith, depth-after j)))) (λ t. further-group b t k) (λ e' b'. level_runs c l e' s (rw s b')))

      further-group : {j n : ℕ} {w v : List Seat} → Further rows j n w v → kind rows j ≡ Trigger → n ≤ limit rows j → (m : ℕ) × (n ≤ m) × (m ≤ limit rows j) × GroupRun rows j n m w v
      further-group {j} {n} stop k h = (n, omega arith, h, none)
      further-group {j} {n} (again h a r) k l = group-one (level_runs a (level rows j) (suc j) (ap suc (depth_trigger j k)) (at_once (suc (depth_at rows j)) (suc j) (depth-after j))) (further-group r k (omega arith))

    pub message_level : {w : List Seat} → RowMessage rows w → Level rows 1 0 w []
    message_level f = runs_level f

    pub level_message : {w : List Seat} → Level rows 1 0 w [] → RowMessage rows w
    level_message r = level_runs r 0 0 refl (at_once 1 0 (omega (arith, depth-plain 0 K.header.plain, K.header.flat)))
