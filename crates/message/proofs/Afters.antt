-- What completes a message from within: open rows before row j, and what is still to come of each.
use Rattle.std.proofs.Common.{◌≡◌, ℕ, zero, suc, ◌+◌, ◌-◌, ◌<◌, ◌≤◌, ◌⊎◌, List, [], ◌∷◌, sym, refl, ap, ◌∙◌, inl, inr, add-one, arith}
use native.Mathlib.Decide.{dec_lt}
use Rattle.message.specs.declared.row.Row.{Row}
use Rattle.message.specs.declared.open.Open.{Open}
use Rattle.message.specs.Rows.{Seat, ◌#◌, row_at}
use Rattle.message.specs.Walk.{depth, within, begun, repeated}
use Rattle.message.proofs.Levels.{limit, Omissible, depth_at, Level, Further, over, inner, absent, present, stop, again}

module _ (rows : List Row) where
  -- Tails j gs w: w is what the open rows gs, each at the end of an occurrence before row j, have still to come
  pub data Tails (j : ℕ) : List Open → List Seat → Type 0 where
    whole : Tails j [] []
    frame : {o : Open} {gs : List Open} {w u v : List Seat} → Further rows o.number o.occurrence w u → Level rows (depth o.row) j u v → Tails j gs v → Tails j (o ∷ gs) w

  -- After j gs w: from row j on, inside the open rows gs, w completes a message
  pub data After (j : ℕ) (gs : List Open) (w : List Seat) : Type 0 where
    after : {u : List Seat} → Level rows (within gs) j w u → Tails j gs u → After j gs w

  -- an open row before row j: it is the diagram's row of its number, a part of the open row under it, within its limit, and the rows from it to j stand inside it
  pub record Sound (j : ℕ) (o : Open) (gs : List Open) : Type 0 where
    pub row : o.row ≡ row_at rows o.number
    pub part : depth o.row ≡ within gs
    pub behind : o.number < j
    pub some : 1 ≤ o.occurrence
    pub most : o.occurrence ≤ o.row.limit
    pub inside : (i : ℕ) → o.number < i → i < j → depth o.row < depth_at rows i

  pub data Nested : ℕ → List Open → Type 0 where
    bare : {j : ℕ} → Nested j []
    on : {j : ℕ} {o : Open} {gs : List Open} → Sound j o gs → Nested o.number gs → Nested j (o ∷ gs)

  pub sound : {j : ℕ} {o : Open} {gs : List Open} → Nested j (o ∷ gs) → Sound j o gs
  sound (on s n) = s

  pub under : {j : ℕ} {o : Open} {gs : List Open} → Nested j (o ∷ gs) → Nested o.number gs
  under (on s n) = n

  pub depth_is : (j : ℕ) → depth (row_at rows j) ≡ depth_at rows j
  unfolding depth_at
  depth_is j = refl

  pub depth_of_lem : (r : Row) (j : ℕ) → r ≡ row_at rows j → depth r ≡ depth_at rows j
  depth_of_lem r j e = ap depth e ∙ depth_is j

  -- rows that stand deeper are passed

  off : {d j : ℕ} {w v : List Seat} → Level rows d j w v → d < depth_at rows j → Level rows d (suc j) w v
  off (over h) l = absurd (omega arith)
  off (inner h r) l = r
  off (absent h o r) l = absurd (omega arith)
  off (present h k a b c) l = absurd (omega arith)

  level_far : {d : ℕ} {w v : List Seat} (n j e : ℕ) → e ≡ j + n → ((i : ℕ) → j ≤ i → i < e → d < depth_at rows i) → Level rows d j w v → Level rows d e w v
  level_far zero j e at deep r = let same : j ≡ e = omega arith in rw same at r
  level_far (suc n) j e at deep r = level_far n (suc j) e (omega arith) (λ i a b. deep i (omega arith) b) (off r (deep j (omega arith) (omega arith)))

  tails_on : {j i : ℕ} {gs : List Open} {w : List Seat} → Tails (suc j) gs w → Nested i gs → within gs ≤ depth_at rows j → Tails j gs w
  tails_on whole n h = whole
  tails_on (frame f l t) n h = frame f (inner (omega arith) l) (tails_on t (under n) (omega (arith, (sound n).part)))

  tails_off : {j i : ℕ} {gs : List Open} {w : List Seat} → Tails j gs w → Nested i gs → within gs ≤ depth_at rows j → Tails (suc j) gs w
  tails_off whole n h = whole
  tails_off (frame f l t) n h = frame f (off l (omega arith)) (tails_off t (under n) (omega (arith, (sound n).part)))

  tails_far : {k : ℕ} {gs : List Open} {w : List Seat} (n j e : ℕ) → e ≡ j + n → Nested k gs → ((i : ℕ) → j ≤ i → i < e → within gs ≤ depth_at rows i) → Tails j gs w → Tails e gs w
  tails_far zero j e at n deep t = let same : j ≡ e = omega arith in rw same at t
  tails_far (suc m) j e at n deep t = tails_far m (suc j) e (omega arith) n (λ i a b. deep i (omega arith) b) (tails_off t n (deep j (omega arith) (omega arith)))

  level-near : {d : ℕ} {w v : List Seat} (n j e : ℕ) → e ≡ j + n → ((i : ℕ) → j ≤ i → i < e → d < depth_at rows i) → Level rows d e w v → Level rows d j w v
  level-near zero j e at deep r = let same : e ≡ j = omega arith in rw same at r
  level-near (suc n) j e at deep r = inner (deep j (omega arith) (omega arith)) (level-near n (suc j) e (omega arith) (λ i a b. deep i (omega arith) b) r)

  tails_near : {k : ℕ} {gs : List Open} {w : List Seat} (n j e : ℕ) → e ≡ j + n → Nested k gs → ((i : ℕ) → j ≤ i → i < e → within gs ≤ depth_at rows i) → Tails e gs w → Tails j gs w
  tails_near zero j e at n deep t = let same : e ≡ j = omega arith in rw same at t
  tails_near (suc m) j e at n deep t = tails_on (tails_near m (suc j) e (omega arith) n (λ i a b. deep i (omega arith) b) t) n (deep j (omega arith) (omega arith))

  -- open rows stay nested

  pub nested_far : {i : ℕ} {gs : List Open} (j : ℕ) → Nested i gs → i ≤ j → ((k : ℕ) → i ≤ k → k < j → within gs ≤ depth_at rows k) → Nested j gs
  nested_far j bare h deep = bare
  nested_far {i} j (on {o = o} s n) h deep = on (record { row = s.row; part = s.part; behind = omega (arith, s.behind); some = s.some; most = s.most; inside = λ k a b. at k a b (dec_lt k i) }) n
    where
      at : (k : ℕ) → o.number < k → k < j → Dec (k < i) → depth o.row < depth_at rows k
      at k a b (yes p) = s.inside k a p
      at k a b (no p) = omega (arith, deep k (omega arith) b)

  pub nested-on : {j : ℕ} {gs : List Open} → Nested j gs → within gs ≤ depth_at rows j → Nested (suc j) gs
  nested-on {j} {gs} n h = nested_far (suc j) n (omega arith) (λ k a b. let same : k ≡ j = omega arith in rw same h)

  -- the rows from an open row on stand inside the one under it
  pub inside_under : {j : ℕ} {o : Open} {gs : List Open} → Sound j o gs → (k : ℕ) → o.number ≤ k → k < j → within gs ≤ depth_at rows k
  inside_under {j} {o} {gs} s k a b = at (dec_lt o.number k)
    where
      at : Dec (o.number < k) → within gs ≤ depth_at rows k
      at (yes p) = omega (arith, s.inside k p b, s.part)
      at (no p) = let same : o.number ≡ k = omega arith in omega (arith, depth_of_lem o.row o.number s.row, ap (depth_at rows) same, s.part)

  pub nested-under : {j : ℕ} {o : Open} {gs : List Open} → Nested j (o ∷ gs) → Nested j gs
  nested-under {j} (on s n) = nested_far j n (omega (arith, s.behind)) (inside_under s)

  pub nested-begun : {j : ℕ} {gs : List Open} → Nested j gs → depth_at rows j ≡ within gs → 1 ≤ limit rows j → Nested (suc j) (begun j (row_at rows j) ∷ gs)
  nested-begun {j} n e h = on (record { row = refl; part = depth_is j ∙ e; behind = omega arith; some = omega arith; most = h; inside = λ i a b. absurd (omega arith) }) n

  pub nested-repeated : {j : ℕ} {o : Open} {gs : List Open} → Nested j (o ∷ gs) → o.occurrence < o.row.limit → Nested (suc o.number) (repeated o ∷ gs)
  nested-repeated (on s n) h = on (record { row = s.row; part = s.part; behind = omega arith; some = omega arith; most = omega arith; inside = λ i a b. absurd (omega arith) }) n

  -- what completes a message after a step completes it before

  pub pass-inner : {i j : ℕ} {gs : List Open} {w : List Seat} → Nested i gs → within gs < depth_at rows j → After (suc j) gs w → After j gs w
  pass-inner n h (after l t) = after (inner h l) (tails_on t n (omega arith))

  pub pass-absent : {i j : ℕ} {gs : List Open} {w : List Seat} → Nested i gs → depth_at rows j ≡ within gs → Omissible rows j → After (suc j) gs w → After j gs w
  pass-absent n h o (after l t) = after (absent h o l) (tails_on t n (omega arith))

  pub come_first : {i j : ℕ} {gs : List Open} {w : List Seat} → Nested i gs → depth_at rows j ≡ within gs → 1 ≤ limit rows j → After (suc j) (begun j (row_at rows j) ∷ gs) w → After j gs (j # 1 ∷ w)
  come_first {j = j} n h k (after l (frame f m t)) =
      let e : depth (row_at rows j) ≡ within _ = depth_is j ∙ h in
      after (present h k (rw e at l) f (rw e at m)) (tails_on t n (omega arith))

  pub leave : {i j : ℕ} {o : Open} {gs : List Open} {w : List Seat} → Nested i (o ∷ gs) → depth_at rows j ≤ depth o.row → After j gs w → After j (o ∷ gs) w
  leave n h (after l t) = after (over (omega arith)) (frame stop (rw (← (sound n).part) at l) t)

  pub come_again_lem : {j : ℕ} {o : Open} {gs : List Open} {w : List Seat} → Nested j (o ∷ gs) → depth_at rows j ≤ depth o.row → o.occurrence < o.row.limit → After (suc o.number) (repeated o ∷ gs) w → After j (o ∷ gs) (o.number # (o.occurrence + 1) ∷ w)
  come_again_lem {j} {o} {gs} {w} n h k (after l (frame {w = u} {u = x} f m t)) =
      let s = sound n in
      let e : depth o.row ≡ depth_at rows o.number = depth_of_lem o.row o.number s.row in
      let lim : o.occurrence < limit rows o.number = omega (arith, ap (λ (r : Row). r.limit) s.row) in
      let l' : Level rows (suc (depth_at rows o.number)) (suc o.number) w u = rw e at l in
      let f' : Further rows o.number (suc o.occurrence) u x = rw add-one at f in
      after (over (omega arith)) (rw add-one (frame (again lim l' f')
      (level_far (j - suc o.number) (suc o.number) j (omega (arith, s.behind)) (λ i a b. s.inside i a b) m)
      (tails_far (j - suc o.number) (suc o.number) j (omega (arith, s.behind)) (under n) (λ i a b. inside_under s i (omega arith) b) t)))

  -- and the other way: what completes a message begins with one of these steps

  pub skip-inner : {i j : ℕ} {gs : List Open} {w : List Seat} → Nested i gs → within gs < depth_at rows j → After j gs w → After (suc j) gs w
  skip-inner n h (after l t) = after (off l h) (tails_off t n (omega arith))

  -- the row j comes first, or it is left out
  abbrev pub Begins : ℕ → List Open → List Seat → Type 0
  Begins j gs x = (w : List Seat) × (x ≡ j # 1 ∷ w) × (1 ≤ limit rows j) × After (suc j) (begun j (row_at rows j) ∷ gs) w

  pub begin_or_pass : {i j : ℕ} {gs : List Open} {x : List Seat} → Nested i gs → depth_at rows j ≡ within gs → After j gs x → Begins j gs x ⊎ (Omissible rows j × After (suc j) gs x)
  begin_or_pass n h (after (over k) t) = absurd (omega arith)
  begin_or_pass n h (after (inner k l) t) = absurd (omega arith)
  begin_or_pass n h (after (absent k o l) t) = inr (o, after l (tails_off t n (omega arith)))
  begin_or_pass {j = j} n h (after (present {w = w} k m a b c) t) =
      let e : within _ ≡ depth (row_at rows j) = sym (depth_is j ∙ h) in
      inl (w, refl, m, after (rw e at a) (frame b (rw e at c) (tails_off t n (omega arith))))

  -- the open row comes again, or it has ended
  abbrev pub Repeats : Open → List Open → List Seat → Type 0
  Repeats o gs x = (w : List Seat) × (x ≡ o.number # (o.occurrence + 1) ∷ w) × (o.occurrence < o.row.limit) × After (suc o.number) (repeated o ∷ gs) w

  repeat_or_end : {j : ℕ} {o : Open} {gs : List Open} {x u v : List Seat} → Nested j (o ∷ gs) → depth_at rows j ≤ depth o.row → Further rows o.number o.occurrence x u → Level rows (depth o.row) j u v → Tails j gs v → Repeats o gs x ⊎ After j gs x
  repeat_or_end n h stop l t = inr (after (rw (sound n).part at l) t)
  repeat_or_end {j} {o} {gs} {u = u} n h (again {w = w} {u = x} k a b) l t =
      let s = sound n in
      let e : depth_at rows o.number ≡ depth o.row = sym (depth_of_lem o.row o.number s.row) in
      let lim : o.occurrence < o.row.limit = omega (arith, ap (λ (r : Row). r.limit) s.row) in
      let a' : Level rows (suc (depth o.row)) (suc o.number) w x = rw e at a in
      let b' : Further rows o.number (o.occurrence + 1) x u = rw add-one b in
      inl (
        w,
        rw add-one,
        lim,
        after a' (frame b'
            (level-near (j - suc o.number) (suc o.number) j (omega (arith, s.behind)) (λ i p q. s.inside i p q) l)
            (tails_near (j - suc o.number) (suc o.number) j (omega (arith, s.behind)) (under n) (λ i p q. inside_under s i (omega arith) q) t)),
      )

  pub repeat_or_leave : {j : ℕ} {o : Open} {gs : List Open} {x : List Seat} → Nested j (o ∷ gs) → depth_at rows j ≤ depth o.row → After j (o ∷ gs) x → Repeats o gs x ⊎ After j gs x
  repeat_or_leave n h (after (over k) (frame f l t)) = repeat_or_end n h f l t
  repeat_or_leave n h (after (inner k l) t) = absurd (omega arith)
  repeat_or_leave n h (after (absent k o l) t) = absurd (omega arith)
  repeat_or_leave n h (after (present k m a b c) t) = absurd (omega arith)
