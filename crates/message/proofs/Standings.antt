-- Where a walk stands: what completes a message from there is what completes the rows that have come.
use Rattle.std.proofs.Common.{◌≡◌, ℕ, ◌≤◌, Bool, true, false, cond, ltb, ◌⊎◌, List, [], ◌∷◌, ◌++◌, length, drop, Some, None, Option, sym, refl, ap, ◌∙◌, subst, inl, inr, append_assoc, append-nil, arith}
use mathlib.Core.List.Memᴰ
use mathlib.Core.List.{Memᴰ}
use Rattle.std.proofs.lemmas.Slice.Eq.{bytes_eq-Decides}
use Rattle.std.proofs.lemmas.Bool.{ltb-true, ltb-false}
use Rattle.message.specs.declared.row.Row.{Row}
use Rattle.message.specs.declared.open.Open.{Open}
use Rattle.message.specs.Rows.{Seat, ◌#◌, row_at, RowMessage, RowsBegin, RowRules}
use Rattle.message.specs.Walk.{position, next_states, has_tag, of_tag, row_of, lower, lowest, next, seat_of, Stands, start, moved, MayCome, Answered}
use Rattle.message.proofs.Levels.{message_level, level_message}
use Rattle.message.proofs.Afters.{whole, After, after, Nested, bare, sound}
use Rattle.message.proofs.Completions.{completed, ended, only-ended, number_in}
use Rattle.message.proofs.Nexts.{Ahead, again, end, first, pass, skip, found, finds, seat_at, ahead-nested, ahead-back, comes, ahead-single}

module _ (rows : List Row) (K : RowRules rows) where
  -- at the start a message is to come
  pub after_message : {w : List Seat} → After rows 0 [] w → RowMessage rows w
  after_message (after l whole) = level_message rows K l

  pub message_after : {w : List Seat} → RowMessage rows w → After rows 0 [] w
  message_after m = after (message_level rows K m) whole

  -- a state that comes next, as a step
  pub step : {s t : List Open} → Memᴰ t (next_states rows s) → Ahead rows (position s) s t
  step {s} {t} m = found rows K (drop (position s) rows) (position s) refl s t m

  pub stands-nested : {s : List Open} {w : List Seat} → Stands rows s w → Nested rows (position s) s
  stands-nested start = bare
  stands-nested (moved h m) = ahead-nested rows (step m) (stands-nested h)

  pub push : (w : List Seat) (x : Seat) (v : List Seat) → (w ++ (x ∷ [])) ++ v ≡ w ++ (x ∷ v)
  push w x v = append_assoc w (x ∷ []) v

  pub stands_message : {s : List Open} {w v : List Seat} → Stands rows s w → After rows (position s) s v → RowMessage rows (w ++ v)
  stands_message start a = after_message a
  stands_message {v = v} (moved {o = o} {w = w} h m) a = rw (push w (seat_of o) v) (stands_message h (ahead-back rows (step m) (stands-nested h) a))

  seat_row : (t : List Open) (o : Open) → seat_at rows t ≡ seat_of o → row_of t ≡ o.number
  seat_row [] o e = cc
  seat_row (p ∷ gs) o e = cc

  pub stands_after : {s : List Open} {w v : List Seat} → Stands rows s w → RowMessage rows (w ++ v) → After rows (position s) s v
  stands_after start a = message_after a
  stands_after {v = v} (moved {s = s} {gs = gs} {o = o} {w = w} h m) a =
      let b : After rows (position s) s (seat_of o ∷ v) = stands_after h (rw (push w (seat_of o) v) at a) in
      let (t, st, e, x) = comes rows K (position s) s (stands-nested h) b in
      let same : t ≡ o ∷ gs = ahead-single rows st (step m) (seat_row t o e) (stands-nested h) in
      subst (λ (u : List Open). After rows (position u) u v) same x

  -- A state that is found begins with the row that comes, which is the diagram's

  pub ahead-some : {j : ℕ} {gs t : List Open} → Ahead rows j gs t → (o : Open) × (hs : List Open) × (t ≡ o ∷ hs)
  ahead-some (again {o = o} {gs = gs} l h k) = (_, gs, refl)
  ahead-some (end l h a) = ahead-some a
  ahead-some (first {gs = gs} l h k) = (_, gs, refl)
  ahead-some (pass l h o a) = ahead-some a
  ahead-some (skip l h a) = ahead-some a

  pub row_of_state : {s : List Open} {w : List Seat} {o : Open} {gs : List Open} → Stands rows s w → Memᴰ (o ∷ gs) (next_states rows s) → o.row ≡ row_at rows o.number
  row_of_state h m = (sound rows (ahead-nested rows (step m) (stands-nested h))).row

  -- some message begins with the rows that have come and one more, exactly where the pass finds it

  pub found-begins : {s : List Open} {w : List Seat} {o : Open} {gs : List Open} → Stands rows s w → Memᴰ (o ∷ gs) (next_states rows s) → RowsBegin rows (w ++ (seat_of o ∷ []))
  found-begins {s} {w} {o} {gs} h m =
      let n = ahead-nested rows (step m) (stands-nested h) in
      let (v, a, l) = completed rows K (position (o ∷ gs)) (o ∷ gs) n in
      (v, stands_message (moved h m) a)

  pub begins-found : {s : List Open} {w : List Seat} {x : Seat} → Stands rows s w → RowsBegin rows (w ++ (x ∷ [])) → (o : Open) × (gs : List Open) × Memᴰ (o ∷ gs) (next_states rows s) × (seat_of o ≡ x)
  begins-found {s} {w} {x} h (v, m) =
      let b : After rows (position s) s (x ∷ v) = stands_after h (rw (push w x v) at m) in
      let (t, st, e, a) = comes rows K (position s) s (stands-nested h) b in
      let (o, gs, f) = ahead-some st in
      (o, gs, subst (λ (u : List Open). Memᴰ u (next_states rows s)) f (finds rows K st), subst (λ (u : List Open). seat_at rows u ≡ x) f e)

  -- a row has one occurrence in which it may come next
  pub one_occurrence : {s : List Open} {w : List Seat} (q m n : ℕ) → Stands rows s w → MayCome rows w q m → MayCome rows w q n → m ≡ n
  one_occurrence {s} q m n h a b =
      let (o, gs, x, e) = begins-found h a in
      let (p, hs, y, f) = begins-found h b in
      let number : o.number ≡ p.number = cc in
      let same : o ∷ gs ≡ p ∷ hs = ahead-single rows (step {s = s} x) (step {s = s} y) number (stands-nested h) in
      cc

  -- every beginning of a message is walked
  pub walked : (w v : List Seat) {s : List Open} {u : List Seat} → Stands rows s u → RowMessage rows (u ++ (w ++ v)) → (t : List Open) × Stands rows t (u ++ w)
  walked [] v {s} {u} h m = (s, rw (append-nil u) h)
  walked (x ∷ w) v {s} {u} h m =
      let (o, gs, f, e) = begins-found {x = x} h (w ++ v, rw (push u x (w ++ v)) m) in
      let g : Stands rows (o ∷ gs) (u ++ (x ∷ [])) = subst (λ (y : Seat). Stands rows (o ∷ gs) (u ++ (y ∷ []))) e (moved h f) in
      let (t, k) = walked w v g (rw (push u x (w ++ v)) m) in
      (t, subst (λ (y : List Seat). Stands rows t y) (push u x w) k)

  pub reached : (w : List Seat) → RowsBegin rows w → (s : List Open) × Stands rows s w
  reached w (v, m) = walked w v start m

  -- the rows that have come are a message exactly at the last row

  pub position_in : (s : List Open) {w : List Seat} → Stands rows s w → position s ≤ length rows
  position_in [] h = omega arith
  position_in (o ∷ gs) h = omega (arith, number_in rows K (sound rows (stands-nested h)))

  pub message_at_end : {s : List Open} {w : List Seat} → Stands rows s w → RowMessage rows w → position s ≡ length rows
  message_at_end {s} {w} h m = omega (arith, position_in s h, only-ended rows K (position s) s (stands-nested h) (stands_after h (rw (append-nil w) m)))

  pub end_message : {s : List Open} {w : List Seat} → Stands rows s w → position s ≡ length rows → RowMessage rows w
  end_message {s} {w} h e = rw (append-nil w) at (stands_message h (ended rows K (position s) s (stands-nested h) (omega arith)))

  pub stands-completed : {s : List Open} {w : List Seat} → Stands rows s w → (v : List Seat) × RowMessage rows (w ++ v) × (length v ≤ length rows)
  stands-completed {s} h = let (v, a, l) = completed rows K (position s) s (stands-nested h) in (v, stands_message h a, l)

-- The lowest state of a tag

-- t is among the states, has the tag, and no other that has it is lower
pub record LowestIn (tag : List ℕ) (ts : List (List Open)) (t : List Open) : Type 0 where
  pub member : Memᴰ t ts
  pub tagged : of_tag tag t ≡ Some t
  pub least : (u : List Open) → Memᴰ u ts → of_tag tag u ≡ Some u → row_of t ≤ row_of u

unfoldable pub LowestAmong : List ℕ → List (List Open) → Option (List Open) → Type 0
LowestAmong tag ts None = (u : List Open) → Memᴰ u ts → of_tag tag u ≡ Some u → ⊥
LowestAmong tag ts (Some t) = LowestIn tag ts t

tag_cases : (tag : List ℕ) (t : List Open) → (of_tag tag t ≡ None) ⊎ (of_tag tag t ≡ Some t)
tag_cases tag [] = inl refl
tag_cases tag (o ∷ gs) = at (has_tag tag o.row)
  where
    at : (b : Bool) → (cond b (Some (o ∷ gs)) None ≡ None) ⊎ (cond b (Some (o ∷ gs)) None ≡ Some (o ∷ gs))
    at true = inr refl
    at false = inl refl

none-some : {t : List Open} → None ≡ Some t → ⊥
none-some e = cc

lowest_cons : (tag : List ℕ) (s : List Open) (ts : List (List Open)) (a b : Option (List Open)) → (a ≡ None) ⊎ (a ≡ Some s) → of_tag tag s ≡ a → LowestAmong tag ts b → LowestAmong tag (s ∷ ts) (lower a b)
unfolding LowestAmong
lowest_cons tag s ts None None k e h = λ u m f. at u f (Memᴰ.cases_cons m)
  where
    at : (u : List Open) → of_tag tag u ≡ Some u → (u ≡ s) ⊎ Memᴰ u ts → ⊥
    at u f (inl x) = let z : None ≡ Some u = sym e ∙ ap (of_tag tag) (sym x) ∙ f in none-some z
    at u f (inr m) = h u m f
lowest_cons tag s ts None (Some t) k e h = record { member = Memᴰ.tail h.member; tagged = h.tagged; least = λ u m f. at u f (Memᴰ.cases_cons m) }
  where
    at : (u : List Open) → of_tag tag u ≡ Some u → (u ≡ s) ⊎ Memᴰ u ts → row_of t ≤ row_of u
    at u f (inl x) = let z : None ≡ Some u = sym e ∙ ap (of_tag tag) (sym x) ∙ f in absurd (none-some z)
    at u f (inr m) = h.least u m f
lowest_cons tag s ts (Some x) None (inl k) e h = absurd (none-some (sym k))
lowest_cons tag s ts (Some x) None (inr k) e h = let same : x ≡ s = cc in record { member = Memᴰ.head same; tagged = rw same (e ∙ k); least = λ u m f. at same u f (Memᴰ.cases_cons m) }
  where
    at : x ≡ s → (u : List Open) → of_tag tag u ≡ Some u → (u ≡ s) ⊎ Memᴰ u ts → row_of x ≤ row_of u
    at same u f (inl y) = omega (arith, ap row_of same, ap row_of y)
    at same u f (inr m) = absurd (h u m f)
lowest_cons tag s ts (Some x) (Some t) (inl k) e h = absurd (none-some (sym k))
lowest_cons tag s ts (Some x) (Some t) (inr k) e h = let same : x ≡ s = cc in at same (ltb (row_of t) (row_of x)) refl
  where
    least_of : x ≡ s → (y : List Open) → row_of y ≤ row_of x → row_of y ≤ row_of t → (u : List Open) → of_tag tag u ≡ Some u → (u ≡ s) ⊎ Memᴰ u ts → row_of y ≤ row_of u
    least_of same y p q u f (inl z) = omega (arith, ap row_of same, ap row_of z)
    least_of same y p q u f (inr m) = omega (arith, h.least u m f)

    at : x ≡ s → (b : Bool) → ltb (row_of t) (row_of x) ≡ b → LowestAmong tag (s ∷ ts) (cond b (Some t) (Some x))
    at same true l = record { member = Memᴰ.tail h.member; tagged = h.tagged; least = λ u m f. least_of same t (omega (arith, ltb-true (row_of t) (row_of x) l)) (omega arith) u f (Memᴰ.cases_cons m) }
    at same false l = record { member = Memᴰ.head same; tagged = rw same (e ∙ k); least = λ u m f. least_of same x (omega arith) (ltb-false (row_of t) (row_of x) l) u f (Memᴰ.cases_cons m) }

pub lowest-among : (tag : List ℕ) (ts : List (List Open)) → LowestAmong tag ts (lowest tag ts)
unfolding LowestAmong
lowest-among tag [] = λ u m f. Memᴰ.not-nil m
lowest-among tag (s ∷ ts) = lowest_cons tag s ts (of_tag tag s) (lowest tag ts) (tag_cases tag s) refl (lowest-among tag ts)

pub tagged_is : (tag : List ℕ) (o : Open) (gs : List Open) → of_tag tag (o ∷ gs) ≡ Some (o ∷ gs) → o.row.tag ≡ tag
tagged_is tag o gs e = (bytes_eq-Decides o.row.tag tag).0 (at (has_tag tag o.row) e)
  where
    at : (b : Bool) → cond b (Some (o ∷ gs)) None ≡ Some (o ∷ gs) → b ≡ true
    at true h = refl
    at false h = absurd (none-some h)

pub is_tagged : (tag : List ℕ) (o : Open) (gs : List Open) → o.row.tag ≡ tag → of_tag tag (o ∷ gs) ≡ Some (o ∷ gs)
is_tagged tag o gs e = at (has_tag tag o.row) ((bytes_eq-Decides o.row.tag tag).1 e)
  where
    at : (b : Bool) → b ≡ true → cond b (Some (o ∷ gs)) None ≡ Some (o ∷ gs)
    at true h = refl
    at false h = cc

-- What is answered to a tag

abbrev pub answer_of : List Open → ℕ × ℕ
answer_of [] = (0, 0)
answer_of (o ∷ gs) = (o.number, o.occurrence)

module _ (rows : List Row) (K : RowRules rows) where
  -- a row of the tag that may come next is one of the states that are found
  may_come_found : {s : List Open} {w : List Seat} (tag : List ℕ) (q n : ℕ) → Stands rows s w → MayCome rows w q n → (row_at rows q).tag ≡ tag → (u : List Open) × Memᴰ u (next_states rows s) × (of_tag tag u ≡ Some u) × (row_of u ≡ q)
  may_come_found {s} tag q n h b t =
      let (o, gs, m, e) = begins-found rows K {x = q # n} h b in
      let number : o.number ≡ q = cc in
      let r = row_of_state rows K h m in
      let x : o.row.tag ≡ tag = ap (λ (y : Row). y.tag) r ∙ ap (λ (k : ℕ). (row_at rows k).tag) number ∙ t in
      (o ∷ gs, m, is_tagged tag o gs x, number)

  pub answered_none : (s : List Open) (w : List Seat) (tag : List ℕ) → Stands rows s w → next rows tag s ≡ None → Answered rows w tag None
  unfolding Answered LowestAmong
  answered_none s w tag h e = λ q n b t.
      let (u, m, f, x) = may_come_found tag q n h b t in
      subst (LowestAmong tag (next_states rows s)) e (lowest-among tag (next_states rows s)) u m f

  pub answered_some : (s : List Open) (w : List Seat) (tag : List ℕ) (o : Open) (gs : List Open) → Stands rows s w → next rows tag s ≡ Some (o ∷ gs) → Answered rows w tag (Some (o.number, o.occurrence)) × Stands rows (o ∷ gs) (w ++ (seat_of o ∷ []))
  unfolding Answered LowestAmong
  answered_some s w tag o gs h e =
      let k : LowestIn tag (next_states rows s) (o ∷ gs) = subst (LowestAmong tag (next_states rows s)) e (lowest-among tag (next_states rows s)) in
      let b = found-begins rows K {o = o} {gs = gs} h k.member in (
        record {
          tagged = ap (λ (y : Row). y.tag) (sym (row_of_state rows K {o = o} {gs = gs} h k.member)) ∙ tagged_is tag o gs k.tagged;
          begins = b;
          once = λ m c. one_occurrence rows K o.number m o.occurrence h c b;
          lowest = λ p m c t. let (u, n, f, x) = may_come_found tag p m h c t in omega (arith, k.least u n f);
        },
        moved h k.member,
      )

  -- what is found is a state of an open row
  pub next-some : (s : List Open) (tag : List ℕ) (t : List Open) → next rows tag s ≡ Some t → (o : Open) × (gs : List Open) × (t ≡ o ∷ gs)
  unfolding LowestAmong
  next-some s tag t e =
      let k : LowestIn tag (next_states rows s) t = subst (LowestAmong tag (next_states rows s)) e (lowest-among tag (next_states rows s)) in
      ahead-some rows K (step rows K {s = s} k.member)
