-- A row can follow another exactly where the walk finds it with each open row come once; so the computed test says exactly whether a diagram is clear.
use Rattle.std.proofs.Common.{◌≡◌, ℕ, zero, suc, ◌+◌, ◌<◌, ◌≤◌, Bool, true, false, cond, not, ◌&&◌, eqb, leb, ◌⊎◌, ◌↔◌, List, [], ◌∷◌, ◌++◌, length, get_or, drop, sym, refl, ap, ◌∙◌, subst, inl, inr, add-zero, zero-add, arith}
use mathlib.Core.List.Memᴰ
use mathlib.Core.List.{Memᴰ}
use native.Mathlib.Decide.{dec_le, dec_lt, ℕ_discrete}
use lib.ListN.{get_or-eq_default}
use Rattle.std.proofs.lemmas.Slice.Eq.{bytes_eq-Decides}
use Rattle.std.proofs.lemmas.Bool.{and_parts, and_from, eqb-true, eq-eqb, leb-true, le-leb, or_cases, or_left, or_right, not-true, not_from_false, cases_Bool, both_ways}
use Rattle.std.specs.Str.{bytes_eq}
use Rattle.message.specs.declared.row.Need.TheVariants.{Required}
use Rattle.message.specs.declared.row.Row.{Row}
use Rattle.message.specs.declared.open.Open.{Open}
use Rattle.message.specs.Rows.{Seat, ◌#◌, row_at, RowMessage, RowFollows, ClearRows, RowRules, tags_of}
use Rattle.message.specs.Walk.{depth, within, begun, repeated, ends_at, still_open, ahead, position, row_of, seat_of, Stands, start, moved, MayCome}
use Rattle.message.specs.Successors.{successors_from, successors, tag_of, differ, successor_tags_differ, successors_differ}
use Rattle.message.specs.Layouts.{all}
use Rattle.message.proofs.Levels.{limit, Omissible, depth_at, depth-plain}
use Rattle.message.proofs.Afters.{After, Sound, Nested, bare, on, sound, under, depth_is, depth_of_lem, nested-on, nested-under, nested-begun, pass-inner, pass-absent, come_first, leave}
use Rattle.message.proofs.Completions.{depth_in, completed, number_in}
use Rattle.message.proofs.Nexts.{Ahead, again, end, first, pass, skip, found, finds, rows_from, seat_at, ahead-nested, ahead-back, comes, when_ends, when_open, ends_when, open_when}
use Rattle.message.proofs.Standings.{stands-nested, stands_after, begins-found, reached, push, after_message, message_after, one_occurrence, ahead-some}

-- the same open rows, come no more often
pub data Lighter : List Open → List Open → Type 0 where
  none : Lighter [] []
  one : {o p : Open} {gs fs : List Open} → o.number ≡ p.number → o.row ≡ p.row → o.occurrence ≤ p.occurrence → Lighter gs fs → Lighter (o ∷ gs) (p ∷ fs)

within_lighter : {gs fs : List Open} → Lighter gs fs → within gs ≡ within fs
within_lighter none = refl
within_lighter (one e r l h) = ap (λ (x : Row). suc (depth x)) r

-- ending open rows twice

still-at : (d : ℕ) (o : Open) (gs : List Open) → d ≤ depth o.row → still_open d (o ∷ gs) ≡ still_open d gs
still-at d o gs h = rw (ends_when d o h)

still-all : (d : ℕ) (o : Open) (gs : List Open) → depth o.row < d → still_open d (o ∷ gs) ≡ o ∷ gs
still-all d o gs h = rw (open_when d o h)

still-still : (d e : ℕ) (gs : List Open) → d ≤ e → still_open d (still_open e gs) ≡ still_open d gs
still-still d e [] h = refl
still-still d e (o ∷ gs) h = at (dec_le e (depth o.row)) (still-still d e gs h)
  where
    at : Dec (e ≤ depth o.row) → still_open d (still_open e gs) ≡ still_open d gs → still_open d (still_open e (o ∷ gs)) ≡ still_open d (o ∷ gs)
    at (yes p) r = ap (still_open d) (still-at e o gs p) ∙ r ∙ sym (still-at d o gs (omega arith))
    at (no p) r = ap (still_open d) (still-all e o gs (omega arith))

module _ (rows : List Row) (K : RowRules rows) where
  -- the open rows gs before row j cover all that can be open there
  abbrev Covers : ℕ → List Open → Type 0
  Covers j gs = (fs : List Open) → Nested rows j fs → Lighter (still_open (within fs) gs) fs

  still-nested : (d j : ℕ) (gs : List Open) → Nested rows j gs → Nested rows j (still_open d gs)
  still-nested d j [] n = n
  still-nested d j (o ∷ gs) n = at (ends_at d o) (still-nested d j gs (nested-under rows n))
    where
      at : (b : Bool) → Nested rows j (still_open d gs) → Nested rows j (cond b (still_open d gs) (o ∷ gs))
      at true r = r
      at false r = n

  still_back : {w : List Seat} (j : ℕ) (gs : List Open) → Nested rows j gs → After rows j (still_open (depth_at rows j) gs) w → After rows j gs w
  still_back j [] n a = a
  still_back {w} j (o ∷ gs) n a = at (ends_at (depth_at rows j) o) refl a (still_back j gs (nested-under rows n))
    where
      at : (b : Bool) → ends_at (depth_at rows j) o ≡ b → After rows j (cond b (still_open (depth_at rows j) gs) (o ∷ gs)) w → (After rows j (still_open (depth_at rows j) gs) w → After rows j gs w) → After rows j (o ∷ gs) w
      at true e x r = leave rows n (when_ends (depth_at rows j) o e) (r x)
      at false e x r = x

  still-within : (j : ℕ) → j < length rows → (gs : List Open) → within (still_open (depth_at rows j) gs) ≤ depth_at rows j
  still-within j l [] = depth_in rows K j l
  still-within j l (o ∷ gs) = at (ends_at (depth_at rows j) o) refl (still-within j l gs)
    where
      at : (b : Bool) → ends_at (depth_at rows j) o ≡ b → within (still_open (depth_at rows j) gs) ≤ depth_at rows j → within (cond b (still_open (depth_at rows j) gs) (o ∷ gs)) ≤ depth_at rows j
      at true e r = r
      at false e r = when_open (depth_at rows j) o e

  -- the open rows before row j, each row that can occur having come once: some message begins so
  record Trail (j : ℕ) (gs : List Open) : Type 0 where
    nested : Nested rows j gs
    begins : (u : List Seat) × ((w : List Seat) → After rows j gs w → RowMessage rows (u ++ w))
    covers : Covers j gs

  no-rows-before : (fs : List Open) → Nested rows 0 fs → Lighter [] fs
  no-rows-before [] n = none
  no-rows-before (o ∷ fs) n = absurd (omega (arith, (sound rows n).behind))

  trail_start : Trail 0 []
  trail_start = record { nested = bare; begins = ([], λ w a. after_message rows K a); covers = no-rows-before }

  -- the open rows that end before row j are left
  trail_still : {j : ℕ} {gs : List Open} → Trail j gs → (u : List Seat) × ((w : List Seat) → After rows j (still_open (depth_at rows j) gs) w → RowMessage rows (u ++ w))
  trail_still {j} {gs} t = (t.begins.0, λ w a. t.begins.1 w (still_back j gs t.nested a))

  -- open rows before row j + 1: row j is the innermost, or stands inside all of them
  inside_or_top : {j : ℕ} (fs : List Open) → j < length rows → Nested rows (suc j) fs → ((o : Open) × (hs : List Open) × (fs ≡ o ∷ hs) × (o.number ≡ j)) ⊎ (Nested rows j fs × (within fs ≤ depth_at rows j))
  inside_or_top {j} [] l n = inr (bare, depth_in rows K j l)
  inside_or_top {j} (o ∷ fs) l n = at (ℕ_discrete o.number j)
    where
      s : Sound rows (suc j) o fs
      s = sound rows n

      at : Dec (o.number ≡ j) → ((p : Open) × (hs : List Open) × (o ∷ fs ≡ p ∷ hs) × (p.number ≡ j)) ⊎ (Nested rows j (o ∷ fs) × (within (o ∷ fs) ≤ depth_at rows j))
      at (yes e) = inl (o, fs, refl, e)
      at (no e) =
          let low : o.number < j = omega (arith, s.behind) in
          inr (on (record { row = s.row; part = s.part; behind = low; some = s.some; most = s.most; inside = λ i a b. s.inside i a (omega arith) }) (under rows n), s.inside j low (omega arith))

  -- whether row j can occur in the open rows hs
  abbrev Occurs : ℕ → List Open → Type 0
  Occurs j hs = (depth_at rows j ≡ within hs) × (1 ≤ limit rows j)

  -- an open row j shows that it can occur
  top_occurs : {j : ℕ} {gs : List Open} (o : Open) (hs : List Open) → Trail j gs → Nested rows (suc j) (o ∷ hs) → o.number ≡ j → Occurs j (still_open (depth_at rows j) gs) × Lighter (begun j (row_at rows j) ∷ still_open (depth_at rows j) gs) (o ∷ hs)
  top_occurs {j} {gs} o hs t n e =
      let s = sound rows n in
      let d : depth o.row ≡ depth_at rows j = depth_of_lem rows o.row o.number s.row ∙ ap (depth_at rows) e in
      let w : within hs ≡ depth_at rows j = sym s.part ∙ d in
      let lighter : Lighter (still_open (depth_at rows j) gs) hs = subst (λ (x : ℕ). Lighter (still_open x gs) hs) w (t.covers hs (subst (λ (i : ℕ). Nested rows i hs) e (under rows n))) in
      let r : row_at rows j ≡ o.row = ap (row_at rows) (sym e) ∙ sym s.row in
      ((sym w ∙ sym (within_lighter lighter), omega (arith, s.some, s.most, ap (λ (x : Row). x.limit) r)), one (sym e) r s.some lighter)

  trail_occurs : {j : ℕ} {gs : List Open} → j < length rows → Trail j gs → Occurs j (still_open (depth_at rows j) gs) → Trail (suc j) (begun j (row_at rows j) ∷ still_open (depth_at rows j) gs)
  trail_occurs {j} {gs} l t (e, k) =
      let n = still-nested (depth_at rows j) j gs t.nested in
      let (u, f) = trail_still t in
      record {
        nested = nested-begun rows n e k;
        begins = (u ++ (j # 1 ∷ []), λ w a. rw (push rows K u (j # 1) w) (f (j # 1 ∷ w) (come_first rows n e k a)));
        covers = λ fs m. at fs m (inside_or_top fs l m);
      }
    where
      at : (fs : List Open) → Nested rows (suc j) fs → ((o : Open) × (hs : List Open) × (fs ≡ o ∷ hs) × (o.number ≡ j)) ⊎ (Nested rows j fs × (within fs ≤ depth_at rows j)) → Lighter (still_open (within fs) (begun j (row_at rows j) ∷ still_open (depth_at rows j) gs)) fs
      at fs m (inl (o, hs, x, y)) =
          let m' : Nested rows (suc j) (o ∷ hs) = rw x at m in
          let s = sound rows m' in
          let d : depth (row_at rows j) ≡ depth o.row = depth_is rows j ∙ sym (depth_of_lem rows o.row o.number s.row ∙ ap (depth_at rows) y) in
          let z : still_open (within (o ∷ hs)) (begun j (row_at rows j) ∷ still_open (depth_at rows j) gs) ≡ begun j (row_at rows j) ∷ still_open (depth_at rows j) gs = still-all (within (o ∷ hs)) (begun j (row_at rows j)) (still_open (depth_at rows j) gs) (omega arith) in
          subst (λ (v : List Open). Lighter (still_open (within v) (begun j (row_at rows j) ∷ still_open (depth_at rows j) gs)) v) (sym x) (subst (λ (v : List Open). Lighter v (o ∷ hs)) (sym z) (top_occurs o hs t m' y).1)
      at fs m (inr (x, y)) =
          let a = still-at (within fs) (begun j (row_at rows j)) (still_open (depth_at rows j) gs) (omega (arith, depth_is rows j)) in
          let b = still-still (within fs) (depth_at rows j) gs y in
          subst (λ (v : List Open). Lighter v fs) (sym (a ∙ b)) (t.covers fs x)

  optional_at : {j : ℕ} (gs : List Open) → j < length rows → (Occurs j (still_open (depth_at rows j) gs) → ⊥) → depth_at rows j ≡ within (still_open (depth_at rows j) gs) → Omissible rows j
  optional_at {j} gs l no_way e = (K.each j l).never (at (dec_le 1 (limit rows j)))
    where
      at : Dec (1 ≤ limit rows j) → limit rows j ≡ 0
      at (yes p) = absurd (no_way (e, p))
      at (no p) = omega arith

  trail_passes : {j : ℕ} {gs : List Open} → j < length rows → Trail j gs → (Occurs j (still_open (depth_at rows j) gs) → ⊥) → Trail (suc j) (still_open (depth_at rows j) gs)
  trail_passes {j} {gs} l t no_way =
      let n = still-nested (depth_at rows j) j gs t.nested in
      let (u, f) = trail_still t in
      record {
        nested = nested-on rows n (still-within j l gs);
        begins = (u, λ w a. f w (back (ℕ_discrete (depth_at rows j) (within (still_open (depth_at rows j) gs))) n a));
        covers = λ fs m. at fs m (inside_or_top fs l m);
      }
    where
      hs : List Open
      hs = still_open (depth_at rows j) gs

      back : {w : List Seat} → Dec (depth_at rows j ≡ within (still_open (depth_at rows j) gs)) → Nested rows j (still_open (depth_at rows j) gs) → After rows (suc j) (still_open (depth_at rows j) gs) w → After rows j (still_open (depth_at rows j) gs) w
      back (yes e) n a = pass-absent rows n e (optional_at gs l no_way e) a
      back (no e) n a = pass-inner rows n (omega (arith, still-within j l gs)) a

      at : (fs : List Open) → Nested rows (suc j) fs → ((o : Open) × (ps : List Open) × (fs ≡ o ∷ ps) × (o.number ≡ j)) ⊎ (Nested rows j fs × (within fs ≤ depth_at rows j)) → Lighter (still_open (within fs) (still_open (depth_at rows j) gs)) fs
      at fs m (inl (o, ps, x, y)) = absurd (no_way (top_occurs o ps t (rw x at m) y).0)
      at fs m (inr (x, y)) = subst (λ (v : List Open). Lighter v fs) (sym (still-still (within fs) (depth_at rows j) gs y)) (t.covers fs x)

  -- Which rows follow

  -- the states ts are those of the rows that can follow row p
  abbrev pub Followed : ℕ → List (List Open) → Type 0
  Followed p ts = ((q : ℕ) → ((t : List Open) × Memᴰ t ts × (row_of t ≡ q)) ↔ RowFollows rows p q) × ((t : List Open) → Memᴰ t ts → tag_of t ≡ (row_at rows (row_of t)).tag)

  state_tag : {j : ℕ} {gs : List Open} (t : List Open) → Ahead rows j gs t → Nested rows j gs → tag_of t ≡ (row_at rows (row_of t)).tag
  state_tag t a n =
      let (o, hs, e) = ahead-some rows K a in
      let m : Nested rows (position (o ∷ hs)) (o ∷ hs) = subst (λ (u : List Open). Nested rows (position u) u) e (ahead-nested rows a n) in
      subst (λ (u : List Open). tag_of u ≡ (row_at rows (row_of u)).tag) (sym e) (ap (λ (r : Row). r.tag) (sound rows m).row)

  -- a step is one for the same open rows come less often
  lighter_step : {j : ℕ} {gs fs t : List Open} → Ahead rows j fs t → Lighter gs fs → (u : List Open) × Ahead rows j gs u × (row_of u ≡ row_of t)
  lighter_step (again l h k) (one {o = p} {gs = gs} e r c x) = (repeated p ∷ gs, again l (omega (arith, ap depth r)) (omega (arith, ap (λ (y : Row). y.limit) r)), e)
  lighter_step (end l h a) (one e r c x) = let (u, b, f) = lighter_step a x in (u, end l (omega (arith, ap depth r)) b, f)
  lighter_step {gs = gs} (first l h k) x = (_, first l (h ∙ sym (within_lighter x)) k, refl)
  lighter_step (pass l h o a) x = let (u, b, f) = lighter_step a x in (u, pass l (h ∙ sym (within_lighter x)) o b, f)
  lighter_step (skip l h a) x = let (u, b, f) = lighter_step a x in (u, skip l (omega (arith, within_lighter x)) b, f)

  seat_is : (t : List Open) → Ahead rows 0 [] t ⊎ Unit {0} → (n : ℕ) × (seat_at rows t ≡ row_of t # n)
  seat_is [] k = (0, refl)
  seat_is (o ∷ gs) k = (o.occurrence, refl)

  -- a state that the pass finds behind row j, which has come once, is one of a row that can follow
  found_follows : {j : ℕ} {gs : List Open} → j < length rows → Trail j gs → Occurs j (still_open (depth_at rows j) gs) → (t : List Open) → Ahead rows (suc j) (begun j (row_at rows j) ∷ still_open (depth_at rows j) gs) t → RowFollows rows j (row_of t)
  found_follows {j} {gs} l k (e, c) t a =
      let n = still-nested (depth_at rows j) j gs k.nested in
      let m = nested-begun rows n e c in
      let (u, f) = trail_still k in
      let (v, b, z) = completed rows K (position t) t (ahead-nested rows a m) in
      let (i, x) = seat_is t (inr tt) in
      (u, 1, i, v, subst (λ (y : Seat). RowMessage rows (u ++ (j # 1 ∷ (y ∷ v)))) x (f (j # 1 ∷ (seat_at rows t ∷ v)) (come_first rows n e c (ahead-back rows a m b))))

  -- a row that can follow: the walk stands at row p, and finds q next
  follows_state : (p q : ℕ) → RowFollows rows p q → (o : Open) × (fs : List Open) × (t : List Open) × Nested rows (suc p) (o ∷ fs) × (o.number ≡ p) × Ahead rows (suc p) (o ∷ fs) t × (row_of t ≡ q)
  follows_state p q (u, m, n, v, x) =
      let (s, h) = reached rows K u (p # m ∷ (q # n ∷ v), x) in
      let (o, fs, f, e) = begins-found rows K {x = p # m} h (q # n ∷ v, rw (push rows K u (p # m) (q # n ∷ v)) x) in
      let number : o.number ≡ p = cc in
      let g : Stands rows (o ∷ fs) (u ++ (p # m ∷ [])) = subst (λ (y : Seat). Stands rows (o ∷ fs) (u ++ (y ∷ []))) e (moved h f) in
      let b : After rows (position (o ∷ fs)) (o ∷ fs) (q # n ∷ v) = stands_after rows K g (rw (push rows K u (p # m) (q # n ∷ v)) x) in
      let (t, a, y, z) = comes rows K (position (o ∷ fs)) (o ∷ fs) (stands-nested rows K g) b in
      let at : position (o ∷ fs) ≡ suc p = omega arith in
      (o, fs, t, subst (λ (i : ℕ). Nested rows i (o ∷ fs)) at (stands-nested rows K g), number, subst (λ (i : ℕ). Ahead rows i (o ∷ fs) t) at a, row_seat t y)
    where
      row_seat : (t : List Open) → seat_at rows t ≡ q # n → row_of t ≡ q
      row_seat [] e = cc
      row_seat (o ∷ gs) e = cc

  abbrev occurs_test : ℕ → List Open → Bool
  occurs_test j hs = eqb (depth (row_at rows j)) (within hs) && leb 1 (limit rows j)

  occurs_true : (j : ℕ) (hs : List Open) → occurs_test j hs ≡ true → Occurs j hs
  occurs_true j hs e = let a = and_parts (eqb (depth (row_at rows j)) (within hs)) (leb 1 (limit rows j)) e in (sym (depth_is rows j) ∙ eqb-true (depth (row_at rows j)) (within hs) a.0, leb-true 1 (limit rows j) a.1)

  true_occurs : (j : ℕ) (hs : List Open) → Occurs j hs → occurs_test j hs ≡ true
  true_occurs j hs (e, k) = and_from (eqb (depth (row_at rows j)) (within hs)) (leb 1 (limit rows j)) (eq-eqb (depth (row_at rows j)) (within hs) (depth_is rows j ∙ e)) (le-leb 1 (limit rows j) k)

  occurs_false : (j : ℕ) (hs : List Open) → occurs_test j hs ≡ false → Occurs j hs → ⊥
  occurs_false j hs e o = both_ways (occurs_test j hs) e (true_occurs j hs o)

  followed_occurs : {j : ℕ} {gs : List Open} → j < length rows → Trail j gs → Occurs j (still_open (depth_at rows j) gs) → Followed j (ahead (suc j) (begun j (row_at rows j) ∷ still_open (depth_at rows j) gs) (drop (suc j) rows))
  followed_occurs {j} {gs} l k c = ((λ q. (there q, back q)), tags)
    where
      tags : (t : List Open) → Memᴰ t (ahead (suc j) (begun j (row_at rows j) ∷ still_open (depth_at rows j) gs) (drop (suc j) rows)) → tag_of t ≡ (row_at rows (row_of t)).tag
      tags t m = state_tag t (found rows K (drop (suc j) rows) (suc j) refl (begun j (row_at rows j) ∷ still_open (depth_at rows j) gs) t m) (nested-begun rows (still-nested (depth_at rows j) j gs k.nested) c.0 c.1)

      there : (q : ℕ) → (t : List Open) × Memᴰ t (ahead (suc j) (begun j (row_at rows j) ∷ still_open (depth_at rows j) gs) (drop (suc j) rows)) × (row_of t ≡ q) → RowFollows rows j q
      there q (t, m, e) = subst (RowFollows rows j) e (found_follows l k c t (found rows K (drop (suc j) rows) (suc j) refl (begun j (row_at rows j) ∷ still_open (depth_at rows j) gs) t m))

      back : (q : ℕ) → RowFollows rows j q → (t : List Open) × Memᴰ t (ahead (suc j) (begun j (row_at rows j) ∷ still_open (depth_at rows j) gs) (drop (suc j) rows)) × (row_of t ≡ q)
      back q f =
          let (o, fs, t, n, e, a, x) = follows_state j q f in
          let (u, b, y) = lighter_step a (top_occurs o fs k n e).1 in
          (u, finds rows K b, y ∙ x)

  followed_never : {j : ℕ} {gs : List Open} → Trail j gs → (Occurs j (still_open (depth_at rows j) gs) → ⊥) → Followed j []
  followed_never {j} k no_way = ((λ q. ((λ x. absurd (Memᴰ.not-nil x.1)), λ f. let (o, fs, t, n, e, a, x) = follows_state j q f in absurd (no_way (top_occurs o fs k n e).0))), λ t m. absurd (Memᴰ.not-nil m))

  abbrev FollowedAll : ℕ → List (List (List Open)) → Type 0
  FollowedAll j tss = (i : ℕ) → j + i < length rows → Followed (j + i) (get_or tss i [])

  followed_cons : (j : ℕ) (ts : List (List Open)) (tss : List (List (List Open))) → Followed j ts → FollowedAll (suc j) tss → FollowedAll j (ts ∷ tss)
  followed_cons j ts tss a b zero l = subst (λ (k : ℕ). Followed k ts) (sym (add-zero j)) a
  followed_cons j ts tss a b (suc i) l = let e : suc j + i ≡ j + suc i = omega arith in subst (λ (k : ℕ). Followed k (get_or tss i [])) e (b i (omega arith))

  followed_either : (j : ℕ) (b : Bool) (ts : List (List Open)) (tss uss : List (List (List Open))) → (b ≡ true → Followed j ts × FollowedAll (suc j) tss) → (b ≡ false → Followed j [] × FollowedAll (suc j) uss) → FollowedAll j (cond b (ts ∷ tss) ([] ∷ uss))
  followed_either j true ts tss uss a c = followed_cons j ts tss (a refl).0 (a refl).1
  followed_either j false ts tss uss a c = followed_cons j [] uss (c refl).0 (c refl).1

  -- the lists of the rows from j on, by whether row j can occur
  row_first : (j : ℕ) (gs : List Open) → j < length rows → Trail j gs →
      (Trail (suc j) (begun j (row_at rows j) ∷ still_open (depth_at rows j) gs) → FollowedAll (suc j) (successors_from (suc j) (begun j (row_at rows j) ∷ still_open (depth_at rows j) gs) (drop (suc j) rows))) →
      (Trail (suc j) (still_open (depth_at rows j) gs) → FollowedAll (suc j) (successors_from (suc j) (still_open (depth_at rows j) gs) (drop (suc j) rows))) →
      FollowedAll j (successors_from j gs (row_at rows j ∷ drop (suc j) rows))
  unfolding depth_at
  row_first j gs l k yes_way no_way =
      let hs : List Open = still_open (depth_at rows j) gs in
      followed_either j (occurs_test j hs) (ahead (suc j) (begun j (row_at rows j) ∷ hs) (drop (suc j) rows)) (successors_from (suc j) (begun j (row_at rows j) ∷ hs) (drop (suc j) rows)) (successors_from (suc j) hs (drop (suc j) rows))
      (λ e. (followed_occurs l k (occurs_true j hs e), yes_way (trail_occurs l k (occurs_true j hs e))))
      (λ e. (followed_never k (occurs_false j hs e), no_way (trail_passes l k (occurs_false j hs e))))

  followed_from : (n j : ℕ) → length rows ≡ j + n → (gs : List Open) → Trail j gs → FollowedAll j (successors_from j gs (drop j rows))
  followed_from zero j e gs k = λ i l. absurd (omega arith)
  followed_from (suc n) j e gs k =
      let l : j < length rows = omega arith in
      subst (λ (rs : List Row). FollowedAll j (successors_from j gs rs)) (sym (rows_from rows j l))
      (row_first j gs l k (followed_from n (suc j) (omega arith) (begun j (row_at rows j) ∷ still_open (depth_at rows j) gs)) (followed_from n (suc j) (omega arith) (still_open (depth_at rows j) gs)))

  -- only the diagram's rows have successors
  row_followed : (p q : ℕ) → RowFollows rows p q → p < length rows
  row_followed p q f = let (o, fs, t, n, e, a, x) = follows_state p q f in omega (arith, number_in rows K (sound rows n))

  length-followers : (rs : List Row) (j : ℕ) (gs : List Open) → length (successors_from j gs rs) ≡ length rs
  length-followers [] j gs = refl
  length-followers (r ∷ rs) j gs = at (eqb (depth r) (within (still_open (depth r) gs)) && leb 1 r.limit) (length-followers rs (suc j) (begun j r ∷ still_open (depth r) gs)) (length-followers rs (suc j) (still_open (depth r) gs))
    where
      at : (b : Bool) → length (successors_from (suc j) (begun j r ∷ still_open (depth r) gs) rs) ≡ length rs → length (successors_from (suc j) (still_open (depth r) gs) rs) ≡ length rs →
          length (cond b (ahead (suc j) (begun j r ∷ still_open (depth r) gs) rs ∷ successors_from (suc j) (begun j r ∷ still_open (depth r) gs) rs) ([] ∷ successors_from (suc j) (still_open (depth r) gs) rs)) ≡ suc (length rs)
      at true a b = ap suc a
      at false a b = ap suc b

  -- the rows that the computation gives for row p are those that can follow it
  pub followers_exact : (p : ℕ) → Followed p (get_or (successors rows) p [])
  followers_exact p = at (dec_lt p (length rows))
    where
      at : Dec (p < length rows) → Followed p (get_or (successors rows) p [])
      at (yes l) = subst (λ (k : ℕ). Followed k (get_or (successors rows) p [])) (zero-add p) (followed_from (length rows) 0 (sym (zero-add (length rows))) [] trail_start p (omega arith))
      at (no l) =
          let none-there : get_or (successors rows) p [] ≡ [] = get_or-eq_default (successors rows) [] (omega (arith, length-followers rows 0 [])) in
          subst (Followed p) (sym none-there) ((λ q. ((λ x. absurd (Memᴰ.not-nil x.1)), λ f. absurd (l (row_followed p q f)))), λ t m. absurd (Memᴰ.not-nil m))

-- The test that is computed

differ_same : (s t : List Open) → differ s t ≡ true → tag_of s ≡ tag_of t → row_of s ≡ row_of t
differ_same s t h e = at (or_cases (eqb (row_of s) (row_of t)) (not (bytes_eq (tag_of s) (tag_of t))) h)
  where
    at : (eqb (row_of s) (row_of t) ≡ true) ⊎ (not (bytes_eq (tag_of s) (tag_of t)) ≡ true) → row_of s ≡ row_of t
    at (inl x) = eqb-true (row_of s) (row_of t) x
    at (inr x) = absurd (both_ways (bytes_eq (tag_of s) (tag_of t)) (not-true (bytes_eq (tag_of s) (tag_of t)) x) ((bytes_eq-Decides (tag_of s) (tag_of t)).1 e))

same-differ : (s t : List Open) → (tag_of s ≡ tag_of t → row_of s ≡ row_of t) → differ s t ≡ true
same-differ s t h = at (cases_Bool (bytes_eq (tag_of s) (tag_of t)))
  where
    at : (bytes_eq (tag_of s) (tag_of t) ≡ true) ⊎ (bytes_eq (tag_of s) (tag_of t) ≡ false) → differ s t ≡ true
    at (inl x) = or_left (eqb (row_of s) (row_of t)) (not (bytes_eq (tag_of s) (tag_of t))) (eq-eqb (row_of s) (row_of t) (h ((bytes_eq-Decides (tag_of s) (tag_of t)).0 x)))
    at (inr x) = or_right (eqb (row_of s) (row_of t)) (not (bytes_eq (tag_of s) (tag_of t))) (not_from_false (bytes_eq (tag_of s) (tag_of t)) x)

all_mem : {X : Type 0} (p : X → Bool) (xs : List X) {x : X} → all p xs ≡ true → Memᴰ x xs → p x ≡ true
all_mem p [] h m = absurd (Memᴰ.not-nil m)
all_mem p (y ∷ ys) {x} h m = at (Memᴰ.cases_cons m) (all_mem p ys (and_parts (p y) (all p ys) h).1)
  where
    at : (x ≡ y) ⊎ Memᴰ x ys → (Memᴰ x ys → p x ≡ true) → p x ≡ true
    at (inl e) r = ap p e ∙ (and_parts (p y) (all p ys) h).0
    at (inr n) r = r n

mem_all : {X : Type 0} (p : X → Bool) (xs : List X) → ((x : X) → Memᴰ x xs → p x ≡ true) → all p xs ≡ true
mem_all p [] h = refl
mem_all p (y ∷ ys) h = and_from (p y) (all p ys) (h y (Memᴰ.head refl)) (mem_all p ys (λ x m. h x (Memᴰ.tail m)))

all_get_d : {X : Type 0} (p : X → Bool) (xs : List X) (d : X) (i : ℕ) → all p xs ≡ true → p d ≡ true → p (get_or xs i d) ≡ true
all_get_d p [] d i h e = e
all_get_d p (x ∷ xs) d zero h e = (and_parts (p x) (all p xs) h).0
all_get_d p (x ∷ xs) d (suc i) h e = all_get_d p xs d i (and_parts (p x) (all p xs) h).1 e

get_d_all : {X : Type 0} (p : X → Bool) (xs : List X) (d : X) → ((i : ℕ) → p (get_or xs i d) ≡ true) → all p xs ≡ true
get_d_all p [] d h = refl
get_d_all p (x ∷ xs) d h = and_from (p x) (all p xs) (h 0) (get_d_all p xs d (λ i. h (suc i)))

-- no two states of one tag have different rows
abbrev Apart : List (List Open) → Type 0
Apart ts = (t u : List Open) → Memᴰ t ts → Memᴰ u ts → tag_of t ≡ tag_of u → row_of t ≡ row_of u

tags-apart : (ts : List (List Open)) → successor_tags_differ ts ≡ true → Apart ts
tags-apart [] h t u m n e = absurd (Memᴰ.not-nil m)
tags-apart (s ∷ ts) h t u m n e = at (Memᴰ.cases_cons m) (Memᴰ.cases_cons n) (tags-apart ts k.1 t u)
  where
    k : (all (differ s) ts ≡ true) × (successor_tags_differ ts ≡ true)
    k = and_parts (all (differ s) ts) (successor_tags_differ ts) h

    at : (t ≡ s) ⊎ Memᴰ t ts → (u ≡ s) ⊎ Memᴰ u ts → (Memᴰ t ts → Memᴰ u ts → tag_of t ≡ tag_of u → row_of t ≡ row_of u) → row_of t ≡ row_of u
    at (inl x) (inl y) r = ap row_of (x ∙ sym y)
    at (inl x) (inr y) r = ap row_of x ∙ differ_same s u (all_mem (differ s) ts k.0 y) (ap tag_of (sym x) ∙ e)
    at (inr x) (inl y) r = sym (differ_same s t (all_mem (differ s) ts k.0 x) (ap tag_of (sym y) ∙ sym e)) ∙ ap row_of (sym y)
    at (inr x) (inr y) r = r x y e

apart-tags : (ts : List (List Open)) → Apart ts → successor_tags_differ ts ≡ true
apart-tags [] h = refl
apart-tags (s ∷ ts) h =
    and_from (all (differ s) ts) (successor_tags_differ ts)
    (mem_all (differ s) ts (λ t m. same-differ s t (h s t (Memᴰ.head refl) (Memᴰ.tail m))))
    (apart-tags ts (λ t u m n e. h t u (Memᴰ.tail m) (Memᴰ.tail n) e))

module _ (rows : List Row) (K : RowRules rows) where
  pub test_clear : successors_differ rows ≡ true → ClearRows rows
  test_clear h p q r f g e =
      let (x, tags) = followers_exact rows K p in
      let (t, m, a) = (x q).1 f in
      let (u, n, b) = (x r).1 g in
      let same : tag_of t ≡ tag_of u = tags t m ∙ ap (λ (k : ℕ). (row_at rows k).tag) a ∙ e ∙ sym (tags u n ∙ ap (λ (k : ℕ). (row_at rows k).tag) b) in
      sym a ∙ tags-apart (get_or (successors rows) p []) (all_get_d successor_tags_differ (successors rows) [] p h refl) t u m n same ∙ b

  pub clear_test : ClearRows rows → successors_differ rows ≡ true
  clear_test h = get_d_all successor_tags_differ (successors rows) [] (λ p. let (x, tags) = followers_exact rows K p in
      apart-tags (get_or (successors rows) p []) (λ t u m n e. h p (row_of t) (row_of u) ((x (row_of t)).0 (t, m, refl)) ((x (row_of u)).0 (u, n, refl)) (sym (tags t m) ∙ e ∙ tags u n)))

  -- In a clear diagram tags have one placement

  header-depth : depth_at rows 0 ≡ 1
  header-depth = depth-plain rows 0 K.header.plain ∙ ap suc K.header.flat

  -- a message begins with the header's row
  first-row : (t : List Open) → Ahead rows 0 [] t → row_of t ≡ 0
  first-row t (first l h k) = refl
  first-row t (pass l h o a) = let z : (row_at rows 0).need ≡ Required = K.header.required in cc
  first-row t (skip l h a) = absurd (omega (arith, header-depth))

  first_seat : (q m : ℕ) (w : List Seat) → RowMessage rows (q # m ∷ w) → q ≡ 0
  first_seat q m w x =
      let (t, a, e, z) = comes rows K 0 [] bare (message_after rows K x) in
      sym (row_seat t e) ∙ first-row t a
    where
      row_seat : (t : List Open) → seat_at rows t ≡ q # m → row_of t ≡ q
      row_seat [] e = cc
      row_seat (o ∷ gs) e = cc

  same_row : {s : List Open} {u : List Seat} (q m r n : ℕ) (w x : List Seat) → ClearRows rows → Stands rows s u → RowMessage rows (u ++ (q # m ∷ w)) → RowMessage rows (u ++ (r # n ∷ x)) → (row_at rows q).tag ≡ (row_at rows r).tag → q ≡ r
  same_row q m r n w x c start f g e = first_seat q m w f ∙ sym (first_seat r n x g)
  same_row q m r n w x c (moved {o = o} {w = u} h k) f g e =
      c o.number q r (u, o.occurrence, m, w, rw (push rows K u (seat_of o) (q # m ∷ w)) at f) (u, o.occurrence, n, x, rw (push rows K u (seat_of o) (r # n ∷ x)) at g) e

  one_by_one : (w x : List Seat) (v y : List Seat) {s : List Open} {u : List Seat} → ClearRows rows → Stands rows s u → RowMessage rows (u ++ (w ++ v)) → RowMessage rows (u ++ (x ++ y)) → tags_of rows w ≡ tags_of rows x → w ≡ x
  one_by_one [] [] v y c h f g e = refl
  one_by_one [] (r # n ∷ x) v y c h f g e = cc
  one_by_one (q # m ∷ w) [] v y c h f g e = cc
  one_by_one (q # m ∷ w) (r # n ∷ x) v y {s} {u} c h f g e =
      let tag : (row_at rows q).tag ≡ (row_at rows r).tag = cc in
      let tags : tags_of rows w ≡ tags_of rows x = cc in
      let row : q ≡ r = same_row q m r n (w ++ v) (x ++ y) c h f g tag in
      let a : MayCome rows u q m = (w ++ v, rw (push rows K u (q # m) (w ++ v)) f) in
      let b : MayCome rows u r n = (x ++ y, rw (push rows K u (r # n) (x ++ y)) g) in
      let times : m ≡ n = one_occurrence rows K r m n h (subst (λ (k : ℕ). MayCome rows u k m) row a) b in
      let seat : q # m ≡ r # n = cc in
      let (o, gs, k, z) = begins-found rows K {x = q # m} h a in
      let t : Stands rows (o ∷ gs) (u ++ (q # m ∷ [])) = subst (λ (p : Seat). Stands rows (o ∷ gs) (u ++ (p ∷ []))) z (moved h k) in
      let g' : RowMessage rows ((u ++ (q # m ∷ [])) ++ (x ++ y)) = subst (λ (p : Seat). RowMessage rows ((u ++ (p ∷ [])) ++ (x ++ y))) (sym seat) b.1 in
      let rest : w ≡ x = one_by_one w x v y c t a.1 g' tags in
      cc

  pub one_placement : ClearRows rows → (w x v y : List Seat) → RowMessage rows (w ++ v) → RowMessage rows (x ++ y) → tags_of rows w ≡ tags_of rows x → w ≡ x
  one_placement c w x v y f g e = one_by_one w x v y c start f g e
