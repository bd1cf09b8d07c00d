-- What the search for the next row rests on.
use Rattle.std.proofs.Common.{◌≡◌, ℕ, suc, ◌+◌, ◌<◌, ◌≤◌, min, Bool, true, false, cond, not, ◌&&◌, ltb, leb, List, [], ◌∷◌, ◌++◌, length, take, drop, IfSome, Some, None, Option, sym, refl, ap, ◌∙◌, subst, inl, inr, add-one, append_assoc, append-nil, length-append, arith}
use Rattle.std.specs.List.{slice_get, IsLastAndRest}
use Rattle.std.proofs.Math.Seq.{take-append_seam, drop-cons}
use Rattle.std.proofs.lemmas.Option.{slice_get_within, get_or_from_slice_get, slice_get_cases}
use Rattle.std.proofs.lemmas.Bool.{cond_both, cond-true, cond-false, cases_lt, lt-ltb, le-ltb}
use Rattle.std.proofs.lemmas.List.{drop_all, reverse-append, take-append-le, nil_from_length}
use Rattle.std.proofs.lemmas.Bool.Decides.{nat_tests}
use Rattle.std.specs.Option.{option_map}
use Rattle.message.specs.declared.row.Row.{Row}
use Rattle.message.specs.declared.open.Open.{Open}
use Rattle.message.specs.declared.open.Next.{Next}
use Rattle.message.specs.Walk.{depth, within, begun, repeated, may_repeat, has_tag, ends_at, still_open, come_again, of_tag, lower, lowest, with_if, ahead, position, next}
use Rattle.message.specs.RowTests.{is_required}
use Rattle.message.specs.Searching.{state_of, leads_to, again_if, first_if, lower_next, Finds, Closes}

-- the lower of two, as an operation

pub lower-none : (a : Option (List Open)) → lower a None ≡ a
lower-none None = refl
lower-none (Some s) = refl

pub lower_assoc : (a b c : Option (List Open)) → lower (lower a b) c ≡ lower a (lower b c)
lower_assoc None b c = refl
lower_assoc (Some s) None c = refl
lower_assoc (Some s) (Some t) None = lower-none (lower (Some s) (Some t))
lower_assoc (Some s) (Some t) (Some u) = grind (arith, nat_tests)

pub lowest-++ : (tag : List ℕ) (ss ts : List (List Open)) → lowest tag (ss ++ ts) ≡ lower (lowest tag ss) (lowest tag ts)
lowest-++ tag [] ts = refl
lowest-++ tag (s ∷ ss) ts = ap (lower (of_tag tag s)) (lowest-++ tag ss ts) ∙ sym (lower_assoc (of_tag tag s) (lowest tag ss) (lowest tag ts))

pub lowest-with_if : (tag : List ℕ) (b : Bool) (s : List Open) (ss : List (List Open)) → lowest tag (with_if b s ss) ≡ lower (cond b (of_tag tag s) None) (lowest tag ss)
lowest-with_if tag true s ss = refl
lowest-with_if tag false s ss = refl

pub mapped_cond : {X Y : Type 0} (f : X → Y) (b : Bool) (x y : Option X) → option_map f (cond b x y) ≡ cond b (option_map f x) (option_map f y)
mapped_cond f true x y = refl
mapped_cond f false x y = refl

-- what the leaf functions find, as states

pub mapped_lower : (held : List Open) (a b : Option Next) → option_map (leads_to held) (lower_next a b) ≡ lower (option_map (leads_to held) a) (option_map (leads_to held) b)
mapped_lower held None b = refl
mapped_lower held (Some m) None = refl
mapped_lower held (Some m) (Some n) = mapped_cond (leads_to held) (ltb n.opened.number m.opened.number) (Some n) (Some m)

mapped_both : (held : List Open) (tag : List ℕ) (n : Next) (b t : Bool) → option_map (leads_to held) (cond (b && t) (Some n) None) ≡ cond b (cond t (Some (leads_to held n)) None) None
mapped_both held tag n true true = refl
mapped_both held tag n true false = refl
mapped_both held tag n false true = refl
mapped_both held tag n false false = refl

pub mapped_again : (held : List Open) (tag : List ℕ) (o : Open) (k : ℕ) → option_map (leads_to held) (again_if tag o k) ≡ cond (may_repeat o) (of_tag tag (repeated o ∷ state_of (take k held))) None
mapped_again held tag o k = mapped_both held tag (record { opened = repeated o; under = k }) (may_repeat o) (has_tag tag o.row)

pub mapped_first : (held : List Open) (tag : List ℕ) (j : ℕ) (r : Row) (k : ℕ) → option_map (leads_to held) (first_if tag j r k) ≡ cond (leb 1 r.limit) (of_tag tag (begun j r ∷ state_of (take k held))) None
mapped_first held tag j r k = mapped_both held tag (record { opened = begun j r; under = k }) (leb 1 r.limit) (has_tag tag r)

-- a table from its end

pub state_of_last : (xs rest : List Open) (o : Open) → xs ≡ rest ++ (o ∷ []) → state_of xs ≡ o ∷ state_of rest
state_of_last xs rest o e = ap state_of e ∙ reverse-append rest (o ∷ [])

lower-within : (held : List Open) (a b : Option Next) → IfSome a (λ n. n.under ≤ length held) → IfSome b (λ n. n.under ≤ length held) → IfSome (lower_next a b) (λ n. n.under ≤ length held)
lower-within held None b ha hb = hb
lower-within held (Some m) None ha hb = ha
lower-within held (Some m) (Some n) ha hb = cond_both (ltb n.opened.number m.opened.number) (Some n) (Some m) (λ r. IfSome r (λ n. n.under ≤ length held)) (λ _. hb) (λ _. ha)

if-within : (b : Bool) (held : List Open) (n : Next) → n.under ≤ length held → IfSome (cond b (Some n) None) (λ n. n.under ≤ length held)
if-within true held n h = h
if-within false held n h = tt

-- what the loop of `close` keeps: with what is left to end, it gives what it began with. The check finds the lemmas on its begin and its ends by itself.
module _ (held : List Open) (d : ℕ) (tag : List ℕ) (best : Option Next) where
  pub record Closing (open' : List Open) (now : Option Next) : Type 0 where
    pub part : (ended : List Open) × (held ≡ open' ++ ended)
    pub still : still_open d (state_of open') ≡ still_open d (state_of held)
    pub found : (whole more : List Open) → whole ≡ held ++ more → lower (option_map (leads_to whole) now) (lowest tag (come_again d (state_of open'))) ≡ lower (option_map (leads_to whole) best) (lowest tag (come_again d (state_of held)))
    pub within : (whole more : List Open) → whole ≡ held ++ more → IfSome best (λ n. n.under ≤ length whole) → IfSome now (λ n. n.under ≤ length whole)

  pub closing_start : Closing held best
  closing_start = record { part = ([], sym (append-nil held)); still = refl; found = λ whole more e. refl; within = λ whole more e w. w }

  pub closing_step : (open' outer : List Open) (o : Open) (now a now' : Option Next) (e : Bool) → Closing open' now → IsLastAndRest open' o outer → e ≡ ends_at d o → e ≡ true → a ≡ again_if tag o (length outer) → now' ≡ lower_next now a → Closing outer now'
  closing_step open' outer o now a now' e h last ends t ea eb = record { part = (o ∷ h.part.0, all); still = still; found = found; within = within }
    where
      yes : ends_at d o ≡ true
      yes = sym ends ∙ t

      all : held ≡ outer ++ (o ∷ h.part.0)
      all = h.part.1 ∙ ap (λ (xs : List Open). xs ++ h.part.0) last.0 ∙ append_assoc outer (o ∷ []) h.part.0

      -- the rows in front of `o` are the first of the whole
      front : (whole more : List Open) → whole ≡ held ++ more → whole ≡ outer ++ (o ∷ (h.part.0 ++ more))
      front whole more w = w ∙ ap (λ (xs : List Open). xs ++ more) all ∙ append_assoc outer (o ∷ h.part.0) more

      at : state_of open' ≡ o ∷ state_of outer
      at = state_of_last open' outer o last.0

      still : still_open d (state_of outer) ≡ still_open d (state_of held)
      still = sym (ap (still_open d) at ∙ cond-true (ends_at d o) (still_open d (state_of outer)) (o ∷ state_of outer) yes) ∙ h.still

      F : Option (List Open)
      F = cond (may_repeat o) (of_tag tag (repeated o ∷ state_of outer)) None

      mine : (whole more : List Open) → whole ≡ held ++ more → option_map (leads_to whole) a ≡ F
      mine whole more w = ap (option_map (leads_to whole)) ea ∙ mapped_again whole tag o (length outer) ∙ ap (λ (xs : List Open). cond (may_repeat o) (of_tag tag (repeated o ∷ state_of xs)) None) (ap (take (length outer)) (front whole more w) ∙ take-append_seam outer (o ∷ (h.part.0 ++ more)))

      new : (whole more : List Open) → whole ≡ held ++ more → option_map (leads_to whole) now' ≡ lower (option_map (leads_to whole) now) F
      new whole more w = ap (option_map (leads_to whole)) eb ∙ mapped_lower whole now a ∙ ap (lower (option_map (leads_to whole) now)) (mine whole more w)

      old : lowest tag (come_again d (state_of open')) ≡ lower F (lowest tag (come_again d (state_of outer)))
      old =
          ap (λ (s : List Open). lowest tag (come_again d s)) at
          ∙ ap (lowest tag) (cond-true (ends_at d o) (with_if (may_repeat o) (repeated o ∷ state_of outer) (come_again d (state_of outer))) [] yes)
          ∙ lowest-with_if tag (may_repeat o) (repeated o ∷ state_of outer) (come_again d (state_of outer))

      found : (whole more : List Open) → whole ≡ held ++ more → lower (option_map (leads_to whole) now') (lowest tag (come_again d (state_of outer))) ≡ lower (option_map (leads_to whole) best) (lowest tag (come_again d (state_of held)))
      found whole more w =
          ap (λ (x : Option (List Open)). lower x (lowest tag (come_again d (state_of outer)))) (new whole more w)
          ∙ lower_assoc (option_map (leads_to whole) now) F (lowest tag (come_again d (state_of outer)))
          ∙ ap (lower (option_map (leads_to whole) now)) (sym old)
          ∙ h.found whole more w

      within : (whole more : List Open) → whole ≡ held ++ more → IfSome best (λ n. n.under ≤ length whole) → IfSome now' (λ n. n.under ≤ length whole)
      within whole more w b = subst (λ (r : Option Next). IfSome r (λ n. n.under ≤ length whole)) (sym eb) (lower-within whole now a (h.within whole more w b) (subst (λ (r : Option Next). IfSome r (λ n. n.under ≤ length whole)) (sym ea) (if-within (may_repeat o && has_tag tag o.row) whole (record { opened = repeated o; under = length outer }) (omega (arith, ap length (front whole more w), length-append outer (o ∷ (h.part.0 ++ more)))))))

  pub closing_none : (open' : List Open) (now : Option Next) → Closing open' now → length open' ≡ 0 → Closes held d tag best open' now
  closing_none open' now h z = record { part = h.part; still = none_still ∙ h.still; found = λ whole more w b. record { state = sym (lower-none (option_map (leads_to whole) now)) ∙ ap (lower (option_map (leads_to whole) now)) none_found ∙ h.found whole more w; within = h.within whole more w b } }
    where
      none : state_of open' ≡ []
      none = ap state_of (nil_from_length open' z)

      none_still : state_of open' ≡ still_open d (state_of open')
      none_still = none ∙ sym (ap (still_open d) none)

      none_found : None ≡ lowest tag (come_again d (state_of open'))
      none_found = sym (ap (λ (s : List Open). lowest tag (come_again d s)) none)

  pub closing_stay : (open' outer : List Open) (o : Open) (now : Option Next) (e : Bool) → Closing open' now → IsLastAndRest open' o outer → e ≡ ends_at d o → e ≡ false → Closes held d tag best open' now
  closing_stay open' outer o now e h last ends f = record { part = h.part; still = still; found = λ whole more w b. record { state = found whole more w; within = h.within whole more w b } }
    where
      no : ends_at d o ≡ false
      no = sym ends ∙ f

      at : state_of open' ≡ o ∷ state_of outer
      at = state_of_last open' outer o last.0

      still : state_of open' ≡ still_open d (state_of held)
      still = at ∙ sym (ap (still_open d) at ∙ cond-false (ends_at d o) (still_open d (state_of outer)) (o ∷ state_of outer) no) ∙ h.still

      found : (whole more : List Open) → whole ≡ held ++ more → option_map (leads_to whole) now ≡ lower (option_map (leads_to whole) best) (lowest tag (come_again d (state_of held)))
      found whole more w =
          sym (lower-none (option_map (leads_to whole) now))
          ∙ ap (lower (option_map (leads_to whole) now)) (sym (ap (λ (s : List Open). lowest tag (come_again d s)) at ∙ ap (lowest tag) (cond-false (ends_at d o) (with_if (may_repeat o) (repeated o ∷ state_of outer) (come_again d (state_of outer))) [] no)))
          ∙ h.found whole more w

-- rows by their number

pub drop_at_nth : {X : Type 0} (xs : List X) (i : ℕ) (x : X) → Some x ≡ slice_get xs i → drop i xs ≡ x ∷ drop (suc i) xs
drop_at_nth xs i x e = drop-cons xs i x (slice_get_within xs i x (sym e)) ∙ ap (λ y. y ∷ drop (suc i) xs) (get_or_from_slice_get xs i x x (sym e))

-- what the loop of `search` keeps: with the rows that are left, it gives what is sought. The check finds the lemmas on its begin and its end by itself.
module _ (rows : List Row) (tag : List ℕ) (held : List Open) where
  pub record Sought (number : ℕ) (open' : List Open) (best : Option Next) : Type 0 where
    pub part : (ended : List Open) × (held ≡ open' ++ ended)
    pub rest : lower (option_map (leads_to held) best) (lowest tag (ahead number (state_of open') (drop number rows))) ≡ next rows tag (state_of held)
    pub within : IfSome best (λ n. n.under ≤ length held)

  abbrev Found : Option Next → Type 0
  Found r = Finds held r (next rows tag (state_of held))

  found_on : (number : ℕ) (open' : List Open) (best : Option Next) → Sought number open' best → drop number rows ≡ [] → Found best
  found_on number open' best h e = record { state = sym (lower-none (option_map (leads_to held) best)) ∙ ap (λ (rs : List Row). lower (option_map (leads_to held) best) (lowest tag (ahead number (state_of open') rs))) (sym e) ∙ h.rest; within = h.within }

  pub sought_none : (number : ℕ) (open' : List Open) (best : Option Next) → Sought number open' best → None ≡ slice_get rows number → Found best
  sought_none number open' best h e = found_on number open' best h (elim ((slice_get_cases rows number).1) [
    | inl (x, l, s, r) ↦ cc
    | inr (l, s) ↦ drop_all number rows l
  ])

  pub sought_past : (number count : ℕ) (open' : List Open) (best : Option Next) → Sought number open' best → count ≡ length rows → count ≤ number → Found best
  sought_past number count open' best h e p = found_on number open' best h (drop_all number rows (omega arith))

  pub sought_start : (number count : ℕ) → count ≡ length rows → number ≡ min (position (state_of held)) count → Sought number held None
  sought_start number count ec at = record { part = ([], sym (append-nil held)); rest = rest; within = tt }
    where
      s : List Open
      s = state_of held

      rest : lowest tag (ahead number s (drop number rows)) ≡ lowest tag (ahead (position s) s (drop (position s) rows))
      rest = elim (cases_lt (position s) count) [
        | inl l ↦ let e : number ≡ position s = omega (arith, at) in ap (λ (n : ℕ). lowest tag (ahead n s (drop n rows))) e
        | inr g ↦ ap (λ (rs : List Row). lowest tag (ahead number s rs)) (drop_all number rows (omega (arith, at))) ∙ sym (ap (λ (rs : List Row). lowest tag (ahead (position s) s rs)) (drop_all (position s) rows (omega arith)))
      ]

  -- the states from row j on, where the open rows that end before it are ended
  abbrev Behind : ℕ → List Open → Row → List Row → List (List Open)
  Behind j hs r rs = cond (ltb (within hs) (depth r)) (ahead (suc j) hs rs) (with_if (leb 1 r.limit) (begun j r ∷ hs) (cond (is_required r.need) [] (ahead (suc j) hs rs)))

  -- where the open rows that end before row `number` are ended
  record Closed (number : ℕ) (row : Row) (open' : List Open) (best : Option Next) : Type 0 where
    part : (ended : List Open) × (held ≡ open' ++ ended)
    rest : lower (option_map (leads_to held) best) (lowest tag (Behind number (state_of open') row (drop (suc number) rows))) ≡ next rows tag (state_of held)
    within : IfSome best (λ n. n.under ≤ length held)

  closed : (number : ℕ) (outer : List Open) (best : Option Next) (row : Row) (d : ℕ) (open' : List Open) (best' : Option Next) → Sought number outer best → Some row ≡ slice_get rows number → d ≡ depth row → Closes outer d tag best open' best' → Closed number row open' best'
  closed number outer best row d open' best' h e ed k = record { part = (k.part.0 ++ h.part.0, whole); rest = rest; within = finds.within }
    where
      rs : List Row
      rs = drop (suc number) rows

      gs : List Open
      gs = state_of outer

      B : Option (List Open)
      B = option_map (leads_to held) best

      whole : held ≡ open' ++ (k.part.0 ++ h.part.0)
      whole = h.part.1 ∙ ap (λ (xs : List Open). xs ++ h.part.0) k.part.1 ∙ append_assoc open' k.part.0 h.part.0

      finds : Finds held best' (lower B (lowest tag (come_again d gs)))
      finds = k.found held h.part.0 h.part.1 h.within

      rest : lower (option_map (leads_to held) best') (lowest tag (Behind number (state_of open') row rs)) ≡ next rows tag (state_of held)
      rest =
          ap (λ (x : Option (List Open)). lower x (lowest tag (Behind number (state_of open') row rs))) finds.state
          ∙ lower_assoc B (lowest tag (come_again d gs)) (lowest tag (Behind number (state_of open') row rs))
          ∙ ap (λ (hs : List Open). lower B (lower (lowest tag (come_again d gs)) (lowest tag (Behind number hs row rs)))) k.still
          ∙ ap (λ (n : ℕ). lower B (lower (lowest tag (come_again n gs)) (lowest tag (Behind number (still_open n gs) row rs)))) ed
          ∙ ap (lower B) (sym (lowest-++ tag (come_again (depth row) gs) (Behind number (still_open (depth row) gs) row rs)))
          ∙ ap (λ (qs : List Row). lower B (lowest tag (ahead number gs qs))) (sym (drop_at_nth rows number row e))
          ∙ h.rest

  -- past a row that stands deeper than the parts of what is still open
  pub sought_skip : (number : ℕ) (outer : List Open) (best : Option Next) (row : Row) (d : ℕ) (open' : List Open) (best' : Option Next) (w : ℕ) → Sought number outer best → Some row ≡ slice_get rows number → d ≡ depth row → Closes outer d tag best open' best' → w ≡ within (state_of open') → w < d → Sought (number + 1) open' best'
  sought_skip number outer best row d open' best' w h e ed k ew l = record { part = c.part; rest = rw add-one rest; within = c.within }
    where
      c : Closed number row open' best'
      c = closed number outer best row d open' best' h e ed k

      deeper : ltb (within (state_of open')) (depth row) ≡ true
      deeper = lt-ltb (within (state_of open')) (depth row) (omega arith)

      rest : lower (option_map (leads_to held) best') (lowest tag (ahead (suc number) (state_of open') (drop (suc number) rows))) ≡ next rows tag (state_of held)
      rest =
          ap (λ (ss : List (List Open)). lower (option_map (leads_to held) best') (lowest tag ss)) (sym (cond-true (ltb (within (state_of open')) (depth row)) (ahead (suc number) (state_of open') (drop (suc number) rows)) (with_if (leb 1 row.limit) (begun number row ∷ state_of open') (cond (is_required row.need) [] (ahead (suc number) (state_of open') (drop (suc number) rows)))) deeper))
          ∙ c.rest

  -- before a row that stands deeper than the parts of what is open, nothing of that ends
  closes_nothing : (open' : List Open) (best : Option Next) (d w : ℕ) → w ≡ within (state_of open') → w < d → Closes open' d tag best open' best
  closes_nothing open' best d w ew l = record { part = ([], sym (append-nil open')); still = still (state_of open') k; found = λ whole more e b. record { state = sym (lower-none (option_map (leads_to whole) best)) ∙ ap (lower (option_map (leads_to whole) best)) (found (state_of open') k); within = b } }
    where
      k : within (state_of open') < d
      k = omega arith

      stays : (o : Open) → suc (depth o.row) < d → ends_at d o ≡ false
      stays o m = ap not (lt-ltb (depth o.row) d (omega arith))

      still : (s : List Open) → within s < d → s ≡ still_open d s
      still [] m = refl
      still (o ∷ gs) m = sym (cond-false (ends_at d o) (still_open d gs) (o ∷ gs) (stays o m))

      found : (s : List Open) → within s < d → None ≡ lowest tag (come_again d s)
      found [] m = refl
      found (o ∷ gs) m = sym (ap (lowest tag) (cond-false (ends_at d o) (with_if (may_repeat o) (repeated o ∷ gs) (come_again d gs)) [] (stays o m)))

  -- past a row of a group that isn't open
  pub sought_inside : (number : ℕ) (open' : List Open) (best : Option Next) (row : Row) (d w : ℕ) → Sought number open' best → Some row ≡ slice_get rows number → d ≡ depth row → w ≡ within (state_of open') → w < d → Sought (number + 1) open' best
  sought_inside number open' best row d w h e ed ew l = sought_skip number open' best row d open' best w h e ed (closes_nothing open' best d w ew l) ew l

  -- at a row that may come
  pub record Reached (number : ℕ) (row : Row) (open' : List Open) (best : Option Next) : Type 0 where
    pub part : (ended : List Open) × (held ≡ open' ++ ended)
    pub rest : lower (option_map (leads_to held) best) (lowest tag (cond (is_required row.need) [] (ahead (suc number) (state_of open') (drop (suc number) rows)))) ≡ next rows tag (state_of held)
    pub within : IfSome best (λ n. n.under ≤ length held)

  pub reached : (number : ℕ) (outer : List Open) (best : Option Next) (row : Row) (d : ℕ) (open' : List Open) (best' : Option Next) (w : ℕ) (one best'' : Option Next) → Sought number outer best → Some row ≡ slice_get rows number → d ≡ depth row → Closes outer d tag best open' best' → w ≡ within (state_of open') → d ≤ w → one ≡ first_if tag number row (length open') → best'' ≡ lower_next best' one → Reached number row open' best''
  reached number outer best row d open' best' w one best'' s e ed k ew l e1 eb = record { part = h.part; rest = rest; within = within' }
    where
      h : Closed number row open' best'
      h = closed number outer best row d open' best' s e ed k

      later : List (List Open)
      later = ahead (suc number) (state_of open') (drop (suc number) rows)

      Y : Option (List Open)
      Y = lowest tag (cond (is_required row.need) [] later)

      F : Option (List Open)
      F = cond (leb 1 row.limit) (of_tag tag (begun number row ∷ state_of open')) None

      near : ltb (within (state_of open')) (depth row) ≡ false
      near = le-ltb (within (state_of open')) (depth row) (omega arith)

      mine : option_map (leads_to held) one ≡ F
      mine = ap (option_map (leads_to held)) e1 ∙ mapped_first held tag number row (length open') ∙ ap (λ (xs : List Open). cond (leb 1 row.limit) (of_tag tag (begun number row ∷ state_of xs)) None) (ap (take (length open')) h.part.1 ∙ take-append_seam open' h.part.0)

      new : option_map (leads_to held) best'' ≡ lower (option_map (leads_to held) best') F
      new = ap (option_map (leads_to held)) eb ∙ mapped_lower held best' one ∙ ap (lower (option_map (leads_to held) best')) mine

      rest : lower (option_map (leads_to held) best'') Y ≡ next rows tag (state_of held)
      rest =
          ap (λ (x : Option (List Open)). lower x Y) new
          ∙ lower_assoc (option_map (leads_to held) best') F Y
          ∙ ap (lower (option_map (leads_to held) best')) (sym (lowest-with_if tag (leb 1 row.limit) (begun number row ∷ state_of open') (cond (is_required row.need) [] later)))
          ∙ ap (λ (ss : List (List Open)). lower (option_map (leads_to held) best') (lowest tag ss)) (sym (cond-false (ltb (within (state_of open')) (depth row)) later (with_if (leb 1 row.limit) (begun number row ∷ state_of open') (cond (is_required row.need) [] later)) near))
          ∙ h.rest

      within' : IfSome best'' (λ n. n.under ≤ length held)
      within' = subst (λ (r : Option Next). IfSome r (λ n. n.under ≤ length held)) (sym eb) (lower-within held best' one h.within (subst (λ (r : Option Next). IfSome r (λ n. n.under ≤ length held)) (sym e1) (if-within (leb 1 row.limit && has_tag tag row) held (record { opened = begun number row; under = length open' }) (omega (arith, ap length h.part.1, length-append open' h.part.0)))))

  -- past a row that may come and may be left out
  pub sought_on : (number : ℕ) (open' : List Open) (best : Option Next) (row : Row) (q : Bool) → Reached number row open' best → q ≡ is_required row.need → q ≡ false → Sought (number + 1) open' best
  sought_on number open' best row q h eq f = record {
    part = h.part;
    rest = rw add-one (ap (λ (t : Bool). lower (option_map (leads_to held) best) (lowest tag (cond t [] (ahead (suc number) (state_of open') (drop (suc number) rows))))) (sym (sym eq ∙ f)) ∙ h.rest);
    within = h.within;
  }

  -- a required row ends the search
  pub sought_stop : (number : ℕ) (open' : List Open) (best : Option Next) (row : Row) (q : Bool) → Reached number row open' best → q ≡ is_required row.need → q ≡ true → Found best
  sought_stop number open' best row q h eq t = record {
    state =
        sym (lower-none (option_map (leads_to held) best))
        ∙ ap (λ (t : Bool). lower (option_map (leads_to held) best) (lowest tag (cond t [] (ahead (suc number) (state_of open') (drop (suc number) rows))))) (sym (sym eq ∙ t))
        ∙ h.rest;
    within = h.within;
  }
