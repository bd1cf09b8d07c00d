-- What the calls of a walk rest on.
use Rattle.std.proofs.Common.{◌≡◌, ℕ, suc, ◌<◌, ◌≤◌, Bool, true, eqb, ◌↔◌, List, [], ◌∷◌, ◌++◌, length, take, MatchOption, IsSomeAnd, Some, None, Option, sym, refl, ap, ◌∙◌, subst, ⊎_elim, append-nil, arith}
use Rattle.std.proofs.lemmas.Bool.{eqb-true, eq-eqb}
use Rattle.std.proofs.lemmas.List.{length-reverse, length-take-le}
use Rattle.std.specs.Option.{option_map}
use Rattle.message.specs.declared.row.Row.{Row}
use Rattle.message.specs.declared.open.Open.{Open}
use Rattle.message.specs.declared.open.Next.{Next}
use Rattle.message.specs.Rows.{Seat, ◌#◌, RowMessage, RowRules}
use Rattle.message.specs.declared.walk.Walk.{Walk}
use Rattle.message.specs.Walk.{within, position, next, Stands, start, Answered}
use Rattle.message.specs.Walking.{seats_of, StandsAfter, Asks, Offers, Completes}
use Rattle.message.specs.Searching.{state_of, leads_to, answer_of}
use Rattle.message.proofs.Levels.{kind, depth_at, kind_cases, depth-plain, depth_trigger}
use Rattle.message.proofs.Afters.{Nested, sound, under, depth_of_lem}
use Rattle.message.proofs.Completions.{number_in}
use Rattle.message.proofs.Standings.{stands-nested, answered_none, answered_some, message_at_end, end_message}
use Rattle.message.proofs.Searches.{state_of_last}

module _ (rows : List Row) (K : RowRules rows) where
  -- as many rows are open as the innermost is deep

  nested-depth : {j : ℕ} (gs : List Open) → Nested rows j gs → within gs ≡ suc (length gs)
  nested-depth [] n = refl
  nested-depth (o ∷ gs) n = ap suc ((sound rows n).part ∙ nested-depth gs (under rows n))

  depth-few : (j : ℕ) → j < length rows → depth_at rows j ≤ 8
  depth-few j h = ⊎_elim (λ e. omega (arith, depth-plain rows j e, (K.each j h).deep)) (λ e. omega (arith, depth_trigger rows j e, (K.each j h).deep)) (kind_cases (kind rows j))

  pub stands-few : (s : List Open) {w : List Seat} → Stands rows s w → length s ≤ 8
  stands-few [] h = omega arith
  stands-few (o ∷ gs) h =
      let n = stands-nested rows K h in
      let s = sound rows n in
      omega (arith, nested-depth gs (under rows n), s.part, depth_of_lem rows o.row o.number s.row, depth-few o.number (number_in rows K s))

  module _ (held : List Open) (tag : List ℕ) where
    -- a row that is found has room
    pub found_room : (n : Next) (w : List Seat) → Stands rows (state_of held) w → Some (leads_to held n) ≡ next rows tag (state_of held) → n.under ≤ length held → 8 ≤ n.under → ⊥
    found_room n w h e within full =
        let t = (answered_some rows K (state_of held) w tag n.opened (state_of (take n.under held)) h (sym e)).1 in
        omega (arith, stands-few (leads_to held n) t, length-reverse (take n.under held), length-take-le n.under held within)

    pub asked : (found : Option Next) → option_map (leads_to held) found ≡ next rows tag (state_of held) → (w : List Seat) → Stands rows (state_of held) w → Answered rows w tag (option_map answer_of found)
    asked None e w h = answered_none rows K (state_of held) w tag h (sym e)
    asked (Some n) e w h = (answered_some rows K (state_of held) w tag n.opened (state_of (take n.under held)) h (sym e)).0

    -- a row that is found and placed
    pub placed : (n : Next) (held' : List Open) → Some (leads_to held n) ≡ next rows tag (state_of held) → held' ≡ take n.under held ++ n.opened ∷ [] →
        (w : List Seat) → Stands rows (state_of held) w → Stands rows (state_of held') (w ++ (n.opened.number # n.opened.occurrence ∷ []))
    placed n held' e eh w h =
        subst (λ (x : List Open). Stands rows x (w ++ (n.opened.number # n.opened.occurrence ∷ []))) (sym (state_of_last held' (take n.under held) n.opened eh)) (answered_some rows K (state_of held) w tag n.opened (state_of (take n.under held)) h (sym e)).1

  -- the last row has come exactly where the rows that have come are a message
  pub completes : (s : List Open) (b : Bool) → b ≡ eqb (position s) (length rows) → (w : List Seat) → Stands rows s w → (b ≡ true) ↔ RowMessage rows w
  completes s b e w h = ((λ t. end_message rows K h (eqb-true (position s) (length rows) (sym e ∙ t))), λ m. e ∙ eq-eqb (position s) (length rows) (message_at_end rows K h m))

-- The calls

module _ {D : Type 0} (rows_of : D → List Row) (k : Walk D) (K : RowRules (rows_of k.diagram.now)) where
  pub begun_nowhere : k.held.items ≡ [] → StandsAfter rows_of k []
  begun_nowhere e = subst (λ (xs : List Open). Stands (rows_of k.diagram.now) (state_of xs) []) (sym e) start

  pub asks : (tag : List ℕ) (found : Option Next) (a : Option (ℕ × ℕ)) → option_map (leads_to k.held.items) found ≡ next (rows_of k.diagram.now) tag (state_of k.held.items) → a ≡ option_map answer_of found → Asks rows_of k tag a
  unfolding Asks
  asks tag found a e f w h = rw f (asked (rows_of k.diagram.now) K k.held.items tag found e w h)

  pub asks_mapped : (tag : List ℕ) (found : Option Next) (a : Option (ℕ × ℕ)) → option_map (leads_to k.held.items) found ≡ next (rows_of k.diagram.now) tag (state_of k.held.items) → MatchOption found (a ≡ None) (λ n. IsSomeAnd a (λ r. r ≡ answer_of n)) → Asks rows_of k tag a
  asks_mapped tag None a e h = asks tag None a e h
  asks_mapped tag (Some n) None e h = elim h [ ]
  asks_mapped tag (Some n) (Some r) e h = asks tag (Some n) (Some r) e (ap Some h)

  -- nothing is found
  pub offers_none : (tag : List ℕ) (found : Option Next) (a : Option (ℕ × ℕ)) → option_map (leads_to k.held.items) found ≡ next (rows_of k.diagram.now) tag (state_of k.held.items) → found ≡ None → a ≡ None → Offers rows_of k k tag a
  offers_none tag found a e f n = record {
    over = refl;
    answer = asks tag found a e (n ∙ ap (option_map answer_of) (sym f));
    stands = λ w h. subst (λ (b : Option (ℕ × ℕ)). StandsAfter rows_of k (w ++ seats_of b)) (sym n) (rw (append-nil w) h);
    kept = λ _. refl;
  }

  -- what is found has no room, which doesn't happen on a walk that stands anywhere
  pub offers_full : (tag : List ℕ) (found : Option Next) (n : Next) (l : Walk D) (a : Option (ℕ × ℕ)) → option_map (leads_to k.held.items) found ≡ next (rows_of k.diagram.now) tag (state_of k.held.items) → found ≡ Some n → n.under ≤ length k.held.items → 8 ≤ n.under → l ≡ k → Offers rows_of k l tag a
  unfolding Asks
  offers_full tag found n l a e' f within full same =
      let e : Some (leads_to k.held.items n) ≡ next (rows_of k.diagram.now) tag (state_of k.held.items) = ap (option_map (leads_to k.held.items)) (sym f) ∙ e' in
      let never : (w : List Seat) → StandsAfter rows_of k w → ⊥ = λ w h. found_room (rows_of k.diagram.now) K k.held.items tag n w h e within full in
      record { over = ap (λ (x : Walk D). x.diagram) same; answer = λ w h. absurd (never w h); stands = λ w h. absurd (never w h); kept = λ _. same }

  pub offers_some : (tag : List ℕ) (found : Option Next) (n : Next) (l : Walk D) (r : ℕ × ℕ) → option_map (leads_to k.held.items) found ≡ next (rows_of k.diagram.now) tag (state_of k.held.items) → found ≡ Some n →
      l.held.items ≡ take n.under k.held.items ++ n.opened ∷ [] → l.diagram ≡ k.diagram → r ≡ answer_of n →
      Offers rows_of k l tag (Some r)
  offers_some tag found n l r e' f eh same er =
      let e : Some (leads_to k.held.items n) ≡ next (rows_of k.diagram.now) tag (state_of k.held.items) = ap (option_map (leads_to k.held.items)) (sym f) ∙ e' in
      record {
        over = same;
        answer = asks tag (Some n) (Some r) e (ap Some er);
        stands = λ w h. subst (λ (b : ℕ × ℕ). StandsAfter rows_of l (w ++ seats_of (Some b))) (sym er)
            (subst (λ (rows : List Row). Stands rows (state_of l.held.items) (w ++ (n.opened.number # n.opened.occurrence ∷ []))) (sym (ap (λ d. rows_of d.now) same))
            (placed (rows_of k.diagram.now) K k.held.items tag n l.held.items e eh w h));
        kept = λ z. cc;
      }

  pub completes_walk : (b : Bool) → b ≡ eqb (position (state_of k.held.items)) (length (rows_of k.diagram.now)) → Completes rows_of k b
  unfolding Completes
  completes_walk b e w h = completes (rows_of k.diagram.now) K (state_of k.held.items) b e w h
