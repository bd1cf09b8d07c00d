-- A text that cuts throughout is put together from the parts of its segments.
use Rattle.std.proofs.Common.{◌≡◌, ℕ, ◌+◌, ◌≤◌, Bool, true, false, eqb, List, [], ◌∷◌, ◌++◌, length, take, drop, Some, None, Ok, Err, Option, Result, sym, refl, ap, ◌∙◌, subst, arith}
use Rattle.std.proofs.lemmas.List.{append_assoc, length-take-le, nil_from_length, take-append-drop}
use Rattle.std.proofs.lemmas.Bool.{cond_both, cond-false, eqb-true}
use Rattle.syntax.specs.declared.fault.CutFault.{CutFault}
use Rattle.syntax.specs.declared.fault.CutFault.TheVariants.{BadHeader, ForbiddenByte, UnendedSegment}
use Rattle.syntax.specs.declared.marks.Marks.{Marks}
use Rattle.syntax.specs.Bytes.{allowed_run, break_run}
use Rattle.syntax.specs.Marks.{has_header, header_length, marks_of, body, lawful}
use Rattle.syntax.specs.Split.{split, join}
use Rattle.edifact.specs.Segments.{first_of, others_of, place_behind, holds_forbidden, judged, parts_of}
use Rattle.edifact.specs.Cutting.{Cut, Cutting, ended, stopped, pushed, cut_pieces, cut_from, leading_breaks, cut_with}
use Rattle.edifact.specs.Laws.{are_breaks, Written, AreWritten, segment_bytes, joined, cuts_of, Composed, cuts_as, JoinsBack}
use Rattle.syntax.proofs.Splits.{split-some, join-split}
use Rattle.syntax.proofs.Lawfulness.{lawful_distinct, marks-lawful}
use Rattle.edifact.proofs.Wholes.{closed, EndedClosed, no_mark, first-others, split-ended-closed}
use Rattle.edifact.proofs.Breaks.{skipped_breaks, break_run-within, ended_closed_skipped}
use Rattle.edifact.proofs.PartsWhole.{parts_join, part-whole}

stopped-fault : (f : CutFault) → (stopped f).fault ≡ None → ⊥
stopped-fault f e = grind arith

-- the last piece is empty
unended_faulty : (m : Marks) (k at : ℕ) (p : List ℕ) → (pushed m k at p (judged m k false p) ended).fault ≡ None → ⊥
unended_faulty m k at p =
    let f : CutFault = ForbiddenByte (place_behind m k (take (allowed_run p) p)) in
    let u : CutFault = UnendedSegment (place_behind m k p) in
    cond_both (holds_forbidden p) (Err f) (Err u) (λ v. (pushed m k at p v ended).fault ≡ None → ⊥)
    (λ _. stopped-fault f) (λ _. stopped-fault u)

last_empty : (m : Marks) (k at : ℕ) (p : List ℕ) → (cut_pieces m k at p []).fault ≡ None → length p ≡ 0
last_empty m k at p =
    cond_both (eqb (length p) 0) ended (pushed m k at p (judged m k false p) ended) (λ c. c.fault ≡ None → length p ≡ 0)
    (λ e _. eqb-true (length p) 0 e) (λ _ h. absurd (unended_faulty m k at p h))

-- each other piece is well cut
pushed_ok : (m : Marks) (k at : ℕ) (p : List ℕ) (v : Result (List ℕ) CutFault) (rest : Cutting) →
    (pushed m k at p v rest).fault ≡ None →
    (t : List ℕ) × ((v ≡ Ok t) × (rest.fault ≡ None))
pushed_ok m k at p (Err f) rest h = absurd (stopped-fault f h)
pushed_ok m k at p (Ok t) rest h = (t, (refl, h))

join-append : (k : ℕ) (a b : List ℕ) (ps : List (List ℕ)) → join k ((a ++ b) ∷ ps) ≡ a ++ join k (b ∷ ps)
join-append k a b [] = refl
join-append k a b (q ∷ ps) = append_assoc a b (k ∷ join k (q ∷ ps))

-- segments that join to the pieces p and ps, and are the cut of these
pub record Joining (m : Marks) (k at : ℕ) (p : List ℕ) (ps : List (List ℕ)) : Type 0 where
  pub parts : List Written
  pub written : AreWritten m parts
  pub joins : join m.terminator (p ∷ ps) ≡ joined m parts
  pub cuts : (cut_pieces m k at p ps).segments ≡ cuts_of m k at parts

joining_last : (m : Marks) (k at : ℕ) (p : List ℕ) → p ≡ [] → Joining m k at p []
joining_last m k at p e =
    subst (λ x. Joining m k at x []) (sym e) (record { parts = []; written = tt; joins = refl; cuts = refl })

-- the first piece, its terminator, CR and LF behind it, and the other pieces
joining_more : (m : Marks) (k at : ℕ) (p q : List ℕ) (qs : List (List ℕ)) (t : List ℕ) → lawful m ≡ true →
    closed (no_mark m.release m.terminator) m.release false p ≡ true → judged m k true p ≡ Ok t →
    Joining m (k + 1) (at + (length p + 1 + break_run q)) (drop (break_run q) q) qs → Joining m k at p (q ∷ qs)
joining_more m k at p q qs t law h e again =
    let n : ℕ = break_run q in
    let tm : ℕ = m.terminator in
    let next : ℕ = at + (length p + 1 + n) in
    let whole = part-whole m k p t law h e in
    let bytes : segment_bytes m (parts_of m p) ≡ p = parts_join m p in
    let here : List ℕ → Cut = λ x. record { marks = m; number = k; first = at; bytes = x; tag = t } in
    let w : Written = record { elements = parts_of m p; tag = t; breaks = take n q } in
    record {
      parts = w ∷ again.parts;
      written = (record { whole = whole.0; tagged = whole.1; broken = skipped_breaks q }, again.written);
      joins =
          ap (λ x. p ++ tm ∷ join tm (x ∷ qs)) (sym (take-append-drop n q))
          ∙ ap (λ x. p ++ tm ∷ x) (join-append tm (take n q) (drop n q) qs ∙ ap (λ x. take n q ++ x) again.joins)
          ∙ ap (λ x. x ++ tm ∷ (take n q ++ joined m again.parts)) (sym bytes);
      cuts =
          ap (λ v. (pushed m k at p v (cut_pieces m (k + 1) next (drop n q) qs)).segments) e
          ∙ ap (λ x. here p ∷ x) again.cuts
          ∙ ap (λ x. here p ∷ cuts_of m (k + 1) (at + (length p + 1 + x)) again.parts)
          (sym (length-take-le n q (break_run-within q)))
          ∙ ap (λ x. here x ∷ cuts_of m (k + 1) (at + (length x + 1 + length (take n q))) again.parts) (sym bytes);
    }

-- pieces that are cut throughout
pieces_joining : (m : Marks) → lawful m ≡ true → (k at : ℕ) (p : List ℕ) (ps : List (List ℕ)) →
    EndedClosed (no_mark m.release m.terminator) m.release false p ps →
    (cut_pieces m k at p ps).fault ≡ None → Joining m k at p ps
pieces_joining m law k at p [] h e = joining_last m k at p (nil_from_length p (last_empty m k at p e))
pieces_joining m law k at p (q ∷ qs) h e =
    let n : ℕ = break_run q in
    let next : ℕ = at + (length p + 1 + n) in
    let fits : Bool → ℕ → Bool = no_mark m.release m.terminator in
    let ok = pushed_ok m k at p (judged m k true p) (cut_pieces m (k + 1) next (drop n q) qs) e in
    joining_more m k at p q qs ok.0 law h.0 ok.1.0
    (pieces_joining m law (k + 1) next (drop n q) qs
    (ended_closed_skipped fits m.release (lawful_distinct m law).release.low q qs h.1) ok.1.1)

-- bytes that are cut throughout
bytes_joining : (m : Marks) → lawful m ≡ true → (k at : ℕ) (bs : List ℕ) → (cut_from m k at bs).fault ≡ None →
    (ws : List Written) × (AreWritten m ws × (bs ≡ joined m ws) × ((cut_from m k at bs).segments ≡ cuts_of m k at ws))
bytes_joining m law k at bs e =
    let rl : ℕ = m.release in
    let tm : ℕ = m.terminator in
    let ps : List (List ℕ) = split rl tm false bs in
    let j = pieces_joining m law k at (first_of ps) (others_of ps) (split-ended-closed rl tm false bs) e in (
      j.parts,
      (
        j.written,
        sym (join-split rl tm false bs) ∙ ap (join tm) (first-others ps (split-some rl tm false bs)) ∙ j.joins,
        j.cuts,
      ),
    )

leading_unheaded : (text : List ℕ) → has_header text ≡ false → leading_breaks text ≡ 0
leading_unheaded text e = cond-false (has_header text) (break_run (body text)) 0 e

leading_within : (text : List ℕ) → leading_breaks text ≤ length (body text)
leading_within text =
    cond_both (has_header text) (break_run (body text)) 0 (λ n. n ≤ length (body text))
    (λ _. break_run-within (body text)) (λ _. omega arith)

leading_broken : (text : List ℕ) → are_breaks (take (leading_breaks text) (body text)) ≡ true
leading_broken text =
    cond_both (has_header text) (break_run (body text)) 0 (λ n. are_breaks (take n (body text)) ≡ true)
    (λ _. skipped_breaks (body text)) (λ _. refl)

joins_with : (text : List ℕ) (o : Option Marks) → marks_of text ≡ o → (cut_with text o).fault ≡ None →
    (m : Marks) × (leading : List ℕ) × (ws : List Written)
    × (Composed text m leading ws × ((cut_with text o).segments ≡ cuts_as text m leading ws))
joins_with text None e h = absurd (stopped-fault BadHeader h)
joins_with text (Some m) e h =
    let n : ℕ = leading_breaks text in
    let leading : List ℕ = take n (body text) in
    let j = bytes_joining m (marks-lawful text m e) 1 (header_length text + n) (drop n (body text)) h in
    let ws : List Written = j.0 in (
      m,
      leading,
      ws,
      (
        record {
          marked = e;
          broken = leading_broken text;
          headed = λ f. ap (λ x. take x (body text)) (leading_unheaded text f);
          joins = sym (take-append-drop n (body text)) ∙ ap (λ x. leading ++ x) j.1.1;
          written = j.1.0;
        },
        j.1.2
            ∙ ap (λ x. cuts_of m 1 (header_length text + x) ws) (sym (length-take-le n (body text) (leading_within text))),
      ),
    )

pub joins-back : (text : List ℕ) → JoinsBack text
joins-back text h = joins_with text (marks_of text) refl h
