-- One step of the cutter over the text.
use Rattle.std.proofs.Common.{◌≡◌, ℕ, ◌+◌, ◌-◌, ◌<◌, ◌≤◌, Bool, true, false, cond, ltb, List, [], ◌∷◌, length, take, drop, Ok, Err, Result, sym, refl, ap, ◌∙◌, subst, ⊎_elim, arith}
use Rattle.std.proofs.lemmas.List.{length-take-le, take_all, take_rest}
use Rattle.std.proofs.lemmas.Bool.{ne_eqb, lt-ltb, le-ltb, cases_lt}
use Rattle.syntax.specs.declared.fault.CutFault.{CutFault}
use Rattle.syntax.specs.declared.marks.Marks.{Marks}
use Rattle.edifact.specs.declared.scan.Found.{Found}
use Rattle.syntax.specs.Bytes.{break_run}
use Rattle.syntax.specs.Marks.{lawful}
use Rattle.syntax.specs.Split.{split, reach}
use Rattle.edifact.specs.Segments.{first_of, others_of, judged}
use Rattle.edifact.specs.Scanning.{with_length, segment_in}
use Rattle.edifact.specs.Cutting.{Cut, Cutting, ended, stopped, push, pushed, cut_pieces, cut_from}
use Rattle.edifact.specs.Cursors.{Part, part}
use Rattle.edifact.specs.Laws.{IsCut}
use Rattle.edifact.proofs.Breaks.{break_run-first, split_skipped}
use Rattle.syntax.proofs.Lawfulness.{lawful_distinct}
use Rattle.edifact.proofs.PartsWhole.{parts_join, part-whole}
use Rattle.edifact.proofs.Wholes.{EndedClosed, closed, no_mark, split-ended-closed}
use Rattle.syntax.proofs.Splits.{split-some, split-next, split-last}

found-parts : (n : ℕ) (v : Result (List ℕ) CutFault) (x : Found) → with_length n v ≡ Ok x → (v ≡ Ok x.tag) × (x.length ≡ n)
found-parts n (Ok t) x e = (cc, cc)
found-parts n (Err f) x e = grind arith

found-fault : (n : ℕ) (v : Result (List ℕ) CutFault) (f : CutFault) → with_length n v ≡ Err f → v ≡ Err f
found-fault n (Ok t) f e = grind arith
found-fault n (Err g) f e = cc

pieces_more : (m : Marks) (k at : ℕ) (p : List ℕ) (ps : List (List ℕ)) → 0 < length ps →
    cut_pieces m k at p ps ≡ pushed m k at p (judged m k true p) (cut_pieces m (k + 1) (at + (length p + 1 + break_run (first_of ps))) (drop (break_run (first_of ps)) (first_of ps)) (others_of ps))
pieces_more m k at p [] h = absurd (omega arith)
pieces_more m k at p (q ∷ qs) h = refl

-- what is cut behind an ended piece p, ps being the pieces behind it
abbrev behind : Marks → ℕ → ℕ → List ℕ → List (List ℕ) → Cutting
behind m k at p ps = cut_pieces m (k + 1) (at + (length p + 1 + break_run (first_of ps))) (drop (break_run (first_of ps)) (first_of ps)) (others_of ps)

-- the pieces behind the first n bytes and their terminator
abbrev pieces_behind : Marks → ℕ → List ℕ → List (List ℕ)
pieces_behind m n bs = split m.release m.terminator false (take (length bs - (n + 1)) (drop (n + 1) bs))

-- the text whose first piece is ended, and the one whose first piece is all of it
cut-ended : (m : Marks) (k at n : ℕ) (bs : List ℕ) → n ≡ reach m.release m.terminator false bs → n < length bs →
    cut_from m k at bs ≡ pushed m k at (take n bs) (judged m k (ltb n (length bs)) (take n bs)) (behind m k at (take n bs) (pieces_behind m n bs))
cut-ended m k at n bs e h =
    ap (λ ps. cut_pieces m k at (first_of ps) (others_of ps)) (split-next m.release m.terminator n bs e h)
    ∙ pieces_more m k at (take n bs) (pieces_behind m n bs) (split-some m.release m.terminator false (take (length bs - (n + 1)) (drop (n + 1) bs)))
    ∙ ap (λ t. pushed m k at (take n bs) (judged m k t (take n bs)) (behind m k at (take n bs) (pieces_behind m n bs))) (sym (lt-ltb n (length bs) h))

cut_open : (m : Marks) (k at n : ℕ) (bs : List ℕ) → n ≡ reach m.release m.terminator false bs → length bs ≤ n → 0 < length bs →
    cut_from m k at bs ≡ pushed m k at bs (judged m k (ltb n (length bs)) (take n bs)) ended
cut_open m k at n bs e h some =
    ap (λ ps. cut_pieces m k at (first_of ps) (others_of ps)) (split-last m.release m.terminator n bs e h)
    ∙ ap (λ t. cond t ended (pushed m k at bs (judged m k false bs) ended)) (ne_eqb (length bs) 0 (λ z. omega arith))
    ∙ ap (λ t. pushed m k at bs (judged m k t bs) ended) (sym (le-ltb n (length bs) h))
    ∙ ap (λ x. pushed m k at bs (judged m k (ltb n (length bs)) x) ended) (sym (take_all n bs h))

pub cut_err : (m : Marks) (k at : ℕ) (bs : List ℕ) (f : CutFault) → 0 < length bs → segment_in m k bs ≡ Err f → cut_from m k at bs ≡ stopped f
cut_err m k at bs f some e =
    let n : ℕ = reach m.release m.terminator false bs in
    let v = found-fault n (judged m k (ltb n (length bs)) (take n bs)) f e in
    ⊎_elim {C = cut_from m k at bs ≡ stopped f}
    (λ h. cut-ended m k at n bs refl h ∙ ap (λ x. pushed m k at (take n bs) x (behind m k at (take n bs) (pieces_behind m n bs))) v)
    (λ h. cut_open m k at n bs refl h some ∙ ap (λ x. pushed m k at bs x ended) v) (cases_lt n (length bs))

pub cut_ok : (m : Marks) (k at : ℕ) (bs : List ℕ) (x : Found) → lawful m ≡ true → segment_in m k bs ≡ Ok x → x.length < length bs →
    cut_from m k at bs ≡ push (record { marks = m; number = k; first = at; bytes = take x.length bs; tag = x.tag })
    (cut_from m (k + 1) (at + (x.length + 1 + break_run (drop (x.length + 1) bs))) (drop (break_run (drop (x.length + 1) bs)) (drop (x.length + 1) bs)))
cut_ok m k at bs x law e h =
    let n : ℕ = x.length in
    let rest : List ℕ = drop (n + 1) bs in
    let d = lawful_distinct m law in
    let reached : ℕ = reach m.release m.terminator false bs in
    let found = found-parts reached (judged m k (ltb reached (length bs)) (take reached bs)) x e in
    let told : judged m k (ltb n (length bs)) (take n bs) ≡ Ok x.tag = ap (λ y. judged m k (ltb y (length bs)) (take y bs)) found.1 ∙ found.0 in
    let ps : List (List ℕ) = split m.release m.terminator false rest in
    cut-ended m k at n bs found.1 h
    ∙ ap (λ y. pushed m k at (take n bs) (judged m k (ltb n (length bs)) (take n bs)) (behind m k at (take n bs) (split m.release m.terminator false y))) (take_rest bs (n + 1))
    ∙ ap (λ v. pushed m k at (take n bs) v (behind m k at (take n bs) ps)) told
    ∙ ap (push (record { marks = m; number = k; first = at; bytes = take n bs; tag = x.tag }))
    (ap (λ y. cut_pieces m (k + 1) (at + (y + 1 + break_run (first_of ps))) (drop (break_run (first_of ps)) (first_of ps)) (others_of ps)) (length-take-le n bs (omega arith))
    ∙ ap (λ y. cut_pieces m (k + 1) (at + (n + 1 + y)) (drop y (first_of ps)) (others_of ps)) (break_run-first m.release m.terminator d.release.low d.terminator.low rest)
    ∙ ap (λ qs. cut_pieces m (k + 1) (at + (n + 1 + break_run rest)) (first_of qs) (others_of qs)) (sym (split_skipped m.release m.terminator d.release.low d.terminator.low rest)))

-- the first piece is closed, if a terminator ends it
first-closed : (m : Marks) (n : ℕ) (bs : List ℕ) → n ≡ reach m.release m.terminator false bs → n < length bs →
    closed (no_mark m.release m.terminator) m.release false (take n bs) ≡ true
first-closed m n bs e h =
    of_two (pieces_behind m n bs) (split-some m.release m.terminator false (take (length bs - (n + 1)) (drop (n + 1) bs)))
    (subst (λ ps. EndedClosed fits m.release false (first_of ps) (others_of ps)) (split-next m.release m.terminator n bs e h) (split-ended-closed m.release m.terminator false bs))
  where
    fits : Bool → ℕ → Bool
    fits = no_mark m.release m.terminator

    of_two : (qs : List (List ℕ)) → 0 < length qs → EndedClosed fits m.release false (take n bs) qs → closed fits m.release false (take n bs) ≡ true
    of_two [] some h = absurd (omega arith)
    of_two (q ∷ qs) some h = h.0

-- the segment that is found is cut
pub next-cut : (m : Marks) (k at : ℕ) (bs p : List ℕ) (x : Found) → lawful m ≡ true → Ok x ≡ segment_in m k bs → x.length < length bs → p ≡ take x.length bs →
    IsCut (record { marks = m; number = k; first = at; bytes = p; tag = x.tag })
next-cut m k at bs p x law e h ep =
    let n : ℕ = x.length in
    let reached : ℕ = reach m.release m.terminator false bs in
    let found = found-parts reached (judged m k (ltb reached (length bs)) (take reached bs)) x (sym e) in
    let told : judged m k (ltb n (length bs)) (take n bs) ≡ Ok x.tag = ap (λ y. judged m k (ltb y (length bs)) (take y bs)) found.1 ∙ found.0 in
    let good = part-whole m k p x.tag law
    (ap (closed (no_mark m.release m.terminator) m.release false) ep ∙ first-closed m n bs found.1 h)
    (ap (judged m k true) ep ∙ sym (ap (λ t. judged m k t (take n bs)) (lt-ltb n (length bs) h)) ∙ told) in
    record { marked = law; joins = parts_join m p; whole = good.0; tagged = good.1 }

-- the piece is cut as the first segment, and `left` behind it
abbrev pub Next : Marks → (k at : ℕ) → (bs : List ℕ) → (piece : Part) → Found → (left : Cutting) → Type 0
Next m k at bs piece x left =
    let this : Cut = record { marks = piece.marks; number = k; first = at; bytes = piece.bytes; tag = x.tag } in
    (cut_from m k at bs ≡ push this left) × IsCut this

-- A step of the cutter: `text` is what is left, bs, `piece` its first segment, and b, o and n are what is left behind it, where that begins and its number.
pub next_ok : (m : Marks) (k at : ℕ) (bs p b : List ℕ) (o n : ℕ) (text piece : Part) (x : Found) → lawful m ≡ true → text ≡ part m bs →
    Ok x ≡ segment_in text.marks k text.bytes → x.length < length text.bytes → p ≡ take x.length bs → piece ≡ part m p →
    b ≡ drop (break_run (drop (x.length + 1) bs)) (drop (x.length + 1) bs) → o ≡ at + (x.length + 1 + break_run (drop (x.length + 1) bs)) → n ≡ k + 1 →
    Next m k at bs piece x (cut_from m n o b)
next_ok m k at bs p b o n text piece x law et e h ep ei eb eo en =
    let found : Ok x ≡ segment_in m k bs = e ∙ ap (λ t. segment_in t.marks k t.bytes) et in
    let short : x.length < length bs = subst (λ t. x.length < length t.bytes) et h in
    let left : List ℕ = drop (x.length + 1) bs in
    let to : ℕ = at + (x.length + 1 + break_run left) in
    let same : cut_from m n o b ≡ cut_from m (k + 1) to (drop (break_run left) left)
    = ap (λ y. cut_from m y o b) en ∙ ap (λ y. cut_from m (k + 1) y b) eo ∙ ap (cut_from m (k + 1) to) eb in
    subst (λ y. Next m k at bs y x (cut_from m n o b)) (sym ei)
    (subst (λ y. Next m k at bs (part m p) x y) (sym same)
    (subst (λ y. Next m k at bs (part m y) x (cut_from m (k + 1) to (drop (break_run left) left))) (sym ep)
    (cut_ok m k at bs x law (sym found) short, next-cut m k at bs (take x.length bs) x law found short refl)))

pub next_err : (m : Marks) (k at : ℕ) (bs : List ℕ) (text : Part) (f : CutFault) → text ≡ part m bs → 0 < length bs → Err f ≡ segment_in text.marks k text.bytes → cut_from m k at bs ≡ stopped f
next_err m k at bs text f et some e = cut_err m k at bs f some (ap (λ t. segment_in t.marks k t.bytes) (sym et) ∙ sym e)
