-- Whatever parts a text is put together from, it is cut into these.
use Rattle.std.proofs.Common.{◌≡◌, ℕ, ◌+◌, ◌<◌, ◌≤◌, true, false, leb, List, [], ◌∷◌, ◌++◌, map, length, drop, Some, None, Ok, sym, refl, ap, ◌∙◌, arith}
use Rattle.std.proofs.lemmas.List.{drop_at}
use Rattle.std.proofs.lemmas.Bool.{and_parts, cond_both, leb-true}
use Rattle.syntax.specs.declared.marks.Marks.{Marks}
use Rattle.syntax.specs.Bytes.{allowed, break_run}
use Rattle.syntax.specs.Marks.{has_header, header_length, body}
use Rattle.syntax.specs.Split.{releases, split}
use Rattle.edifact.specs.Segments.{first_of, others_of, judged, parts_of}
use Rattle.edifact.specs.Cutting.{Cut, Cutting, push, pushed, cut_pieces, cut_from, leading_breaks, cut_with, cut}
use Rattle.edifact.specs.Laws.{tag_among, Written, IsWritten, AreWritten, segment_bytes, joined, cuts_of, Composed, cuts_as, OnlyCut}
use Rattle.syntax.proofs.Splits.{split-some}
use Rattle.syntax.proofs.Lawfulness.{Distinct, lawful_distinct, marks-lawful}
use Rattle.edifact.proofs.Wholes.{closed, no_mark, split-before}
use Rattle.edifact.proofs.Breaks.{break_run-first, split_skipped, break_run-append, break_run-allowed}
use Rattle.edifact.proofs.PartsWhole.{segment_fits, segment_excludes, segment_closed, parts-back, tag-among-parts, judged-closed}

-- parts with a tag have an element
tagged-some : (m : Marks) (es : List (List (List ℕ))) (t : List ℕ) → tag_among m es ≡ Some t → 0 < length es
tagged-some m [] t e = grind arith
tagged-some m (x ∷ es) t e = omega arith

pub written-parts : (m : Marks) → Distinct m → (w : Written) → IsWritten m w →
    parts_of m (segment_bytes m w.elements) ≡ w.elements
written-parts m d w h = parts-back m d w.elements (tagged-some m w.elements w.tag h.tagged) h.whole

written-judged : (m : Marks) → Distinct m → (k : ℕ) (w : Written) → IsWritten m w →
    judged m k true (segment_bytes m w.elements) ≡ Ok w.tag
written-judged m d k w h =
    judged-closed m k (segment_bytes m w.elements) w.tag (segment_closed m d w.elements h.whole)
    (tag-among-parts m (segment_bytes m w.elements) ∙ ap (tag_among m) (written-parts m d w h) ∙ h.tagged)

-- segments begin with neither CR nor LF
break_run-before : (m : Marks) → 33 ≤ m.terminator → (p rest : List ℕ) →
    closed (segment_fits m) m.release false p ≡ true → break_run (p ++ m.terminator ∷ rest) ≡ 0
break_run-before m t [] rest h = break_run-allowed m.terminator rest (omega arith)
break_run-before m t (b ∷ p) rest h =
    let a = and_parts (segment_fits m false b) (closed (segment_fits m) m.release (releases m.release false b) p) h in
    let f = and_parts (allowed b) (no_mark m.release m.terminator false b) a.0 in
    let g = and_parts (leb 32 b) (leb b 126) f.0 in
    break_run-allowed b (p ++ m.terminator ∷ rest) (leb-true 32 b g.0)

break_run-joined : (m : Marks) → Distinct m → (ws : List Written) → AreWritten m ws → break_run (joined m ws) ≡ 0
break_run-joined m d [] h = refl
break_run-joined m d (w ∷ ws) h =
    break_run-before m d.terminator.low (segment_bytes m w.elements) (w.breaks ++ joined m ws)
    (segment_closed m d w.elements h.0.whole)

-- the cut of the pieces behind p, n CR and LF being skipped
abbrev cut_behind : Marks → (k at : ℕ) → List ℕ → ℕ → List (List ℕ) → Cutting
cut_behind m k at p n ps = cut_pieces m (k + 1) (at + (length p + 1 + n)) (drop n (first_of ps)) (others_of ps)

cut_more : (m : Marks) (k at : ℕ) (p : List ℕ) (ps : List (List ℕ)) → 0 < length ps →
    cut_pieces m k at p ps
    ≡ pushed m k at p (judged m k true p)
    (cut_behind m k at p (break_run (first_of ps)) ps)
cut_more m k at p [] h = absurd (omega arith)
cut_more m k at p (q ∷ qs) h = refl

-- a closed segment that is well cut, its terminator, and more bytes
cut-before : (m : Marks) → Distinct m → (k at : ℕ) (p rest t : List ℕ) →
    closed (segment_fits m) m.release false p ≡ true → judged m k true p ≡ Ok t →
    cut_from m k at (p ++ m.terminator ∷ rest)
    ≡ push (record { marks = m; number = k; first = at; bytes = p; tag = t })
    (cut_from m (k + 1) (at + (length p + 1 + break_run rest)) (drop (break_run rest) rest))
cut-before m d k at p rest t h e =
    let rl : ℕ = m.release in
    let tm : ℕ = m.terminator in
    let ps : List (List ℕ) = split rl tm false rest in
    let s : Cut = record { marks = m; number = k; first = at; bytes = p; tag = t } in
    ap (λ x. cut_pieces m k at (first_of x) (others_of x))
    (split-before (segment_fits m) rl tm (segment_excludes m) false p rest d.terminator-release h)
    ∙ cut_more m k at p ps (split-some rl tm false rest)
    ∙ ap (λ v. pushed m k at p v (cut_behind m k at p (break_run (first_of ps)) ps)) e
    ∙ ap (push s)
    (ap (λ n. cut_behind m k at p n ps) (break_run-first rl tm d.release.low d.terminator.low rest)
    ∙ ap (λ x. cut_pieces m (k + 1) (at + (length p + 1 + break_run rest)) (first_of x) (others_of x))
    (sym (split_skipped rl tm d.release.low d.terminator.low rest)))

-- joined segments are cut into these
cut-joined : (m : Marks) → Distinct m → (k at : ℕ) (ws : List Written) → AreWritten m ws →
    cut_from m k at (joined m ws) ≡ record { segments = cuts_of m k at ws; fault = None }
cut-joined m d k at [] h = refl
cut-joined m d k at (w ∷ ws) h =
    let p : List ℕ = segment_bytes m w.elements in
    let rest : List ℕ = w.breaks ++ joined m ws in
    let s : Cut = record { marks = m; number = k; first = at; bytes = p; tag = w.tag } in
    let next : ℕ = at + (length p + 1 + length w.breaks) in
    let run : break_run rest ≡ length w.breaks =
    break_run-append w.breaks (joined m ws) h.0.broken (break_run-joined m d ws h.1) in
    cut-before m d k at p rest w.tag
    (segment_closed m d w.elements h.0.whole) (written-judged m d k w h.0)
    ∙ ap (λ n. push s (cut_from m (k + 1) (at + (length p + 1 + n)) (drop n rest))) run
    ∙ ap (λ x. push s (cut_from m (k + 1) next x)) (drop_at w.breaks (joined m ws) (length w.breaks) refl)
    ∙ ap (push s) (cut-joined m d (k + 1) next ws h.1)

-- the parts of the segments that they are cut into
cuts-parts : (m : Marks) → Distinct m → (k at : ℕ) (ws : List Written) → AreWritten m ws →
    map (λ s. parts_of s.marks s.bytes) (cuts_of m k at ws) ≡ map (λ w. w.elements) ws
cuts-parts m d k at [] h = refl
cuts-parts m d k at (w ∷ ws) h =
    let next : ℕ = at + (length (segment_bytes m w.elements) + 1 + length w.breaks) in
    ap (λ x. x ∷ map (λ s. parts_of s.marks s.bytes) (cuts_of m (k + 1) next ws)) (written-parts m d w h.0)
    ∙ ap (λ x. w.elements ∷ x) (cuts-parts m d (k + 1) next ws h.1)

-- CR and LF behind the header are skipped
leading_skipped : (text : List ℕ) (m : Marks) (leading : List ℕ) (ws : List Written) → Distinct m →
    Composed text m leading ws → leading_breaks text ≡ length leading
leading_skipped text m leading ws d h =
    cond_both (has_header text) (break_run (body text)) 0 (λ n. n ≡ length leading)
    (λ _. ap break_run h.joins
    ∙ break_run-append leading (joined m ws) h.broken (break_run-joined m d ws h.written))
    (λ e. sym (ap length (h.headed e)))

cut_composed : (text : List ℕ) (m : Marks) (leading : List ℕ) (ws : List Written) → Distinct m →
    Composed text m leading ws → cut text ≡ record { segments = cuts_as text m leading ws; fault = None }
cut_composed text m leading ws d h =
    let at : ℕ = header_length text + length leading in
    ap (cut_with text) h.marked
    ∙ ap (λ n. cut_from m 1 (header_length text + n) (drop n (body text))) (leading_skipped text m leading ws d h)
    ∙ ap (λ x. cut_from m 1 at (drop (length leading) x)) h.joins
    ∙ ap (cut_from m 1 at) (drop_at leading (joined m ws) (length leading) refl)
    ∙ cut-joined m d 1 at ws h.written

pub only-cut : (text : List ℕ) → OnlyCut text
only-cut text m leading ws h =
    let d = lawful_distinct m (marks-lawful text m h.marked) in
    let all = cut_composed text m leading ws d h in (
      all,
      ap (λ c. map (λ s. parts_of s.marks s.bytes) c.segments) all
          ∙ cuts-parts m d 1 (header_length text + length leading) ws h.written,
    )
