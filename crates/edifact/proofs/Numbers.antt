-- Segments are numbered from 1 in their order.
use Rattle.std.proofs.Common.{◌≡◌, ℕ, ◌+◌, true, false, eqb, List, [], ◌∷◌, length, drop, Some, None, Ok, Err, Option, Result, refl}
use Rattle.std.proofs.lemmas.Bool.{cond_both}
use Rattle.syntax.specs.declared.fault.CutFault.{CutFault}
use Rattle.syntax.specs.declared.marks.Marks.{Marks}
use Rattle.syntax.specs.Bytes.{break_run}
use Rattle.syntax.specs.Marks.{header_length, marks_of, body}
use Rattle.syntax.specs.Split.{split}
use Rattle.edifact.specs.Segments.{first_of, others_of, judged}
use Rattle.edifact.specs.Cutting.{Cut, Cutting, ended, pushed, cut_pieces, leading_breaks, cut_with, cut}

-- the first has the number k, and each further one the next
abbrev pub Numbered : ℕ → List Cut → Type 0
Numbered k [] = Unit {0}
Numbered k (s ∷ ss) = (s.number ≡ k) × Numbered (k + 1) ss

pushed-numbered : (m : Marks) (k at : ℕ) (p : List ℕ) (v : Result (List ℕ) CutFault) (rest : Cutting) → Numbered (k + 1) rest.segments → Numbered k (pushed m k at p v rest).segments
pushed-numbered m k at p (Err f) rest h = tt
pushed-numbered m k at p (Ok t) rest h = (refl, h)

pieces_numbered : (m : Marks) (k at : ℕ) (p : List ℕ) (ps : List (List ℕ)) → Numbered k (cut_pieces m k at p ps).segments
pieces_numbered m k at p [] =
    cond_both (eqb (length p) 0) ended (pushed m k at p (judged m k false p) ended) (λ c. Numbered k c.segments)
    (λ _. tt) (λ _. pushed-numbered m k at p (judged m k false p) ended tt)
pieces_numbered m k at p (q ∷ qs) =
    pushed-numbered m k at p (judged m k true p) (cut_pieces m (k + 1) (at + (length p + 1 + break_run q)) (drop (break_run q) q) qs)
    (pieces_numbered m (k + 1) (at + (length p + 1 + break_run q)) (drop (break_run q) q) qs)

with_numbered : (text : List ℕ) (o : Option Marks) → Numbered 1 (cut_with text o).segments
with_numbered text None = tt
with_numbered text (Some m) =
    let ps : List (List ℕ) = split m.release m.terminator false (drop (leading_breaks text) (body text)) in
    pieces_numbered m 1 (header_length text + leading_breaks text) (first_of ps) (others_of ps)

pub cut-numbered : (text : List ℕ) → Numbered 1 (cut text).segments
cut-numbered text = with_numbered text (marks_of text)
