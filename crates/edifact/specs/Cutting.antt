-- The cut of a text: its segments up to the first ill-cut one, and that one's fault.
use Rattle.std.specs.Prelude.{ℕ, ◌+◌, true, false, cond, List, [], ◌∷◌, length, drop, Some, None, Ok, Err, Option, Result, ◌==◌}
use Rattle.syntax.specs.declared.fault.CutFault.{CutFault}
use Rattle.syntax.specs.declared.fault.CutFault.TheVariants.{BadHeader}
use Rattle.syntax.specs.declared.marks.Marks.{Marks}
use Rattle.syntax.specs.Bytes.{break_run}
use Rattle.syntax.specs.Marks.{has_header, header_length, marks_of, body}
use Rattle.syntax.specs.Split.{split}
use Rattle.edifact.specs.Segments.{first_of, others_of, judged}

-- a segment of a text: its number from 1, its first byte from 0 of the whole text, its bytes without the terminator
pub record Cut : Type 0 where
  pub marks : Marks
  pub number : ℕ
  pub first : ℕ
  pub bytes : List ℕ
  pub tag : List ℕ

-- the segments before the first ill-cut one; no fault: the text cuts throughout
pub record Cutting : Type 0 where
  pub segments : List Cut
  pub fault : Option CutFault

abbrev pub stopped : CutFault → Cutting
stopped f = record { segments = []; fault = Some f }

abbrev pub ended : Cutting
ended = record { segments = []; fault = None }

abbrev pub push : Cut → Cutting → Cutting
push s c = record { segments = s ∷ c.segments; fault = c.fault }

abbrev pub pushed : Marks → (k at : ℕ) → List ℕ → Result (List ℕ) CutFault → Cutting → Cutting
pushed m k at p (Err f) rest = stopped f
pushed m k at p (Ok t) rest = push (record { marks = m; number = k; first = at; bytes = p; tag = t }) rest

-- The pieces that the terminators leave, p, which begins at `at` and is segment k, and then ps.
-- CR and LF behind a terminator are skipped. No terminator ends the last piece, so that it is ill-cut unless it is empty.
abbrev pub cut_pieces : Marks → (k at : ℕ) → (p : List ℕ) (ps : List (List ℕ)) → Cutting
cut_pieces m k at p [] = cond (length p == 0) ended (pushed m k at p (judged m k false p) ended)
cut_pieces m k at p (q ∷ qs) =
    pushed m k at p (judged m k true p) (cut_pieces m (k + 1) (at + (length p + 1 + break_run q)) (drop (break_run q) q) qs)

-- bytes that begin at `at`, with segment k
abbrev pub cut_from : Marks → (k at : ℕ) → List ℕ → Cutting
cut_from m k at bs =
    let ps : List (List ℕ) = split m.release m.terminator false bs in
    cut_pieces m k at (first_of ps) (others_of ps)

-- how many CR and LF are skipped in front of the first segment: only behind a header
abbrev pub leading_breaks : List ℕ → ℕ
leading_breaks text = cond (has_header text) (break_run (body text)) 0

abbrev pub cut_with : List ℕ → Option Marks → Cutting
cut_with text None = stopped BadHeader
cut_with text (Some m) = cut_from m 1 (header_length text + leading_breaks text) (drop (leading_breaks text) (body text))

-- the cut of a whole text
abbrev pub cut : List ℕ → Cutting
cut text = cut_with text (marks_of text)
