-- The header of a text.
use Rattle.std.proofs.Common.{◌≡◌, ℕ, ◌+◌, ◌≤◌, cond, ◌&&◌, eqb, leb, List, length, get_or, Some, None, sym, ap, ◌∙◌, arith}
use Rattle.std.proofs.lemmas.List.{length-drop}
use Rattle.std.proofs.lemmas.Bool.{and_parts, leb-true, cond_both, cond-true}
use Rattle.syntax.specs.declared.marks.Marks.{Marks}
use Rattle.syntax.specs.Marks.{has_header, header_length, marks_in, marks_of, body}

-- a text whose header is lawful has it whole
pub header-whole : (text : List ℕ) (m : Marks) → marks_of text ≡ Some m → header_length text ≤ length text
header-whole text m e =
    cond_both (has_header text) 9 0 (λ n. n ≤ length text)
    (λ h. long text m (sym (cond-true (has_header text) _ _ h) ∙ e))
    (λ _. omega arith)
  where
    long : (text : List ℕ) (m : Marks) →
        cond (leb 9 (length text) && eqb (get_or text 7 0) 32) (marks_in (get_or text 3 0) (get_or text 4 0) (get_or text 5 0) (get_or text 6 0) (get_or text 8 0)) None ≡ Some m → 9 ≤ length text
    long text m =
        cond_both (leb 9 (length text) && eqb (get_or text 7 0) 32) _ _ (λ o. o ≡ Some m → 9 ≤ length text)
        (λ h _. leb-true 9 (length text) (and_parts (leb 9 (length text)) _ h).0)
        (λ _ e. let z : ◌≡◌ {A = ℕ} 0 1 = cc in absurd (omega arith))

-- the header and the body make up the text
pub header-body : (text b : List ℕ) (m : Marks) → marks_of text ≡ Some m → b ≡ body text → header_length text + length b ≡ length text
header-body text b m e eb = omega (arith, header-whole text m e, ap length eb ∙ length-drop (header_length text) text)
