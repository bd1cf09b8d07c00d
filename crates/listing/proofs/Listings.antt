-- The listing of a text while it is cut.
use Rattle.std.proofs.Common.{◌≡◌, ℕ, ◌+◌, List, [], ◌∷◌, ◌++◌, length, Option, sym, refl, ap, ◌∙◌, subst, append_assoc, append-nil, zero-add, arith}
use Rattle.syntax.specs.declared.fault.CutFault.{CutFault}
use Rattle.syntax.specs.declared.marks.Marks.{Marks}
use Rattle.edifact.specs.Segments.{elements, others_of}
use Rattle.edifact.specs.Cutting.{Cut, Cutting, push, cut}
use Rattle.edifact.proofs.Numbers.{Numbered, cut-numbered}
use Rattle.listing.specs.Plain.{lines}

-- what a form shows of a segment: its head, and the elements behind the tag
abbrev pub segment_shown : (head : Cut → List ℕ) → (element : Marks → ℕ → List ℕ → List ℕ) → Cut → List ℕ
segment_shown head element s = head s ++ lines (element s.marks) 1 (others_of (elements s.marks s.bytes))

-- The lines of `count` segments are written behind what was there, and the others are those that are left.
pub record Listed (shown : Cut → List ℕ) (was out : List ℕ) (count : ℕ) (whole left : Cutting) : Type 0 where
  pub written : out ++ lines (λ _ s. shown s) 1 left.segments ≡ was ++ lines (λ _ s. shown s) 1 whole.segments
  pub counted : count + length left.segments ≡ length whole.segments
  pub numbered : Numbered (count + 1) left.segments
  pub stops : left.fault ≡ whole.fault

pub listed_start : (shown : Cut → List ℕ) (was : List ℕ) (text : List ℕ) (left : Cutting) → left ≡ cut text → Listed shown was was 0 (cut text) left
listed_start shown was text left e =
    record {
      written = ap (λ c. was ++ lines (λ _ s. shown s) 1 c.segments) e;
      counted = zero-add (length left.segments) ∙ ap (λ c. length c.segments) e;
      numbered = subst (λ c. Numbered 1 c.segments) (sym e) (cut-numbered text);
      stops = ap (λ c. c.fault) e;
    }

-- the line of a segment doesn't depend on where the counting begins
unnumbered : (shown : Cut → List ℕ) (k n : ℕ) (ss : List Cut) → lines (λ _ s. shown s) k ss ≡ lines (λ _ s. shown s) n ss
unnumbered shown k n [] = refl
unnumbered shown k n (s ∷ ss) = ap (λ x. shown s ++ x) (unnumbered shown (k + 1) (n + 1) ss)

pub listed_more : (shown : Cut → List ℕ) (was out next : List ℕ) (count number : ℕ) (whole before after : Cutting) (s : Cut) → before ≡ push s after → Listed shown was out count whole before →
    next ≡ out ++ shown s → number ≡ s.number → Listed shown was next number whole after
listed_more shown was out next count number whole before after s e h en ek =
    let same : number ≡ count + 1 = ek ∙ (subst (λ c. Numbered (count + 1) c.segments) e h.numbered).0 in
    record {
      written = ap (λ x. x ++ lines (λ _ t. shown t) 1 after.segments) en
          ∙ append_assoc out (shown s) (lines (λ _ t. shown t) 1 after.segments)
          ∙ ap (λ x. out ++ (shown s ++ x)) (unnumbered shown 1 2 after.segments)
          ∙ sym (ap (λ c. out ++ lines (λ _ t. shown t) 1 c.segments) e) ∙ h.written;
      counted = omega (arith, h.counted, same, ap (λ c. length c.segments) e);
      numbered = subst (λ k. Numbered (k + 1) after.segments) (sym same) (subst (λ c. Numbered (count + 1) c.segments) e h.numbered).1;
      stops = sym (ap (λ c. c.fault) e) ∙ h.stops;
    }

-- where nothing is left, the whole is written
pub listed_whole : (shown : Cut → List ℕ) (was out : List ℕ) (count : ℕ) (whole left : Cutting) (f : Option CutFault) → left.segments ≡ [] → f ≡ left.fault → Listed shown was out count whole left →
    (count ≡ length whole.segments) × ((f ≡ whole.fault) × (out ≡ was ++ lines (λ _ s. shown s) 1 whole.segments))
listed_whole shown was out count whole left f e ef h = (
  omega (arith, h.counted, ap length e),
  (ef ∙ h.stops, sym (ap (λ ss. out ++ lines (λ _ s. shown s) 1 ss) e ∙ append-nil out) ∙ h.written),
)
