-- What the steps of the cutter answer, over the bytes that are left.
use Rattle.std.specs.Prelude.{ℕ, ◌+◌, Bool, false, cond, List, length, take, Ok, Err, Result, nat_lt}
use Rattle.syntax.specs.declared.fault.CutFault.{CutFault}
use Rattle.syntax.specs.declared.fault.CutFault.TheVariants.{ForbiddenByte, UnendedSegment}
use Rattle.syntax.specs.declared.fault.Place.{Place}
use Rattle.syntax.specs.declared.marks.Marks.{Marks}
use Rattle.edifact.specs.declared.scan.Standing.{Standing}
use Rattle.edifact.specs.declared.scan.Found.{Found}
use Rattle.syntax.specs.Bytes.{allowed_run}
use Rattle.syntax.specs.Split.{releases, divides, reach}
use Rattle.edifact.specs.Segments.{place_behind, holds_forbidden, judged}

-- where a scan stands in a segment: whether the next byte is protected, and the element and component it is in
abbrev pub after : Marks → Standing → ℕ → Standing
after m s b = record {
  protected = releases m.release s.protected b;
  element = cond (divides m.release m.element s.protected b) (s.element + 1) s.element;
  component = cond (divides m.release m.element s.protected b) 1 (cond (divides m.release m.component s.protected b) (s.component + 1) s.component);
}

abbrev pub start : Standing
start = record { protected = false; element = 0; component = 1 }

-- the standing as a place of segment k
abbrev pub placed : ℕ → Standing → Place
placed k s = record { segment = k; element = s.element; component = s.component }

-- the length of segment k, whose bytes are p, or the fault that the cutter meets in it
abbrev pub bounded : Marks → ℕ → (ended : Bool) → List ℕ → Result ℕ CutFault
bounded m k ended p =
    cond (holds_forbidden p) (Err (ForbiddenByte (place_behind m k (take (allowed_run p) p))))
    (cond ended (Ok (length p)) (Err (UnendedSegment (place_behind m k p))))

-- the length of segment k, with which bs begins
abbrev pub end_in : Marks → ℕ → List ℕ → Result ℕ CutFault
end_in m k bs =
    let n : ℕ = reach m.release m.terminator false bs in
    bounded m k (nat_lt n (length bs)) (take n bs)

abbrev pub with_length : ℕ → Result (List ℕ) CutFault → Result Found CutFault
with_length n (Ok t) = Ok (record { length = n; tag = t })
with_length n (Err f) = Err f

-- length and tag of segment k, with which bs begins
abbrev pub segment_in : Marks → ℕ → List ℕ → Result Found CutFault
segment_in m k bs =
    let n : ℕ = reach m.release m.terminator false bs in
    with_length n (judged m k (nat_lt n (length bs)) (take n bs))
