use Rattle.std.proofs.Common.{refl, ap, arith}
use Rattle.examiner.specs.Texts.{Texts}
use Rattle.examiner.proofs.Passes.{turn_within, turn_faulty, turn_fits, turn_last}
use Rattle.examiner.proofs.layout_check.RowLayout.elements_fault.Goals as goal

pub returns-in-Some-fault : goal.returns-in-Some-fault
returns-in-Some-fault g c =
    let l = c.loop-element in
    turn_faulty c.args.self.now l.number l.parts c.enter.new.self _ l.invariant.faults l.invariant.closed c.enter.ensures.entered
    c.in-Some.element c.in-Some.ensures.element c.fault.result c.fault.ensures.fault _ c.in-Some-fault.is

pub loop-element-smaller : goal.loop-element-smaller
loop-element-smaller g c =
    let l = c.loop-element in
    let within = turn_within c.args.self.now l.number l.parts c.enter.new.self _ l.invariant.faults l.invariant.closed c.enter.ensures.entered c.in-Some.element c.in-Some.ensures.element in
    omega arith

pub loop-element-preserved : goal.loop-element-preserved
loop-element-preserved g c =
    let l = c.loop-element in
    let within = turn_within c.args.self.now l.number l.parts c.enter.new.self _ l.invariant.faults l.invariant.closed c.enter.ensures.entered c.in-Some.element c.in-Some.ensures.element in
    record {
      faults = turn_fits c.args.self.now l.number l.parts c.enter.new.self _ l.invariant.faults l.invariant.closed c.enter.ensures.entered
          c.in-Some.element c.in-Some.ensures.element c.fault.result c.fault.ensures.fault c.fault.new.parts c.in_default-fault.is c.fault.ensures.passed;
      closed = ap (λ (t : Texts). t.current) c.fault.ensures.passed;
      few = omega (arith, c.in-Some.ensures.few);
    }

pub returns : goal.returns
returns g c =
    let l = c.loop-element in
    turn_last c.args.self.now l.number l.parts c.enter-2.new.self _ l.invariant.faults l.invariant.closed c.enter-2.ensures.entered
    c.beyond_fault.result c.has_component.result _ c.in_default.ensures.element c.enter-2.ensures.ends c.has_component.ensures.more refl c.beyond_fault.ensures
