use Rattle.std.proofs.Common.{None, Some, ◌≡◌, sym, ap}
use Rattle.edifact.specs.Cursors.{cut_of, remaining}
use Rattle.edifact.specs.Cutting.{Cutting, cut, ended, stopped}
use Rattle.edifact.proofs.Steps.{told_segment, told-end}
use Rattle.listing.proofs.Listings.{listed_start, listed_more, listed_whole, segment_shown}
use Rattle.listing.proofs.text.push_segments.Goals as goal

pub loop-segment-init : goal.loop-segment-init
loop-segment-init g c = listed_start (segment_shown g.F.TextForm.shown_head g.F.TextForm.shown_element) c.args.page.now c.args.text.now (remaining c.new-cutter.result) c.new-cutter.ensures.cuts

pub loop-segment-preserved : goal.loop-segment-preserved
loop-segment-preserved g c =
    listed_more (segment_shown g.F.TextForm.shown_head g.F.TextForm.shown_element) c.args.page.now c.loop-segment.page c.push_segment.new.page c.loop-segment.count c.number-count.result
    (cut c.args.text.now) (remaining c.loop-segment.cutter) (remaining c.next.new.self) (cut_of c.in-Ok-Some.segment)
    (told_segment (remaining c.loop-segment.cutter) (remaining c.next.new.self) c.in-Ok-Some.field-0 c.in-Ok-Some.segment c.in-Ok-Some.ensures.tells c.in-Ok-Some.field-0-is)
    c.loop-segment.invariant c.in_ok-push_segment-in-Ok-Some.ensures c.number-count.ensures

pub returns-in-Ok-None : goal.returns-in-Ok-None
returns-in-Ok-None g c =
    let left : Cutting = remaining c.loop-segment.cutter in
    let e : left ≡ ended = told-end left (remaining c.next.new.self) c.in-Ok-None.field-0 c.in-Ok-None.ensures.tells c.in-Ok-None.field-0-is in
    listed_whole (segment_shown g.F.TextForm.shown_head g.F.TextForm.shown_element) c.args.page.now c.loop-segment.page c.loop-segment.count (cut c.args.text.now) left
    None (ap (λ x. x.segments) e) (sym (ap (λ x. x.fault) e)) c.loop-segment.invariant

pub returns-in-Err : goal.returns-in-Err
returns-in-Err g c =
    let left : Cutting = remaining c.loop-segment.cutter in
    let e : left ≡ stopped c.in-Err.fault = c.in-Err.ensures.tells.0 in
    listed_whole (segment_shown g.F.TextForm.shown_head g.F.TextForm.shown_element) c.args.page.now c.loop-segment.page c.loop-segment.count (cut c.args.text.now) left
    (Some c.in-Err.fault) (ap (λ x. x.segments) e) (sym (ap (λ x. x.fault) e)) c.loop-segment.invariant
