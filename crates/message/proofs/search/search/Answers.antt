use Rattle.message.proofs.Searches.{reached, sought_inside, sought_skip, sought_on, sought_stop}
use Rattle.message.proofs.search.search.Goals as goal

pub loop-number-preserved-then-depth-parts_depth : goal.loop-number-preserved-then-depth-parts_depth
loop-number-preserved-then-depth-parts_depth g c =
    sought_inside (g.D.Diagram.rows c.args.diagram.now) c.args.tag c.args.held.now _ _ _ _ _ _ c.loop-number.invariant c.in-Some.ensures c.depth-depth.ensures.value c.parts_depth.ensures c.if-depth-parts_depth.true

pub loop-number-preserved-then-depth-parts_depth-2 : goal.loop-number-preserved-then-depth-parts_depth-2
loop-number-preserved-then-depth-parts_depth-2 g c =
    sought_skip (g.D.Diagram.rows c.args.diagram.now) c.args.tag c.args.held.now _ _ _ _ _ _ _ _ c.loop-number.invariant c.in-Some.ensures c.depth-depth.ensures.value c.close-closed.ensures c.parts_depth-in-loop-number.ensures c.if-depth-parts_depth-2.true

pub returns-then-is_required : goal.returns-then-is_required
returns-then-is_required g c =
    let r = reached (g.D.Diagram.rows c.args.diagram.now) c.args.tag c.args.held.now _ _ _ _ _ _ _ _ _ _ c.loop-number.invariant c.in-Some.ensures c.depth-depth.ensures.value c.close-closed.ensures c.parts_depth-in-loop-number.ensures c.if-depth-parts_depth-2.false c.first.ensures c.lower_of-best.ensures in
    sought_stop (g.D.Diagram.rows c.args.diagram.now) c.args.tag c.args.held.now _ _ _ _ _ r c.is_required.ensures c.if-is_required.true

pub loop-number-preserved : goal.loop-number-preserved
loop-number-preserved g c =
    let r = reached (g.D.Diagram.rows c.args.diagram.now) c.args.tag c.args.held.now _ _ _ _ _ _ _ _ _ _ c.loop-number.invariant c.in-Some.ensures c.depth-depth.ensures.value c.close-closed.ensures c.parts_depth-in-loop-number.ensures c.if-depth-parts_depth-2.false c.first.ensures c.lower_of-best.ensures in
    sought_on (g.D.Diagram.rows c.args.diagram.now) c.args.tag c.args.held.now _ _ _ _ _ r c.is_required.ensures c.if-is_required.false
