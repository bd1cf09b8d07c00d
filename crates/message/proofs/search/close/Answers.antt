use Rattle.std.proofs.Common.{rules}
use Rattle.message.proofs.Searches.{closing_step, closing_none, closing_stay}
use Rattle.message.proofs.search.close.Goals as goal
use Rattle.message.proofs.search.close.Goals.{in-None-1, in-Some+else-ends_at}

pub loop-innermost-preserved : goal.loop-innermost-preserved
loop-innermost-preserved c = closing_step c.args.held.now c.args.depth c.args.tag c.args.found _ _ _ _ _ _ _ c.loop-innermost.invariant c.in-Some.ensures.cases c.ends_at.ensures c.if-ends_at.true c.again.ensures c.lower_of-best.ensures

pub returns : goal.returns
returns c = elim c.match-split_last.branch [
  | in-None-1 w ↦ closing_none c.args.held.now c.args.depth c.args.tag c.args.found c.loop-innermost.open.now c.loop-innermost.best c.loop-innermost.invariant (search rules)
  | in-Some+else-ends_at w ↦ closing_stay c.args.held.now c.args.depth c.args.tag c.args.found _ _ _ _ _ c.loop-innermost.invariant w.in-Some.ensures.cases w.ends_at.ensures w.if-ends_at.false
]
