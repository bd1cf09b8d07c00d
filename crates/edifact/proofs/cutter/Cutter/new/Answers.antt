use Rattle.edifact.proofs.JoinsBack.{joins-back}
use Rattle.syntax.proofs.Lawfulness.{marks-lawful}
use Rattle.edifact.proofs.OnlyCut.{only-cut}
use Rattle.edifact.proofs.Spelling.{characters-spelled}
use Rattle.edifact.proofs.cutter.Cutter.new.Goals as goal

pub returns-in-Err-clause-spelled : goal.returns-in-Err-clause-spelled
returns-in-Err-clause-spelled c = characters-spelled

pub invariant_of-result-3 : goal.invariant_of-result-3
invariant_of-result-3 c = record { sound = marks-lawful c.args.text.now c.in-Ok.head.0 c.in-Ok.ensures.0 }

pub returns-clause-joins : goal.returns-clause-joins
returns-clause-joins c = joins-back c.args.text.now

pub returns-clause-only : goal.returns-clause-only
returns-clause-only c = only-cut c.args.text.now

pub returns-clause-spelled : goal.returns-clause-spelled
returns-clause-spelled c = characters-spelled
