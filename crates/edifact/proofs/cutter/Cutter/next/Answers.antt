use Rattle.std.proofs.Common.{ap, ◌∙◌, ◌<◌, length, refl, arith}
use Rattle.std.proofs.lemmas.Bool.Decides.{nat_tests}
use Rattle.edifact.specs.Cursors.{rest_cut}
use Rattle.edifact.proofs.Cuts.{next_ok, next_err}
use Rattle.edifact.proofs.cutter.Cutter.next.Goals as goal

pub returns-in-Err-clause-tells : goal.returns-in-Err-clause-tells
returns-in-Err-clause-tells c =
    let rest = c.in_ok-rest.rest in
    let some : 0 < length rest.bytes.now = grind (arith, nat_tests) in
    (ap (rest_cut c.args.self.now.marks) c.in_ok-rest.was ∙ next_err _ rest.number rest.position rest.bytes.now _ c.in-Err.fault c.of-text.ensures some c.in-Err.ensures.value, refl)

pub returns : goal.returns
returns c =
    let rest = c.in_ok-rest.rest in
    let left = c.behind.ensures in
    let next = next_ok c.args.self.now.marks rest.number rest.position rest.bytes.now c.split_at.result.0.now _ _ _ _ _ c.in-Ok.found
    c.args.self.now.sound c.of-text.ensures c.in-Ok.ensures.value c.in-Ok.ensures.within c.split_at.ensures.front c.of-part.ensures left.bytes left.position left.number in
    record { tells = ap (rest_cut c.args.self.now.marks) c.in_ok-rest.was ∙ next.0; whole = next.1; marks = refl }
