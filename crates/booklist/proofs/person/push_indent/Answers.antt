use Rattle.std.proofs.Common.{◌≡◌, ℕ, suc, ◌+◌, ◌-◌, ◌++◌, codes, sym, ap, ◌∙◌, append_assoc, arith}
use Rattle.booklist.specs.Person.{indented}
use Rattle.booklist.proofs.person.push_indent.Goals as goal

pub loop-step-preserved : goal.loop-step-preserved
loop-step-preserved c =
    let rest : ℕ = c.args.level - (c.loop-step._step + 1) in
    let more : c.args.level - c.loop-step._step ≡ suc rest = omega arith in
    ap (λ x. x ++ indented rest) c.in_ok-push_bytes.ensures
    ∙ append_assoc c.loop-step.page (codes "  ") (indented rest)
    ∙ ap (λ x. c.loop-step.page ++ x) (sym (ap indented more)) ∙ c.loop-step.invariant
