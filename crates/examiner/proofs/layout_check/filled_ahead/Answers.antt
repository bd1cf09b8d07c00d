use Rattle.std.proofs.Common.{rules, tests, ◌≡◌, ◌+◌, ◌∙◌}
use Rattle.std.specs.Option.{option_map}
use Rattle.std.proofs.lemmas.Iterator.Search.{position_from_yields_List}
use Rattle.examiner.proofs.Rests.{filled, yields_measures, position_is, passed_any}
use Rattle.examiner.proofs.layout_check.filled_ahead.Goals as goal

pub returns-clause-filled : goal.returns-clause-filled
returns-clause-filled c =
    let e = position_is c.args.number c.args.parts.now c.position-before.result (position_from_yields_List filled _ _ c.position-before.result c.position-before.ensures.ran (yields_measures c.args.parts.now) (λ x b q k. search (rules, tests))) in
    let m : c.map.result ≡ option_map (λ i. c.args.number + i) c.position-before.result = search rules in
    m ∙ e

pub returns-clause-passed : goal.returns-clause-passed
returns-clause-passed c = let h = c.position-before.ensures.ran in c.leave.ensures ∙ passed_any c.args.parts.now c.position-before.new.self h.0 h.1 h.3
