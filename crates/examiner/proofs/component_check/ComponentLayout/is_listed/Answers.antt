use Rattle.std.proofs.Common.{rules, tests, ◌≡◌, length, refl, ◌∙◌, ap, arith}
use Rattle.std.proofs.lemmas.Iterator.{YieldsList-from_range}
use Rattle.std.proofs.lemmas.Iterator.Search.{any_from_yields_List}
use Rattle.std.specs.List.{list_any, range_with_len}
use Rattle.examiner.proofs.Codes.{spelled, listed_any}
use Rattle.examiner.proofs.component_check.ComponentLayout.is_listed.Goals as goal

pub returns-else-self-eq0 : goal.returns-else-self-eq0
returns-else-self-eq0 g c =
    let codes = c.args.self.now.component.codes in
    let test = spelled c.args.measure.now codes in
    let count : c.self.inside.rule.codes ≡ length codes = grind arith in
    any_from_yields_List test _ _ _ c.any.ensures.ran (YieldsList-from_range 0 c.self.inside.rule.codes c.self.inside.rule.codes refl (omega arith)) (λ x b q k. search (rules, tests))
    ∙ ap (λ n. list_any test (range_with_len 0 n)) count ∙ listed_any c.args.measure.now codes (omega arith)
