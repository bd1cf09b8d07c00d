use Rattle.std.proofs.Common.{◌≡◌, ◌++◌, sym, ap, ◌∙◌, append-nil}
use Rattle.std.specs.List.{flat_map}
use Rattle.edifact.specs.Cursors.{component_part, components_left}
use Rattle.edifact.specs.Segments.{components}
use Rattle.listing.proofs.Lines.{behind_bar, barred-first, barred-none}
use Rattle.listing.proofs.person.push_components.Goals as goal
use Rattle.listing.proofs.person.push_components.Goals.{in-Some+in_ok-push_component, in_default}

pub returns : goal.returns
returns c =
    let m = c.args.element.now.marks in
    let bs = components m c.args.element.now.bytes.now in
    let after = components_left c.next.new.self in
    let written : c.loop-component.page ≡ c.match-next.page ++ flat_map behind_bar after
    = sym (append-nil c.loop-component.page) ∙ sym (ap (λ x. c.loop-component.page ++ flat_map behind_bar x) c.in-None.ensures.steps.0)
    ∙ c.loop-component.invariant ∙ ap (λ x. c.match-next.page ++ flat_map behind_bar (components_left x)) c.into_iter-component-iterator.ensures.into_iter_gives in
    elim c.match-next.branch [
      | in-Some+in_ok-push_component w ↦ barred-first m bs (component_part w.in-Some.first) after c.args.page.now c.match-next.page c.loop-component.page
          (sym c.components-components.ensures.value ∙ w.in-Some.ensures.steps) (w.page-is ∙ w.in_ok-push_component.ensures) written
      | in_default w ↦ barred-none m bs after c.args.page.now c.match-next.page c.loop-component.page
          (sym c.components-components.ensures.value ∙ w.in_default.ensures.steps.0) w.in_default.ensures.steps.1 w.page-is written
    ]
