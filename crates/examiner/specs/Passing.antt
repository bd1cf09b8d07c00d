-- The pass over an element's components.
use Rattle.std.specs.Prelude.{◌≡◌, ℕ, ◌+◌, true, false, drop}
use Rattle.message.specs.Judging.{or_else, first_filled, components_fault}
use Rattle.examiner.specs.declared.measure.Measure.{Measure}
use Rattle.examiner.specs.declared.layout_check.Tally.{Tally}
use Rattle.examiner.specs.Texts.{Texts}
use Rattle.examiner.specs.Checking.{ComponentAt, ElementAt, filled_by, component_in}
use Rattle.std.specs.Option.{option_or}

-- a tally with one component more
abbrev pub tallied : Tally → ComponentAt → Measure → Tally
tallied t r m = record { filled = filled_by t.filled r.spot.component m; fault = or_else t.fault (component_in r m) }

-- the pass over the components of the element l has come to component c, from 0: the first filled so far and the first fault so far give, with what is left, those of all
pub record Passing (l : ElementAt) (old : Texts) (c : ℕ) (tally : Tally) (new : Texts) : Type 0 where
  pub fills : option_or tally.filled (first_filled (c + 1) new.current) ≡ first_filled 1 old.current
  pub inner : or_else tally.fault (components_fault true old.decimal l.number (c + 1) (drop c l.element.components) new.current) ≡ components_fault true old.decimal l.number 1 l.element.components old.current
  pub surplus : components_fault false old.decimal l.number (c + 1) (drop c l.element.components) new.current ≡ components_fault false old.decimal l.number 1 l.element.components old.current
  pub stays : new ≡ record old { current = new.current }
