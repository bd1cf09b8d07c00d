-- What a table means.
use Rattle.std.specs.Prelude.{ℕ, List, ◌++◌, map}
use Rattle.message.specs.Layouts.{Component, Element, Layout}
use Rattle.message.specs.declared.row.Row.{Row}
use Rattle.books.specs.declared.tables.RowLine.{RowLine}
use Rattle.books.specs.declared.tables.ElementLine.{ElementLine}
use Rattle.books.specs.declared.tables.ComponentLine.{ComponentLine}
use Rattle.books.specs.declared.tables.Table.{Table}

abbrev pub component_of : ComponentLine → Component
component_of c = record { class = c.class; extent = c.extent; status = c.status; codes = map (λ k. k.now) c.codes.now }

abbrev pub element_of : ElementLine → Element
element_of e = record { status = e.status; components = map component_of e.components.now }

abbrev pub layout_of : RowLine → Layout
layout_of r = map element_of r.layout.now

-- the header section's lines come first
abbrev pub lines_of : Table → List RowLine
lines_of t = t.header.now ++ t.detail.now

abbrev pub rows_of : Table → List Row
rows_of t = map (λ r. r.row) (lines_of t)

abbrev pub layouts_of : Table → List Layout
layouts_of t = map layout_of (lines_of t)

abbrev pub identifier_of : Table → List (List ℕ)
identifier_of t = map (λ p. p.now) t.identifier.now
