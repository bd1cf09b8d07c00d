-- Rows and layouts, written as a guideline prints them.
use Rattle.std.specs.Prelude.{ℕ, List, [], ◌∷◌, map, codes as letters_of}
use Prim.Native.String.{String}
use Rattle.message.specs.declared.row.Kind.{Kind}
use Rattle.message.specs.declared.row.Need.{Need}
use Rattle.message.specs.declared.row.Row.{Row}
use Rattle.message.specs.declared.layout.Class.TheVariants.{Numeric, Alphanumeric}
use Rattle.message.specs.declared.layout.Extent.TheVariants.{AtMost}
use Rattle.message.specs.Layouts.{Component, Element}

abbrev pub row : String → (level : ℕ) → Kind → Need → (limit : ℕ) → Row
row tag level kind need limit = record { tag = letters_of tag; level = level; kind = kind; need = need; limit = limit }

-- an..length and n..length, with a status letter
abbrev pub an : (length letter : ℕ) → Component
an n letter = record { class = Alphanumeric; extent = AtMost n; status = letter; codes = [] }

abbrev pub num : (length letter : ℕ) → Component
num n letter = record { class = Numeric; extent = AtMost n; status = letter; codes = [] }

-- with a code list that binds
abbrev pub only : Component → List String → Component
only c list = record { class = c.class; extent = c.extent; status = c.status; codes = map letters_of list }

-- an element with its own status letter, and one that is a single component
abbrev pub composite : (letter : ℕ) → List Component → Element
composite letter cs = record { status = letter; components = cs }

abbrev pub simple : Component → Element
simple c = record { status = c.status; components = c ∷ [] }

-- the status letters
abbrev pub M : ℕ
M = 77

abbrev pub R : ℕ
R = 82

abbrev pub A : ℕ
A = 65

abbrev pub O : ℕ
O = 79

abbrev pub D : ℕ
D = 68

abbrev pub C : ℕ
C = 67

abbrev pub N : ℕ
N = 78
