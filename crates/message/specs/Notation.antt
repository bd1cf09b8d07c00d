-- EDIFACT's notation of a component's class and length: an3 is exactly three characters, an..35 at most 35.
use Rattle.std.specs.Prelude.{ℕ, List, ◌++◌, codes}
use Rattle.std.specs.Fmt.{decimal}
use Rattle.message.specs.declared.layout.Class.{Class}
use Rattle.message.specs.declared.layout.Class.TheVariants.{Alphabetic, Numeric, Alphanumeric}
use Rattle.message.specs.declared.layout.Extent.{Extent}
use Rattle.message.specs.declared.layout.Extent.TheVariants.{Exactly, AtMost}

abbrev pub class_text : Class → List ℕ
class_text Alphabetic = codes "a"
class_text Numeric = codes "n"
class_text Alphanumeric = codes "an"

abbrev pub extent_text : Extent → List ℕ
extent_text (Exactly n) = decimal n
extent_text (AtMost n) = codes ".." ++ decimal n
