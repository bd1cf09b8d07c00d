-- What a word behind a command is.
use Rattle.std.specs.Prelude.{ℕ, cond, ◌&&◌, List, length, codes, ◌==◌, nat_lt, slice_index}
use Rattle.std.specs.Str.{bytes_eq}
use Rattle.listing.specs.declared.command.Word.{Word}
use Rattle.listing.specs.declared.command.Word.TheVariants.{Plain, Help, EndOfOptions, UnknownOption, File}
use Rattle.listing.specs.declared.command.BookWord.{BookWord}
use Rattle.listing.specs.declared.command.BookWord.TheVariants as book

-- behind cut: an option begins with a minus; a minus alone is a file, the standard input
abbrev pub word_of : List ℕ → Word
word_of w =
    cond (bytes_eq w (codes "--plain")) Plain
    (cond (bytes_eq w (codes "--help")) Help
    (cond (bytes_eq w (codes "--")) EndOfOptions
    (cond (bytes_eq w (codes "-")) File
    (cond (nat_lt 0 (length w) && slice_index w 0 == 45) UnknownOption File))))

-- behind book: no word but its options is known
abbrev pub book_word_of : List ℕ → BookWord
book_word_of w =
    cond (bytes_eq w (codes "--trial")) book.Trial
    (cond (bytes_eq w (codes "--layouts")) book.Layouts
    (cond (bytes_eq w (codes "--plain")) book.Plain
    (cond (bytes_eq w (codes "--help")) book.Help book.Unknown)))
