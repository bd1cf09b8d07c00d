-- A book is clear where its diagram is: a placement is a message of rows.
use Rattle.std.proofs.Common.{ℕ}
use Rattle.message.specs.Rows.{RowFollows, ClearRows}
use Rattle.message.specs.Messages.{Meaning, CanFollow, Clear}

follows_by_rows : (book : Meaning) (p q : ℕ) → CanFollow book p q → RowFollows book.rows p q
follows_by_rows book p q (d, ss, u, m, n, v, placed) = (u, m, n, v, placed.rows)

pub clear_by_rows : (book : Meaning) → ClearRows book.rows → Clear book
clear_by_rows book c p q r f g e = c p q r (follows_by_rows book p q f) (follows_by_rows book p r g) e
