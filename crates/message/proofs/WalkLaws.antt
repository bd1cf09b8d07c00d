-- The laws of the walk.
use Rattle.std.proofs.Common.{List, [], ◌∷◌, ◌++◌, subst, append_assoc, append-nil}
use Rattle.message.specs.declared.row.Row.{Row}
use Rattle.message.specs.Rows.{Seat, ◌#◌, RowMessage, RowsBegin, RowRules}
use Rattle.message.specs.WalkLaws.{WalkLaws}
use Rattle.message.proofs.Standings.{found-begins, begins-found, one_occurrence, reached, message_at_end, end_message, stands-completed}
use Rattle.message.proofs.Follows.{followers_exact, test_clear, clear_test, one_placement}

module _ (rows : List Row) where
  -- a message begins with itself
  pub message_begins : (w : List Seat) → RowMessage rows w → RowsBegin rows w
  message_begins w m = ([], rw (append-nil w) m)

  -- what begins with more begins with less
  pub begins_less : (w : List Seat) (x : Seat) → RowsBegin rows (w ++ (x ∷ [])) → RowsBegin rows w
  begins_less w x (v, m) = (x ∷ v, rw (append_assoc w (x ∷ []) v) at m)

  pub walk_laws : RowRules rows → WalkLaws rows
  walk_laws K = record {
    stands_where_begun = λ w. ((λ x. let (v, m, l) = stands-completed rows K x.1 in (v, m)), reached rows K w);
    next_exactly = λ s w h q n. (begins-found rows K {x = q # n} h, λ x. subst (λ (y : Seat). RowsBegin rows (w ++ (y ∷ []))) x.3 (found-begins rows K {o = x.0} {gs = x.1} h x.2));
    one_occurrence = λ w q m n a b. one_occurrence rows K q m n (reached rows K w (begins_less w (q # m) a)).1 a b;
    message_at_last_row = λ s w h. (message_at_end rows K h, end_message rows K h);
    completable = λ s w h. stands-completed rows K h;
    followers_exactly = λ p q. let e = (followers_exact rows K p).0 q in (e.1, e.0);
    clear_exactly = (clear_test rows K, test_clear rows K);
    one_placement = λ c w x m n e. let (v, a) = message_begins w m in let (y, b) = message_begins x n in one_placement rows K c w x v y a b e;
    one_beginning = λ c w x a b e. one_placement rows K c w x a.0 b.0 a.1 b.1 e;
  }
