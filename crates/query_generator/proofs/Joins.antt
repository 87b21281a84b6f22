-- What each join of tables has, each join of a query has.
use Rattle.std.proofs.Common.{ℕ, zero, suc, ◌+◌, ◌-◌, ◌<◌, ◌≤◌, Bool, true, false, cond, List, [], ◌∷◌, ◌++◌, map}
use Rattle.std.proofs.Common.{filter, arith}
use Rattle.std.specs.List.{flat_map, range_with_len}
use Rattle.sql_reader.specs.declared.syntax.SelPred.{SelPred}
use Rattle.sql_reader.specs.Spellable.{Each}
use Rattle.query_generator.specs.declared.shape.GenShape.{GenShape}
use Rattle.query_generator.specs.Select.{is_joined, join_of, joins_of, select_of}

each_both : {X : Type 0} (IsSo : X → Type 0) (xs ys : List X) → Each IsSo xs → Each IsSo ys → Each IsSo (xs ++ ys)
each_both IsSo [] ys h k = k
each_both IsSo (x ∷ xs) ys h k = (h.0, each_both IsSo xs ys h.1 k)

module _ (IsSo : SelPred → Type 0) (shape : GenShape) (tables : ℕ) (joins : (i j : ℕ) → i < tables → j < tables
    → IsSo (join_of i j)) where
  with_others : (i a n : ℕ) → i < tables → a + n ≤ tables
      → Each IsSo (map (join_of i) (filter (is_joined shape i) (range_with_len a n)))
  with_others i a zero h k = tt
  with_others i a (suc n) h k = by (is_joined shape i a) (with_others i (a + 1) n h (omega arith))
    where
      by : (b : Bool) → Each IsSo (map (join_of i) (filter (is_joined shape i) (range_with_len (a + 1) n)))
          → Each IsSo (map (join_of i) (cond b (a ∷ filter (is_joined shape i) (range_with_len (a + 1) n))
          (filter (is_joined shape i) (range_with_len (a + 1) n))))
      by true rest = (joins i a h (omega arith), rest)
      by false rest = rest

  of_all : (a n : ℕ) → a + n ≤ tables → Each IsSo (flat_map (joins_of shape tables) (range_with_len a n))
  of_all a zero h = tt
  of_all a (suc n) h =
      each_both IsSo (joins_of shape tables a) (flat_map (joins_of shape tables) (range_with_len (a + 1) n))
      (with_others a (a + 1) (tables - (a + 1)) (omega arith) (omega arith)) (of_all (a + 1) n (omega arith))

  pub each_join : Each IsSo (select_of shape tables).preds
  each_join = of_all 0 tables (omega arith)
