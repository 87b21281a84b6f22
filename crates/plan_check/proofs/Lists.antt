-- What holds of all elements of two lists together holds of those of each.
use Rattle.std.proofs.Common.{◌+◌, List, ◌++◌, length, subst, length-append, arith}
use Rattle.std.specs.List.{All}
use Rattle.std.proofs.lemmas.List.{get_or_append_left, get_or-append-add}

module _ {X : Type 0} (Fact : X → Type 0) where
  pub all_left : (xs ys : List X) → All Fact (xs ++ ys) → All Fact xs
  all_left xs ys all = λ k d within. let long = length-append xs ys in
      subst Fact (get_or_append_left xs ys d k within) (all k d (omega arith))

  pub all_right : (xs ys : List X) → All Fact (xs ++ ys) → All Fact ys
  all_right xs ys all = λ k d within. let long = length-append xs ys in
      subst Fact (get_or-append-add xs ys k d) (all (length xs + k) d (omega arith))
