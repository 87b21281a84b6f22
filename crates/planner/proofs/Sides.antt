-- The columns of a join, predicate by predicate.
use Rattle.std.proofs.Common.{ℕ, ◌≡◌, ◌+◌, ◌<◌, List, [], ◌∷◌, ◌++◌, length, take, get_or, flat_map, Option, None, Some}
use Rattle.std.proofs.Common.{sym, ap, ◌∙◌, ⊎_elim, append_assoc, append-nil, arith}
use Rattle.std.proofs.lemmas.List.{flat_map_more, take_more}
use Rattle.std.proofs.lemmas.Option.{slice_get_cases}
use Rattle.query_core.specs.Crossing.{crossing_at, crossing_by, crossing_of}
use Rattle.query_core.specs.declared.predicate.Pred.{Pred}
use Rattle.query_core.specs.declared.query.Query.{Query}
use Rattle.query_core.specs.declared.words.KeyParts.{KeyParts}
use Rattle.planner.specs.Columns.{both_sides}

module _ (q : Query) (left right : KeyParts) where
  -- the columns of the first predicates
  abbrev pub columns_before : ℕ → List ℕ
  columns_before k = flat_map (λ pred. both_sides (crossing_by q left right pred)) (take k q.preds)

  -- behind those of the first predicates come those of the next one
  next_columns : (k : ℕ) → k < length q.preds
      → columns_before (k + 1) ≡ columns_before k ++ both_sides (crossing_of q left right k)
  next_columns k within =
      let each : Pred → List ℕ = λ pred. both_sides (crossing_by q left right pred) in
      ⊎_elim
      (λ there. ap (flat_map each) (take_more q.preds k there.0 within)
      ∙ sym (flat_map_more each [] (take k q.preds) (get_or q.preds k there.0))
      ∙ ap (λ (p : Pred). columns_before k ++ each p) there.3
      ∙ ap (λ (o : Option Pred). columns_before k ++ both_sides (crossing_at q left right o)) (sym there.2))
      (λ past. absurd (let over = past.0 in omega arith))
      ((slice_get_cases q.preds k).1)

  -- where the next predicate equates two columns, these were put behind the others
  pub two_columns : (k : ℕ) (before middle after : List ℕ) (a b : ℕ) → k < length q.preds
      → crossing_of q left right k ≡ Some (a, b) → before ≡ columns_before k
      → middle ≡ before ++ a ∷ [] → after ≡ middle ++ b ∷ [] → after ≡ columns_before (k + 1)
  two_columns k before middle after a b within sides is first second =
      second ∙ ap (λ (l : List ℕ). l ++ b ∷ []) first ∙ append_assoc before (a ∷ []) (b ∷ [])
      ∙ ap (λ (l : List ℕ). l ++ a ∷ b ∷ []) is
      ∙ ap (λ (s : Option (ℕ × ℕ)). columns_before k ++ both_sides s) (sym sides) ∙ sym (next_columns k within)

  -- where it equates none, the columns are those that were there
  pub no_columns : (k : ℕ) (before : List ℕ) → k < length q.preds → crossing_of q left right k ≡ None
      → before ≡ columns_before k → before ≡ columns_before (k + 1)
  no_columns k before within sides is =
      is ∙ sym (append-nil (columns_before k))
      ∙ ap (λ (s : Option (ℕ × ℕ)). columns_before k ++ both_sides s) (sym sides) ∙ sym (next_columns k within)
