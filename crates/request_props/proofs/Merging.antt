-- Which predicates give an order, by the sets of the equalities of which each has a column.
use Rattle.std.proofs.Common.{◌≡◌, ◌↔◌, ℕ, Bool, IsTrue, false}
use Rattle.std.specs.Prelude.{not}
use Rattle.std.proofs.lemmas.Bool.{false_from_ne_true, not-true, not_from_false}
use Rattle.query_core.specs.declared.query.Query.{Query}
use Rattle.query_core.specs.declared.words.KeyParts.{KeyParts}
use Rattle.request_props.specs.Ends.{AreEndsOf, CrossesBy, HasAcrossBy, HasColumn, IsGivenBy}
use Rattle.request_props.specs.JoinSets.{Merges}
use Rattle.request_props.specs.NumberSets.{IsInSet}
use Rattle.request_props.specs.Numbered.{column_order, order_of}
use Rattle.request_props.specs.Satisfied.{BeginsWith}
use Rattle.request_props.specs.declared.number_set.NumberSet.{NumberSet}
use Rattle.request_props.specs.declared.tables.ends.EqualityEnds.{EqualityEnds}
use Rattle.request_props.proofs.GroupCrossings.{narrowed_in}
use Rattle.request_props.proofs.Orders.{begins_given, given_begins}

module _ (q : Query) (left right : KeyParts) (order : ℕ) (first second among : EqualityEnds)
    (of_left : AreEndsOf q (HasColumn q left) first) (of_right : AreEndsOf q (HasColumn q right) second)
    (of_order : AreEndsOf q (IsGivenBy (order_of q order)) among) where
  -- a column gives the order exactly where the order of the column begins with it
  pub merging_in : (pred : ℕ)
      → CrossesBy q left right (λ a. BeginsWith (order_of q (column_order q a)) (order_of q order)) pred
      ↔ HasAcrossBy first second among pred
  merging_in pred =
      let in_sets = narrowed_in q left right pred first second of_left of_right (IsGivenBy (order_of q order)) among
      of_order in (
        λ (a, b, crosses, begins). in_sets.0 (a, b, crosses, begins_given q a (order_of q order) begins),
        λ has. let (a, b, crosses, gives) = in_sets.1 has in (a, b, crosses, given_begins q a order gives),
      )

  -- so some predicate gives it where the set of these isn't empty
  pub merges_in : (preds : NumberSet) (is_empty : Bool)
      → ((pred : ℕ) → IsInSet preds pred ↔ HasAcrossBy first second among pred)
      → (IsTrue is_empty → (pred : ℕ) → IsInSet preds pred → ⊥)
      → (is_empty ≡ false → (pred : ℕ) × IsInSet preds pred) → IsTrue (not is_empty) ↔ Merges q left right order
  merges_in preds is_empty exact none some = (
    λ full. let (pred, among) = some (not-true is_empty full) in (pred, (merging_in pred).1 ((exact pred).0 among)),
    λ (pred, crosses). not_from_false is_empty (false_from_ne_true is_empty
        (λ empty. none empty pred ((exact pred).1 ((merging_in pred).0 crosses)))),
  )
