-- What the predicates of a query keep.
use Rattle.std.specs.Prelude.{Bool, true, List, ◌&&◌, ◌≤◌, length, nat_lt, IsTrue}
use Rattle.std.specs.List.{list_all}
use Rattle.query_core.specs.declared.table.Item.{Item}
use Rattle.query_core.specs.declared.predicate.Pred.{Pred}
use Rattle.query_core.specs.declared.predicate.Operand as operands
use Rattle.query_core.specs.declared.predicate.Operand.{Operand}

-- an operand that is an item has the number of one
abbrev pub is_operand : List Item → Operand → Bool
is_operand items (operands.TheVariants.Item number) = nat_lt number (length items)
is_operand items (operands.TheVariants.Int value) = true
is_operand items (operands.TheVariants.Str text) = true

-- at most 40 predicates, each over items
pub record ArePredicates (items : List Item) (preds : List Pred) : Type 0 where
  pub few : length preds ≤ 40
  pub over_items : IsTrue (list_all (λ pred. nat_lt pred.left (length items) && is_operand items pred.right) preds)
