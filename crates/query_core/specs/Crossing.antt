-- Which predicates are equalities between a column of one group and one of another.
use Rattle.std.specs.Prelude.{ℕ, ◌&&◌, Option, None, Some, slice_get, if◌then◌else◌}
use Rattle.query_core.specs.Keys.{has_item}
use Rattle.query_core.specs.declared.predicate.CmpOp.{CmpOp}
use Rattle.query_core.specs.declared.predicate.CmpOp.TheVariants as comparisons
use Rattle.query_core.specs.declared.predicate.Operand.{Operand}
use Rattle.query_core.specs.declared.predicate.Operand.TheVariants as operands
use Rattle.query_core.specs.declared.predicate.Pred.{Pred}
use Rattle.query_core.specs.declared.query.Query.{Query}
use Rattle.query_core.specs.declared.words.KeyParts.{KeyParts}

-- the item that an equality compares with
abbrev pub equal_item : CmpOp → Operand → Option ℕ
equal_item comparisons.Eq (operands.Item item) = Some item
equal_item comparisons.Eq (operands.Int value) = None
equal_item comparisons.Eq (operands.Str text) = None
equal_item comparisons.Ne right = None
equal_item comparisons.Lt right = None
equal_item comparisons.Le right = None
equal_item comparisons.Gt right = None
equal_item comparisons.Ge right = None

-- the two items, that of the left group first, where one lies in each group
abbrev pub sides_of : Query → KeyParts → KeyParts → ℕ → ℕ → Option (ℕ × ℕ)
sides_of q left right a b =
    if has_item q left a && has_item q right b then Some (a, b) else if has_item q left b && has_item q right a then
    Some (b, a) else None

-- the same for an item that may be absent
abbrev pub sides_with : Query → KeyParts → KeyParts → ℕ → Option ℕ → Option (ℕ × ℕ)
sides_with q left right a None = None
sides_with q left right a (Some b) = sides_of q left right a b

-- the two items that a predicate equates across the groups
abbrev pub crossing_by : Query → KeyParts → KeyParts → Pred → Option (ℕ × ℕ)
crossing_by q left right pred = sides_with q left right pred.left (equal_item pred.op pred.right)

-- the same for the predicate of this number
abbrev pub crossing_at : Query → KeyParts → KeyParts → Option Pred → Option (ℕ × ℕ)
crossing_at q left right None = None
crossing_at q left right (Some pred) = crossing_by q left right pred

-- the two items that the predicate of this number equates across the groups, that of the left group first
abbrev pub crossing_of : Query → KeyParts → KeyParts → ℕ → Option (ℕ × ℕ)
crossing_of q left right number = crossing_at q left right (slice_get q.preds number)
