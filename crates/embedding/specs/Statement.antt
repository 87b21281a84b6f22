-- The statement of the host.
use Rattle.std.specs.Prelude.{ℕ, List, [], ◌∷◌, codes, Some, None}
use Rattle.sql_reader.specs.declared.syntax.ColRef.{ColRef}
use Rattle.sql_reader.specs.declared.syntax.FromItem.{FromItem}
use Rattle.sql_reader.specs.declared.syntax.SelExpr.TheVariants as exprs
use Rattle.sql_reader.specs.declared.syntax.SelFunc.TheVariants as functions
use Rattle.sql_reader.specs.declared.syntax.SelOp.TheVariants as ops
use Rattle.sql_reader.specs.declared.syntax.SelOperand.TheVariants as operands
use Rattle.sql_reader.specs.declared.syntax.SelItem.{SelItem}
use Rattle.sql_reader.specs.declared.syntax.SelPred.{SelPred}
use Rattle.sql_reader.specs.declared.syntax.Select.{Select}

-- a column of a table, without a place in a text
abbrev pub column_of : List ℕ → List ℕ → ColRef
column_of table name = record { at = 0; table = Some table; name = name }

-- a table under its own name
abbrev pub table_of : List ℕ → FromItem
table_of table = record { at = 0; table = table; alias_at = 0; alias = None }

-- the region of the customers, and how many rows there are, as `placed`
abbrev pub region_shown : SelItem
region_shown = record { expr = exprs.Column (column_of (codes "customers") (codes "region")); name_at = 0; name = None }

abbrev pub count_shown : SelItem
count_shown = record { expr = exprs.Agg functions.CountAll None; name_at = 0; name = Some (codes "placed") }

-- each order is its customer's
abbrev pub join_of_both : SelPred
join_of_both = record {
  left = column_of (codes "orders") (codes "customer");
  op = ops.Eq;
  right = operands.Column (column_of (codes "customers") (codes "id"));
}

-- how many orders were placed in each region
abbrev pub statement : Select
statement = record {
  items = region_shown ∷ count_shown ∷ [];
  from = table_of (codes "orders") ∷ table_of (codes "customers") ∷ [];
  preds = join_of_both ∷ [];
  group_by = column_of (codes "customers") (codes "region") ∷ [];
  order_by = [];
}
