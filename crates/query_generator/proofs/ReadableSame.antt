-- A select is as readable as it is without its offsets.
use Rattle.std.proofs.Common.{◌≡◌, Bool, List, [], ◌∷◌, map, length, Option, None, Some, refl, sym, ap, ap₂, ◌∙◌, ◌&&◌}
use Rattle.std.specs.Prelude.{option_map}
use Rattle.std.specs.List.{list_all}
use Rattle.std.proofs.lemmas.List.{length-map}
use Rattle.sql_reader.specs.declared.syntax.ColRef.{ColRef}
use Rattle.sql_reader.specs.declared.syntax.SelExpr.{SelExpr}
use Rattle.sql_reader.specs.declared.syntax.SelExpr.TheVariants as exprs
use Rattle.sql_reader.specs.declared.syntax.SelFunc.{SelFunc}
use Rattle.sql_reader.specs.declared.syntax.SelFunc.TheVariants as functions
use Rattle.sql_reader.specs.declared.syntax.SelItem.{SelItem}
use Rattle.sql_reader.specs.declared.syntax.SelOperand.{SelOperand}
use Rattle.sql_reader.specs.declared.syntax.SelOperand.TheVariants as operands
use Rattle.sql_reader.specs.declared.syntax.Select.{Select}
use Rattle.sql_reader.specs.Readable.{IsReadable, has_its_argument, is_expr, is_item, is_named, is_table}
use Rattle.sql_reader.specs.Spellable.{Each, IsSpellable, IsSpellableCall, IsSpellableColumn, IsSpellableExpr}
use Rattle.sql_reader.specs.Spellable.{IsSpellableItem, IsSpellableKey, IsSpellableOperand, IsSpellablePred}
use Rattle.sql_reader.specs.Spellable.{IsSpellableTable, OneOrMore}
use Rattle.sql_print.specs.Unplaced.{unplaced, unplaced_column, unplaced_expr, unplaced_item, unplaced_key}
use Rattle.sql_print.specs.Unplaced.{unplaced_operand, unplaced_pred, unplaced_table}

-- ---- lists

module _ {X : Type 0} (change : X → X) where
  all_same : (test : X → Bool) → ((x : X) → test (change x) ≡ test x) → (xs : List X)
      → list_all test (map change xs) ≡ list_all test xs
  all_same test same [] = refl
  all_same test same (x ∷ xs) = ap₂ (λ a b. a && b) (same x) (all_same test same xs)

  module _ (IsSo : X → Type 0) (same : (x : X) → IsSo (change x) → IsSo x) where
    each_so : (xs : List X) → Each IsSo (map change xs) → Each IsSo xs
    each_so [] is = is
    each_so (x ∷ xs) is = (same x is.0, each_so xs is.1)

    some_so : (xs : List X) → OneOrMore IsSo (map change xs) → OneOrMore IsSo xs
    some_so [] is = is
    some_so (x ∷ xs) is = (same x is.0, each_so xs is.1)

-- ---- elements

argument_same : (func : SelFunc) (arg : Option ColRef)
    → has_its_argument func (option_map unplaced_column arg) ≡ has_its_argument func arg
argument_same functions.CountAll None = refl
argument_same functions.CountAll (Some r) = refl
argument_same functions.Count None = refl
argument_same functions.Count (Some r) = refl
argument_same functions.Sum None = refl
argument_same functions.Sum (Some r) = refl
argument_same functions.Min None = refl
argument_same functions.Min (Some r) = refl
argument_same functions.Max None = refl
argument_same functions.Max (Some r) = refl

expr_same : (expr : SelExpr) → is_expr (unplaced_expr expr) ≡ is_expr expr
expr_same (exprs.Column r) = refl
expr_same (exprs.Agg func arg) = argument_same func arg

item_same : (item : SelItem) → is_item (unplaced_item item) ≡ is_item item
item_same item = ap (λ (b : Bool). b && is_named item.name) (expr_same item.expr)

call_spelled : (func : SelFunc) (arg : Option ColRef) → IsSpellableCall func (option_map unplaced_column arg)
    → IsSpellableCall func arg
call_spelled functions.CountAll None is = is
call_spelled functions.CountAll (Some r) is = is
call_spelled functions.Count None is = is
call_spelled functions.Count (Some r) is = is
call_spelled functions.Sum None is = is
call_spelled functions.Sum (Some r) is = is
call_spelled functions.Min None is = is
call_spelled functions.Min (Some r) is = is
call_spelled functions.Max None is = is
call_spelled functions.Max (Some r) is = is

expr_spelled : (expr : SelExpr) → IsSpellableExpr (unplaced_expr expr) → IsSpellableExpr expr
expr_spelled (exprs.Column r) is = is
expr_spelled (exprs.Agg func arg) is = call_spelled func arg is

operand_spelled : (operand : SelOperand) → IsSpellableOperand (unplaced_operand operand) → IsSpellableOperand operand
operand_spelled (operands.Column r) is = is
operand_spelled (operands.Int value) is = is
operand_spelled (operands.Str text) is = is

spelled : (select : Select) → IsSpellable (unplaced select) → IsSpellable select
spelled select is = record {
  items = some_so unplaced_item IsSpellableItem (λ item so. (expr_spelled item.expr so.0, so.1)) select.items is.items;
  from = some_so unplaced_table IsSpellableTable (λ table so. so) select.from is.from;
  preds = each_so unplaced_pred IsSpellablePred (λ pred so. (so.0, operand_spelled pred.right so.1)) select.preds
      is.preds;
  group_by = each_so unplaced_column IsSpellableColumn (λ r so. so) select.group_by is.group_by;
  order_by = each_so unplaced_key IsSpellableKey (λ key so. so) select.order_by is.order_by;
}

-- ---- the whole

pub readable : (select : Select) → IsReadable (unplaced select) → IsReadable select
readable select is =
    let items : length (unplaced select).items ≡ length select.items = length-map select.items unplaced_item in
    let from : length (unplaced select).from ≡ length select.from = length-map select.from unplaced_table in
    let preds : length (unplaced select).preds ≡ length select.preds = length-map select.preds unplaced_pred in
    let columns : length (unplaced select).group_by ≡ length select.group_by =
    length-map select.group_by unplaced_column in
    let keys : length (unplaced select).order_by ≡ length select.order_by = length-map select.order_by unplaced_key in
    record {
      some_items = rw (← items) is.some_items;
      few_items = rw (← items) is.few_items;
      items = sym (all_same unplaced_item is_item item_same select.items) ∙ is.items;
      some_tables = rw (← from) is.some_tables;
      few_tables = rw (← from) is.few_tables;
      tables = sym (all_same unplaced_table is_table (λ table. refl) select.from) ∙ is.tables;
      few_preds = rw (← preds) is.few_preds;
      few_columns = rw (← columns) is.few_columns;
      few_keys = rw (← keys) is.few_keys;
      spellable = spelled select is.spellable;
    }
