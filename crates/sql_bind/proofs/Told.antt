-- No fault of a query's names is want of memory.
use Rattle.std.proofs.Common.{◌≢◌, ℕ, List, [], ◌∷◌, nat_lt, Option, Some, None, Ok, Err}
use Rattle.orca_base.proofs.Checked as checked
use Rattle.orca_base.proofs.Checked.{either, goes_on, seen_told, each_told}
use Rattle.query_core.specs.declared.catalog.Catalog.{Catalog}
use Rattle.query_core.specs.declared.catalog.TableInfo.{TableInfo}
use Rattle.query_core.specs.declared.aggregate.AggFunc.{AggFunc}
use Rattle.sql_reader.specs.declared.syntax.ColRef.{ColRef}
use Rattle.sql_reader.specs.declared.syntax.FromItem.{FromItem}
use Rattle.sql_reader.specs.declared.syntax.SelExpr.{SelExpr}
use Rattle.sql_reader.specs.declared.syntax.SelExpr.TheVariants as exprs
use Rattle.sql_reader.specs.declared.syntax.SelItem.{SelItem}
use Rattle.sql_reader.specs.declared.syntax.SelOperand.{SelOperand}
use Rattle.sql_reader.specs.declared.syntax.SelOperand.TheVariants as operands
use Rattle.sql_reader.specs.declared.syntax.SelPred.{SelPred}
use Rattle.sql_reader.specs.declared.syntax.SelKey.{SelKey}
use Rattle.sql_reader.specs.declared.syntax.Select.{Select}
use Rattle.sql_bind.specs.declared.fault.BindFault.TheVariants.{TwiceAlias, TooManyItems, Memory}
use Rattle.sql_bind.specs.declared.columns.Column.{Column}
use Rattle.sql_bind.specs.declared.select_list.What.{What}
use Rattle.sql_bind.specs.declared.select_list.Chosen.{Chosen}
use Rattle.sql_bind.specs.declared.sort_keys.Target.{Target}
use Rattle.sql_bind.specs.declared.parts.Parts.{Parts}
use Rattle.sql_bind.specs.Steps.{Binding}
use Rattle.sql_bind.specs.Scope.{FromTable, alias_of, alias_at, info_of, has_alias, aliased, from_table, scope_of}
use Rattle.sql_bind.specs.Columns.{candidates, only_one, column_of, columns_of}
use Rattle.sql_bind.specs.SelectList.{aggregates, function_of, call_in, what_in, any_called, named_as, chosen_in}
use Rattle.sql_bind.specs.Conditions.{side_in, compared_in}
use Rattle.sql_bind.specs.SortKeys.{meant_output, target_in, key_in}
use Rattle.sql_bind.specs.Parts.{parts_of}
use Rattle.sql_bind.specs.Grouping.{is_grouped, loose_places, first_of, item_count, sized, none_loose, judged}
use Rattle.sql_bind.specs.Binding.{binding}

-- a part is bound, or has a fault other than want of memory
abbrev IsTold : {A : Type 0} → Binding A → Type 0
IsTold bound = checked.IsTold Memory bound

-- ---- FROM

aliased_told : (before : List FromTable) (item : FromItem) (info : Option TableInfo) → IsTold (aliased before item info)
aliased_told before item None = λ same. cc
aliased_told before item (Some info) = either Memory (has_alias before (alias_of item))
    (Err (TwiceAlias (alias_at item))) (Ok (record { alias = alias_of item; info = info })) (λ same. cc) tt

scope_told : (catalog : Catalog) (from : List FromItem) → IsTold (scope_of catalog from)
scope_told catalog from = each_told Memory (from_table catalog)
    (λ before item. aliased_told before item (info_of catalog.tables item.table)) [] from

-- ---- columns

one_told : (at : ℕ) (columns : List Column) → IsTold (only_one at columns)
one_told at [] = λ same. cc
one_told at (c ∷ []) = tt
one_told at (c ∷ d ∷ ds) = λ same. cc

column_told : (scope : List FromTable) (reference : ColRef) → IsTold (column_of scope reference)
column_told scope reference = one_told reference.at (candidates reference 0 scope)

columns_told : (scope : List FromTable) (references : List ColRef) → IsTold (columns_of scope references)
columns_told scope references = each_told Memory (λ before reference. column_of scope reference)
    (λ before reference. column_told scope reference) [] references

-- ---- the select list

call_told : (scope : List FromTable) (number : ℕ) (func : AggFunc) (arg : Option ColRef)
    → IsTold (call_in scope number func arg)
call_told scope number func None = tt
call_told scope number func (Some reference) =
    seen_told Memory _ (column_of scope reference) (column_told scope reference)

what_told : (scope : List FromTable) (number : ℕ) (expr : SelExpr) → IsTold (what_in scope number expr)
what_told scope number (exprs.Column reference) =
    seen_told Memory _ (column_of scope reference) (column_told scope reference)
what_told scope number (exprs.Agg func arg) = call_told scope number (function_of func) arg

named_told : (before : List Chosen) (at : ℕ) (name : Option (List ℕ)) (what : What)
    → IsTold (named_as before at name what)
named_told before at None what = tt
named_told before at (Some name) what = either Memory (any_called name before) (Err (TwiceAlias at))
    (Ok (record { what = what; name = Some name })) (λ same. cc) tt

chosen_in_told : (scope : List FromTable) (before : List Chosen) (item : SelItem) → IsTold (chosen_in scope before item)
unfolding chosen_in
chosen_in_told scope before item = goes_on Memory (what_in scope (aggregates before) item.expr)
    (named_as before item.name_at item.name) (what_told scope (aggregates before) item.expr)
    (named_told before item.name_at item.name)

-- ---- WHERE and ORDER BY

side_told : (scope : List FromTable) (operand : SelOperand) → IsTold (side_in scope operand)
side_told scope (operands.Column reference) =
    seen_told Memory _ (column_of scope reference) (column_told scope reference)
side_told scope (operands.Int value) = tt
side_told scope (operands.Str text) = tt

compared_told : (scope : List FromTable) (pred : SelPred) → IsTold (compared_in scope pred)
unfolding compared_in
compared_told scope pred = goes_on Memory _ _ (column_told scope pred.left)
    (λ left. goes_on Memory _ _ (side_told scope pred.right) (λ right. tt))

target_told : (scope : List FromTable) (meant : Option Target) (reference : ColRef)
    → IsTold (target_in scope meant reference)
target_told scope (Some target) reference = tt
target_told scope None reference = seen_told Memory _ (column_of scope reference) (column_told scope reference)

key_told : (scope : List FromTable) (chosen : List Chosen) (key : SelKey) → IsTold (key_in scope chosen key)
key_told scope chosen key = seen_told Memory _
    (target_in scope (meant_output chosen key.col.table key.col.name) key.col)
    (target_told scope (meant_output chosen key.col.table key.col.name) key.col)

-- ---- the whole

parts_told : (select : Select) (catalog : Catalog) → IsTold (parts_of select catalog)
unfolding parts_of
parts_told select catalog = goes_on Memory _ _ (scope_told catalog select.from)
    (λ scope. goes_on Memory _ _ (each_told Memory (chosen_in scope) (chosen_in_told scope) [] select.items)
    (λ chosen. goes_on Memory _ _ (each_told Memory (λ before pred. compared_in scope pred)
    (λ before pred. compared_told scope pred) [] select.preds)
    (λ compared. goes_on Memory _ _ (columns_told scope select.group_by)
    (λ group. goes_on Memory _ _ (each_told Memory (λ before key. key_in scope chosen key)
    (λ before key. key_told scope chosen key) [] select.order_by) (λ keys. tt)))))

sized_told : (parts : Parts) → IsTold (sized parts)
sized_told parts = either Memory (nat_lt 60 (item_count parts)) (Err (TooManyItems (item_count parts))) (Ok parts)
    (λ same. cc) tt

loose_told : (parts : Parts) (at : Option ℕ) → IsTold (none_loose parts at)
loose_told parts (Some at) = λ same. cc
loose_told parts None = sized_told parts

judged_told : (parts : Parts) → IsTold (judged parts)
unfolding judged
judged_told parts = either Memory (is_grouped parts) (none_loose parts (first_of (loose_places parts))) (sized parts)
    (loose_told parts (first_of (loose_places parts))) (sized_told parts)

whole_told : (select : Select) (catalog : Catalog) → IsTold (binding select catalog)
unfolding binding
whole_told select catalog = goes_on Memory (parts_of select catalog) judged (parts_told select catalog) judged_told

-- a binding that is told isn't want of memory
not_memory : {A : Type 0} (bound : Binding A) → IsTold bound → bound ≢ Err Memory
not_memory (Ok x) is same = cc
not_memory (Err fault) is same = is cc

-- what names are bound to is never want of memory
pub names_told : (select : Select) (catalog : Catalog) → binding select catalog ≢ Err Memory
names_told select catalog = not_memory (binding select catalog) (whole_told select catalog)
