-- What every select that is read has.
use Rattle.std.specs.Prelude.{ℕ, Bool, true, List, ◌≤◌, ◌&&◌, Option, is_some, is_none, length, IsTrue, option_to_list}
use Rattle.std.specs.List.{list_all}
use Rattle.orca_base.specs.Name.{has_name_form}
use Rattle.sql_reader.specs.declared.syntax.SelFunc.{SelFunc}
use Rattle.sql_reader.specs.declared.syntax.SelFunc.TheVariants as functions
use Rattle.sql_reader.specs.declared.syntax.ColRef.{ColRef}
use Rattle.sql_reader.specs.declared.syntax.SelExpr.{SelExpr}
use Rattle.sql_reader.specs.declared.syntax.SelExpr.TheVariants as exprs
use Rattle.sql_reader.specs.declared.syntax.SelItem.{SelItem}
use Rattle.sql_reader.specs.declared.syntax.FromItem.{FromItem}
use Rattle.sql_reader.specs.declared.syntax.Select.{Select}
use Rattle.sql_reader.specs.Spellable.{IsSpellable}

-- COUNT(*) has no argument, and each other function has one
abbrev pub has_its_argument : SelFunc → Option ColRef → Bool
has_its_argument functions.CountAll arg = is_none arg
has_its_argument functions.Count arg = is_some arg
has_its_argument functions.Sum arg = is_some arg
has_its_argument functions.Min arg = is_some arg
has_its_argument functions.Max arg = is_some arg

-- a column, or a call with its argument
abbrev pub is_expr : SelExpr → Bool
is_expr (exprs.Column reference) = true
is_expr (exprs.Agg func arg) = has_its_argument func arg

-- the name, if there is one, has the form of a name
abbrev pub is_named : Option (List ℕ) → Bool
is_named name = list_all has_name_form (option_to_list name)

-- such an expression, under a name or none
abbrev pub is_item : SelItem → Bool
is_item item = is_expr item.expr && is_named item.name

-- a table, under an alias or none
abbrev pub is_table : FromItem → Bool
is_table item = has_name_form item.table && is_named item.alias

-- 1 to 60 elements, 1 to 10 tables, at most 40 predicates, and at most 8 columns and 8 keys, whose names have the
-- form of a name, and which can be spelled
pub record IsReadable (select : Select) : Type 0 where
  pub some_items : 1 ≤ length select.items
  pub few_items : length select.items ≤ 60
  pub items : IsTrue (list_all is_item select.items)
  pub some_tables : 1 ≤ length select.from
  pub few_tables : length select.from ≤ 10
  pub tables : IsTrue (list_all is_table select.from)
  pub few_preds : length select.preds ≤ 40
  pub few_columns : length select.group_by ≤ 8
  pub few_keys : length select.order_by ≤ 8
  pub spellable : IsSpellable select
