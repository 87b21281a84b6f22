-- The tables of FROM, under their aliases.
use Rattle.std.specs.Prelude.{ℕ, Bool, List, [], Option, None, Some, Ok, Err, unwrap_or, is_some, find, map}
use Rattle.std.specs.Prelude.{if◌then◌else◌}
use Rattle.std.specs.List.{list_any}
use Rattle.std.specs.Str.{bytes_eq}
use Rattle.query_core.specs.declared.catalog.Catalog.{Catalog}
use Rattle.query_core.specs.declared.catalog.TableInfo.{TableInfo}
use Rattle.sql_reader.specs.declared.syntax.FromItem.{FromItem}
use Rattle.sql_bind.specs.declared.fault.BindFault.TheVariants.{UnknownTable, TwiceAlias}
use Rattle.sql_bind.specs.Steps.{Binding, each}

-- a table of FROM: its alias, and what the catalogue says of it
pub record FromTable : Type 0 where
  pub alias : List ℕ
  pub info : TableInfo

-- the alias that is given, or else the table's name
abbrev pub alias_of : FromItem → List ℕ
alias_of item = unwrap_or item.alias item.table

-- where that stands
abbrev pub alias_at : FromItem → ℕ
alias_at item = if is_some item.alias then item.alias_at else item.at

-- what the catalogue says of the table of this name
unfoldable pub info_of : List TableInfo → List ℕ → Option TableInfo
info_of tables name = find (λ t. bytes_eq t.name name) tables

abbrev pub aliases : List FromTable → List (List ℕ)
aliases scope = map (λ t. t.alias) scope

-- a table has this alias
unfoldable pub has_alias : List FromTable → List ℕ → Bool
has_alias scope alias = list_any (bytes_eq alias) (aliases scope)

-- a table that the catalogue has, under an alias that no table before it has
abbrev pub aliased : List FromTable → FromItem → Option TableInfo → Binding FromTable
aliased before item None = Err (UnknownTable item.at)
aliased before item (Some info) =
    if has_alias before (alias_of item) then Err (TwiceAlias (alias_at item)) else Ok
    (record { alias = alias_of item; info = info })

-- a table of FROM, after those before it
abbrev pub from_table : Catalog → List FromTable → FromItem → Binding FromTable
from_table catalog before item = aliased before item (info_of catalog.tables item.table)

-- the tables of FROM in text order
abbrev pub scope_of : Catalog → List FromItem → Binding (List FromTable)
scope_of catalog from = each (from_table catalog) [] from
