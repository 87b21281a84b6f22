-- The query that a select is bound to, or the first fault.
use Rattle.std.specs.Prelude.{◌≡◌, ◌≢◌, List, Result, Ok, Err}
use Rattle.query_core.specs.declared.catalog.Catalog.{Catalog}
use Rattle.query_core.specs.declared.options.Options.{Options}
use Rattle.query_core.specs.declared.predicate.Link.{Link}
use Rattle.query_core.specs.declared.query.Query.{Query}
use Rattle.query_core.specs.Links.{AreLinks}
use Rattle.sql_reader.specs.declared.syntax.Select.{Select}
use Rattle.sql_bind.specs.declared.fault.BindFault.{BindFault}
use Rattle.sql_bind.specs.declared.fault.BindFault.TheVariants.{Memory}
use Rattle.sql_bind.specs.declared.parts.Parts.{Parts}
use Rattle.sql_bind.specs.Steps.{Binding, ◌>>=◌}
use Rattle.sql_bind.specs.Parts.{parts_of}
use Rattle.sql_bind.specs.Used.{used_by}
use Rattle.sql_bind.specs.Grouping.{is_grouped, judged}
use Rattle.sql_bind.specs.Query.{tables_from, items_of, preds_of, group_numbers, aggs_of, outputs_of, order_of}

-- names are looked up, then the grouping is judged, and then the number of items
unfoldable pub binding : Select → Catalog → Binding Parts
binding select catalog = do
  parts ← parts_of select catalog
  judged parts

-- the query has these parts, over numbered items
pub record IsQueryOf (parts : Parts) (catalog : Catalog) (chosen_options : Options) (q : Query) : Type 0 where
  pub segments : q.segments ≡ catalog.segments
  pub tables : q.tables ≡ tables_from (used_by parts) 0 parts.scope
  pub items : q.items ≡ items_of (used_by parts)
  pub preds : q.preds ≡ preds_of (used_by parts) parts.compared
  pub links : AreLinks q.tables q.items q.preds q.links
  pub grouped : q.grouped ≡ is_grouped parts
  pub group_by : q.group_by ≡ group_numbers (used_by parts) parts.group
  pub aggs : q.aggs ≡ aggs_of (used_by parts) parts.chosen
  pub output : q.output ≡ outputs_of (used_by parts) parts.chosen
  pub order : q.order ≡ order_of (used_by parts) parts.keys
  pub options : q.options ≡ chosen_options

-- the select is bound without a fault, to this query
pub record IsBound (select : Select) (catalog : Catalog) (options : Options) (q : Query) : Type 0 where
  pub parts : Parts
  pub no_fault : binding select catalog ≡ Ok parts
  pub query : IsQueryOf parts catalog options q

-- the links are those of the query that has these parts
abbrev pub AreLinksOf : Parts → List Link → Type 0
AreLinksOf parts links =
    AreLinks (tables_from (used_by parts) 0 parts.scope) (items_of (used_by parts))
    (preds_of (used_by parts) parts.compared) links

-- the query, or the first fault, unless memory ran out
abbrev pub Binds : Select → Catalog → Options → Result Query BindFault → Type 0
Binds select catalog options (Ok q) = IsBound select catalog options q
Binds select catalog options (Err fault) = fault ≢ Memory → binding select catalog ≡ Err fault
