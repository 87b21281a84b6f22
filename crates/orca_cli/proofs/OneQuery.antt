-- Queries with the same parts are the same.
use Rattle.std.proofs.Common.{◌≡◌, ◌≤◌, List, sym, ◌∙◌, subst}
use Rattle.std.proofs.Props.{props}
use mathlib.Core.HLevel.{is_prop→PathP}
use Rattle.query_core.specs.Tables.{AreTables}
use Rattle.query_core.specs.Items.{AreItems}
use Rattle.query_core.specs.Conditions.{ArePredicates}
use Rattle.query_core.specs.Links.{AreLinks}
use Rattle.query_core.specs.declared.catalog.Catalog.{Catalog}
use Rattle.query_core.specs.declared.options.Options.{Options}
use Rattle.query_core.specs.declared.predicate.Link.{Link}
use Rattle.query_core.specs.declared.predicate.Pred.{Pred}
use Rattle.query_core.specs.declared.table.Item.{Item}
use Rattle.query_core.specs.declared.table.QueryTable.{QueryTable}
use Rattle.sql_bind.specs.Binding.{IsQueryOf}
use Rattle.sql_bind.specs.declared.parts.Parts.{Parts}
use Rattle.query_core.specs.Grouping.{IsGrouping}
use Rattle.query_core.specs.Results.{IsOutput, IsOrder, AreOptions}
use Rattle.query_core.specs.declared.query.Query.{Query}

pub query_same : (q r : Query) → q.segments ≡ r.segments → q.tables ≡ r.tables → q.items ≡ r.items → q.preds ≡ r.preds
    → q.links ≡ r.links → q.grouped ≡ r.grouped
    → q.group_by ≡ r.group_by → q.aggs ≡ r.aggs → q.output ≡ r.output → q.order ≡ r.order → q.options ≡ r.options
    → q ≡ r
query_same q r segments tables items preds links grouped group_by aggs output order options = λ i. record {
  segments = segments i;
  tables = tables i;
  items = items i;
  preds = preds i;
  links = links i;
  grouped = grouped i;
  group_by = group_by i;
  aggs = aggs i;
  output = output i;
  order = order i;
  options = options i;
  has_segments = is_prop→PathP (λ j. 1 ≤ segments j) (λ j. hlevel props) q.has_segments r.has_segments i;
  segments_fit = is_prop→PathP (λ j. segments j ≤ 1000) (λ j. hlevel props) q.segments_fit r.segments_fit i;
  tables_valid = is_prop→PathP (λ j. AreTables (tables j)) (λ j. hlevel props) q.tables_valid r.tables_valid i;
  items_valid = is_prop→PathP (λ j. AreItems (tables j) (items j)) (λ j. hlevel props) q.items_valid r.items_valid i;
  preds_valid = is_prop→PathP (λ j. ArePredicates (items j) (preds j)) (λ j. hlevel props) q.preds_valid r.preds_valid
      i;
  links_valid = is_prop→PathP (λ j. AreLinks (tables j) (items j) (preds j) (links j)) (λ j. hlevel props) q.links_valid
      r.links_valid i;
  grouping_valid = is_prop→PathP (λ j. IsGrouping (items j) (grouped j) (group_by j) (aggs j)) (λ j. hlevel props)
      q.grouping_valid r.grouping_valid i;
  output_valid = is_prop→PathP (λ j. IsOutput (items j) (grouped j) (group_by j) (aggs j) (output j))
      (λ j. hlevel props) q.output_valid r.output_valid i;
  order_valid = is_prop→PathP (λ j. IsOrder (items j) (grouped j) (group_by j) (aggs j) (order j)) (λ j. hlevel props)
      q.order_valid r.order_valid i;
  options_valid = is_prop→PathP (λ j. AreOptions (options j)) (λ j. hlevel props) q.options_valid r.options_valid i;
}

-- the two have the same parts, but perhaps for links
pub record AreAlike (q r : Query) : Type 0 where
  pub segments : q.segments ≡ r.segments
  pub tables : q.tables ≡ r.tables
  pub items : q.items ≡ r.items
  pub preds : q.preds ≡ r.preds
  pub grouped : q.grouped ≡ r.grouped
  pub group_by : q.group_by ≡ r.group_by
  pub aggs : q.aggs ≡ r.aggs
  pub output : q.output ≡ r.output
  pub order : q.order ≡ r.order
  pub options : q.options ≡ r.options

-- queries of the same parts are alike
pub alike_of : (parts : Parts) (catalog : Catalog) (options : Options) (q r : Query) → IsQueryOf parts catalog options q
    → IsQueryOf parts catalog options r → AreAlike q r
alike_of parts catalog options q r is again = record {
  segments = is.segments ∙ sym again.segments;
  tables = is.tables ∙ sym again.tables;
  items = is.items ∙ sym again.items;
  preds = is.preds ∙ sym again.preds;
  grouped = is.grouped ∙ sym again.grouped;
  group_by = is.group_by ∙ sym again.group_by;
  aggs = is.aggs ∙ sym again.aggs;
  output = is.output ∙ sym again.output;
  order = is.order ∙ sym again.order;
  options = is.options ∙ sym again.options;
}

-- what the layer of bound queries promises: the links are determined by the tables, the items and the predicates
abbrev pub OneLinks : Type 0
OneLinks = (tables : List QueryTable) (items : List Item) (preds : List Pred) (links others : List Link)
    → AreLinks tables items preds links → AreLinks tables items preds others → others ≡ links

-- queries that are alike are the same
pub alike_same : OneLinks → (q r : Query) → AreAlike q r → q ≡ r
alike_same one q r same =
    let by_preds : AreLinks q.tables q.items r.preds q.links =
    subst (λ preds. AreLinks q.tables q.items preds q.links) same.preds q.links_valid in
    let by_items : AreLinks q.tables r.items r.preds q.links =
    subst (λ items. AreLinks q.tables items r.preds q.links) same.items by_preds in
    let by_tables : AreLinks r.tables r.items r.preds q.links =
    subst (λ tables. AreLinks tables r.items r.preds q.links) same.tables by_items in
    let links : q.links ≡ r.links = one r.tables r.items r.preds r.links q.links r.links_valid by_tables in
    query_same q r same.segments same.tables same.items same.preds links same.grouped same.group_by same.aggs
    same.output same.order same.options
