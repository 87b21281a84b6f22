-- A query is the same whatever proofs of its invariants it has.
use Rattle.std.proofs.Common.{◌≡◌, ◌≤◌}
use Rattle.std.proofs.Props.{props}
use mathlib.Core.HLevel.{is_prop→PathP}
use Rattle.query_core.specs.Conditions.{ArePredicates}
use Rattle.query_core.specs.Grouping.{IsGrouping}
use Rattle.query_core.specs.Items.{AreItems}
use Rattle.query_core.specs.Links.{AreLinks}
use Rattle.query_core.specs.Results.{AreOptions, IsOrder, IsOutput}
use Rattle.query_core.specs.Tables.{AreTables}
use Rattle.query_core.specs.declared.query.Query.{Query}

module _ (q : Query) (has_segments : 1 ≤ q.segments) (segments_fit : q.segments ≤ 1000) (tables : AreTables q.tables)
    (items : AreItems q.tables q.items) (preds : ArePredicates q.items q.preds)
    (links : AreLinks q.tables q.items q.preds q.links) (grouping : IsGrouping q.items q.grouped q.group_by q.aggs)
    (output : IsOutput q.items q.grouped q.group_by q.aggs q.output)
    (order : IsOrder q.items q.grouped q.group_by q.aggs q.order) (options : AreOptions q.options) where
  -- the query with these proofs
  abbrev pub proved_so : Query
  proved_so = record {
    segments = q.segments;
    tables = q.tables;
    items = q.items;
    preds = q.preds;
    links = q.links;
    grouped = q.grouped;
    group_by = q.group_by;
    aggs = q.aggs;
    output = q.output;
    order = q.order;
    options = q.options;
    has_segments = has_segments;
    segments_fit = segments_fit;
    tables_valid = tables;
    items_valid = items;
    preds_valid = preds;
    links_valid = links;
    grouping_valid = grouping;
    output_valid = output;
    order_valid = order;
    options_valid = options;
  }

  pub same_with_proofs : q ≡ proved_so
  same_with_proofs = λ i. record {
    segments = q.segments;
    tables = q.tables;
    items = q.items;
    preds = q.preds;
    links = q.links;
    grouped = q.grouped;
    group_by = q.group_by;
    aggs = q.aggs;
    output = q.output;
    order = q.order;
    options = q.options;
    has_segments = is_prop→PathP (λ j. 1 ≤ q.segments) (λ j. hlevel props) q.has_segments has_segments i;
    segments_fit = is_prop→PathP (λ j. q.segments ≤ 1000) (λ j. hlevel props) q.segments_fit segments_fit i;
    tables_valid = is_prop→PathP (λ j. AreTables q.tables) (λ j. hlevel props) q.tables_valid tables i;
    items_valid = is_prop→PathP (λ j. AreItems q.tables q.items) (λ j. hlevel props) q.items_valid items i;
    preds_valid = is_prop→PathP (λ j. ArePredicates q.items q.preds) (λ j. hlevel props) q.preds_valid preds i;
    links_valid =
        is_prop→PathP (λ j. AreLinks q.tables q.items q.preds q.links) (λ j. hlevel props) q.links_valid links i;
    grouping_valid =
        is_prop→PathP (λ j. IsGrouping q.items q.grouped q.group_by q.aggs) (λ j. hlevel props) q.grouping_valid
        grouping i;
    output_valid =
        is_prop→PathP (λ j. IsOutput q.items q.grouped q.group_by q.aggs q.output) (λ j. hlevel props) q.output_valid
        output
        i;
    order_valid =
        is_prop→PathP (λ j. IsOrder q.items q.grouped q.group_by q.aggs q.order) (λ j. hlevel props) q.order_valid
        order i;
    options_valid = is_prop→PathP (λ j. AreOptions q.options) (λ j. hlevel props) q.options_valid options i;
  }
