-- The query of a select that is bound without a fault.
use Rattle.std.proofs.Common.{◌≡◌, List, Ok, refl}
use Rattle.query_core.specs.Catalog.{IsCatalog}
use Rattle.query_core.specs.Results.{AreOptions}
use Rattle.query_core.specs.declared.catalog.Catalog.{Catalog}
use Rattle.query_core.specs.declared.options.Options.{Options}
use Rattle.query_core.specs.declared.predicate.Link.{Link}
use Rattle.query_core.specs.declared.query.Query.{Query}
use Rattle.sql_reader.specs.declared.syntax.Select.{Select}
use Rattle.sql_reader.specs.Readable.{IsReadable}
use Rattle.sql_bind.specs.declared.parts.Parts.{Parts}
use Rattle.sql_bind.specs.Used.{used_by}
use Rattle.sql_bind.specs.Grouping.{is_grouped}
use Rattle.sql_bind.specs.Query.{aggs_of, group_numbers, items_of, order_of, outputs_of, preds_of, tables_from}
use Rattle.sql_bind.specs.Binding.{binding, AreLinksOf, IsBound}
use Rattle.sql_bind.proofs.Outcome.{at_least_1, at_most_1000}
use Rattle.sql_bind.proofs.Valid.{IsValid, valid}

module _ (select : Select) (catalog : Catalog) (options : Options) (parts : Parts) (links : List Link)
    (readable : IsReadable select) (kept : IsCatalog catalog) (chosen : AreOptions options)
    (bound : binding select catalog ≡ Ok parts) (joined : AreLinksOf parts links) where
  made : IsValid parts (used_by parts)
  made = valid select catalog parts readable kept bound

  query : Query
  query = record {
    segments = catalog.segments;
    tables = tables_from (used_by parts) 0 parts.scope;
    items = items_of (used_by parts);
    preds = preds_of (used_by parts) parts.compared;
    links = links;
    grouped = is_grouped parts;
    group_by = group_numbers (used_by parts) parts.group;
    aggs = aggs_of (used_by parts) parts.chosen;
    output = outputs_of (used_by parts) parts.chosen;
    order = order_of (used_by parts) parts.keys;
    options = options;
    has_segments = at_least_1 catalog.segments kept.segment_count;
    segments_fit = at_most_1000 catalog.segments kept.segment_count;
    tables_valid = made.tables;
    items_valid = made.items;
    preds_valid = made.preds;
    links_valid = joined;
    grouping_valid = made.grouping;
    output_valid = made.output;
    order_valid = made.order;
    options_valid = chosen;
  }

  pub query_there : (q : Query) × IsBound select catalog options q
  unfolding query
  query_there = (
    query,
    record {
      parts = parts;
      no_fault = bound;
      query = record {
        segments = refl;
        tables = refl;
        items = refl;
        preds = refl;
        links = joined;
        grouped = refl;
        group_by = refl;
        aggs = refl;
        output = refl;
        order = refl;
        options = refl;
      };
    },
  )
