-- The parts are those of a binding without a fault, and so the query is valid.
use Rattle.std.proofs.Common.{refl}
use Rattle.sql_bind.proofs.Outcome.{at_least_1, at_most_1000, is_valid}
use Rattle.sql_bind.proofs.binding.query_of.Goals as goal

pub tables_of-requires : goal.tables_of-requires
tables_of-requires c = rw c.requires.used (is_valid c.requires.named c.requires.judged).few

pub items_of-requires : goal.items_of-requires
items_of-requires c = rw (c.as_slice-2.ensures, c.requires.used) (is_valid c.requires.named c.requires.judged).low

pub preds_of-requires : goal.preds_of-requires
preds_of-requires c = rw c.requires.used (is_valid c.requires.named c.requires.judged).few

pub links_of-requires-clause-tables : goal.links_of-requires-clause-tables
links_of-requires-clause-tables c =
    rw (c.as_slice-4.ensures, c.in_ok-tables.ensures, c.as_slice.ensures, c.requires.used)
    (is_valid c.requires.named c.requires.judged).tables

pub links_of-requires-clause-items : goal.links_of-requires-clause-items
links_of-requires-clause-items c =
    rw (
      c.as_slice-4.ensures,
      c.as_slice-5.ensures,
      c.in_ok-tables.ensures,
      c.in_ok-items.ensures,
      c.as_slice.ensures,
      c.as_slice-2.ensures,
      c.requires.used,
    ) (is_valid c.requires.named c.requires.judged).items

pub group_of-requires : goal.group_of-requires
group_of-requires c = rw c.requires.used (is_valid c.requires.named c.requires.judged).few

pub aggs_of-requires : goal.aggs_of-requires
aggs_of-requires c = rw c.requires.used (is_valid c.requires.named c.requires.judged).few

pub outputs_of-requires : goal.outputs_of-requires
outputs_of-requires c = rw c.requires.used (is_valid c.requires.named c.requires.judged).few

pub order_of-requires : goal.order_of-requires
order_of-requires c = rw c.requires.used (is_valid c.requires.named c.requires.judged).few

pub invariant_of-result : goal.invariant_of-result
invariant_of-result c =
    let made = is_valid c.requires.named c.requires.judged in
    record {
      has_segments = at_least_1 c.args.catalog.now.segments c.requires.named.catalogue.segment_count;
      segments_fit = at_most_1000 c.args.catalog.now.segments c.requires.named.catalogue.segment_count;
      tables_valid = rw (c.in_ok-tables.ensures, c.as_slice.ensures, c.requires.used) made.tables;
      items_valid = rw (
        c.in_ok-tables.ensures,
        c.in_ok-items.ensures,
        c.as_slice.ensures,
        c.as_slice-2.ensures,
        c.requires.used,
      ) made.items;
      preds_valid = rw (
        c.in_ok-items.ensures,
        c.as_slice-2.ensures,
        c.in_ok-preds.ensures,
        c.as_slice-3.ensures,
        c.requires.used,
      ) made.preds;
      links_valid = rw (← c.as_slice-4.ensures, ← c.as_slice-5.ensures, ← c.as_slice-6.ensures) c.in_ok-links.ensures;
      grouping_valid = rw (
        c.in_ok-items.ensures,
        c.as_slice-2.ensures,
        c.is_grouped.ensures,
        c.in_ok-group_by.ensures,
        c.in_ok-aggs.ensures,
        c.as_slice-7.ensures,
        c.as_slice-8.ensures,
        c.requires.used,
      ) made.grouping;
      output_valid = rw (
        c.in_ok-items.ensures,
        c.as_slice-2.ensures,
        c.is_grouped.ensures,
        c.in_ok-group_by.ensures,
        c.in_ok-aggs.ensures,
        c.in_ok-output.ensures,
        c.as_slice-7.ensures,
        c.as_slice-8.ensures,
        c.as_slice-9.ensures,
        c.requires.used,
      ) made.output;
      order_valid = rw (
        c.in_ok-items.ensures,
        c.as_slice-2.ensures,
        c.is_grouped.ensures,
        c.in_ok-group_by.ensures,
        c.in_ok-aggs.ensures,
        c.in_ok-order.ensures,
        c.as_slice-7.ensures,
        c.as_slice-8.ensures,
        c.as_slice-10.ensures,
        c.requires.used,
      ) made.order;
      options_valid = c.requires.named.options;
    }

pub returns : goal.returns
returns c = record {
  segments = refl;
  tables = rw (c.in_ok-tables.ensures, c.as_slice.ensures, c.requires.used) refl;
  items = rw (c.in_ok-items.ensures, c.as_slice-2.ensures, c.requires.used) refl;
  preds = rw (c.in_ok-preds.ensures, c.as_slice-3.ensures, c.requires.used) refl;
  links = rw (← c.as_slice-4.ensures, ← c.as_slice-5.ensures, ← c.as_slice-6.ensures) c.in_ok-links.ensures;
  grouped = c.is_grouped.ensures;
  group_by = rw (c.in_ok-group_by.ensures, c.as_slice-7.ensures, c.requires.used) refl;
  aggs = rw (c.in_ok-aggs.ensures, c.as_slice-8.ensures, c.requires.used) refl;
  output = rw (c.in_ok-output.ensures, c.as_slice-9.ensures, c.requires.used) refl;
  order = rw (c.in_ok-order.ensures, c.as_slice-10.ensures, c.requires.used) refl;
  options = refl;
}
