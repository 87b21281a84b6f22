-- The tables that FROM names are a catalogue.
use Rattle.std.proofs.Common.{bytes_eq, arith}
use Rattle.std.proofs.lemmas.List.Sums.{length-filter, count_by-le-length}
use Rattle.std.proofs.lemmas.List.Elements.{All-filter}
use Rattle.query_core.specs.Catalog.{IsCatalog, IsTable}
use Rattle.query_core.specs.declared.catalog.Catalog.{Catalog}
use Rattle.sql_reader.specs.declared.syntax.Select.{Select}
use Rattle.dump_replay.specs.Named.{is_named, named_catalog}
use Rattle.dump_replay.proofs.Filtered.{differ_kept}

pub named_is_catalog : (select : Select) (catalog : Catalog) → IsCatalog catalog → IsCatalog (named_catalog select catalog)
named_is_catalog select catalog is = record {
  segment_count = is.segment_count;
  table_count = let few = length-filter (is_named select.from) catalog.tables in
      omega (arith, is.table_count, few, count_by-le-length (is_named select.from) catalog.tables);
  each_table = All-filter (is_named select.from) IsTable catalog.tables is.each_table;
  differ = differ_kept bytes_eq (λ t. t.name) (is_named select.from) catalog.tables is.differ;
}
