-- the tables before the place were read, and the rest is read after them
use Rattle.std.proofs.Common.{◌≡◌, ℕ, List, map}
use Rattle.std.specs.Vec.Iter.{into_iter_items, into_iter_len}
use Rattle.query_core.specs.declared.catalog.TableInfo.{TableInfo}
use Rattle.serde_json.specs.declared.value.Value.{Value}
use Rattle.catalog_json.specs.declared.version.CatalogVersion.{CatalogVersion}
use Rattle.catalog_json.specs.Walk.{table_at}
use Rattle.catalog_json.proofs.Each.{IsOnTheWay}
use Rattle.catalog_json.proofs.table.read_each_table.Given as goal

pub record AtPlace (version : CatalogVersion) (values : List Value) (read : List TableInfo) (texts : List (List ℕ))
    (left : List Value) (count : ℕ) : Type 0 where
  pub names : texts ≡ map (λ t. t.name) read
  pub tables : IsOnTheWay (table_at version) values read left count

abbrev pub invariant-loop-value : goal.invariant-loop-value
invariant-loop-value l = AtPlace l.version l.fn.values.items l.tables l.names (into_iter_items l.value-iterator)
    (into_iter_len l.value-iterator)
