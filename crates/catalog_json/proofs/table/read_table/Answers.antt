use Rattle.std.proofs.Common.{◌≡◌, ℕ, List, false, codes, length, refl, rules}
use Rattle.std.specs.Str.{bytes_eq}
use Rattle.serde_json.specs.Data.{Data}
use Rattle.serde_json.specs.Find.{get}
use Rattle.serde_json.specs.View.{view}
use Rattle.catalog_json.specs.declared.version.CatalogVersion.{CatalogVersion}
use Rattle.catalog_json.specs.Object.{data_of}
use Rattle.catalog_json.specs.Walk.{lists_at, named_table_at, table_at}
use Rattle.catalog_json.proofs.table.read_table.Goals as goal

-- once the name is known, the member that says it is read no more
without_name : (version : CatalogVersion) (t : ℕ) (name : List ℕ) (old new : Data)
    → ((other : List ℕ) → bytes_eq (codes "name") other ≡ false → get other new ≡ get other old)
    → named_table_at version t name new ≡ named_table_at version t name old
unfolding named_table_at lists_at
without_name version t name old new others = rw (
  others (codes "rows") refl,
  others (codes "columns") refl,
  others (codes "distribution") refl,
  others (codes "indexes") refl,
) refl

-- the name is read first, and then the other members
pub returns-clause-read : goal.returns-clause-read
unfolding table_at
returns-clause-read c =
    let t = length c.args.before.now in
    let name = c.in_ok-name.name in
    let object = c.in_ok-object.object in
    let read : table_at c.args.version c.args.before.now (view c.args.value) ≡
    named_table_at c.args.version t name (data_of object) = search rules in
    rw (read, ← without_name c.args.version t name (data_of object) (data_of c.take.new.self) c.take.ensures.others)
    c.read_named_table.ensures.read
