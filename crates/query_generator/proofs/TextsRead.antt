-- What the two texts are read as.
use Rattle.std.proofs.Common.{◌≡◌, ℕ, ◌^◌, ◌≤◌, List, length, Result, Ok, Err, IfOk, sym, ap, subst, ◌∙◌}
use Rattle.sql_reader.specs.declared.syntax.Select.{Select}
use Rattle.sql_reader.specs.Faults.{IsReading}
use Rattle.sql_print.specs.Canonical.{canonical_text}
use Rattle.sql_print.specs.Unplaced.{unplaced}
use Rattle.query_core.specs.declared.catalog.Catalog.{Catalog}
use Rattle.catalog_json.specs.Outcome.{most_bytes, reading_of}
use Rattle.catalog_json.specs.declared.version.CatalogVersion.TheVariants.{One}
use Rattle.catalog_text.specs.Text.{catalog_text}
use Rattle.query_generator.specs.declared.shape.GenShape.{GenShape}
use Rattle.query_generator.specs.Catalog.{catalog_of}
use Rattle.query_generator.specs.Select.{select_of}
use Rattle.query_generator.specs.Generated.{IsCatalogText, IsQueryText}
use Rattle.query_generator.proofs.CatalogShort.{catalog_short}
use Rattle.query_generator.proofs.SelectKept.{plain_select}

-- a text that was written for the catalogue is read as the catalogue
pub catalog_said : {V E : Type 0} (bytes : V → List ℕ) (number tables : ℕ) (catalog : Catalog) (r : Result V E)
    → tables ≤ 8 → catalog ≡ catalog_of number tables
    → IfOk r (λ text. bytes text ≡ catalog_text One catalog)
    → IfOk r (λ text. length (bytes text) ≤ most_bytes → reading_of (bytes text) ≡ Ok catalog)
    → IfOk r (λ text. IsCatalogText number tables (bytes text))
catalog_said bytes number tables catalog (Err fault) few is written reads = tt
catalog_said bytes number tables catalog (Ok text) few is written reads =
    let same : bytes text ≡ catalog_text One (catalog_of number tables) = written ∙ ap (catalog_text One) is in
    let short : length (bytes text) ≤ most_bytes =
    subst (λ (b : List ℕ). length b ≤ most_bytes) (sym same) (catalog_short number tables few) in
    record { written = same; read = reads short ∙ ap Ok is }

-- a text that was printed for the query is read as the query
pub query_said : {V E : Type 0} (bytes : V → List ℕ) (tables : ℕ) (shape : GenShape) (select : Select) (r : Result V E)
    → 1 ≤ tables → tables ≤ 8 → select ≡ select_of shape tables
    → (length (canonical_text (select_of shape tables)) ≤ 2 ^ 16 → (again : Select)
    × IsReading (canonical_text (select_of shape tables)) again
    × (unplaced again ≡ unplaced (select_of shape tables)))
    → IfOk r (λ text. bytes text ≡ canonical_text select) → IfOk r (λ text. IsQueryText shape tables (bytes text))
query_said bytes tables shape select (Err fault) some few is reads printed = tt
query_said bytes tables shape select (Ok text) some few is reads printed =
    let plain = plain_select shape tables some few in
    let again = reads plain.short in
    let same : bytes text ≡ canonical_text (select_of shape tables) = printed ∙ ap canonical_text is in
    let unplaced_same : unplaced again.0 ≡ select_of shape tables = again.2 ∙ plain.placed in
    record {
      written = same;
      select = again.0;
      read = subst (λ (b : List ℕ). IsReading b again.0) (sym same) again.1;
      same = unplaced_same;
    }
