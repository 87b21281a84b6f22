-- The catalogue of a number keeps the limits.
use Rattle.std.proofs.Common.{◌≡◌, ℕ, zero, suc, ◌+◌, ◌*◌, ◌%◌, ◌==◌, ◌<◌, ◌≤◌, Bool, true, false, cond, [], ◌∷◌, map}
use Rattle.std.proofs.Common.{length, refl, arith}
use Rattle.std.specs.Fmt.{digits}
use Rattle.std.specs.List.{All, list_all, range_with_len}
use Rattle.std.proofs.lemmas.List.FromFn.{length-map-range_with_len}
use Rattle.query_core.specs.declared.catalog.Placing.TheVariants.{Hashed, Random}
use Rattle.query_core.specs.Catalog.{is_catalog_name, IsColumn, IsPlacing, IsTable, IsCatalog}
use Rattle.query_core.specs.Histogram.{trillion}
use Rattle.query_core.specs.Differ.{texts_differ}
use Rattle.catalog_json.specs.declared.version.CatalogVersion.TheVariants.{One}
use Rattle.catalog_text.specs.Text.{can_say, is_plain_placing, is_plain_table}
use Rattle.query_generator.specs.Draws.{draw}
use Rattle.query_generator.specs.Catalog.{table_name, columns_with, table_with, table_of, catalog_of}
use Rattle.query_generator.proofs.Throughout.{in_range}

pub draw_below : (number count : ℕ) → draw number count < 65537
unfolding draw
draw_below number zero = omega arith
draw_below number (suc count) = omega arith

name_kept : (i : ℕ) → i < 8 → is_catalog_name (table_name i) ≡ true
unfolding digits
name_kept i h = in_range (λ i. is_catalog_name (table_name i)) 0 8 i refl (omega arith) (omega arith)

column_kept : (rows values : ℕ) → rows ≤ trillion → values ≤ trillion → All IsColumn (columns_with rows values)
column_kept rows values few fewer zero d h = record { named = refl; values = few; histogram = refl }
column_kept rows values few fewer (suc zero) d h = record { named = refl; values = fewer; histogram = refl }
column_kept rows values few fewer (suc (suc k)) d h = absurd (omega arith)

placing_kept : (even : Bool) → IsPlacing 2 (cond even (Hashed (0 ∷ [])) Random)
placing_kept true = record { counted = refl; known = refl; differ = refl }
placing_kept false = tt

table_kept : (i rows values : ℕ) → i < 8 → rows ≤ trillion → values ≤ trillion → IsTable (table_with i rows values)
table_kept i rows values h few fewer = record {
  named = name_kept i h;
  counted = few;
  width = refl;
  each_column = column_kept rows values few fewer;
  differ = refl;
  placed = placing_kept (i % 2 == 0);
  index_count = omega arith;
  each_index = λ k d none. absurd (omega arith);
}

tables_kept : (number a n : ℕ) → a + n ≤ 8 → All IsTable (map (table_of number) (range_with_len a n))
tables_kept number a zero h k d within = absurd (omega arith)
tables_kept number a (suc n) h zero d within =
    let rows = draw_below number (2 * a + 1) in
    table_kept a _ _ (omega arith) (omega (arith, rows)) (omega arith)
tables_kept number a (suc n) h (suc k) d within = tables_kept number (a + 1) n (omega arith) k d (omega arith)

names_differ : (number n : ℕ) → n ≤ 8 → texts_differ
    (map (λ t. t.name) (map (table_of number) (range_with_len 0 n))) ≡ true
unfolding digits
names_differ number n h = in_range (λ n. texts_differ (map (λ t. t.name) (map (table_of number) (range_with_len 0 n))))
    0 9 n refl (omega arith) (omega arith)

table_count : (number n : ℕ) → n ≤ 8 → length (map (table_of number) (range_with_len 0 n)) ≤ 1000
table_count number n h = rw (length-map-range_with_len (table_of number) 0 n) (omega arith)

-- a table's placing is by a hash or random
plain_placing : (even : Bool) → is_plain_placing (cond even (Hashed (0 ∷ [])) Random) ≡ true
plain_placing true = refl
plain_placing false = refl

plain_table : (number i : ℕ) → is_plain_table (table_of number i) ≡ true
plain_table number i = rw (plain_placing (i % 2 == 0)) refl

plain_tables : (number a n : ℕ) → list_all is_plain_table (map (table_of number) (range_with_len a n)) ≡ true
plain_tables number a zero = refl
plain_tables number a (suc n) = rw (plain_table number a) (plain_tables number (a + 1) n)

pub catalog_plain : (number tables : ℕ) → can_say One (catalog_of number tables) ≡ true
catalog_plain number tables = plain_tables number 0 tables

pub catalog_kept : (number tables : ℕ) → tables ≤ 8 → IsCatalog (catalog_of number tables)
catalog_kept number tables h = record {
  segment_count = refl;
  table_count = table_count number tables h;
  each_table = tables_kept number 0 tables (omega arith);
  differ = names_differ number tables h;
}
