-- The text of a catalogue says the catalogue.
use Rattle.std.proofs.Common.{◌≡◌, ℕ, ◌^◌, ◌<◌, ◌≤◌, true, List, [], ◌∷◌, map, length, Option, Some, None, Ok}
use Rattle.std.proofs.Common.{option_and_then, nat_le, IsUtf8, refl, sym, ap, ◌∙◌, arith}
use Rattle.std.proofs.Common.{append-nil}
use Rattle.std.specs.List.{All}
use Rattle.std.proofs.lemmas.Bool.{leb-true, le-ltb, and_parts}
use Rattle.std.proofs.lemmas.Str.{is_utf8-from_IsUtf8}
use Rattle.json.specs.Token.{Token}
use Rattle.json.specs.Lex.{tokens}
use Rattle.json.specs.Json as json
use Rattle.json.specs.Json.{Json, value, if_last}
use Rattle.json.specs.Tree.{json_tokens, depth, items_depth, members_depth}
use Rattle.json.proofs.Printed.Trees.{value-json_tokens}
use Rattle.serde_json.specs.Read.{of_json, read, max_depth}
use Rattle.query_core.specs.declared.histogram.Histogram.{Histogram}
use Rattle.query_core.specs.declared.catalog.ColumnInfo.{ColumnInfo}
use Rattle.query_core.specs.declared.catalog.Placing.{Placing}
use Rattle.query_core.specs.declared.catalog.Placing.TheVariants.{Hashed, Random, Replicated}
use Rattle.query_core.specs.declared.catalog.TableInfo.{TableInfo}
use Rattle.query_core.specs.declared.catalog.Catalog.{Catalog}
use Rattle.query_core.specs.Catalog.{IsCatalog}
use Rattle.catalog_json.specs.Outcome.{most_bytes, reading_of}
use Rattle.catalog_json.specs.declared.version.CatalogVersion.{CatalogVersion}
use Rattle.catalog_text.specs.Signed.{TableFits}
use Rattle.catalog_text.specs.Text.{bucket_json, histogram_member, items_of, name_at, column_json, places_json}
use Rattle.catalog_text.specs.Text.{placing_json, indexes_member, table_json, catalog_json, can_say}
use Rattle.catalog_text.proofs.Values.{catalog_value}
use Rattle.catalog_text.proofs.Walk.{catalog_read}

-- ---- how deep it nests

items_within : {X : Type 0} (written : X → Json) (most : ℕ) (xs : List X) → ((x : X) → depth (written x) ≤ most)
    → items_depth (items_of (map written xs)) ≤ most
items_within written most [] h = omega arith
items_within written most (x ∷ xs) h = omega (arith, h x, items_within written most xs h)

places_within : (columns : List ColumnInfo) (places : List ℕ) → depth (places_json columns places) ≤ 1
places_within columns places = omega (
  arith,
  items_within (λ place. json.string (name_at columns place)) 0 places (λ place. omega arith),
)

placing_within : (columns : List ColumnInfo) (placing : Placing) → depth (placing_json columns placing) ≤ 1
placing_within columns (Hashed places) = places_within columns places
placing_within columns Random = omega arith
placing_within columns Replicated = omega arith

indexes_within : (columns : List ColumnInfo) (indexes : List (List ℕ))
    → members_depth (indexes_member columns indexes) ≤ 2
indexes_within columns [] = omega arith
indexes_within columns (index ∷ indexes) =
    omega (arith, items_within (places_json columns) 1 (index ∷ indexes) (places_within columns))

histogram_within : (histogram : Option Histogram) → members_depth (histogram_member histogram) ≤ 3
histogram_within None = omega arith
histogram_within (Some h) = omega (arith, items_within bucket_json 1 h.buckets (λ b. omega arith))

column_within : (c : ColumnInfo) → depth (column_json c) ≤ 4
column_within c = omega (arith, histogram_within c.histogram)

table_within : (t : TableInfo) → depth (table_json t) ≤ 6
table_within t =
    omega (
      arith,
      placing_within t.columns t.placing,
      items_within column_json 4 t.columns column_within,
      indexes_within t.columns t.indexes,
    )

catalog_within : (version : CatalogVersion) (c : Catalog) → depth (catalog_json version c) ≤ max_depth
catalog_within version c = omega (arith, items_within table_json 6 c.tables table_within)

-- ---- the reading

value_read : (text : List ℕ) (j : Json) → tokens text ≡ json_tokens j → depth j ≤ max_depth → read text ≡ of_json j
value_read text j e within =
    ap (λ (ts : List Token). option_and_then of_json (option_and_then (λ p. if_last p.0 p.1) (value max_depth ts))) (e
    ∙ sym (append-nil (json_tokens j)))
    ∙ ap (λ p. option_and_then of_json (option_and_then (λ q. if_last q.0 q.1) p))
    (value-json_tokens j max_depth [] within)

pub read_back : (version : CatalogVersion) (text : List ℕ) (c : Catalog) → IsCatalog c → can_say version c ≡ true
    → All TableFits c.tables → tokens text ≡ json_tokens (catalog_json version c)
    → IsUtf8 text → length text ≤ most_bytes → reading_of text ≡ Ok c
unfolding reading_of
read_back version text c h said fit e utf8 short =
    let few : c.segments < 2 ^ 64 = let most : c.segments ≤ 1000 =
    leb-true c.segments 1000 (and_parts (nat_le 1 c.segments) (nat_le c.segments 1000) h.segment_count).1 in
    omega arith in
    let value = value_read text (catalog_json version c) e (catalog_within version c)
    ∙ catalog_value version c h fit few in
    rw (
      le-ltb most_bytes (length text) short,
      is_utf8-from_IsUtf8 text utf8,
      value,
      catalog_read version c h said fit,
    ) refl
