-- The text of a number's catalogue isn't too long to be read.
use Rattle.std.proofs.Common.{ℕ, zero, suc, ◌+◌, ◌*◌, ◌%◌, ◌^◌, ◌<◌, ◌≤◌, ◌&&◌, Bool, true, false, cond, List, [], ◌∷◌}
use Rattle.std.proofs.Common.{◌++◌, map, length, decimal, arith, length-append}
use Rattle.std.specs.Fmt.{digits}
use Rattle.std.specs.List.{range_with_len}
use Rattle.std.proofs.lemmas.Fmt.{length-decimal-le}
use Rattle.json.specs.Token.{Token}
use Rattle.json.specs.Print.{escape_byte, begins, ends, token_text, separator, print_from}
use Rattle.json.specs.Tree.{json_tokens, items_tokens, room}
use Rattle.json.proofs.Printed.Trees.{room-append}
use Rattle.catalog_json.specs.Outcome.{most_bytes}
use Rattle.catalog_json.specs.declared.version.CatalogVersion.TheVariants.{One}
use Rattle.catalog_text.specs.Text.{items_of, table_json, catalog_json, catalog_text}
use Rattle.query_generator.specs.Draws.{draw}
use Rattle.query_generator.specs.Catalog.{table_with, table_of, catalog_of}
use Rattle.query_generator.proofs.CatalogKept.{draw_below}

-- ---- a text fits the room for its tokens

comma_fits : (comma : Bool) → length {A = ℕ} (cond comma (44 ∷ []) []) ≤ 1
comma_fits true = omega arith
comma_fits false = omega arith

text_fits : (after : Bool) (ts : List Token) → length (print_from after ts) ≤ room ts
unfolding print_from
text_fits after [] = omega arith
text_fits after (t ∷ ts) =
    let comma = separator after t in
    let rest = print_from (ends t) ts in
    omega (
      arith,
      comma_fits (after && begins t),
      text_fits (ends t) ts,
      length-append comma (token_text t ++ rest),
      length-append (token_text t) rest,
    )

-- ---- the room for a table

number_short : (n : ℕ) → n < 10 ^ 7 → length (decimal n) ≤ 7
number_short n h = length-decimal-le 7 n (omega arith) h (omega arith)

table_short : (i rows values : ℕ) → i < 8 → length (decimal rows) ≤ 7 → length (decimal values) ≤ 7
    → room (json_tokens (table_json (table_with i rows values))) ≤ 300
unfolding digits escape_byte
table_short zero rows values h k l = omega arith
table_short (suc zero) rows values h k l = omega arith
table_short (suc (suc zero)) rows values h k l = omega arith
table_short (suc (suc (suc zero))) rows values h k l = omega arith
table_short (suc (suc (suc (suc zero)))) rows values h k l = omega arith
table_short (suc (suc (suc (suc (suc zero))))) rows values h k l = omega arith
table_short (suc (suc (suc (suc (suc (suc zero)))))) rows values h k l = omega arith
table_short (suc (suc (suc (suc (suc (suc (suc zero))))))) rows values h k l = omega arith
table_short (suc (suc (suc (suc (suc (suc (suc (suc i)))))))) rows values h k l = absurd (omega arith)

tables_short : (number a n : ℕ) → a + n ≤ 8
    → room (items_tokens (items_of (map table_json (map (table_of number) (range_with_len a n))))) ≤ 300 * n + 2
tables_short number a zero h = omega arith
tables_short number a (suc n) h =
    let rows = draw_below number (2 * a + 1) in
    let this = table_short a (100 * draw number (2 * a + 1)) (1 + draw number (2 * a + 2) % 1000) (omega arith)
    (number_short _ (omega (arith, rows))) (number_short _ (omega arith)) in
    let others = tables_short number (a + 1) n (omega arith) in
    omega (
      arith,
      this,
      others,
      room-append (json_tokens (table_json (table_of number a)))
          (items_tokens (items_of (map table_json (map (table_of number) (range_with_len (a + 1) n))))),
    )

pub catalog_short : (number tables : ℕ) → tables ≤ 8 → length (catalog_text One (catalog_of number tables)) ≤ most_bytes
unfolding digits escape_byte
catalog_short number tables h =
    let written = items_tokens (items_of (map table_json (map (table_of number) (range_with_len 0 tables)))) in
    omega (
      arith,
      text_fits false (json_tokens (catalog_json One (catalog_of number tables))),
      tables_short number 0 tables (omega arith),
      room-append written (Token.end_object ∷ []),
    )
