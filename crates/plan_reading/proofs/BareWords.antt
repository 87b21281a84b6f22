-- No name, number, order or list has an equals sign or a newline in it.
use Rattle.std.proofs.Common.{◌≡◌, ℕ, zero, suc, ◌-◌, ◌/◌, ◌%◌, ◌<◌, Bool, true, false, List, [], ◌∷◌, ◌++◌, Option}
use Rattle.std.proofs.Common.{Some, None, refl}
use Rattle.std.proofs.Common.{arith, decimal, length}
use Rattle.std.specs.Prelude.{codes, slice_get, ◌==◌, flat_map, if◌then◌else◌}
use Rattle.std.specs.Char.{is_ascii_digit}
use Rattle.std.specs.List.{list_all}
use Rattle.std.specs.Option.{option_map_or}
use Rattle.std.specs.Fmt.{digits, digits_onto, digit_glyph}
use Rattle.std.proofs.lemmas.Bool.{and_parts, and_from, lt-ltb}
use Rattle.std.proofs.lemmas.Bool.Decides.{nat_tests}
use Rattle.std.proofs.lemmas.List.Folds.{list_all-append}
use Rattle.orca_base.specs.Name.{continues_name, has_name_form}
use Rattle.query_core.specs.declared.aggregate.Agg.{Agg}
use Rattle.query_core.specs.declared.query.Query.{Query}
use Rattle.query_core.specs.declared.table.Item.{Item}
use Rattle.query_core.specs.declared.table.QueryTable.{QueryTable}
use Rattle.query_text.specs.Columns.{table_text, item_text, column_text, sorted_text, aggregate_name_at, name_text}
use Rattle.query_text.specs.Lists.{element_text, order_text, list_text, other_elements_text, other_columns_text}
use Rattle.plan_reading.specs.Reading.{is_bare}
use Rattle.plan_reading.proofs.Places.{passed_at}
use Rattle.plan_reading.proofs.Columns.{name_continues}
use Rattle.plan_reading.proofs.AggregateNames.{agg_named}

abbrev pub IsBare : List ℕ → Type 0
IsBare text = list_all is_bare text ≡ true

pub bare_append : (xs ys : List ℕ) → IsBare xs → IsBare ys → IsBare (xs ++ ys)
bare_append xs ys in_xs in_ys = rw (list_all-append is_bare xs ys, in_xs, in_ys) refl

pub weaker : (p r : ℕ → Bool) → ((b : ℕ) → p b ≡ true → r b ≡ true) → (xs : List ℕ) → list_all p xs ≡ true → list_all r xs ≡ true
weaker p r goes [] all = refl
weaker p r goes (x ∷ xs) all = let parts = and_parts (p x) (list_all p xs) all in
    and_from (r x) (list_all r xs) (goes x parts.0) (weaker p r goes xs parts.1)

name_byte_bare : (b : ℕ) → continues_name b ≡ true → is_bare b ≡ true
name_byte_bare b h = grind (arith, nat_tests)

pub name_bare : (text : List ℕ) → has_name_form text ≡ true → IsBare text
name_bare text h = weaker continues_name is_bare name_byte_bare text (name_continues text h)

digit_bare : (b : ℕ) → is_ascii_digit b ≡ true → is_bare b ≡ true
digit_bare b h = grind (arith, nat_tests)

glyph_digit : (n : ℕ) → is_ascii_digit (digit_glyph false (n % 10)) ≡ true
glyph_digit n = let small : n % 10 < 10 = omega arith in rw (lt-ltb (n % 10) 10 small) (grind (arith, nat_tests))

either : (b : Bool) (xs ys : List ℕ) → list_all is_ascii_digit xs ≡ true → list_all is_ascii_digit ys ≡ true
    → list_all is_ascii_digit (if b then xs else ys) ≡ true
either true xs ys in_xs in_ys = in_xs
either false xs ys in_xs in_ys = in_ys

onto_digits : (k n : ℕ) (acc : List ℕ) → list_all is_ascii_digit acc ≡ true
    → list_all is_ascii_digit (digits_onto k 10 false n acc) ≡ true
onto_digits zero n acc all = all
onto_digits (suc k) n acc all =
    let here = and_from (is_ascii_digit (digit_glyph false (n % 10))) (list_all is_ascii_digit acc) (glyph_digit n) all in
    either (n / 10 == 0) (digit_glyph false (n % 10) ∷ acc) (digits_onto k 10 false (n / 10) (digit_glyph false (n % 10) ∷ acc))
    here (onto_digits k (n / 10) (digit_glyph false (n % 10) ∷ acc) here)

-- what is written for any number is digits
pub decimal_digits : (n : ℕ) → list_all is_ascii_digit (decimal n) ≡ true
unfolding digits
decimal_digits n = onto_digits 64 n [] refl

pub decimal_bare : (n : ℕ) → IsBare (decimal n)
decimal_bare n = weaker is_ascii_digit is_bare digit_bare (decimal n) (decimal_digits n)

-- ---- tables, columns, aggregates

module _ (q : Query) where
  pub table_bare : (t : ℕ) → IsBare (table_text q t)
  table_bare t = by_table (slice_get q.tables t) refl
    where
      by_table : (o : Option QueryTable) → slice_get q.tables t ≡ o → IsBare (option_map_or (λ x. x.alias) o [])
      by_table None is = refl
      by_table (Some table) is =
          name_bare table.alias (passed_at (λ x. has_name_form x.alias) q.tables t table q.tables_valid.named is)

  item_bare : (n : ℕ) (item : Item) → slice_get q.items n ≡ Some item → IsBare (item_text q item)
  item_bare n item got =
      bare_append (table_text q item.table ++ codes ".") item.name
      (bare_append (table_text q item.table) (codes ".") (table_bare item.table) refl)
      (name_bare item.name (passed_at (λ x. has_name_form x.name) q.items n item q.items_valid.named got))

  column_bare : (n : ℕ) → IsBare (column_text q n)
  column_bare n = by_item (slice_get q.items n) refl
    where
      by_item : (o : Option Item) → slice_get q.items n ≡ o → IsBare (option_map_or (item_text q) o [])
      by_item None is = refl
      by_item (Some item) is = item_bare n item is

  aggregate_bare : (p : ℕ) → IsBare (aggregate_name_at q p)
  aggregate_bare p = by_agg (slice_get q.aggs p) refl
    where
      by_name : (agg : Agg) (o : Option (List ℕ)) → slice_get q.aggs p ≡ Some agg → agg.name ≡ o → IsBare (name_text o)
      by_name agg None got is = refl
      by_name agg (Some name) got is = name_bare name (agg_named q.aggs p agg name q.grouping_valid.named got is)

      by_agg : (o : Option Agg) → slice_get q.aggs p ≡ o → IsBare (option_map_or (λ agg. name_text agg.name) o [])
      by_agg None is = refl
      by_agg (Some agg) is = by_name agg agg.name is refl

  sorted_bare : (n : ℕ) → IsBare (sorted_text q n)
  sorted_bare n = by_item (slice_get q.items n) refl
    where
      by_item : (o : Option Item) → slice_get q.items n ≡ o
          → IsBare (option_map_or (item_text q) o (aggregate_name_at q (n - length q.items)))
      by_item None is = aggregate_bare (n - length q.items)
      by_item (Some item) is = item_bare n item is

  -- ---- lists and orders

  others_bare : (text : ℕ → List ℕ) → ((n : ℕ) → IsBare (text n)) → (xs : List ℕ)
      → IsBare (flat_map (λ x. codes ", " ++ text x) xs)
  others_bare text bare [] = refl
  others_bare text bare (x ∷ xs) = bare_append (codes ", " ++ text x) (flat_map (λ x. codes ", " ++ text x) xs)
      (bare_append (codes ", ") (text x) refl (bare x)) (others_bare text bare xs)

  pub list_bare : (xs : List ℕ) → IsBare (list_text q xs)
  list_bare [] = refl
  list_bare (x ∷ xs) = bare_append (column_text q x) (other_columns_text q xs) (column_bare x)
      (others_bare (column_text q) column_bare xs)

  mark_bare : (rises : Bool) → IsBare (if rises then [] else codes " DESC")
  mark_bare true = refl
  mark_bare false = refl

  element_bare : (e : ℕ) → IsBare (element_text q e)
  element_bare e = bare_append (sorted_text q (e / 2)) (if e % 2 == 0 then [] else codes " DESC") (sorted_bare (e / 2))
      (mark_bare (e % 2 == 0))

  pub order_bare : (xs : List ℕ) → IsBare (order_text q xs)
  order_bare [] = refl
  order_bare (x ∷ xs) = bare_append (element_text q x) (other_elements_text q xs) (element_bare x)
      (others_bare (element_text q) element_bare xs)
