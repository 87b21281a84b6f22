-- The query of a shape can be spelled, and its text isn't too long to be read.
use Rattle.std.proofs.Common.{◌≡◌, ℕ, zero, suc, ◌+◌, ◌^◌, ◌<◌, ◌≤◌, ◌&&◌, Bool, true, None, map, length, nat_lt, codes}
use Rattle.std.proofs.Common.{refl, arith}
use Rattle.std.specs.Fmt.{digits}
use Rattle.std.specs.List.{list_all, range_with_len}
use Rattle.std.proofs.lemmas.Bool.{and_parts, ltb-true}
use Rattle.std.proofs.lemmas.List.FromFn.{length-map-range_with_len}
use Rattle.orca_base.specs.Name.{has_name_form}
use Rattle.sql_reader.specs.declared.syntax.Select.{Select}
use Rattle.sql_reader.specs.Readable.{IsReadable, is_table}
use Rattle.sql_reader.specs.Words.{word_of}
use Rattle.sql_reader.specs.Spellable.{is_plain, IsSpellable, IsSpellableName, IsSpellableTable, IsSpellablePred, Each}
use Rattle.sql_reader.specs.Spellable.{OneOrMore}
use Rattle.sql_print.specs.Canonical.{canonical_text}
use Rattle.sql_print.specs.Unplaced.{unplaced}
use Rattle.query_generator.specs.declared.shape.GenShape.{GenShape}
use Rattle.query_generator.specs.declared.shape.GenShape.TheVariants.{Chain, Star, Clique}
use Rattle.query_generator.specs.Catalog.{table_name}
use Rattle.query_generator.specs.Select.{from_of, join_of, select_of}
use Rattle.query_generator.proofs.Joins.{each_join}
use Rattle.query_generator.proofs.Throughout.{in_range, same_in_range}

-- ---- names

name_spelled : (i : ℕ) → i < 8 → IsSpellableName (table_name i)
unfolding digits word_of
name_spelled i h = (
  in_range (λ i. has_name_form (table_name i)) 0 8 i refl (omega arith) (omega arith),
  same_in_range (λ i. word_of (table_name i)) (λ i. None) 0 8 i refl (omega arith) (omega arith),
  in_range (λ i. list_all is_plain (table_name i)) 0 8 i refl (omega arith) (omega arith),
)

id_spelled : IsSpellableName (codes "id")
unfolding word_of
id_spelled = (refl, refl, refl)

f_spelled : IsSpellableName (codes "f")
unfolding word_of
f_spelled = (refl, refl, refl)

-- ---- lists

from_spelled : (a n : ℕ) → a + n ≤ 8 → Each IsSpellableTable (map from_of (range_with_len a n))
from_spelled a zero h = tt
from_spelled a (suc n) h = ((name_spelled a (omega arith), tt), from_spelled (a + 1) n (omega arith))

some_spelled : (n : ℕ) → 1 ≤ n → n ≤ 8 → OneOrMore IsSpellableTable (map from_of (range_with_len 0 n))
some_spelled zero some h = absurd (omega arith)
some_spelled (suc n) some h = ((name_spelled 0 (omega arith), tt), from_spelled 1 n (omega arith))

join_spelled : (i j : ℕ) → i < 8 → j < 8 → IsSpellablePred (join_of i j)
join_spelled i j h k = ((name_spelled i h, f_spelled), (name_spelled j k, id_spelled))

pub select_spelled : (shape : GenShape) (tables : ℕ) → 1 ≤ tables → tables ≤ 8 → IsSpellable (select_of shape tables)
select_spelled shape tables some few = record {
  items = (((name_spelled 0 (omega arith), id_spelled), tt), tt);
  from = some_spelled tables some few;
  preds = each_join IsSpellablePred shape tables (λ i j h k. join_spelled i j (omega arith) (omega arith));
  group_by = tt;
  order_by = ((name_spelled 0 (omega arith), id_spelled), tt);
}

-- ---- what each shape has, over 1 to 8 tables

-- few joins, tables with the form of a name, no offsets, and a short text
pub record IsPlainSelect (select : Select) : Type 0 where
  pub few_preds : length select.preds ≤ 40
  pub tables : list_all is_table select.from ≡ true
  pub placed : unplaced select ≡ select
  pub short : length (canonical_text select) ≤ 2 ^ 16

-- few joins, tables with the form of a name, and a short text, as one test
abbrev is_plain_at : GenShape → ℕ → Bool
is_plain_at shape t = nat_lt (length (select_of shape t).preds) 41
    && (list_all is_table (select_of shape t).from && nat_lt (length (canonical_text (select_of shape t))) (2 ^ 16 + 1))

all_plain : (shape : GenShape) → list_all (is_plain_at shape) (range_with_len 1 8) ≡ true
unfolding digits
all_plain Chain = refl
all_plain Star = refl
all_plain Clique = refl

all_placed : (shape : GenShape) → map (λ t. unplaced (select_of shape t)) (range_with_len 1 8) ≡ map (select_of shape)
    (range_with_len 1 8)
all_placed Chain = refl
all_placed Star = refl
all_placed Clique = refl

pub plain_select : (shape : GenShape) (tables : ℕ) → 1 ≤ tables → tables ≤ 8 → IsPlainSelect (select_of shape tables)
plain_select shape tables some few =
    let select : Select = select_of shape tables in
    let few_preds = and_parts (nat_lt (length select.preds) 41) _
    (in_range (is_plain_at shape) 1 8 tables (all_plain shape) some (omega arith)) in
    let others = and_parts (list_all is_table select.from) (nat_lt (length (canonical_text select)) (2 ^ 16 + 1))
    few_preds.1 in
    record {
      few_preds = omega (arith, ltb-true (length select.preds) 41 few_preds.0);
      tables = others.0;
      placed = same_in_range (λ t. unplaced (select_of shape t)) (select_of shape) 1 8 tables (all_placed shape) some
          (omega arith);
      short = omega (arith, ltb-true (length (canonical_text select)) (2 ^ 16 + 1) others.1);
    }

pub select_kept : (shape : GenShape) (tables : ℕ) → 1 ≤ tables → tables ≤ 8 → IsReadable (select_of shape tables)
select_kept shape tables some few =
    let plain = plain_select shape tables some few in
    let count : length (select_of shape tables).from ≡ tables = length-map-range_with_len from_of 0 tables in
    record {
      some_items = omega arith;
      few_items = omega arith;
      items = refl;
      some_tables = omega (arith, count);
      few_tables = omega (arith, count);
      tables = plain.tables;
      few_preds = plain.few_preds;
      few_columns = omega arith;
      few_keys = omega arith;
      spellable = select_spelled shape tables some few;
    }
