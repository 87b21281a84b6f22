-- The numbers of a plan of few enough nodes fit 64 bits.
use Rattle.std.proofs.Common.{◌≡◌, ℕ, zero, suc, ◌*◌, ◌≤◌, ◌^◌, Bool, true, false, List, [], ◌∷◌}
use Rattle.std.proofs.Common.{length, min, Option, None, Some, refl, arith, IsTrue, length-append}
use Rattle.std.specs.Prelude.{nat_le, slice_get, if◌then◌else◌, ◌==◌}
use Rattle.std.specs.Int.{div_ceil}
use Rattle.std.specs.List.{fold, list_all}
use Rattle.std.specs.Option.{option_map, option_map_or}
use Rattle.std.proofs.lemmas.Bool.{and_parts, leb-true}
use Rattle.std.proofs.lemmas.Bool.Decides.{nat_tests}
use Rattle.std.proofs.lemmas.Grind.{common_steps}
use Rattle.query_core.specs.Sets.{bit}
use Rattle.query_core.specs.Keys.{input_of}
use Rattle.query_core.specs.declared.histogram.Histogram.{Histogram}
use Rattle.query_core.specs.declared.predicate.CmpOp as comparisons
use Rattle.query_core.specs.declared.predicate.CmpOp.{CmpOp}
use Rattle.query_core.specs.declared.predicate.Operand as operands
use Rattle.query_core.specs.declared.predicate.Operand.{Operand}
use Rattle.query_core.specs.declared.predicate.Pred.{Pred}
use Rattle.query_core.specs.declared.query.Query.{Query}
use Rattle.query_core.specs.declared.table.Item.{Item}
use Rattle.query_core.specs.declared.table.QueryTable.{QueryTable}
use Rattle.query_core.specs.declared.words.KeyParts.{KeyParts}
use Rattle.query_core.specs.declared.words.KeyParts.TheVariants.{Get, Filter, Join, Partial, Agg}
use Rattle.cardinality.specs.Factor.{all_rows, rows_met, share_met, histogram_of, integer_of}
use Rattle.cardinality.specs.Factor.{range_factor, equality_divisor, factor_by, factor_of}
use Rattle.cardinality.specs.Rows.{capped, applies, rows_by, rows_after, rows_with, rows_next, rows_upto}
use Rattle.cardinality.specs.Rows.{table_rows, ungrouped_rows, input_rows, grouped_rows, rows_of}
use Rattle.cardinality.specs.declared.factor.Factor.{Factor}
use Rattle.cardinality.specs.declared.histogram.Range.{Range}
use Rattle.cardinality.proofs.Buckets.{met_few}
use Rattle.plan_space.specs.Cost.{shape_of, cost_of}
use Rattle.plan_space.specs.Gives.{kid_of}
use Rattle.plan_space.specs.Nodes.{Tree, leaf, over, two}
use Rattle.plan_space.proofs.Cheapest.{node_small}
use Rattle.plan_check.specs.Preorder.{plans_in}

-- ---- a predicate leaves at most all rows

-- some of so many rows
record IsShare (f : Factor) : Type 0 where
  some : 1 ≤ f.den
  share : f.num ≤ f.den

third_share : IsShare (record { num = 1; den = 3 })
third_share = record { some = omega arith; share = omega arith }

-- where there is a row at all
met_or_third : (all met : ℕ) (none : Bool) → (all == 0) ≡ none → met ≤ all
    → IsShare (if none then record { num = 1; den = 3 } else record { num = met; den = all })
met_or_third all met true is few = third_share
met_or_third all met false is few = record { some = grind (arith, nat_tests); share = few }

met_share : (range : Range) (h : Histogram) → IsShare (share_met range h)
met_share range h =
    met_or_third (all_rows h.buckets) (rows_met range h.low h.buckets) (all_rows h.buckets == 0) refl
    (met_few range h.low h.buckets)

by_histogram : (range : Range) (found : Option Histogram)
    → IsShare (option_map_or (share_met range) found (record { num = 1; den = 3 }))
by_histogram range None = third_share
by_histogram range (Some h) = met_share range h

by_range : (items : List Item) (left : ℕ) (range : Option Range) → IsShare (range_factor items left range)
by_range items left None = third_share
by_range items left (Some range) = by_histogram range (histogram_of items left)

some_divisor : (items : List Item) (left : ℕ) (right : Operand) → 1 ≤ equality_divisor items left right
some_divisor items left (operands.TheVariants.Item right) = omega arith
some_divisor items left (operands.TheVariants.Int value) = omega arith
some_divisor items left (operands.TheVariants.Str text) = omega arith

by_comparison : (items : List Item) (left : ℕ) (op : CmpOp) (right : Operand) → IsShare (factor_by items left op right)
by_comparison items left comparisons.TheVariants.Eq right =
    let some = some_divisor items left right in record { some = some; share = some }
by_comparison items left comparisons.TheVariants.Ne right = record { some = omega arith; share = omega arith }
by_comparison items left comparisons.TheVariants.Lt right = by_range items left (option_map _ (integer_of right))
by_comparison items left comparisons.TheVariants.Le right = by_range items left (option_map _ (integer_of right))
by_comparison items left comparisons.TheVariants.Gt right = by_range items left (option_map _ (integer_of right))
by_comparison items left comparisons.TheVariants.Ge right = by_range items left (option_map _ (integer_of right))

-- so many of them, rounded up, are at most all
share_few : (rows num den : ℕ) → 1 ≤ den → num ≤ den → div_ceil (rows * num) den ≤ rows
share_few rows num den some share = grind (arith, common_steps)

few_by : (rows : ℕ) (f : Factor) → IsShare f → rows_by rows f ≤ rows
few_by rows f is = share_few rows f.num f.den is.some is.share

-- ---- no group has more than 10^12 rows

few_after : (items : List Item) (set t rows : ℕ) (pred : Pred) → rows_after items set t rows pred ≤ rows
few_after items set t rows pred =
    by_test (applies items set t pred)
    (few_by rows (factor_of items pred) (by_comparison items pred.left pred.op pred.right))
  where
    by_test : (b : Bool) → rows_by rows (factor_of items pred) ≤ rows
        → (if b then rows_by rows (factor_of items pred) else rows) ≤ rows
    by_test true few = few
    by_test false few = omega arith

few_left : (items : List Item) (set t rows : ℕ) (preds : List Pred) → fold (rows_after items set t) rows preds ≤ rows
few_left items set t rows [] = omega arith
few_left items set t rows (pred ∷ preds) =
    let first = few_after items set t rows pred in
    let others = few_left items set t (rows_after items set t rows pred) preds in
    omega (arith, first, others)

few_next : (q : Query) (set t rows : ℕ) → rows ≤ 1000000000000 → rows_next q set t rows ≤ 1000000000000
few_next q set t rows few =
    let joined = few_left q.items set t (capped (rows * table_rows q t)) q.preds in
    by_test (bit set t == 1) (omega (arith, joined))
  where
    by_test : (b : Bool) → rows_with q set t rows ≤ 1000000000000
        → (if b then rows_with q set t rows else rows) ≤ 1000000000000
    by_test true with_few = with_few
    by_test false with_few = few

few_upto : (q : Query) (set t : ℕ) → rows_upto q set t ≤ 1000000000000
few_upto q set zero = omega arith
few_upto q set (suc t) = few_next q set t (rows_upto q set t) (few_upto q set t)

few_of_table : (tables : List QueryTable) (t : ℕ) → IsTrue (list_all (λ table. nat_le table.rows 1000000000000) tables)
    → option_map_or (λ table. table.rows) (slice_get tables t) 0 ≤ 1000000000000
few_of_table [] t all = omega arith
few_of_table (table ∷ tables) zero all = leb-true _ _ (and_parts _ _ all).0
few_of_table (table ∷ tables) (suc t) all = few_of_table tables t (and_parts _ _ all).1

few_ungrouped : (q : Query) (g : KeyParts) → ungrouped_rows q g ≤ 1000000000000
few_ungrouped q (Get t) = few_of_table q.tables t q.tables_valid.rows_fit
few_ungrouped q (Filter t) = few_upto q (2 ^ t) (length q.tables)
few_ungrouped q (Join set) = few_upto q set (length q.tables)
few_ungrouped q Partial = omega arith
few_ungrouped q Agg = omega arith

few_of_two : (test : Bool) (a b most : ℕ) → a ≤ most → b ≤ most → (if test then a else b) ≤ most
few_of_two true a b most first second = first
few_of_two false a b most first second = second

-- the rows of any group
pub rows_few : (q : Query) (g : KeyParts) → rows_of q g ≤ 1000000000000
rows_few q (Get t) = few_ungrouped q (Get t)
rows_few q (Filter t) = few_ungrouped q (Filter t)
rows_few q (Join set) = few_ungrouped q (Join set)
rows_few q Partial =
    let input = few_ungrouped q (input_of q) in
    let few = q.segments_fit in
    few_of_two (length q.group_by == 0) q.segments (min (input_rows q) (capped (q.segments * grouped_rows q))) 1000000000000
    (omega (arith, few)) (omega (arith, input))
rows_few q Agg =
    let input = few_ungrouped q (input_of q) in
    few_of_two (length q.group_by == 0) 1 (min (input_rows q) _) 1000000000000 (omega arith) (omega (arith, input))

-- ---- nor does a plan of few enough nodes cost more than fits

-- each node costs little
pub plan_few : (q : Query) (t : Tree) → cost_of q t ≤ length (plans_in t) * 1000000000000000
plan_few q (leaf node) = let own = node_small (shape_of q node []) in omega (arith, own)
plan_few q (over node kid) =
    let own = node_small (shape_of q node (kid_of q kid ∷ [])) in
    let below = plan_few q kid in
    omega (arith, own, below)
plan_few q (two node left right) =
    let own = node_small (shape_of q node (kid_of q left ∷ kid_of q right ∷ [])) in
    let first = plan_few q left in
    let second = plan_few q right in
    let both = length-append (plans_in left) (plans_in right) in
    omega (arith, own, first, second, both)
