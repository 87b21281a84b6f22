-- The output and the order are items of the root.
use Rattle.std.proofs.Common.{◌≡◌, ℕ, ◌<◌, ◌+◌, ◌-◌, ◌&&◌, ◌==◌, inl, inr, Bool, true, false, cond, List, [], ◌∷◌, ◌++◌}
use Rattle.std.proofs.Common.{length, map, nat_le, nat_lt, is_some, slice_get, refl, sym, ap, arith}
use Rattle.std.specs.List.{list_all, list_any}
use Rattle.std.specs.Option.{option_map_or}
use Rattle.std.proofs.lemmas.List.{length-map}
use Rattle.std.proofs.lemmas.Bool.{eqb-true, eq-eqb, and_from, and_parts, or_cases, or_left, or_right}
use Rattle.std.proofs.lemmas.Bool.Decides.{nat_tests}
use Rattle.query_core.specs.Results.{is_named, is_root_item}
use Rattle.query_core.specs.declared.aggregate.Agg.{Agg}
use Rattle.sql_bind.specs.declared.columns.Column.{Column}
use Rattle.sql_bind.specs.declared.select_list.What.{What}
use Rattle.sql_bind.specs.declared.select_list.What.TheVariants as whats
use Rattle.sql_bind.specs.declared.select_list.Chosen.{Chosen}
use Rattle.sql_bind.specs.declared.sort_keys.Target.{Target}
use Rattle.sql_bind.specs.declared.sort_keys.Target.TheVariants as targets
use Rattle.sql_bind.specs.declared.sort_keys.SortKey.{SortKey}
use Rattle.sql_bind.specs.Scope.{FromTable}
use Rattle.sql_bind.specs.Columns.{is_among, is_same}
use Rattle.sql_bind.specs.SelectList.{aggregates, is_aggregate}
use Rattle.sql_bind.specs.SortKeys.{target_of}
use Rattle.sql_bind.specs.Used.{UsedColumn, in_target, in_what, named_by_chosen, named_by_keys}
use Rattle.sql_bind.specs.Grouping.{loose_chosen, loose_keys, loose_target, loose_what}
use Rattle.sql_bind.specs.Numbers.{column_number, target_number}
use Rattle.sql_bind.specs.Query.{group_numbers, items_of, item_of, itself, key_of, outputs_of}
use Rattle.sql_bind.proofs.Found.{IsAt, same_is, within}
use Rattle.sql_bind.proofs.Among.{among_first, among_left, among_right}
use Rattle.sql_bind.proofs.ChosenKept.{one_counted}
use Rattle.sql_bind.proofs.PredsKept.{AreUsed, number_below}
use Rattle.sql_bind.proofs.DistinctKept.{number_kept}
use Rattle.sql_bind.proofs.KeysKept.{is_number, is_named_number, is_target}

-- ---- columns that are grouped by

pub nothing : {A : Type 0} (xs ys : List A) → xs ++ ys ≡ [] → (xs ≡ []) × (ys ≡ [])
nothing [] ys e = (refl, e)
nothing (x ∷ xs) ys e = absurd cc

loose_case : (b : Bool) (at : ℕ) → cond b [] (at ∷ []) ≡ [] → b ≡ true
loose_case true at e = refl
loose_case false at e = absurd cc

module _ (used : List UsedColumn) (group : List Column) where
  number_among : (c : Column) (ds : List Column) → is_among ds c ≡ true
      → list_any (λ n. n == column_number used c) (map (column_number used) ds) ≡ true
  number_among c [] among = absurd cc
  number_among c (d ∷ ds) among =
      elim (or_cases (is_same c d) (is_among ds c) among) [
        | inl same ↦ or_left (column_number used d == column_number used c)
            (list_any (λ n. n == column_number used c) (map (column_number used) ds))
            (eq-eqb (column_number used d) (column_number used c) (ap (column_number used) (sym (same_is c d same))))
        | inr later ↦ or_right (column_number used d == column_number used c)
            (list_any (λ n. n == column_number used c) (map (column_number used) ds)) (number_among c ds later)
      ]

  in_group : (c : Column) → is_among group c ≡ true
      → list_any (λ n. n == column_number used c) (group_numbers used group) ≡ true
  in_group c among =
      number_kept itself (column_number used c) (map (column_number used) group) (number_among c group among)

  module _ (grouped : Bool) (aggs : List Agg) where
    abbrev pub is_root : ℕ → Bool
    is_root n = is_root_item (items_of used) grouped (group_numbers used group) aggs n

    column_case : (b : Bool) (c : Column) → (b ≡ true → is_among group c ≡ true) → IsAt used c
        → is_root_item (items_of used) b (group_numbers used group) aggs (column_number used c) ≡ true
    column_case true c among at = or_left (list_any (λ n. n == column_number used c) (group_numbers used group))
        (nat_le (length (items_of used)) (column_number used c) && nat_lt (column_number used c)
        (length (items_of used) + length aggs)) (in_group c (among refl))
    column_case false c among at = within used c at

    upper : (items n count : ℕ) → nat_lt n count ≡ true
        → (nat_le items (items + n) && nat_lt (items + n) (items + count)) ≡ true
    upper items n count low = grind (arith, nat_tests)

    aggregate_case : (n : ℕ) → grouped ≡ true → nat_lt n (length aggs) ≡ true → is_root (length used + n) ≡ true
    aggregate_case n is low =
        rw (is, length-map used item_of) (or_right
        (list_any (λ column. column == length used + n) (group_numbers used group))
        (nat_le (length used) (length used + n) && nat_lt (length used + n) (length used + length aggs))
        (upper (length used) n (length aggs) low))

    -- ---- the select list

    what_root : (what : What) → (grouped ≡ true → loose_what group what ≡ []) → AreUsed used (in_what what)
        → number_below (length aggs) what ≡ true → (is_aggregate what ≡ true → grouped ≡ true)
        → is_root (target_number used (target_of what)) ≡ true
    what_root (whats.Column at c) none there low groups =
        column_case grouped c (λ is. loose_case (is_among group c) at (none is)) (there c (among_first c []))
    what_root (whats.Aggregate number func arg) none there low groups = aggregate_case number (groups refl) low

    some_here : (what : What) (m : ℕ) → is_aggregate what ≡ true → 0 < cond (is_aggregate what) 1 0 + m
    some_here (whats.Column at c) m e = absurd cc
    some_here (whats.Aggregate number func arg) m e = omega arith

    pub chosen_root : (chosen : List Chosen) → (grouped ≡ true → loose_chosen group chosen ≡ [])
        → AreUsed used (named_by_chosen chosen) → list_all (λ c. number_below (length aggs) c.what) chosen ≡ true
        → (0 < aggregates chosen → grouped ≡ true)
        → list_all (λ out. is_root out.item) (outputs_of used chosen) ≡ true
    chosen_root [] none there low groups = refl
    chosen_root (c ∷ cs) none there low groups =
        let parts = and_parts (number_below (length aggs) c.what) (list_all (λ x. number_below (length aggs) x.what) cs)
        low in
        and_from (is_root (target_number used (target_of c.what)))
        (list_all (λ out. is_root out.item) (outputs_of used cs))
        (what_root c.what (λ is. (nothing (loose_what group c.what) (loose_chosen group cs) (none is)).0)
        (λ d among. there d (among_left (in_what c.what) (named_by_chosen cs) d among)) parts.0
        (λ is. groups (rw (one_counted c cs) (some_here c.what (aggregates cs) is))))
        (chosen_root cs (λ is. (nothing (loose_what group c.what) (loose_chosen group cs) (none is)).1)
        (λ d among. there d (among_right (in_what c.what) (named_by_chosen cs) d among)) parts.1
        (λ some. groups (rw (one_counted c cs) (omega (arith, some)))))

    -- ---- the keys

    module _ (scope : List FromTable) (chosen : List Chosen) (numbers : (n : ℕ) → is_named_number chosen n ≡ true
        → nat_lt n (length aggs) ≡ true) (groups : (n : ℕ) → is_named_number chosen n ≡ true → grouped ≡ true)
        (names : (n : ℕ) → is_named_number chosen n ≡ true
        → option_map_or (λ agg. is_some agg.name) (slice_get aggs n) false ≡ true) where
      target_root : (at : ℕ) (target : Target) → is_target scope chosen target ≡ true
          → (grouped ≡ true → loose_target group at target ≡ []) → AreUsed used (in_target target)
          → is_root (target_number used target) ≡ true
      target_root at (targets.Column c) is none there =
          column_case grouped c (λ is_grouped. loose_case (is_among group c) at (none is_grouped))
          (there c (among_first c []))
      target_root at (targets.Aggregate n) is none there = aggregate_case n (groups n is) (numbers n is)

      pub keys_root : (keys : List SortKey) → list_all (λ k. is_target scope chosen k.target) keys ≡ true
          → (grouped ≡ true → loose_keys group keys ≡ []) → AreUsed used (named_by_keys keys)
          → list_all (λ k. is_root k.item) (map (key_of used) keys) ≡ true
      keys_root [] are none there = refl
      keys_root (k ∷ ks) are none there =
          let parts = and_parts (is_target scope chosen k.target) (list_all (λ x. is_target scope chosen x.target) ks)
          are in
          and_from (is_root (target_number used k.target)) (list_all (λ x. is_root x.item) (map (key_of used) ks))
          (target_root k.at k.target parts.0 (λ is.
          (nothing (loose_target group k.at k.target) (loose_keys group ks) (none is)).0)
          (λ d among. there d (among_left (in_target k.target) (named_by_keys ks) d among)))
          (keys_root ks parts.1 (λ is. (nothing (loose_target group k.at k.target) (loose_keys group ks) (none is)).1)
          (λ d among. there d (among_right (in_target k.target) (named_by_keys ks) d among)))

      target_named : (target : Target) → is_target scope chosen target ≡ true → AreUsed used (in_target target)
          → is_named (items_of used) aggs (target_number used target) ≡ true
      target_named (targets.Column c) is there =
          or_left (nat_lt (column_number used c) (length (items_of used)))
          (option_map_or (λ agg. is_some agg.name) (slice_get aggs (column_number used c - length (items_of used)))
          false)
          (within used c (there c (among_first c [])))
      target_named (targets.Aggregate n) is there =
          let place : (length used + n) - length (items_of used) ≡ n = omega (arith, length-map used item_of) in
          or_right (nat_lt (length used + n) (length (items_of used)))
          (option_map_or (λ agg. is_some agg.name) (slice_get aggs ((length used + n) - length (items_of used)))
          false) (rw place (names n is))

      pub keys_named : (keys : List SortKey) → list_all (λ k. is_target scope chosen k.target) keys ≡ true
          → AreUsed used (named_by_keys keys) → list_all (λ k. is_named (items_of used) aggs k.item)
          (map (key_of used) keys) ≡ true
      keys_named [] are there = refl
      keys_named (k ∷ ks) are there =
          let parts = and_parts (is_target scope chosen k.target) (list_all (λ x. is_target scope chosen x.target) ks)
          are in
          and_from (is_named (items_of used) aggs (target_number used k.target))
          (list_all (λ x. is_named (items_of used) aggs x.item) (map (key_of used) ks))
          (target_named k.target parts.0 (λ d among.
          there d (among_left (in_target k.target) (named_by_keys ks) d among)))
          (keys_named ks parts.1 (λ d among. there d (among_right (in_target k.target) (named_by_keys ks) d among)))

-- a named aggregate is one of the aggregates
low_case : (n m : ℕ) (what : What) → is_number n what ≡ true → number_below m what ≡ true → nat_lt n m ≡ true
low_case n m (whats.Column at c) is low = absurd cc
low_case n m (whats.Aggregate number func arg) is low = rw (← eqb-true number n is) low

pub named_low : (chosen : List Chosen) (n m : ℕ) → list_all (λ c. number_below m c.what) chosen ≡ true
    → is_named_number chosen n ≡ true → nat_lt n m ≡ true
named_low [] n m low found = absurd cc
named_low (c ∷ cs) n m low found =
    let parts = and_parts (number_below m c.what) (list_all (λ x. number_below m x.what) cs) low in
    elim (or_cases (is_some c.name && is_number n c.what) (is_named_number cs n) found) [
      | inl here ↦ low_case n m c.what (and_parts (is_some c.name) (is_number n c.what) here).1 parts.0
      | inr later ↦ named_low cs n m parts.1 later
    ]
