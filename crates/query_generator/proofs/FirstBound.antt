-- What is shown and sorted by is the `id` of the first table, wherever the two stand in the text.
use Rattle.std.proofs.Common.{◌≡◌, ℕ, List, [], ◌∷◌, map, Option, None, Some, Ok, refl, ap, ◌∙◌, false}
use Rattle.std.specs.Prelude.{codes}
use Rattle.sql_reader.specs.declared.syntax.ColRef.{ColRef}
use Rattle.sql_reader.specs.declared.syntax.SelExpr.{SelExpr}
use Rattle.sql_reader.specs.declared.syntax.SelExpr.TheVariants as exprs
use Rattle.sql_reader.specs.declared.syntax.SelItem.{SelItem}
use Rattle.sql_reader.specs.declared.syntax.SelKey.{SelKey}
use Rattle.sql_print.specs.Unplaced.{unplaced_column, unplaced_expr, unplaced_item, unplaced_key}
use Rattle.sql_bind.specs.declared.select_list.What.{What}
use Rattle.sql_bind.specs.declared.select_list.What.TheVariants as whats
use Rattle.sql_bind.specs.declared.select_list.Chosen.{Chosen}
use Rattle.sql_bind.specs.declared.sort_keys.Target.TheVariants as targets
use Rattle.sql_bind.specs.declared.sort_keys.SortKey.{SortKey}
use Rattle.sql_bind.specs.Steps.{each}
use Rattle.sql_bind.specs.Scope.{FromTable}
use Rattle.sql_bind.specs.Columns.{column, column_of}
use Rattle.sql_bind.specs.SelectList.{chosen_in, chosen_of, what_in}
use Rattle.sql_bind.specs.SortKeys.{keys_of, meant_output, target_in}
use Rattle.query_generator.specs.Catalog.{table_name}
use Rattle.query_generator.specs.Select as written
use Rattle.query_generator.specs.Select.{item_of_first, key_of_first}
use Rattle.query_generator.proofs.Offsets.{column_same}

-- the `id` of the first table, as it is written
abbrev pub written_first : ColRef
written_first = written.column_of 0 (codes "id")

-- the element at this place
abbrev pub chosen_at : ℕ → Chosen
chosen_at at = record { what = whats.Column at (column 0 0); name = None }

-- the key at this place
abbrev pub key_at : ℕ → SortKey
key_at at = record { at = at; target = targets.Column (column 0 0); desc = false }

module _ (scope : List FromTable) (first : column_of scope written_first ≡ Ok (column 0 0)) where
  reference_bound : (r : ColRef) → unplaced_column r ≡ written_first → column_of scope r ≡ Ok (column 0 0)
  reference_bound r same = column_same scope r (column 0 0) (ap (column_of scope) same ∙ first)

  expr_bound : (expr : SelExpr) → unplaced_expr expr ≡ exprs.Column written_first → (at : ℕ)
      × (what_in scope 0 expr ≡ Ok (whats.Column at (column 0 0)))
  expr_bound (exprs.Column r) same =
      let is : unplaced_column r ≡ written_first = cc in
      (r.at, rw (reference_bound r is) refl)
  expr_bound (exprs.Agg func arg) same = absurd cc

  chosen_by : (item : SelItem) (what : What) → what_in scope 0 item.expr ≡ Ok what → item.name ≡ None
      → chosen_in scope [] item ≡ Ok (record { what = what; name = None })
  unfolding chosen_in
  chosen_by item what is unnamed = rw (is, unnamed) refl

  item_bound : (item : SelItem) → unplaced_item item ≡ item_of_first → (at : ℕ)
      × (chosen_in scope [] item ≡ Ok (chosen_at at))
  item_bound item same =
      let expr = expr_bound item.expr (ap (λ (i : SelItem). i.expr) same) in
      (expr.0, chosen_by item (whats.Column expr.0 (column 0 0)) expr.1 (ap (λ (i : SelItem). i.name) same))

  pub items_bound : (items : List SelItem) → map unplaced_item items ≡ item_of_first ∷ [] → (at : ℕ)
      × (chosen_of scope items ≡ Ok (chosen_at at ∷ []))
  unfolding each
  items_bound [] same = absurd cc
  items_bound (item ∷ []) same =
      let is : unplaced_item item ≡ item_of_first = cc in
      let bound = item_bound item is in
      (bound.0, rw bound.1 refl)
  items_bound (item ∷ other ∷ more) same = absurd cc

  -- a name behind a table's is no output name
  target_bound : (chosen : List Chosen) (r : ColRef) (table : Option (List ℕ)) → table ≡ Some (table_name 0)
      → unplaced_column r ≡ written_first
      → target_in scope (meant_output chosen table r.name) r ≡ Ok (targets.Column (column 0 0))
  target_bound chosen r None is same = absurd cc
  target_bound chosen r (Some table) is same = rw (reference_bound r same) refl

  pub keys_bound : (chosen : List Chosen) (keys : List SelKey) → map unplaced_key keys ≡ key_of_first ∷ [] → (at : ℕ)
      × (keys_of scope chosen keys ≡ Ok (key_at at ∷ []))
  unfolding each
  keys_bound chosen [] same = absurd cc
  keys_bound chosen (key ∷ []) same =
      let is : unplaced_key key ≡ key_of_first = cc in
      let target = target_bound chosen key.col key.col.table (ap (λ (k : SelKey). k.col.table) is)
      (ap (λ (k : SelKey). k.col) is) in
      let ascends : key.desc ≡ false = ap (λ (k : SelKey). k.desc) is in
      (key.col.at, rw (target, ascends) refl)
  keys_bound chosen (key ∷ other ∷ more) same = absurd cc
