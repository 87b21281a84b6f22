-- Names are bound to the same, wherever they stand in the text.
use Rattle.std.proofs.Common.{◌≡◌, ℕ, ◌+◌, List, [], ◌∷◌, ◌++◌, map, Option, None, Some, Ok, refl, sym, ap, ◌∙◌}
use Rattle.std.specs.Prelude.{option_map, option_to_list}
use Rattle.query_core.specs.declared.catalog.Catalog.{Catalog}
use Rattle.query_core.specs.declared.catalog.TableInfo.{TableInfo}
use Rattle.sql_reader.specs.declared.syntax.ColRef.{ColRef}
use Rattle.sql_reader.specs.declared.syntax.FromItem.{FromItem}
use Rattle.sql_reader.specs.declared.syntax.SelOperand.{SelOperand}
use Rattle.sql_reader.specs.declared.syntax.SelOperand.TheVariants as operands
use Rattle.sql_reader.specs.declared.syntax.SelPred.{SelPred}
use Rattle.sql_print.specs.Unplaced.{unplaced_column, unplaced_operand, unplaced_pred, unplaced_table}
use Rattle.sql_bind.specs.declared.fault.BindFault.TheVariants.{TwiceAlias}
use Rattle.sql_bind.specs.declared.columns.Column.{Column}
use Rattle.sql_bind.specs.declared.conditions.Compared.{Compared}
use Rattle.sql_bind.specs.declared.conditions.Side.{Side}
use Rattle.sql_bind.specs.declared.conditions.Side.TheVariants as sides
use Rattle.sql_bind.specs.Steps.{Binding, each}
use Rattle.sql_bind.specs.Scope.{FromTable, alias_at, alias_of, aliased, from_table, has_alias, info_of, scope_of}
use Rattle.sql_bind.specs.Columns.{candidates, column, column_of, only_one, place_in}
use Rattle.sql_bind.specs.Conditions.{compared_in, compared_of, side_in}
use Rattle.orca_base.proofs.Checked.{bind_ok, not_met, seen_ok}

-- what is bound without a fault element by element, where each element may be changed so
each_same : {A X : Type 0} (change : X → X) (part : List A → X → Binding A)
    → ((before : List A) (x : X) (y : A) → part before (change x) ≡ Ok y → part before x ≡ Ok y)
    → (before : List A) (xs : List X) (ys : List A) → each part before (map change xs) ≡ Ok ys
    → each part before xs ≡ Ok ys
unfolding each
each_same change part same before [] ys e = e
each_same change part same before (x ∷ xs) ys e =
    let made = bind_ok (part before (change x)) _ ys e in
    rw (same before x made.0 made.1) (each_same change part same (before ++ made.0 ∷ []) xs ys made.2)

-- ---- FROM

aliased_same : (before : List FromTable) (item : FromItem) (info : Option TableInfo) (t : FromTable)
    → aliased before (unplaced_table item) info ≡ Ok t → aliased before item info ≡ Ok t
aliased_same before item None t e = absurd cc
aliased_same before item (Some info) t e =
    let new = not_met (has_alias before (alias_of item)) (TwiceAlias (alias_at (unplaced_table item)))
    (record { alias = alias_of item; info = info }) t e in
    rw new.0 (ap Ok new.1)

pub scope_same : (catalog : Catalog) (from : List FromItem) (scope : List FromTable)
    → scope_of catalog (map unplaced_table from) ≡ Ok scope → scope_of catalog from ≡ Ok scope
scope_same catalog from scope e = each_same unplaced_table (from_table catalog)
    (λ before item t. aliased_same before item (info_of catalog.tables item.table) t) [] from scope e

-- ---- columns

candidates_same : (r : ColRef) (table : ℕ) (scope : List FromTable)
    → candidates (unplaced_column r) table scope ≡ candidates r table scope
candidates_same r table [] = refl
candidates_same r table (t ∷ ts) = ap (λ (cs : List Column).
    option_to_list (option_map (column table) (place_in r t)) ++ cs) (candidates_same r (table + 1) ts)

one_same : (at other : ℕ) (columns : List Column) (c : Column) → only_one at columns ≡ Ok c
    → only_one other columns ≡ Ok c
one_same at other [] c e = absurd cc
one_same at other (b ∷ []) c e = e
one_same at other (a ∷ b ∷ more) c e = absurd cc

pub column_same : (scope : List FromTable) (r : ColRef) (c : Column) → column_of scope (unplaced_column r) ≡ Ok c
    → column_of scope r ≡ Ok c
column_same scope r c e = one_same 0 r.at (candidates r 0 scope) c (ap (only_one 0) (sym (candidates_same r 0 scope))
    ∙ e)

-- ---- WHERE

side_same : (scope : List FromTable) (operand : SelOperand) (side : Side)
    → side_in scope (unplaced_operand operand) ≡ Ok side → side_in scope operand ≡ Ok side
side_same scope (operands.Column r) side e =
    let made = seen_ok (λ c. sides.Column c) (column_of scope (unplaced_column r)) side e in
    rw (column_same scope r made.0 made.1) (ap Ok made.2)
side_same scope (operands.Int value) side e = e
side_same scope (operands.Str text) side e = e

comparison_same : (scope : List FromTable) (pred : SelPred) (c : Compared)
    → compared_in scope (unplaced_pred pred) ≡ Ok c → compared_in scope pred ≡ Ok c
unfolding compared_in
comparison_same scope pred c e =
    let left = bind_ok (column_of scope (unplaced_column pred.left)) _ c e in
    let right = bind_ok (side_in scope (unplaced_operand pred.right)) _ c left.2 in
    rw (column_same scope pred.left left.0 left.1, side_same scope pred.right right.0 right.1) right.2

pub compared_same : (scope : List FromTable) (preds : List SelPred) (compared : List Compared)
    → compared_of scope (map unplaced_pred preds) ≡ Ok compared → compared_of scope preds ≡ Ok compared
compared_same scope preds compared e = each_same unplaced_pred (λ before pred. compared_in scope pred)
    (λ before pred c. comparison_same scope pred c) [] preds compared e
