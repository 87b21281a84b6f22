-- What the parts were bound from, what they were judged by, and that the columns they name are there.
use Rattle.std.proofs.Common.{◌≡◌, ◌∙◌, ℕ, ◌≤◌, Bool, true, false, cond, List, [], ◌∷◌, ◌++◌, nat_lt, Ok, refl, sym}
use Rattle.std.proofs.Common.{subst, arith}
use Rattle.std.specs.List.{list_all}
use Rattle.std.proofs.lemmas.Bool.Decides.{nat_tests}
use Rattle.std.proofs.lemmas.Bool.{and_from, and_parts}
use Rattle.sql_bind.proofs.Truths.{all_both, all_push}
use Rattle.query_core.specs.declared.catalog.Catalog.{Catalog}
use Rattle.sql_reader.specs.declared.syntax.Select.{Select}
use Rattle.sql_reader.specs.declared.syntax.ColRef.{ColRef}
use Rattle.sql_reader.specs.declared.syntax.SelPred.{SelPred}
use Rattle.sql_reader.specs.declared.syntax.SelOperand.{SelOperand}
use Rattle.sql_reader.specs.declared.syntax.SelOperand.TheVariants as operands
use Rattle.sql_bind.specs.declared.fault.BindFault.TheVariants.{TooManyItems}
use Rattle.sql_bind.specs.declared.columns.Column.{Column}
use Rattle.sql_bind.specs.declared.conditions.Compared.{Compared}
use Rattle.sql_bind.specs.declared.conditions.Side.{Side}
use Rattle.sql_bind.specs.declared.conditions.Side.TheVariants as sides
use Rattle.sql_bind.specs.declared.sort_keys.Target.{Target}
use Rattle.sql_bind.specs.declared.sort_keys.Target.TheVariants as targets
use Rattle.sql_bind.specs.declared.select_list.Chosen.{Chosen}
use Rattle.sql_bind.specs.declared.sort_keys.SortKey.{SortKey}
use Rattle.sql_bind.specs.declared.parts.Parts.{Parts}
use Rattle.sql_bind.specs.Scope.{FromTable, scope_of}
use Rattle.sql_bind.specs.Columns.{column_of, columns_of}
use Rattle.sql_bind.specs.SelectList.{chosen_of}
use Rattle.sql_bind.specs.Conditions.{compared_in, compared_of, op_of, side_in}
use Rattle.sql_bind.specs.SortKeys.{keys_of}
use Rattle.sql_bind.specs.Parts.{parts_of}
use Rattle.sql_bind.specs.Used.{in_compared, in_side, in_target, named_by_compared, named_by_keys}
use Rattle.sql_bind.specs.Grouping.{first_of, is_grouped, item_count, judged, loose_places, none_loose, sized}
use Rattle.orca_base.proofs.Checked.{bind_ok, not_met, ok_is, seen_ok}
use Rattle.sql_bind.proofs.Resolving.{has_column, column_there}
use Rattle.sql_bind.proofs.KeysKept.{is_target}

-- what the parts were bound from
pub record AreBound (select : Select) (catalog : Catalog) (p : Parts) : Type 0 where
  pub scope : scope_of catalog select.from ≡ Ok p.scope
  pub chosen : chosen_of p.scope select.items ≡ Ok p.chosen
  pub compared : compared_of p.scope select.preds ≡ Ok p.compared
  pub group : columns_of p.scope select.group_by ≡ Ok p.group
  pub keys : keys_of p.scope p.chosen select.order_by ≡ Ok p.keys

abbrev made : List FromTable → List Chosen → List Compared → List Column → List SortKey → Parts
made scope chosen compared group keys = record {
  scope = scope;
  chosen = chosen;
  compared = compared;
  group = group;
  keys = keys;
}

pub parts_bound : (select : Select) (catalog : Catalog) (p : Parts) → parts_of select catalog ≡ Ok p
    → AreBound select catalog p
unfolding parts_of
parts_bound select catalog p e =
    let scope = bind_ok (scope_of catalog select.from) _ p e in
    let s = scope.0 in
    let chosen = bind_ok (chosen_of s select.items) _ p scope.2 in
    let compared = bind_ok (compared_of s select.preds) _ p chosen.2 in
    let group = bind_ok (columns_of s select.group_by) _ p compared.2 in
    let keys = bind_ok (keys_of s chosen.0 select.order_by) _ p group.2 in
    subst (AreBound select catalog) (ok_is (made s chosen.0 compared.0 group.0 keys.0) p keys.2)
    (record { scope = scope.1; chosen = chosen.1; compared = compared.1; group = group.1; keys = keys.1 })

-- what the parts keep where they are judged to be good
pub record AreJudged (p : Parts) : Type 0 where
  pub none_loose : is_grouped p ≡ true → loose_places p ≡ []
  pub few : item_count p ≤ 60

at_most_60 : (n : ℕ) → nat_lt 60 n ≡ false → n ≤ 60
at_most_60 n e = grind (arith, nat_tests)

sized_ok : (p q : Parts) → sized p ≡ Ok q → (p ≡ q) × (item_count p ≤ 60)
sized_ok p q e =
    let test = not_met (nat_lt 60 (item_count p)) (TooManyItems (item_count p)) p q e in
    (test.1, at_most_60 (item_count p) test.0)

loose_ok : (p q : Parts) (places : List ℕ) → none_loose p (first_of places) ≡ Ok q → (places ≡ []) × (sized p ≡ Ok q)
loose_ok p q [] e = (refl, e)
loose_ok p q (at ∷ others) e = absurd cc

judged_case : (p q : Parts) (b : Bool) → is_grouped p ≡ b
    → cond b (none_loose p (first_of (loose_places p))) (sized p) ≡ Ok q → (p ≡ q) × AreJudged p
judged_case p q true is e =
    let loose = loose_ok p q (loose_places p) e in
    let size = sized_ok p q loose.1 in
    (size.0, record { none_loose = λ grouped. loose.0; few = size.1 })
judged_case p q false is e =
    let size = sized_ok p q e in
    (size.0, record { none_loose = λ grouped. absurd (let no : false ≡ true = sym is ∙ grouped in cc); few = size.1 })

pub judged_ok : (p q : Parts) → judged p ≡ Ok q → (p ≡ q) × AreJudged p
unfolding judged
judged_ok p q e = judged_case p q (is_grouped p) refl e

-- ---- all columns that the query names are there

pub compared_there : (scope : List FromTable) (compared : List Compared)
    → list_all (λ c. list_all (has_column 0 scope) (in_compared c)) compared ≡ true
    → list_all (has_column 0 scope) (named_by_compared compared) ≡ true
compared_there scope [] all = refl
compared_there scope (c ∷ cs) all =
    let parts = and_parts (list_all (has_column 0 scope) (in_compared c))
    (list_all (λ x. list_all (has_column 0 scope) (in_compared x)) cs) all in
    all_both (has_column 0 scope) (in_compared c) (named_by_compared cs) parts.0 (compared_there scope cs parts.1)

side_there : (scope : List FromTable) (operand : SelOperand) (side : Side) → side_in scope operand ≡ Ok side
    → list_all (has_column 0 scope) (in_side side) ≡ true
side_there scope (operands.Column reference) side e =
    let bound = seen_ok (λ c. sides.Column c) (column_of scope reference) side e in
    subst (λ (x : Side). list_all (has_column 0 scope) (in_side x) ≡ true) bound.2
    (and_from (has_column 0 scope bound.0) true (column_there scope reference bound.0 bound.1) refl)
side_there scope (operands.Int value) side e =
    subst (λ (x : Side). list_all (has_column 0 scope) (in_side x) ≡ true) (ok_is (sides.Int value) side e) refl
side_there scope (operands.Str text) side e =
    subst (λ (x : Side). list_all (has_column 0 scope) (in_side x) ≡ true) (ok_is (sides.Str text) side e) refl

pub compared_step : (scope : List FromTable) (before : List Compared) (pred : SelPred) (c : Compared)
    → list_all (λ x. list_all (has_column 0 scope) (in_compared x)) before ≡ true → true ≡ true
    → compared_in scope pred ≡ Ok c
    → list_all (λ x. list_all (has_column 0 scope) (in_compared x)) (before ++ c ∷ []) ≡ true
unfolding compared_in
compared_step scope before pred c so_far good e =
    let lefts = bind_ok (column_of scope pred.left) _ c e in
    let rights = bind_ok (side_in scope pred.right) _ c lefts.2 in
    let whole : Compared = record { left = lefts.0; op = op_of pred.op; right = rights.0 } in
    all_push (λ (x : Compared). list_all (has_column 0 scope) (in_compared x)) before c so_far
    (subst (λ (x : Compared). list_all (has_column 0 scope) (in_compared x) ≡ true) (ok_is whole c rights.2)
    (and_from (has_column 0 scope lefts.0) (list_all (has_column 0 scope) (in_side rights.0))
    (column_there scope pred.left lefts.0 lefts.1) (side_there scope pred.right rights.0 rights.1)))

pub group_step : (scope : List FromTable) (before : List Column) (reference : ColRef) (c : Column)
    → list_all (has_column 0 scope) before ≡ true → true ≡ true → column_of scope reference ≡ Ok c
    → list_all (has_column 0 scope) (before ++ c ∷ []) ≡ true
group_step scope before reference c so_far good e =
    all_push (has_column 0 scope) before c so_far (column_there scope reference c e)

target_there : (scope : List FromTable) (chosen : List Chosen) (target : Target) → is_target scope chosen target ≡ true
    → list_all (has_column 0 scope) (in_target target) ≡ true
target_there scope chosen (targets.Column c) is = and_from (has_column 0 scope c) true is refl
target_there scope chosen (targets.Aggregate n) is = refl

pub keys_there : (scope : List FromTable) (chosen : List Chosen) (keys : List SortKey)
    → list_all (λ k. is_target scope chosen k.target) keys ≡ true
    → list_all (has_column 0 scope) (named_by_keys keys) ≡ true
keys_there scope chosen [] are = refl
keys_there scope chosen (k ∷ ks) are =
    let parts = and_parts (is_target scope chosen k.target) (list_all (λ x. is_target scope chosen x.target) ks) are in
    all_both (has_column 0 scope) (in_target k.target) (named_by_keys ks) (target_there scope chosen k.target parts.0)
    (keys_there scope chosen ks parts.1)
