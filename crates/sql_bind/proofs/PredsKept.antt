-- Predicates and aggregates go over items of the query.
use Rattle.std.proofs.Common.{◌≡◌, ◌∙◌, ℕ, ◌<◌, ◌+◌, ◌&&◌, Bool, true, false, not, cond, List, [], ◌∷◌, ◌++◌, length}
use Rattle.std.proofs.Common.{nat_lt, bytes_eq, option_map, option_to_list, Option, Some, None, refl, sym, subst, arith}
use Rattle.std.specs.List.{list_all, list_any}
use Rattle.std.proofs.lemmas.Bool.{eqb-true, and_from, and_parts, not-true, or_parts}
use Rattle.std.proofs.lemmas.Bool.Decides.{nat_tests}
use Rattle.sql_bind.proofs.Truths.{all_both}
use Rattle.orca_base.specs.Name.{has_name_form}
use Rattle.query_core.specs.Differ.{texts_differ}
use Rattle.query_core.specs.Conditions.{is_operand}
use Rattle.query_core.specs.Grouping.{has_argument, names_of, takes_column}
use Rattle.query_core.specs.declared.aggregate.Agg.{Agg}
use Rattle.query_core.specs.declared.aggregate.AggFunc.{AggFunc}
use Rattle.sql_bind.specs.declared.columns.Column.{Column}
use Rattle.sql_bind.specs.declared.conditions.Side.{Side}
use Rattle.sql_bind.specs.declared.conditions.Side.TheVariants as sides
use Rattle.sql_bind.specs.declared.conditions.Compared.{Compared}
use Rattle.sql_bind.specs.declared.select_list.What.{What}
use Rattle.sql_bind.specs.declared.select_list.What.TheVariants as whats
use Rattle.sql_bind.specs.declared.select_list.Chosen.{Chosen}
use Rattle.sql_bind.specs.Columns.{is_among}
use Rattle.sql_bind.specs.SelectList.{aggregates, is_aggregate, output_names}
use Rattle.sql_bind.specs.Used.{UsedColumn, in_compared, in_side, in_what, named_by_chosen, named_by_compared}
use Rattle.sql_bind.specs.Numbers.{column_number}
use Rattle.sql_bind.specs.Query.{agg_as, aggs_of, items_of, operand_of, preds_of}
use Rattle.sql_reader.specs.Readable.{is_named}
use Rattle.sql_bind.proofs.Found.{IsAt, within}
use Rattle.sql_bind.proofs.Among.{among_first, among_later, among_left, among_right}
use Rattle.sql_bind.proofs.ChosenKept.{next_number, number_is, numbered_from, takes_its, counted_on, one_counted}

module _ (used : List UsedColumn) where
  -- all these columns are used
  abbrev pub AreUsed : List Column → Type 0
  AreUsed cs = (c : Column) → is_among cs c ≡ true → IsAt used c

  -- ---- predicates

  operand_in : (side : Side) → AreUsed (in_side side) → is_operand (items_of used) (operand_of used side) ≡ true
  operand_in (sides.Column c) at = within used c (at c (among_first c []))
  operand_in (sides.Int value) at = refl
  operand_in (sides.Str text) at = refl

  pub preds_in : (compared : List Compared) → AreUsed (named_by_compared compared)
      → list_all (λ pred. nat_lt pred.left (length (items_of used)) && is_operand (items_of used) pred.right)
      (preds_of used compared) ≡ true
  preds_in [] at = refl
  preds_in (p ∷ ps) at =
      and_from (nat_lt (column_number used p.left) (length (items_of used)) && is_operand (items_of used)
      (operand_of used p.right)) (list_all (λ pred.
      nat_lt pred.left (length (items_of used)) && is_operand (items_of used) pred.right) (preds_of used ps))
      (and_from (nat_lt (column_number used p.left) (length (items_of used)))
      (is_operand (items_of used) (operand_of used p.right))
      (within used p.left (at p.left (among_left (in_compared p) (named_by_compared ps) p.left
      (among_first p.left (in_side p.right)))))
      (operand_in p.right (λ c among. at c (among_left (in_compared p) (named_by_compared ps) c
      (among_later c p.left (in_side p.right) among)))))
      (preds_in ps (λ c among. at c (among_right (in_compared p) (named_by_compared ps) c among)))

  -- ---- aggregates

  pub aggs_cons : (c : Chosen) (cs : List Chosen) (what : What) → c.what ≡ what
      → aggs_of used (c ∷ cs) ≡ option_to_list (agg_as used c.name what) ++ aggs_of used cs
  aggs_cons c cs (whats.Column at x) is = rw is refl
  aggs_cons c cs (whats.Aggregate number func arg) is = rw is refl

  one_counts : (name : Option (List ℕ)) (what : What) (rest : List Agg) (m : ℕ) → length rest ≡ m
      → length (option_to_list (agg_as used name what) ++ rest) ≡ cond (is_aggregate what) 1 0 + m
  one_counts name (whats.Column at x) rest m e = omega (arith, e)
  one_counts name (whats.Aggregate number func arg) rest m e = omega (arith, e)

  -- there are as many as are counted
  pub as_counted : (chosen : List Chosen) → length (aggs_of used chosen) ≡ aggregates chosen
  as_counted [] = refl
  as_counted (c ∷ cs) = rw (aggs_cons c cs c.what refl)
      (one_counts c.name c.what (aggs_of used cs) (aggregates cs) (as_counted cs) ∙ sym (one_counted c cs))

  none_case : (b rest : Bool) → cond b false true ≡ true → cond b (false && rest) true ≡ true
  none_case true rest e = absurd cc
  none_case false rest e = refl

  some_case : (b low : Bool) → cond b true false ≡ true → low ≡ true → cond b (true && (low && true)) false ≡ true
  some_case true low takes e = rw e refl
  some_case false low takes e = absurd cc

  argument_in : (name : Option (List ℕ)) (number : ℕ) (func : AggFunc) (arg : Option Column)
      → takes_its (whats.Aggregate number func arg) ≡ true → AreUsed (option_to_list arg)
      → has_argument (items_of used) (record { func = func; arg = option_map (column_number used) arg; name = name }) ≡
      true
  argument_in name number func None takes at =
      none_case (takes_column func) (list_all (λ n. nat_lt n (length (items_of used))) []) takes
  argument_in name number func (Some c) takes at =
      some_case (takes_column func) (nat_lt (column_number used c) (length (items_of used))) takes
      (within used c (at c (among_first c [])))

  one_argument : (name : Option (List ℕ)) (what : What) → takes_its what ≡ true → AreUsed (in_what what)
      → list_all (has_argument (items_of used)) (option_to_list (agg_as used name what)) ≡ true
  one_argument name (whats.Column at x) takes used_there = refl
  one_argument name (whats.Aggregate number func arg) takes used_there =
      and_from (has_argument (items_of used) (record {
        func = func;
        arg = option_map (column_number used) arg;
        name = name;
      })) true (argument_in name number func arg takes used_there) refl

  -- each has the argument that it takes
  pub arguments_in : (chosen : List Chosen) → list_all (λ c. takes_its c.what) chosen ≡ true
      → AreUsed (named_by_chosen chosen) → list_all (has_argument (items_of used)) (aggs_of used chosen) ≡ true
  arguments_in [] takes at = refl
  arguments_in (c ∷ cs) takes at =
      let parts = and_parts (takes_its c.what) (list_all (λ x. takes_its x.what) cs) takes in
      rw (aggs_cons c cs c.what refl) (all_both (has_argument (items_of used))
      (option_to_list (agg_as used c.name c.what)) (aggs_of used cs)
      (one_argument c.name c.what parts.0 (λ d among. at d (among_left (in_what c.what) (named_by_chosen cs) d among)))
      (arguments_in cs parts.1 (λ d among. at d (among_right (in_what c.what) (named_by_chosen cs) d among))))

  -- ---- their names

  abbrev names_here : Option (List ℕ) → What → List (List ℕ)
  names_here name (whats.Column at x) = []
  names_here name (whats.Aggregate number func arg) = option_to_list name

  abbrev names : List Chosen → List (List ℕ)
  names chosen = names_of (aggs_of used chosen)

  names_after : (c : Chosen) (cs : List Chosen) (name : Option (List ℕ)) (what : What) → c.name ≡ name → c.what ≡ what
      → names (c ∷ cs) ≡ names_here name what ++ names cs
  names_after c cs name (whats.Column at x) named is = rw is refl
  names_after c cs None (whats.Aggregate number func arg) named is = rw (is, named) refl
  names_after c cs (Some name) (whats.Aggregate number func arg) named is = rw (is, named) refl

  outputs_after : (c : Chosen) (cs : List Chosen) (name : Option (List ℕ)) → c.name ≡ name
      → output_names (c ∷ cs) ≡ option_to_list name ++ output_names cs
  outputs_after c cs None named = rw named refl
  outputs_after c cs (Some name) named = rw named refl

  form_here : (name : Option (List ℕ)) (what : What) → is_named name ≡ true
      → list_all has_name_form (names_here name what) ≡ true
  form_here name (whats.Column at x) form = refl
  form_here name (whats.Aggregate number func arg) form = form

  -- they have the form of a name
  pub names_formed : (chosen : List Chosen) → list_all (λ c. is_named c.name) chosen ≡ true
      → list_all has_name_form (names chosen) ≡ true
  names_formed [] form = refl
  names_formed (c ∷ cs) form =
      let parts = and_parts (is_named c.name) (list_all (λ x. is_named x.name) cs) form in
      rw (names_after c cs c.name c.what refl refl)
      (all_both has_name_form (names_here c.name c.what) (names cs) (form_here c.name c.what parts.0)
      (names_formed cs parts.1))

  none_here : (n : List ℕ) (name : Option (List ℕ)) (what : What) (outputs rest : List (List ℕ))
      → list_any (bytes_eq n) (option_to_list name ++ outputs) ≡ false
      → (list_any (bytes_eq n) outputs ≡ false → list_any (bytes_eq n) rest ≡ false)
      → list_any (bytes_eq n) (names_here name what ++ rest) ≡ false
  none_here n None (whats.Column at x) outputs rest fresh later = later fresh
  none_here n (Some name) (whats.Column at x) outputs rest fresh later =
      later (or_parts (bytes_eq n name) (list_any (bytes_eq n) outputs) fresh).1
  none_here n None (whats.Aggregate number func arg) outputs rest fresh later = later fresh
  none_here n (Some name) (whats.Aggregate number func arg) outputs rest fresh later =
      let parts = or_parts (bytes_eq n name) (list_any (bytes_eq n) outputs) fresh in rw (parts.0, later parts.1) refl

  none_there : (n : List ℕ) (chosen : List Chosen) → list_any (bytes_eq n) (output_names chosen) ≡ false
      → list_any (bytes_eq n) (names chosen) ≡ false
  none_there n [] fresh = refl
  none_there n (c ∷ cs) fresh =
      rw (names_after c cs c.name c.what refl refl)
      (none_here n c.name c.what (output_names cs) (names cs) (rw (outputs_after c cs c.name refl) at fresh)
      (none_there n cs))

  apart_here : (name : Option (List ℕ)) (what : What) (cs : List Chosen)
      → texts_differ (option_to_list name ++ output_names cs) ≡ true
      → (texts_differ (output_names cs) ≡ true → texts_differ (names cs) ≡ true)
      → texts_differ (names_here name what ++ names cs) ≡ true
  apart_here None (whats.Column at x) cs differ rest = rest differ
  apart_here (Some name) (whats.Column at x) cs differ rest =
      rest (and_parts (not (list_any (bytes_eq name) (output_names cs))) (texts_differ (output_names cs)) differ).1
  apart_here None (whats.Aggregate number func arg) cs differ rest = rest differ
  apart_here (Some name) (whats.Aggregate number func arg) cs differ rest =
      let parts = and_parts (not (list_any (bytes_eq name) (output_names cs))) (texts_differ (output_names cs))
      differ in
      rw (none_there name cs (not-true _ parts.0)) (rest parts.1)

  -- they differ
  pub names_apart : (chosen : List Chosen) → texts_differ (output_names chosen) ≡ true
      → texts_differ (names chosen) ≡ true
  names_apart [] differ = refl
  names_apart (c ∷ cs) differ =
      rw (names_after c cs c.name c.what refl refl)
      (apart_here c.name c.what cs (rw (outputs_after c cs c.name refl) at differ) (names_apart cs))

-- ---- their numbers

abbrev pub number_below : ℕ → What → Bool
number_below m (whats.Column at x) = true
number_below m (whats.Aggregate number func arg) = nat_lt number m

less : (a b : ℕ) → a < b → nat_lt a b ≡ true
less a b lt = grind (arith, nat_tests)

low_case : (n m : ℕ) (what : What) → number_is n what ≡ true
    → number_below (n + (cond (is_aggregate what) 1 0 + m)) what ≡ true
low_case n m (whats.Column at x) is = refl
low_case n m (whats.Aggregate number func arg) is = let same : number ≡ n = eqb-true number n is in
    less number (n + (1 + m)) (omega arith)

-- each number is that of an aggregate
pub numbers_low : (n : ℕ) (chosen : List Chosen) → numbered_from n chosen ≡ true
    → list_all (λ c. number_below (n + aggregates chosen) c.what) chosen ≡ true
numbers_low n [] numbered = refl
numbers_low n (c ∷ cs) numbered =
    let parts = and_parts (number_is n c.what) (numbered_from (next_number n c.what) cs) numbered in
    and_from (number_below (n + aggregates (c ∷ cs)) c.what)
    (list_all (λ x. number_below (n + aggregates (c ∷ cs)) x.what) cs)
    (subst (λ (m : ℕ). number_below (n + m) c.what ≡ true) (sym (one_counted c cs))
    (low_case n (aggregates cs) c.what parts.0))
    (subst (λ (m : ℕ). list_all (λ x. number_below m x.what) cs ≡ true) (counted_on n c cs)
    (numbers_low (next_number n c.what) cs parts.1))
