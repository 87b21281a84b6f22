-- What the elements of the select list keep.
use Rattle.std.proofs.Common.{◌≡◌, ◌∙◌, ℕ, ◌+◌, ◌&&◌, ◌==◌, Bool, true, false, cond, List, [], ◌∷◌, ◌++◌, bytes_eq}
use Rattle.std.proofs.Common.{is_some, is_none, option_to_list, Option, Some, None, Ok, refl, sym, ap, subst, arith}
use Rattle.std.specs.List.{list_all}
use Rattle.std.specs.Cmp.Lexicographic.{nat_list_eq_equiv}
use Rattle.std.proofs.Math.Nat.{zero-add}
use Rattle.std.proofs.lemmas.List.Sums.{sum_by-cons}
use Rattle.std.proofs.lemmas.List.{append-nil}
use Rattle.std.proofs.lemmas.List.Elements.{filter_map-append}
use Rattle.std.proofs.lemmas.Grind.{flat_map-append}
use Rattle.std.proofs.lemmas.Bool.{eq-eqb, and_from, and_parts}
use Rattle.std.proofs.Math.Bool.{and-true}
use Rattle.sql_bind.proofs.Truths.{all_both, all_push}
use Rattle.query_core.specs.Differ.{texts_differ}
use Rattle.query_core.proofs.Apart.{differ_push}
use Rattle.query_core.specs.Grouping.{takes_column}
use Rattle.sql_reader.specs.declared.syntax.ColRef.{ColRef}
use Rattle.sql_reader.specs.declared.syntax.SelFunc.{SelFunc}
use Rattle.sql_reader.specs.declared.syntax.SelFunc.TheVariants as written
use Rattle.sql_reader.specs.declared.syntax.SelExpr.{SelExpr}
use Rattle.sql_reader.specs.declared.syntax.SelExpr.TheVariants as exprs
use Rattle.sql_reader.specs.declared.syntax.SelItem.{SelItem}
use Rattle.sql_bind.specs.declared.fault.BindFault.{BindFault}
use Rattle.sql_bind.specs.declared.fault.BindFault.TheVariants.{TwiceAlias}
use Rattle.sql_bind.specs.declared.select_list.What.{What}
use Rattle.sql_bind.specs.declared.select_list.What.TheVariants as whats
use Rattle.sql_bind.specs.declared.select_list.Chosen.{Chosen}
use Rattle.sql_bind.specs.Scope.{FromTable}
use Rattle.sql_bind.specs.Columns.{column_of}
use Rattle.sql_bind.specs.SelectList.{aggregates, any_called, call, call_in, chosen_in, chosen_of, function_of}
use Rattle.sql_bind.specs.SelectList.{is_aggregate, named_as, output_names, what_in}
use Rattle.sql_bind.specs.Used.{in_what, named_by_chosen}
use Rattle.sql_reader.specs.Readable.{has_its_argument, is_expr, is_item, is_named}
use Rattle.orca_base.proofs.Checked.{bind_ok, done, each_keeps, not_met, ok_is, seen_ok}
use Rattle.sql_bind.proofs.Resolving.{column_there, has_column}

-- an aggregate has this number
abbrev pub number_is : ℕ → What → Bool
number_is n (whats.Column at c) = true
number_is n (whats.Aggregate number func arg) = number == n

-- the number of the aggregate after it
abbrev pub next_number : ℕ → What → ℕ
next_number n (whats.Column at c) = n
next_number n (whats.Aggregate number func arg) = n + 1

-- the aggregates are numbered in order
abbrev pub numbered_from : ℕ → List Chosen → Bool
numbered_from n [] = true
numbered_from n (c ∷ cs) = number_is n c.what && numbered_from (next_number n c.what) cs

-- an aggregate has an argument exactly where its function takes one
abbrev pub takes_its : What → Bool
takes_its (whats.Column at c) = true
takes_its (whats.Aggregate number func arg) = cond (takes_column func) (is_some arg) (is_none arg)

pub record AreChosen (scope : List FromTable) (chosen : List Chosen) : Type 0 where
  pub there : list_all (has_column 0 scope) (named_by_chosen chosen) ≡ true
  pub named : list_all (λ c. is_named c.name) chosen ≡ true
  pub differ : texts_differ (output_names chosen) ≡ true
  pub numbered : numbered_from 0 chosen ≡ true
  pub arguments : list_all (λ c. takes_its c.what) chosen ≡ true

-- ---- one element

record IsWhat (scope : List FromTable) (n : ℕ) (what : What) : Type 0 where
  there : list_all (has_column 0 scope) (in_what what) ≡ true
  number : number_is n what ≡ true
  argument : takes_its what ≡ true

none_taken : (func : SelFunc) → has_its_argument func None ≡ true
    → cond (takes_column (function_of func)) false true ≡ true
none_taken written.CountAll e = refl
none_taken written.Count e = absurd cc
none_taken written.Sum e = absurd cc
none_taken written.Min e = absurd cc
none_taken written.Max e = absurd cc

some_taken : (func : SelFunc) (reference : ColRef) → has_its_argument func (Some reference) ≡ true
    → cond (takes_column (function_of func)) true false ≡ true
some_taken written.CountAll reference e = absurd cc
some_taken written.Count reference e = refl
some_taken written.Sum reference e = refl
some_taken written.Min reference e = refl
some_taken written.Max reference e = refl

what_is : (what other : What) → done {E = BindFault} what ≡ done other → what ≡ other
what_is what other e = ok_is what other e

module _ (scope : List FromTable) (n : ℕ) where
  call_kept : (func : SelFunc) (arg : Option ColRef) (what : What) → has_its_argument func arg ≡ true
      → call_in scope n (function_of func) arg ≡ Ok what → IsWhat scope n what
  call_kept func None what takes e =
      subst (IsWhat scope n) (what_is (call n (function_of func) None) what e)
      (record { there = refl; number = eq-eqb n n refl; argument = none_taken func takes })
  call_kept func (Some reference) what takes e =
      let bound = seen_ok (λ c. call n (function_of func) (Some c)) (column_of scope reference) what e in
      subst (IsWhat scope n) bound.2 (record {
        there = and_from (has_column 0 scope bound.0) true (column_there scope reference bound.0 bound.1) refl;
        number = eq-eqb n n refl;
        argument = some_taken func reference takes;
      })

  what_kept : (expr : SelExpr) (what : What) → is_expr expr ≡ true → what_in scope n expr ≡ Ok what
      → IsWhat scope n what
  what_kept (exprs.Column reference) what takes e =
      let bound = seen_ok (λ c. whats.Column reference.at c) (column_of scope reference) what e in
      subst (IsWhat scope n) bound.2 (record {
        there = and_from (has_column 0 scope bound.0) true (column_there scope reference bound.0 bound.1) refl;
        number = refl;
        argument = refl;
      })
  what_kept (exprs.Agg func arg) what takes e = call_kept func arg what takes e

-- ---- one element more

name_of_one : (c : Chosen) (name : Option (List ℕ)) → c.name ≡ name → output_names (c ∷ []) ≡ option_to_list name
name_of_one c None is = rw is refl
name_of_one c (Some name) is = rw is refl

-- the name of one element more, where it has one, goes last
pub names_push : (chosen : List Chosen) (c : Chosen)
    → output_names (chosen ++ c ∷ []) ≡ output_names chosen ++ option_to_list c.name
names_push chosen c = filter_map-append (λ (x : Chosen). x.name) chosen (c ∷ [])
    ∙ ap (λ (names : List (List ℕ)). output_names chosen ++ names) (name_of_one c c.name refl)

and_assoc : (a b c : Bool) → (a && (b && c)) ≡ ((a && b) && c)
and_assoc true b c = refl
and_assoc false b c = refl

pub counted : (n : ℕ) (what : What) (m : ℕ) → next_number n what + m ≡ n + (cond (is_aggregate what) 1 0 + m)
counted n (whats.Column at c) m = omega arith
counted n (whats.Aggregate number func arg) m = omega arith

pub one_counted : (c : Chosen) (cs : List Chosen) → aggregates (c ∷ cs) ≡ cond (is_aggregate c.what) 1 0 + aggregates cs
one_counted c cs = sum_by-cons (λ (x : Chosen). cond (is_aggregate x.what) 1 0) c cs

-- the element and those after it
pub counted_on : (n : ℕ) (c : Chosen) (cs : List Chosen)
    → next_number n c.what + aggregates cs ≡ n + aggregates (c ∷ cs)
counted_on n c cs = counted n c.what (aggregates cs) ∙ ap (λ m. n + m) (sym (one_counted c cs))

no_more : (n : ℕ) → n + 0 ≡ n
no_more n = omega arith

numbered_push : (n : ℕ) (cs : List Chosen) (x : Chosen)
    → numbered_from n (cs ++ x ∷ []) ≡ (numbered_from n cs && number_is (n + aggregates cs) x.what)
numbered_push n [] x = and-true (number_is n x.what) ∙ ap (λ m. number_is m x.what) (sym (no_more n))
numbered_push n (c ∷ cs) x =
    ap (λ b. number_is n c.what && b) (numbered_push (next_number n c.what) cs x)
    ∙ (ap (λ m. number_is n c.what && (numbered_from (next_number n c.what) cs && number_is m x.what))
    (counted_on n c cs)
    ∙ and_assoc (number_is n c.what) (numbered_from (next_number n c.what) cs)
    (number_is (n + aggregates (c ∷ cs)) x.what))

module _ (scope : List FromTable) (before : List Chosen) (so_far : AreChosen scope before) where
  one_more : (c : Chosen) → IsWhat scope (aggregates before) c.what → is_named c.name ≡ true
      → texts_differ (output_names (before ++ c ∷ [])) ≡ true → AreChosen scope (before ++ c ∷ [])
  one_more c is named differ = record {
    there = rw (flat_map-append (λ (x : Chosen). in_what x.what) before (c ∷ []))
        (all_both (has_column 0 scope) (named_by_chosen before) (in_what c.what ++ []) so_far.there
        (all_both (has_column 0 scope) (in_what c.what) [] is.there refl));
    named = all_push (λ (x : Chosen). is_named x.name) before c so_far.named named;
    differ = differ;
    numbered = numbered_push 0 before c ∙ rw (so_far.numbered, zero-add (aggregates before)) is.number;
    arguments = all_push (λ (x : Chosen). takes_its x.what) before c so_far.arguments is.argument;
  }

  without_name : (what : What) → texts_differ (output_names (before ++ record { what = what; name = None } ∷ [])) ≡ true
  without_name what = rw (
    filter_map-append (λ (x : Chosen). x.name) before (record { what = what; name = None } ∷ []),
    append-nil (output_names before),
  ) so_far.differ

  with_name : (what : What) (name : List ℕ) → any_called name before ≡ false
      → texts_differ (output_names (before ++ record { what = what; name = Some name } ∷ [])) ≡ true
  unfolding any_called
  with_name what name fresh = rw (filter_map-append (λ (x : Chosen). x.name) before
      (record { what = what; name = Some name } ∷ []))
      (differ_push bytes_eq nat_list_eq_equiv.symm (output_names before) name so_far.differ fresh)

  named_kept : (at : ℕ) (name : Option (List ℕ)) (what : What) (c : Chosen) → is_named name ≡ true
      → IsWhat scope (aggregates before) what → named_as before at name what ≡ Ok c → AreChosen scope (before ++ c ∷ [])
  named_kept at None what c named is e =
      let made : Chosen = record { what = what; name = None } in
      subst (λ (x : Chosen). AreChosen scope (before ++ x ∷ [])) (ok_is made c e)
      (one_more made is refl (without_name what))
  named_kept at (Some name) what c named is e =
      let made : Chosen = record { what = what; name = Some name } in
      let fresh = not_met (any_called name before) (TwiceAlias at) made c e in
      subst (λ (x : Chosen). AreChosen scope (before ++ x ∷ [])) fresh.1
      (one_more made is named (with_name what name fresh.0))

chosen_step : (scope : List FromTable) (before : List Chosen) (item : SelItem) (c : Chosen) → AreChosen scope before
    → is_item item ≡ true → chosen_in scope before item ≡ Ok c → AreChosen scope (before ++ c ∷ [])
unfolding chosen_in
chosen_step scope before item c so_far good e =
    let parts = and_parts (is_expr item.expr) (is_named item.name) good in
    let bound = bind_ok (what_in scope (aggregates before) item.expr) _ c e in
    named_kept scope before so_far item.name_at item.name bound.0 c parts.1
    (what_kept scope (aggregates before) item.expr bound.0 parts.0 bound.1) bound.2

-- what the select list keeps
pub chosen_kept : (scope : List FromTable) (items : List SelItem) (chosen : List Chosen) → list_all is_item items ≡ true
    → chosen_of scope items ≡ Ok chosen → AreChosen scope chosen
chosen_kept scope items chosen good e =
    each_keeps (chosen_in scope) is_item (AreChosen scope) (chosen_step scope) [] items chosen good
    (record { there = refl; named = refl; differ = refl; numbered = refl; arguments = refl }) e
