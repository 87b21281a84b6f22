-- The keys of ORDER BY are columns that are there, and aggregates with names.
use Rattle.std.proofs.Common.{◌≡◌, ◌∙◌, ℕ, suc, ◌≤◌, ◌+◌, ◌-◌, ◌||◌, ◌&&◌, ◌==◌, inl, inr, Bool, true, false, cond}
use Rattle.std.proofs.Common.{List, [], ◌∷◌, ◌++◌, find, is_some, slice_get, option_map, option_to_list, Option, Some}
use Rattle.std.proofs.Common.{None, Ok, refl, sym, subst, arith}
use Rattle.std.specs.List.{list_all, list_any}
use Rattle.std.specs.Option.{option_map_or}
use Rattle.std.proofs.lemmas.Bool.{eqb-true, eq-eqb, and_from, and_parts, or_cases, or_left, or_right}
use Rattle.std.proofs.lemmas.List.Folds.{list_all-append}
use Rattle.sql_bind.proofs.Truths.{all_push}
use Rattle.query_core.specs.declared.aggregate.Agg.{Agg}
use Rattle.sql_reader.specs.declared.syntax.ColRef.{ColRef}
use Rattle.sql_reader.specs.declared.syntax.SelKey.{SelKey}
use Rattle.sql_bind.specs.declared.select_list.What.{What}
use Rattle.sql_bind.specs.declared.select_list.What.TheVariants as whats
use Rattle.sql_bind.specs.declared.select_list.Chosen.{Chosen}
use Rattle.sql_bind.specs.declared.sort_keys.Target.{Target}
use Rattle.sql_bind.specs.declared.sort_keys.Target.TheVariants as targets
use Rattle.sql_bind.specs.declared.sort_keys.SortKey.{SortKey}
use Rattle.sql_bind.specs.Scope.{FromTable}
use Rattle.sql_bind.specs.Columns.{column_of}
use Rattle.sql_bind.specs.SelectList.{has_name, is_called}
use Rattle.sql_bind.specs.SortKeys.{first_called, key_in, keys_of, meant_output, named_target, target_in, target_of}
use Rattle.sql_bind.specs.Used.{UsedColumn, in_what, named_by_chosen}
use Rattle.sql_bind.specs.Numbers.{column_number}
use Rattle.sql_bind.specs.Query.{agg_as, aggs_of}
use Rattle.orca_base.proofs.Checked.{all_pass, each_keeps, ok_is, seen_ok}
use Rattle.sql_bind.proofs.Resolving.{column_there, has_column}
use Rattle.sql_bind.proofs.ChosenKept.{next_number, number_is, numbered_from}
use Rattle.sql_bind.proofs.PredsKept.{aggs_cons}

-- the element is the aggregate of this number
abbrev pub is_number : ℕ → What → Bool
is_number n (whats.Column at c) = false
is_number n (whats.Aggregate number func arg) = number == n

-- the aggregate of this number has a name
abbrev pub is_named_number : List Chosen → ℕ → Bool
is_named_number chosen n = list_any (λ c. is_some c.name && is_number n c.what) chosen

-- what can be sorted by
abbrev pub is_target : List FromTable → List Chosen → Target → Bool
is_target scope chosen (targets.Column c) = has_column 0 scope c
is_target scope chosen (targets.Aggregate n) = is_named_number chosen n

found_case : (c d : Chosen) (b : Bool) (rest : Option Chosen) (P : Chosen → Type 0) → cond b (Some c) rest ≡ Some d
    → (b ≡ true → P c) → (rest ≡ Some d → P d) → P d
found_case c d true rest P e one later = let same : c ≡ d = cc in subst P same (one refl)
found_case c d false rest P e one later = later e

module _ (scope : List FromTable) (name : List ℕ) where
  found_there : (chosen : List Chosen) (d : Chosen) → find (is_called name) chosen ≡ Some d
      → list_all (has_column 0 scope) (named_by_chosen chosen) ≡ true
      → list_all (has_column 0 scope) (in_what d.what) ≡ true
  found_there [] d e all = absurd cc
  found_there (c ∷ cs) d e all =
      let parts = and_parts (list_all (has_column 0 scope) (in_what c.what))
      (list_all (has_column 0 scope) (named_by_chosen cs))
      (sym (list_all-append (has_column 0 scope) (in_what c.what) (named_by_chosen cs)) ∙ all) in
      found_case c d (is_called name c) (find (is_called name) cs)
      (λ (x : Chosen). list_all (has_column 0 scope) (in_what x.what) ≡ true) e (λ called. parts.0)
      (λ later. found_there cs d later parts.1)

  called_some : (found : Option (List ℕ)) → has_name name found ≡ true → is_some found ≡ true
  called_some None e = absurd cc
  called_some (Some other) e = refl

  found_named : (chosen : List Chosen) (d : Chosen) (n : ℕ) → find (is_called name) chosen ≡ Some d
      → is_number n d.what ≡ true → is_named_number chosen n ≡ true
  found_named [] d n e is = absurd cc
  found_named (c ∷ cs) d n e is =
      found_case c d (is_called name c) (find (is_called name) cs) (λ (x : Chosen). is_number n x.what ≡ true
      → is_named_number (c ∷ cs) n ≡ true) e
      (λ called numbered. or_left (is_some c.name && is_number n c.what) (is_named_number cs n)
      (and_from (is_some c.name) (is_number n c.what) (called_some c.name called) numbered))
      (λ later numbered. or_right (is_some c.name && is_number n c.what) (is_named_number cs n)
      (found_named cs d n later numbered)) is

  target_case : (chosen : List Chosen) (what : What) → list_all (has_column 0 scope) (in_what what) ≡ true
      → ((n : ℕ) → is_number n what ≡ true → is_named_number chosen n ≡ true)
      → is_target scope chosen (target_of what) ≡ true
  target_case chosen (whats.Column at c) there named = (and_parts (has_column 0 scope c) true there).0
  target_case chosen (whats.Aggregate number func arg) there named = named number (eq-eqb number number refl)

  found_target : (chosen : List Chosen) (found : Option Chosen) (target : Target) → find (is_called name) chosen ≡ found
      → named_target found ≡ Some target → list_all (has_column 0 scope) (named_by_chosen chosen) ≡ true
      → is_target scope chosen target ≡ true
  found_target chosen None target is e all = absurd cc
  found_target chosen (Some d) target is e all =
      let same : target_of d.what ≡ target = cc in
      rw (← same) (target_case chosen d.what (found_there chosen d is all)
      (λ n numbered. found_named chosen d n is numbered))

module _ (scope : List FromTable) (chosen : List Chosen)
    (there : list_all (has_column 0 scope) (named_by_chosen chosen) ≡ true) where
  meant_kept : (table : Option (List ℕ)) (name : List ℕ) (target : Target)
      → meant_output chosen table name ≡ Some target → is_target scope chosen target ≡ true
  unfolding first_called
  meant_kept None name target e = found_target scope name chosen (find (is_called name) chosen) target refl e there
  meant_kept (Some table) name target e = absurd cc

  target_kept : (meant : Option Target) (reference : ColRef) (target : Target)
      → ((t : Target) → meant ≡ Some t → is_target scope chosen t ≡ true) → target_in scope meant reference ≡ Ok target
      → is_target scope chosen target ≡ true
  target_kept None reference target is e =
      let bound = seen_ok (λ c. targets.Column c) (column_of scope reference) target e in
      rw (← bound.2) (column_there scope reference bound.0 bound.1)
  target_kept (Some t) reference target is e = let same : t ≡ target = ok_is t target e in rw (← same) (is t refl)

  key_kept : (before : List SortKey) (key : SelKey) (k : SortKey)
      → list_all (λ x. is_target scope chosen x.target) before ≡ true → true ≡ true → key_in scope chosen key ≡ Ok k
      → list_all (λ x. is_target scope chosen x.target) (before ++ k ∷ []) ≡ true
  key_kept before key k so_far good e =
      let bound = seen_ok (λ (target : Target). record { at = key.col.at; target = target; desc = key.desc })
      (target_in scope (meant_output chosen key.col.table key.col.name) key.col) k e in
      all_push (λ (x : SortKey). is_target scope chosen x.target) before k so_far
      (rw (← bound.2) (target_kept (meant_output chosen key.col.table key.col.name) key.col bound.0
      (meant_kept key.col.table key.col.name) bound.1))

  -- each key is one
  pub keys_kept : (order_by : List SelKey) (keys : List SortKey) → keys_of scope chosen order_by ≡ Ok keys
      → list_all (λ x. is_target scope chosen x.target) keys ≡ true
  keys_kept order_by keys e =
      each_keeps (λ before key. key_in scope chosen key) (λ key. true)
      (λ before. list_all (λ x. is_target scope chosen x.target) before ≡ true) key_kept [] order_by keys
      (all_pass order_by) refl e

-- ---- the name of an aggregate that is sorted by

record IsNamedAt (aggs : List Agg) (base n : ℕ) : Type 0 where
  low : base ≤ n
  named : option_map_or (λ agg. is_some agg.name) (slice_get aggs (n - base)) false ≡ true

only_right : (a rest : Bool) → ((a && false) || rest) ≡ true → rest ≡ true
only_right true rest e = e
only_right false rest e = e

head_case : (base n number : ℕ) (agg : Agg) (aggs : List Agg) (b rest : Bool) → (number == base) ≡ true
    → (number == n) ≡ b → ((is_some agg.name && b) || rest) ≡ true → (rest ≡ true → IsNamedAt aggs (base + 1) n)
    → IsNamedAt (agg ∷ aggs) base n
head_case base n number agg aggs false rest is other found later =
    let tail = later (only_right (is_some agg.name) rest found) in
    let next : n - base ≡ suc (n - (base + 1)) = omega (arith, tail.low) in
    record { low = omega (arith, tail.low); named = rw next tail.named }
head_case base n number agg aggs true rest is other found later =
    let first : number ≡ base = eqb-true number base is in
    let same : number ≡ n = eqb-true number n other in
    let here : n - base ≡ 0 = omega (arith, first, same) in
    elim (or_cases (is_some agg.name && true) rest found) [
      | inl named ↦ record {
        low = omega (arith, first, same);
        named = rw here (and_parts (is_some agg.name) true named).0;
      }
      | inr tail ↦ absurd (omega (arith, (later tail).low, first, same))
    ]

module _ (used : List UsedColumn) where
  named_case : (base n : ℕ) (c : Chosen) (aggs : List Agg) (rest : Bool) (what : What) → number_is base what ≡ true
      → ((is_some c.name && is_number n what) || rest) ≡ true → (rest ≡ true → IsNamedAt aggs (next_number base what) n)
      → IsNamedAt (option_to_list (agg_as used c.name what) ++ aggs) base n
  named_case base n c aggs rest (whats.Column at x) is found later = later (only_right (is_some c.name) rest found)
  named_case base n c aggs rest (whats.Aggregate number func arg) is found later =
      head_case base n number (record { func = func; arg = option_map (column_number used) arg; name = c.name }) aggs
      (number == n) rest is refl found later

  named_at : (base : ℕ) (chosen : List Chosen) (n : ℕ) → numbered_from base chosen ≡ true
      → is_named_number chosen n ≡ true → IsNamedAt (aggs_of used chosen) base n
  named_at base [] n numbered found = absurd cc
  named_at base (c ∷ cs) n numbered found =
      let parts = and_parts (number_is base c.what) (numbered_from (next_number base c.what) cs) numbered in
      rw (aggs_cons used c cs c.what refl) (named_case base n c (aggs_of used cs) (is_named_number cs n) c.what parts.0
      found (λ later. named_at (next_number base c.what) cs n parts.1 later))

  -- the aggregate has a name
  pub named_aggregate : (chosen : List Chosen) (n : ℕ) → numbered_from 0 chosen ≡ true → is_named_number chosen n ≡ true
      → option_map_or (λ agg. is_some agg.name) (slice_get (aggs_of used chosen) n) false ≡ true
  named_aggregate chosen n numbered found = let at_zero = named_at 0 chosen n numbered found in let same : n - 0 ≡ n =
      omega arith in rw same at at_zero.named
