-- The candidates of a reference are the columns that it can name, table by table.
use Rattle.std.proofs.Common.{◌≡◌, ℕ, suc, ◌+◌, ◌-◌, ◌≤◌, ◌<◌, ◌==◌, inl, inr, Bool, true, false, List, [], ◌∷◌, ◌++◌}
use Rattle.std.proofs.Common.{nat_le, slice_get, Option, Some, None, option_map, option_to_list, refl, ◌∙◌, sym, ap}
use Rattle.std.proofs.Common.{subst, arith}
use Rattle.std.specs.List.{list_all}
use Rattle.std.proofs.lemmas.Bool.{eqb-true, and_from, and_parts, or_cases}
use Rattle.std.proofs.lemmas.Bool.Decides.{nat_tests}
use Rattle.std.proofs.Math.Bool.{or-false}
use Rattle.sql_bind.proofs.Truths.{all_both, all_weaker}
use Rattle.sql_reader.specs.declared.syntax.ColRef.{ColRef}
use Rattle.sql_bind.specs.declared.columns.Column.{Column}
use Rattle.sql_bind.specs.Scope.{FromTable}
use Rattle.sql_bind.specs.Columns.{candidates, column, column_of, is_among, is_same, only_one, place_in}
use Rattle.sql_bind.specs.Meaning.{IsMeaning, NamesColumn}
use Rattle.sql_bind.proofs.Found.{same_is}
use Rattle.sql_bind.proofs.Among.{among_first, among_later, among_right}

-- the column can be named in tables that begin at this place of FROM
record NamesFrom (reference : ColRef) (base : ℕ) (ts : List FromTable) (c : Column) : Type 0 where
  from : base ≤ c.table
  table : FromTable
  here : slice_get ts (c.table - base) ≡ Some table
  named : place_in reference table ≡ Some c.place

some_is : {A : Type 0} (x y : A) → Some x ≡ Some y → x ≡ y
some_is x y e = cc

lower : (base n : ℕ) → nat_le (base + 1) n ≡ true → nat_le base n ≡ true
lower base n e = grind (arith, nat_tests)

itself : (base : ℕ) → nat_le base base ≡ true
itself base = grind (arith, nat_tests)

above : (base n : ℕ) → nat_le (base + 1) n ≡ true → base < n
above base n e = grind (arith, nat_tests)

heads : (c d : Column) (cs ds : List Column) → c ∷ cs ≡ d ∷ ds → (c ≡ d) × (cs ≡ ds)
heads c d cs ds e = (cc, cc)

module _ (reference : ColRef) where
  first_named : (base : ℕ) (t : FromTable) (ts : List FromTable) (place : ℕ) → place_in reference t ≡ Some place
      → NamesFrom reference base (t ∷ ts) (column base place)
  first_named base t ts place named =
      let none : base - base ≡ 0 = omega arith in
      record { from = omega arith; table = t; here = rw none refl; named = named }

  later_named : (base : ℕ) (t : FromTable) (ts : List FromTable) (c : Column) → NamesFrom reference (base + 1) ts c
      → NamesFrom reference base (t ∷ ts) c
  later_named base t ts c names =
      let next : c.table - base ≡ suc (c.table - (base + 1)) = omega (arith, names.from) in
      record { from = omega (arith, names.from); table = names.table; here = rw next names.here; named = names.named }

  -- each candidate can be named
  sound_case : (base : ℕ) (t : FromTable) (ts : List FromTable) (found : Option ℕ) (c : Column)
      → place_in reference t ≡ found → is_among
      (option_to_list (option_map (column base) found) ++ candidates reference (base + 1) ts) c ≡ true
      → (is_among (candidates reference (base + 1) ts) c ≡ true → NamesFrom reference (base + 1) ts c)
      → NamesFrom reference base (t ∷ ts) c
  sound_case base t ts None c is among rest = later_named base t ts c (rest among)
  sound_case base t ts (Some place) c is among rest =
      elim (or_cases (is_same c (column base place)) (is_among (candidates reference (base + 1) ts) c) among) [
        | inl same ↦ subst (λ (d : Column). NamesFrom reference base (t ∷ ts) d)
            (sym (same_is c (column base place) same)) (first_named base t ts place is)
        | inr later ↦ later_named base t ts c (rest later)
      ]

  sound : (base : ℕ) (ts : List FromTable) (c : Column) → is_among (candidates reference base ts) c ≡ true
      → NamesFrom reference base ts c
  sound base [] c among = absurd cc
  sound base (t ∷ ts) c among = sound_case base t ts (place_in reference t) c refl among
      (λ later. sound (base + 1) ts c later)

  -- each column that can be named is a candidate
  complete_here : (base : ℕ) (t : FromTable) (ts : List FromTable) (place : ℕ) (found : Option ℕ) → found ≡ Some place
      → is_among (option_to_list (option_map (column base) found) ++ candidates reference (base + 1) ts)
      (column base place) ≡ true
  complete_here base t ts place found is = rw is (among_first (column base place) (candidates reference (base + 1) ts))

  complete_case : (base : ℕ) (t : FromTable) (ts : List FromTable) (table place : ℕ) (named_table : FromTable)
      (b : Bool) → (table == base) ≡ b → base ≤ table → slice_get (t ∷ ts) (table - base) ≡ Some named_table
      → place_in reference named_table ≡ Some place
      → (base + 1 ≤ table → slice_get ts (table - (base + 1)) ≡ Some named_table
      → is_among (candidates reference (base + 1) ts) (column table place) ≡ true)
      → is_among (candidates reference base (t ∷ ts)) (column table place) ≡ true
  complete_case base t ts table place named_table true is from here named rest =
      let same : table ≡ base = eqb-true table base is in
      let none : table - base ≡ 0 = omega (arith, same) in
      let first : t ≡ named_table = some_is t named_table (rw none at here) in
      rw same (complete_here base t ts place (place_in reference t) (rw (first) named))
  complete_case base t ts table place named_table false is from here named rest =
      let apart : base + 1 ≤ table = grind (arith, nat_tests) in
      let next : table - base ≡ suc (table - (base + 1)) = omega (arith, apart) in
      among_right (option_to_list (option_map (column base) (place_in reference t)))
      (candidates reference (base + 1) ts) (column table place) (rest apart (rw next at here))

  complete : (base : ℕ) (ts : List FromTable) (table place : ℕ) (named_table : FromTable) → base ≤ table
      → slice_get ts (table - base) ≡ Some named_table → place_in reference named_table ≡ Some place
      → is_among (candidates reference base ts) (column table place) ≡ true
  complete base [] table place named_table from here named = absurd cc
  complete base (t ∷ ts) table place named_table from here named =
      complete_case base t ts table place named_table (table == base) refl from here named
      (λ apart later. complete (base + 1) ts table place named_table apart later named)

  -- later candidates have later tables
  first_rises : (base : ℕ) (found : Option ℕ)
      → list_all (λ d. nat_le base d.table) (option_to_list (option_map (column base) found)) ≡ true
  first_rises base None = refl
  first_rises base (Some place) = and_from (nat_le base base) true (itself base) refl

  rises_from : (base : ℕ) (ts : List FromTable)
      → list_all (λ d. nat_le base d.table) (candidates reference base ts) ≡ true
  rises_from base [] = refl
  rises_from base (t ∷ ts) =
      all_both (λ d. nat_le base d.table) (option_to_list (option_map (column base) (place_in reference t)))
      (candidates reference (base + 1) ts) (first_rises base (place_in reference t))
      (all_weaker (λ d. nat_le (base + 1) d.table) (λ d. nat_le base d.table) (candidates reference (base + 1) ts)
      (λ d high. lower base d.table high) (rises_from (base + 1) ts))

  two_case : (base : ℕ) (t : FromTable) (ts : List FromTable) (found : Option ℕ) (c d : Column) (ds : List Column)
      → option_to_list (option_map (column base) found) ++ candidates reference (base + 1) ts ≡ c ∷ d ∷ ds
      → list_all (λ x. nat_le (base + 1) x.table) (candidates reference (base + 1) ts) ≡ true
      → (candidates reference (base + 1) ts ≡ c ∷ d ∷ ds → c.table < d.table) → c.table < d.table
  two_case base t ts None c d ds e high rest = rest e
  two_case base t ts (Some place) c d ds e high rest =
      let parts = heads (column base place) c (candidates reference (base + 1) ts) (d ∷ ds) e in
      let second = and_parts (nat_le (base + 1) d.table) (list_all (λ x. nat_le (base + 1) x.table) ds)
      (rw parts.1 at high) in
      rw (← parts.0) (above base d.table second.0)

  two_apart : (base : ℕ) (ts : List FromTable) (c d : Column) (ds : List Column)
      → candidates reference base ts ≡ c ∷ d ∷ ds → c.table < d.table
  two_apart base [] c d ds e = absurd cc
  two_apart base (t ∷ ts) c d ds e = two_case base t ts (place_in reference t) c d ds e (rises_from (base + 1) ts)
      (λ later. two_apart (base + 1) ts c d ds later)

module _ (scope : List FromTable) (reference : ColRef) where
  as_named : (c : Column) → is_among (candidates reference 0 scope) c ≡ true → NamesColumn scope reference c
  as_named c among =
      let names = sound reference 0 scope c among in
      let same : c.table - 0 ≡ c.table = omega arith in
      record { table = names.table; here = rw same at names.here; named = names.named }

  as_candidate : (c : Column) → NamesColumn scope reference c → is_among (candidates reference 0 scope) c ≡ true
  as_candidate c names =
      let same : c.table - 0 ≡ c.table = omega arith in
      complete reference 0 scope c.table c.place names.table (omega arith) (rw same names.here) names.named

  alone_is : (c d : Column) → is_among (c ∷ []) d ≡ true → d ≡ c
  alone_is c d among = same_is d c (sym (or-false (is_same d c)) ∙ among)

  meaning_case : (cs : List Column) → candidates reference 0 scope ≡ cs
      → IsMeaning scope reference (only_one reference.at cs)
  meaning_case [] is = (
    refl,
    λ c names. absurd (let gone : is_among [] c ≡ true = rw is at (as_candidate c names) in
        cc),
  )
  meaning_case (c ∷ []) is = record {
    named = as_named c (rw is (among_first c []));
    alone = λ d names. alone_is c d (rw is at (as_candidate d names));
  }
  meaning_case (c ∷ d ∷ ds) is = (
    refl,
    (
      c,
      d,
      record {
        first = as_named c (rw is (among_first c (d ∷ ds)));
        second = as_named d (rw is (among_later d c (d ∷ ds) (among_first d ds)));
        apart = λ same. absurd (let less : c.table < d.table = two_apart reference 0 scope c d ds is in
            let equal : c.table ≡ d.table = ap (λ (x : Column). x.table) same in omega (arith, less, equal));
      },
    ),
  )

  pub meaning : IsMeaning scope reference (column_of scope reference)
  meaning = meaning_case (candidates reference 0 scope) refl
