-- Laws of usable indexes.
use Rattle.std.proofs.Common.{ap, inl, inr, ◌≡◌, ℕ, ◌+◌, ◌<◌, ◌≤◌, Bool, true, false, List, [], ◌∷◌, length, take}
use Rattle.std.proofs.Common.{get_or, refl, sym, subst, ◌∙◌, arith, IsTrue, zero, suc}
use Rattle.std.specs.Prelude.{slice_get, Option, Some, cond, nat_lt}
use Rattle.std.specs.List.{enumerate_from, list_all}
use Rattle.std.proofs.lemmas.List.Sums.{count_by_more_yes, sum_by-take-le, count_by-le-length}
use Rattle.query_core.specs.Expressions.{HasIndex}
use Rattle.query_core.specs.Items.{has_own_lists}
use Rattle.query_core.specs.declared.table.Item.{Item}
use Rattle.query_core.specs.declared.table.QueryTable.{QueryTable}
use Rattle.std.specs.List.{count_by, fold}
use Rattle.std.specs.Option.{option_map_or}
use Rattle.std.proofs.lemmas.Bool.{cases_Bool, false≢true, and_parts, leb-true, ltb-true, lt-ltb, cases_order}
use Rattle.std.proofs.lemmas.List.{take-take, length-take}
use Rattle.std.proofs.lemmas.Option.{slice_get_read, slice_get_within}
use Rattle.query_core.specs.declared.query.Query.{Query}
use Rattle.query_core.specs.declared.words.KeyParts.TheVariants as groups
use Rattle.query_core.specs.declared.words.KeyParts.{KeyParts}
use Rattle.xform_rules.specs.Forms.{Finds}
use Rattle.xform_rules.specs.UsableIndexes.{is_usable, IsNthUsable, HasNthUsable}
use Rattle.xform_rules.specs.Implemented.{HasUsable}
use Rattle.xform_rules.proofs.Findings.{finds_as}

-- a place whose element passes is one of the list
passes_at : (p : List ℕ → Bool) (xs : List (List ℕ)) (i : ℕ) (d : List ℕ)
    → IsTrue (option_map_or p (slice_get xs i) false)
    → (i < length xs) × (p (get_or xs i d) ≡ true)
passes_at p [] i d passes = absurd (false≢true passes)
passes_at p (x ∷ xs) zero d passes = (omega arith, passes)
passes_at p (x ∷ xs) (suc i) d passes = let later = passes_at p xs i d passes in (omega (arith, later.0), later.1)

module _ (q : Query) (t : ℕ) where
  -- a usable index of the list is counted with those before it
  pub counted_with : (indexes : List (List ℕ)) (i : ℕ)
      → IsTrue (option_map_or (is_usable q t) (slice_get indexes i) false)
      → count_by (is_usable q t) (take i indexes) < count_by (is_usable q t) indexes
  counted_with indexes i usable =
      let at = passes_at (is_usable q t) indexes i [] usable in
      omega (
        arith,
        count_by_more_yes (is_usable q t) indexes i [] at.0 at.1,
        sum_by-take-le (λ x. cond (is_usable q t x) 1 0) indexes (i + 1),
      )

-- a table of the query has at most 16 indexes
few_listed : (items : List Item) (tables : List QueryTable) (k t : ℕ) (table : QueryTable)
    → IsTrue (list_all (λ t. has_own_lists items t.0 t.1) (enumerate_from k tables)) → slice_get tables t ≡ Some table
    → length table.indexes ≤ 16
few_listed items [] k t table all found = (cc)
few_listed items (first ∷ tables) k zero table all found =
    let same : first ≡ table = cc in
    subst (λ (x : QueryTable). length x.indexes ≤ 16) same
    (leb-true _ _ (and_parts _ _ (and_parts _ _ (and_parts _ _ all).0).0).0)
few_listed items (first ∷ tables) k (suc t) table all found =
    few_listed items tables (k + 1) t table (and_parts _ _ all).1 found

pub few_indexes : (q : Query) (t : ℕ) (table : QueryTable) → slice_get q.tables t ≡ Some table
    → length table.indexes ≤ 16
few_indexes q t table found = few_listed q.items q.tables 0 t table q.items_valid.lists found

-- the n-th usable index of a table's indexes is that of the table
pub nth_of_table : (q : Query) (t : ℕ) (table : QueryTable) (n : ℕ) (found : Option ℕ)
    → slice_get q.tables t ≡ Some table
    → Finds (IsNthUsable q t table.indexes n) found → Finds (HasNthUsable q t n) found
nth_of_table q t table n found got =
    finds_as (IsNthUsable q t table.indexes n) (HasNthUsable q t n)
    (λ index nth. (table, got, nth))
    (λ index (other, got_other, nth). let same : other ≡ table = cc in
    subst (λ (x : QueryTable). IsNthUsable q t x.indexes n index) same nth)
    found

-- and that of the group over the table
pub nth_of_group : (q : Query) (group : KeyParts) (t n : ℕ) (found : Option ℕ) → group ≡ groups.Filter t
    → Finds (HasNthUsable q t n) found → Finds (HasUsable q group n) found
nth_of_group q group t n found over =
    finds_as (HasNthUsable q t n) (HasUsable q group n)
    (λ index nth. (t, over, nth))
    (λ index (u, over_other, nth). let same : u ≡ t = cc in subst (λ x. HasNthUsable q x n index) same nth)
    found

-- what stands at a place of the tables that are read
pub table_at : (tables slice : List QueryTable) (t : ℕ) (table : QueryTable) → slice ≡ tables
    → true ≡ nat_lt t (length slice) → table ≡ get_or slice t table
    → slice_get tables t ≡ Some table
table_at tables slice t table same within here =
    subst (λ xs. slice_get xs t ≡ Some table) same
    (slice_get_read slice (length slice) t table refl (ltb-true t (length slice) (sym within)) here)

-- past their end there is nothing
pub no_table_at : (tables slice : List QueryTable) (t : ℕ) (table : QueryTable) → slice ≡ tables
    → false ≡ nat_lt t (length slice)
    → slice_get tables t ≡ Some table → ⊥
no_table_at tables slice t table same beyond got =
    let within : t < length tables = slice_get_within tables t table got in
    let less : nat_lt t (length slice) ≡ true =
    subst (λ xs. nat_lt t (length xs) ≡ true) (sym same) (lt-ltb t (length tables) within) in
    false≢true (beyond ∙ less)

-- a usable index is one of the table's
pub usable_there : (q : Query) (t n index : ℕ) → HasNthUsable q t n index → HasIndex q t index
usable_there q t n index (table, got, nth) =
    (table, got, (passes_at (is_usable q t) table.indexes index [] nth.usable).0)

module _ (q : Query) (t : ℕ) (indexes : List (List ℕ)) where
  -- a usable index is counted with those before a later place
  counted_before : (i j : ℕ) → i < j → IsTrue (option_map_or (is_usable q t) (slice_get indexes i) false)
      → count_by (is_usable q t) (take i indexes) < count_by (is_usable q t) (take j indexes)
  counted_before i j before usable =
      let at = passes_at (is_usable q t) indexes i [] usable in
      let front : take (i + 1) (take j indexes) ≡ take (i + 1) indexes =
      take-take (i + 1) j indexes (omega (arith, before)) in
      omega (
        arith,
        count_by_more_yes (is_usable q t) indexes i [] at.0 at.1,
        sum_by-take-le (λ x. cond (is_usable q t x) 1 0) (take j indexes) (i + 1),
        ap (λ xs. count_by (is_usable q t) xs) front,
      )

  -- one index is the n-th
  pub nth_one : (n i j : ℕ) → IsNthUsable q t indexes n i → IsNthUsable q t indexes n j → i ≡ j
  nth_one n i j this other = elim (cases_order i j) [
    | inl same ↦ same
    | inr (inl less) ↦ absurd (omega (arith, counted_before i j less this.usable, this.before, other.before))
    | inr (inr more) ↦ absurd (omega (arith, counted_before j i more other.usable, this.before, other.before))
  ]

-- the n-th usable index has fewer than 16 before it
pub few_usable : (q : Query) (t n index : ℕ) → HasNthUsable q t n index → n < 16
few_usable q t n index (table, got, nth) =
    omega (
      arith,
      few_indexes q t table got,
      nth.before,
      counted_with q t table.indexes index nth.usable,
      count_by-le-length (is_usable q t) table.indexes,
    )

-- an element that fails isn't counted
count_by-cons : (p : List ℕ → Bool) (x : List ℕ) (xs : List (List ℕ)) → p x ≡ false
    → count_by p (x ∷ xs) ≡ count_by p xs
count_by-cons p x xs fails = subst (λ b. fold (λ n y. n + cond (p y) 1 0) (0 + cond b 1 0) xs ≡ count_by p xs)
    (sym fails) refl

-- where an element passes, there is a first one that does
first_passing : (p : List ℕ → Bool) (xs : List (List ℕ)) (i : ℕ) → IsTrue (option_map_or p (slice_get xs i) false)
    → (j : ℕ) × IsTrue (option_map_or p (slice_get xs j) false) × (count_by p (take j xs) ≡ 0)
first_passing p [] i passes = absurd (false≢true passes)
first_passing p (x ∷ xs) zero passes = (zero, passes, refl)
first_passing p (x ∷ xs) (suc i) passes = elim (cases_Bool (p x)) [
  | inl here ↦ (zero, here, refl)
  | inr not_here ↦ let (j, first, before) = first_passing p xs i passes in
      (suc j, first, count_by-cons p x (take j xs) not_here ∙ before)
]

-- where an index is usable, there is a first one
pub first_usable : (q : Query) (group : KeyParts) (n index : ℕ) → HasUsable q group n index
    → (j : ℕ) × HasUsable q group 0 j
first_usable q group n index (t, over, (table, got, nth)) =
    let (j, first, before) = first_passing (is_usable q t) table.indexes index nth.usable in
    (j, (t, over, (table, got, record { usable = first; before = before })))

-- a table has few indexes
pub few_own : (q : Query) (t index : ℕ) → HasIndex q t index → index < 16
few_own q t index (table, got, within) = omega (arith, within, few_indexes q t table got)

-- at most so many usable indexes come before an index
pub usable_within : (q : Query) (t n index : ℕ) → HasNthUsable q t n index → n ≤ index
usable_within q t n index (table, got, nth) =
    omega (
      arith,
      nth.before,
      count_by-le-length (is_usable q t) (take index table.indexes),
      length-take index table.indexes,
    )

-- one index is the n-th that is usable
pub usable_one : (q : Query) (group : KeyParts) (n i j : ℕ) → HasUsable q group n i → HasUsable q group n j → i ≡ j
usable_one q group n i j (t, is_group, (table, got, nth)) (u, is_group_other, (table_other, got_other, nth_other)) =
    let same_group : groups.Filter t ≡ groups.Filter u = sym is_group ∙ is_group_other in
    let same_t : u ≡ t = cc in
    let found : Some table ≡ Some table_other = sym got ∙ ap (λ k. slice_get q.tables k) (sym same_t) ∙ got_other in
    let same_table : table_other ≡ table = cc in
    let other : IsNthUsable q t table.indexes n j =
    subst (λ k. IsNthUsable q k table.indexes n j) same_t
    (subst (λ (r : QueryTable). IsNthUsable q u r.indexes n j) same_table nth_other) in
    nth_one q t table.indexes n i j nth other
