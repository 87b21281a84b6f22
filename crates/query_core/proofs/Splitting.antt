-- Laws of sets that fall into two.
use Rattle.std.proofs.Common.{◌≡◌, ℕ, ◌-◌, ◌<◌, ◌≤◌, ◌^◌, true, None, Some, refl, ap, sym, subst, ◌∙◌, arith}
use Rattle.std.specs.Prelude.{bit_and, ◌==◌}
use Rattle.std.specs.Option.{option_map_or}
use Rattle.std.specs.Int.{trailing_zeros, w32}
use Rattle.std.proofs.lemmas.Bool.{eqb-true, cond_both}
use Rattle.std.proofs.lemmas.Nat.{le_or_l, le_or_r}
use Rattle.query_core.specs.Sets.{bit}
use Rattle.query_core.specs.Keys.{key_number, IsGroupInRange, has_own, group_of_table, top_of, tables_of}
use Rattle.query_core.specs.Expressions.{FallsInto}
use Rattle.query_core.specs.declared.query.Query.{Query}
use Rattle.query_core.specs.declared.words.KeyParts.{KeyParts}
use Rattle.query_core.specs.declared.words.KeyParts.TheVariants.{Get, Filter, Join, Partial, Agg}
use Rattle.query_core.proofs.Bits.{bit-below, bit-and, bit-or, bit-none, same_tables, power_below}
use Rattle.query_core.proofs.GroupLemmas.{key_one, exponent_lt}

-- the group that joins a set joins its tables
pub tables_top : (q : Query) (set : ℕ) → tables_of (top_of q set) ≡ set
tables_top q set =
    let least = trailing_zeros w32 set in
    cond_both (set == 2 ^ least) (Some least) None
    (λ o. tables_of (option_map_or (group_of_table q) o (Join set)) ≡ set)
    (λ same. cond_both (has_own q least) (Filter least) (Get least) (λ g. tables_of g ≡ set)
    (λ own. sym (eqb-true set (2 ^ least) same)) (λ none. sym (eqb-true set (2 ^ least) same)))
    (λ differs. refl)

-- the group that joins tables of the first ten is in range
pub top_in_range : (q : Query) (set : ℕ) → IsGroupInRange (Join set) → IsGroupInRange (top_of q set)
top_in_range q set small =
    let least = trailing_zeros w32 set in
    let there : (set == 2 ^ least) ≡ true → least < 10 =
    λ same. exponent_lt least 10 (subst (λ x. x < 2 ^ 10) (eqb-true set (2 ^ least) same) small) in
    cond_both (set == 2 ^ least) (Some least) None (λ o. IsGroupInRange (option_map_or (group_of_table q) o (Join set)))
    (λ same. cond_both (has_own q least) (Filter least) (Get least) IsGroupInRange (λ own. there same)
    (λ none. there same))
    (λ differs. small)

-- of a number there is one such group, and one such set
pub number_top : (q : Query) (set number : ℕ) (group : KeyParts) → IsGroupInRange group → key_number group ≡ number
    → IsGroupInRange (Join set)
    → key_number (top_of q set) ≡ number → group ≡ top_of q set
number_top q set number group in_range is small top_is =
    key_one group (top_of q set) in_range (top_in_range q set small) (is ∙ sym top_is)

-- the other side has the tables that the one leaves
pub right_bit : (q : Query) (set a b : ℕ) → FallsInto q set a b → (t : ℕ) → bit b t ≡ bit set t - bit a t
right_bit q set a b falls t =
    omega (
      arith,
      bit-or a b t,
      ap (λ x. bit x t) falls.whole,
      bit-and a b t,
      ap (λ x. bit x t) falls.disjoint,
      bit-none t,
      bit-below a t,
      bit-below b t,
    )

-- the other side is what the one leaves
pub right_one : (q : Query) (set a b rest : ℕ) → FallsInto q set a b → ((t : ℕ) → bit rest t ≡ bit set t - bit a t)
    → b ≡ rest
right_one q set a b rest falls left = same_tables b rest (λ t. right_bit q set a b falls t ∙ sym (left t))

-- what a set leaves of another has none of its tables
pub rest_disjoint : (set a rest : ℕ) → ((t : ℕ) → bit rest t ≡ bit set t - bit a t) → bit_and a rest ≡ 0
rest_disjoint set a rest left = same_tables (bit_and a rest) 0
    (λ t. omega (arith, left t, bit-and a rest t, bit-none t, bit-below a t, bit-below set t))

-- groups in range join tables of the first ten
pub tables_small : (group : KeyParts) → IsGroupInRange group → IsGroupInRange (Join (tables_of group))
tables_small (Get t) there = power_below t 10 there
tables_small (Filter t) there = power_below t 10 there
tables_small (Join set) small = small
tables_small Partial there = omega arith
tables_small Agg there = omega arith

-- the group of a set has a key below those of GROUP BY
pub key_top_small : (q : Query) (set : ℕ) → IsGroupInRange (Join set) → key_number (top_of q set) < 2048
key_top_small q set small =
    let least = trailing_zeros w32 set in
    let there : (set == 2 ^ least) ≡ true → least < 10 =
    λ same. exponent_lt least 10 (subst (λ x. x < 2 ^ 10) (eqb-true set (2 ^ least) same) small) in
    cond_both (set == 2 ^ least) (Some least) None
    (λ o. key_number (option_map_or (group_of_table q) o (Join set)) < 2048)
    (λ same. cond_both (has_own q least) (Filter least) (Get least) (λ g. key_number g < 2048)
    (λ own. omega (arith, there same)) (λ none. omega (arith, there same)))
    (λ differs. omega (arith, small))

-- of a key there is one set whose group it names
pub set_one : (q : Query) (a b : ℕ) → IsGroupInRange (Join a) → IsGroupInRange (Join b)
    → key_number (top_of q a) ≡ key_number (top_of q b) → a ≡ b
set_one q a b a_small b_small same =
    let group = key_one (top_of q a) (top_of q b) (top_in_range q a a_small) (top_in_range q b b_small) same in
    sym (tables_top q a) ∙ (ap tables_of group ∙ tables_top q b)

-- the sides of a set have its tables only
pub left_within : (q : Query) (set a b : ℕ) → FallsInto q set a b → a ≤ set
left_within q set a b falls = omega (arith, le_or_l a b, falls.whole)

pub right_within : (q : Query) (set a b : ℕ) → FallsInto q set a b → b ≤ set
right_within q set a b falls = omega (arith, le_or_r a b, falls.whole)
