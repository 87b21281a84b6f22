-- Laws of groups and their keys.
use Rattle.std.proofs.Common.{◌≡◌, ℕ, ◌<◌, ◌≤◌, ◌^◌, true, false, None, Some, length, refl, ap, sym, subst, ◌∙◌, arith}
use Rattle.std.proofs.Common.{IsTrue, ◌↔◌, inl, inr}
use Rattle.std.specs.Prelude.{◌==◌}
use Rattle.std.specs.Option.{option_map_or}
use Rattle.std.specs.Int.{trailing_zeros, w32}
use Rattle.std.proofs.Math.Nat.{pow-le-pow_right}
use Rattle.std.proofs.lemmas.Bool.{cases_lt, eqb-true, ne_eqb, cond_both}
use Rattle.query_core.specs.Sets.{is_several}
use Rattle.query_core.specs.Connected.{IsConnected}
use Rattle.query_core.specs.Keys.{key_number, IsGroupInRange, IsGroup, NamesGroup, IsKey, has_own, group_of_table}
use Rattle.query_core.specs.Keys.{top_of}
use Rattle.query_core.specs.declared.query.Query.{Query}
use Rattle.query_core.specs.declared.words.Key.{Key}
use Rattle.query_core.specs.declared.words.KeyParts.{KeyParts}
use Rattle.query_core.specs.declared.words.KeyParts.TheVariants.{Get, Filter, Join, Partial, Agg}

-- a group's key is that of no other group
pub key_one : (p g : KeyParts) → IsGroupInRange p → IsGroupInRange g → key_number p ≡ key_number g → p ≡ g
key_one (Get t) (Get u) in_p in_g same = ap Get same
key_one (Filter t) (Filter u) in_p in_g same = ap Filter (omega (arith, same))
key_one (Join a) (Join b) in_p in_g same = ap Join (omega (arith, same))
key_one Partial Partial in_p in_g same = refl
key_one Agg Agg in_p in_g same = refl
key_one p g in_p in_g same = absurd (omega (arith, same))

-- a smaller power has the smaller exponent
pub exponent_lt : (t n : ℕ) → 2 ^ t < 2 ^ n → t < n
exponent_lt t n less = elim (cases_lt t n) [
  | inl below ↦ below
  | inr above ↦
      let more : 2 ^ n ≤ 2 ^ t = pow-le-pow_right (omega arith) above in
      absurd (omega (arith, less, more))
]

-- the numbers of a query's groups are in range
pub group_in_range : (q : Query) (group : KeyParts) → IsGroup q group → IsGroupInRange group
group_in_range q (Get t) known = omega (arith, known, q.tables_valid.few)
group_in_range q (Filter t) known = omega (arith, known.0, q.tables_valid.few)
group_in_range q (Join set) known =
    let few : 2 ^ length q.tables ≤ 2 ^ 10 = pow-le-pow_right (omega arith) q.tables_valid.few in
    omega (arith, known.0, few)
group_in_range q Partial known = refl
group_in_range q Agg known = refl

-- what the key names is the group in range with its number
pub named_one : (q : Query) (key : Key) (p g : KeyParts) → IsGroupInRange p → key_number p ≡ key.0 → NamesGroup q key g
    → g ≡ p
named_one q key p g in_p number names = key_one g p (group_in_range q g names.known) in_p (sym names.number
    ∙ sym number)

-- a key whose number is that of a group in range is one of the query's exactly where it has the group
pub is_key-group : (q : Query) (key : Key) (p : KeyParts) → IsGroupInRange p → key_number p ≡ key.0 → IsGroup q p
    ↔ IsKey q key
is_key-group q key p in_p number = (
  λ known. (p, record { number = sym number; known = known }),
  λ found. subst (IsGroup q) (named_one q key p found.0 in_p number found.1) found.1.known,
)

-- a key of the query has the number of a group in range
pub key_in_range : (q : Query) (key : Key) → ((p : KeyParts) → IsGroupInRange p → key_number p ≡ key.0 → ⊥)
    → IsKey q key → ⊥
key_in_range q key none (g, names) = none g (group_in_range q g names.known) (sym names.number)

-- a connected set of tables that isn't empty has its group
pub top_group : (q : Query) (set : ℕ) → 0 < set → set < 2 ^ length q.tables → IsConnected q.links set
    → IsGroup q (top_of q set)
top_group q set some of_tables connected =
    let least = trailing_zeros w32 set in
    let there : (set == 2 ^ least) ≡ true → least < length q.tables = λ same.
    exponent_lt least (length q.tables) (subst (λ x. x < 2 ^ length q.tables) (eqb-true set (2 ^ least) same)
    of_tables) in
    let several : (set == 2 ^ least) ≡ false → IsTrue (is_several set) = λ differs.
    rw (ne_eqb set 0 (λ none. omega (arith, none, some)), differs) refl in
    cond_both (set == 2 ^ least) (Some least) None (λ o. IsGroup q (option_map_or (group_of_table q) o (Join set)))
    (λ same. cond_both (has_own q least) (Filter least) (Get least) (IsGroup q) (λ own. (there same, own))
    (λ none. there same))
    (λ differs. (of_tables, several differs, connected))

-- a key of the query names the group in range with its number
pub known_named : (q : Query) (key : Key) (p : KeyParts) → IsGroupInRange p → key_number p ≡ key.0 → IsKey q key
    → NamesGroup q key p
known_named q key p in_p number found = record {
  number = sym number;
  known = subst (IsGroup q) (named_one q key p found.0 in_p number found.1) found.1.known;
}
