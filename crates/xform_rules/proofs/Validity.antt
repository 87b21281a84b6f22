-- What the closure holds of sets of tables is connected, and sides are those that a set falls into.
use Rattle.std.proofs.Common.{◌≡◌, ℕ, ◌<◌, ◌≤◌, ◌^◌, refl, sym, subst, ◌∙◌, arith, Bool, true, false, not, ◌&&◌, IsTrue}
use Rattle.std.proofs.Common.{◌⊎◌, inl, inr, length, None, Some}
use Rattle.std.specs.Prelude.{is_none, ◌==◌, if◌then◌else◌}
use Rattle.std.specs.Int.{trailing_zeros, w32}
use Rattle.std.proofs.Math.Nat.{pow-le-pow_right}
use Rattle.std.proofs.lemmas.Bool.{cases_eq, eqb-true, false≢true}
use Rattle.query_core.specs.Sets.{Has, is_several}
use Rattle.query_core.specs.Connected.{IsConnected}
use Rattle.query_core.specs.Keys.{IsGroup}
use Rattle.query_core.specs.Expressions.{FallsInto}
use Rattle.query_core.specs.declared.query.Query.{Query}
use Rattle.query_core.specs.declared.words.KeyParts.TheVariants as groups
use Rattle.query_core.proofs.Bits.{bit-one_other}
use Rattle.query_core.proofs.Unions.{sides_turned, sides_moved, sides_apart, join_cut}
use Rattle.query_core.proofs.Whole.{whole_connected}
use Rattle.xform_rules.specs.Held.{Place, group, sides, IsHeld, all, left, right, expanded, turned, moved}
use Rattle.xform_rules.proofs.LastCuts.{some_in}
use Rattle.xform_rules.proofs.EverySplit.{sides_add, in_left, in_right}

-- sets of a query's tables are sets of at most ten
pub set_small : (q : Query) (set : ℕ) → set < 2 ^ length q.tables → set < 2 ^ 32
set_small q set small =
    let within : length q.tables ≤ 32 = omega (arith, q.tables_valid.few) in
    let few : 2 ^ length q.tables ≤ 2 ^ 32 = pow-le-pow_right (omega arith) within in
    omega (arith, small, few)

-- a set that falls into two isn't that of one table
pub falls_several : (q : Query) (set a b : ℕ) → set < 2 ^ 32 → FallsInto q set a b → (k : ℕ) → set ≡ 2 ^ k → ⊥
falls_several q set a b small falls k same =
    let (s, in_a) = some_in a falls.some_left (omega (arith, sides_add q set a b falls, small)) in
    let (t, in_b) = some_in b falls.some_right (omega (arith, sides_add q set a b falls, small)) in
    let only : (u : ℕ) → Has set u → u ≡ k = λ u has. elim (cases_eq u k) [
      | inl equal ↦ equal
      | inr other ↦ absurd (omega (arith, bit-one_other k u other, subst (λ x. Has x u) same has))
    ] in
    let equal : t ≡ s = only t (in_right q set a b falls t in_b) ∙ sym (only s (in_left q set a b falls s in_a)) in
    omega (arith, sides_apart q set a b falls s, in_a, subst (Has b) equal in_b)

-- the tests by which a set is one of several tables
several_by : (empty one : Bool) (least : ℕ) → IsTrue (not empty && is_none (if one then Some least else None))
    ⊎ ((empty ≡ true) ⊎ (one ≡ true))
several_by true one least = inr (inl refl)
several_by false true least = inr (inr refl)
several_by false false least = inl refl

-- a set has several tables, or it is empty or that of one table
pub several_cases : (set : ℕ) → IsTrue (is_several set) ⊎ ((set ≡ 0) ⊎ ((k : ℕ) × (set ≡ 2 ^ k)))
several_cases set =
    let least = trailing_zeros w32 set in
    elim (several_by (set == 0) (set == 2 ^ least) least) [
      | inl several ↦ inl several
      | inr (inl empty) ↦ inr (inl (eqb-true set 0 empty))
      | inr (inr one) ↦ inr (inr (least, eqb-true set (2 ^ least) one))
    ]

-- a connected set that falls into two has a group
pub falls_group : (q : Query) (set a b : ℕ) → set < 2 ^ length q.tables → IsConnected q.links set → FallsInto q set a b
    → IsGroup q (groups.Join set)
falls_group q set a b small connected falls = elim (several_cases set) [
  | inl several ↦ (small, several, connected)
  | inr (inl empty) ↦ absurd (omega (arith, sides_add q set a b falls, falls.some_left, empty))
  | inr (inr (k, one)) ↦ absurd (falls_several q set a b (set_small q set small) falls k one)
]

-- what is known of a set or of sides that the closure holds
abbrev pub IsValid : Query → Place → Type 0
IsValid q (group set) = (0 < set) × (set < 2 ^ length q.tables) × IsConnected q.links set
IsValid q (sides set a b) = IsGroup q (groups.Join set) × FallsInto q set a b

pub held_valid : (q : Query) (place : Place) → IsHeld q place → IsValid q place
held_valid q place all =
    let some : 1 ≤ length q.tables = q.tables_valid.some in
    let two : 2 ^ 1 ≤ 2 ^ length q.tables = pow-le-pow_right (omega arith) some in
    (omega (arith, two), omega (arith, two), whole_connected q)
held_valid q place (left set a b held) =
    let (known, falls) = held_valid q (sides set a b) held in
    (falls.some_left, omega (arith, sides_add q set a b falls, known.0), falls.left)
held_valid q place (right set a b held) =
    let (known, falls) = held_valid q (sides set a b) held in
    (falls.some_right, omega (arith, sides_add q set a b falls, known.0), falls.right)
held_valid q place (expanded set t held several last) =
    let (some, small, connected) = held_valid q (group set) held in
    let known : IsGroup q (groups.Join set) = (small, several, connected) in
    (known, join_cut q set t known last.cut.0 last.cut.1)
held_valid q place (turned set a b on held) =
    let (known, falls) = held_valid q (sides set a b) held in
    (known, sides_turned q set a b falls)
held_valid q place (moved set inner a b c on outer within linked) =
    let (known, falls) = held_valid q (sides set inner c) outer in
    let (known_inner, falls_inner) = held_valid q (sides inner a b) within in
    (known, (sides_moved q set inner a b c falls falls_inner linked).1)

-- a set of several tables isn't empty
pub group_some : (q : Query) (set : ℕ) → IsGroup q (groups.Join set) → 0 < set
group_some q set known = elim (cases_eq set 0) [
  | inl empty ↦ absurd (false≢true (subst (λ x. IsTrue (is_several x)) empty known.1))
  | inr some ↦ omega (arith, some)
]
