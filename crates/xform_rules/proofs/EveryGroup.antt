-- With both rules that turn joins on, the closure holds every connected set, and every way in which it falls into two.
use Rattle.std.proofs.Common.{◌≡◌, ℕ, zero, suc, ◌-◌, ◌<◌, ◌^◌, sym, subst, arith, inl, inr, length}
use Rattle.std.proofs.lemmas.Bool.{cases_eq}
use Rattle.query_core.specs.Sets.{bit, Has}
use Rattle.query_core.specs.Connected.{IsConnected}
use Rattle.query_core.specs.Keys.{IsGroup}
use Rattle.query_core.specs.Expressions.{FallsInto}
use Rattle.query_core.specs.declared.query.Query.{Query}
use Rattle.query_core.specs.declared.words.KeyParts.TheVariants as groups
use Rattle.query_core.proofs.Bits.{bit-none, bit-difference, bit-beyond, bit-first, same_tables}
use Rattle.query_core.proofs.Unions.{sides_turned, join_cut}
use Rattle.query_core.proofs.Whole.{bit_cases, component}
use Rattle.std.proofs.lemmas.Bool.{cases_lt}
use Rattle.xform_rules.specs.Held.{group, sides, all_of, IsHeld, all, left, turned}
use Rattle.xform_rules.specs.Splits.{AreJoinRulesOn}
use Rattle.xform_rules.proofs.Components.{less_of, IsCarved, carved_apart}
use Rattle.xform_rules.proofs.LastCuts.{some_in, last_cut}
use Rattle.xform_rules.proofs.EverySplit.{sides_add, less_le, in_either, carved_falls, with_last}
use Rattle.xform_rules.proofs.Validity.{set_small, falls_several, falls_group, held_valid}

module _ (q : Query) (on : AreJoinRulesOn q) where
  -- every way in which a set that is held falls into two
  pub every_split : (bound set a b : ℕ) → set < bound → IsHeld q (group set) → FallsInto q set a b
      → IsHeld q (sides set a b)
  every_split zero set a b below held falls = absurd (omega (arith, below))
  every_split (suc bound) set a b below held falls =
      let (some, of_tables, connected) = held_valid q (group set) held in
      let small : set < 2 ^ 32 = set_small q set of_tables in
      let known : IsGroup q (groups.Join set) = falls_group q set a b of_tables connected falls in
      let (first, has) = some_in set some small in
      let (t, last) = last_cut q set small connected first has (falls_several q set a b small falls first) in
      let cut : FallsInto q set (set - 2 ^ t) (2 ^ t) = join_cut q set t known last.cut.0 last.cut.1 in
      let with_t = with_last q on set t small held known.1 last cut (λ inner x y less inner_held inner_falls.
      every_split bound inner x y (omega (arith, less, below)) inner_held inner_falls) in
      elim (in_either q set a b falls t last.cut.0) [
        | inr in_b ↦ with_t (suc b) b a (omega arith) falls in_b
        | inl in_a ↦ turned set b a on.commute (with_t (suc a) a b (omega arith) (sides_turned q set a b falls) in_a)
      ]

  -- every connected part of a set that is held: the components of what it leaves are taken away, one after the other
  every_part : (bound set part first : ℕ) → set < bound → IsHeld q (group set) → IsConnected q.links part
      → Has part first
      → ((t : ℕ) → Has part t → Has set t) → IsHeld q (group part)
  every_part zero set part first below held whole in_part within = absurd (omega (arith, below))
  every_part (suc bound) set part first below held whole in_part within = elim (cases_eq (less_of set part) 0) [
    | inl none ↦
        let same : set ≡ part = same_tables set part (λ t. elim (bit_cases part t) [
          | inl has ↦ omega (arith, has, within t has)
          | inr absent ↦ omega (
            arith,
            absent,
            bit-difference set part t,
            subst (λ x. bit x t ≡ 0) (sym none) (bit-none t),
          )
        ]) in
        subst (λ x. IsHeld q (group x)) same held
    | inr more ↦
        let (some, of_tables, connected) = held_valid q (group set) held in
        let small : set < 2 ^ 32 = set_small q set of_tables in
        let rest = less_of set part in
        let rest_small : rest < 2 ^ 32 = omega (arith, less_le set part, small) in
        let (from, start) = some_in rest (omega (arith, more)) rest_small in
        let (found, found_small, reached) = component q.links rest 32 from rest_small start in
        let carved : IsCarved q.links set part rest from found = record {
          within = within;
          left = λ t. bit-difference set part t;
          start = start;
          reached = reached;
        } in
        let falls : FallsInto q set (less_of set found) found =
        carved_falls q set part rest from found first carved connected whole in_part in
        let held_kept : IsHeld q (group (less_of set found)) =
        left set (less_of set found) found (every_split (suc set) set (less_of set found) found (omega arith) held
        falls) in
        every_part bound (less_of set found) part first
        (omega (arith, sides_add q set (less_of set found) found falls, falls.some_right, below)) held_kept whole
        in_part
        (λ t has. elim (bit_cases found t) [
          | inl in_found ↦ absurd (omega (arith, carved_apart q.links set part rest from found carved t in_found, has))
          | inr none ↦ omega (arith, bit-difference set found t, none, within t has)
        ])
  ]

  -- so every connected set of tables of the query
  pub every_group : (set : ℕ) → 0 < set → set < 2 ^ length q.tables → IsConnected q.links set → IsHeld q (group set)
  every_group set some small connected =
      let (first, has) = some_in set some (set_small q set small) in
      every_part (suc (all_of q)) (all_of q) set first (omega arith) all connected has
      (λ t there. elim (cases_lt t (length q.tables)) [
        | inl within ↦ bit-first (length q.tables) t within
        | inr beyond ↦ absurd (omega (arith, bit-beyond set (length q.tables) t small beyond, there))
      ])
