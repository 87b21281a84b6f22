-- With both rules that turn joins on, each set that the closure holds falls into two sides in every way there is.
use Rattle.std.proofs.Common.{◌≡◌, ℕ, zero, suc, ◌+◌, ◌-◌, ◌<◌, ◌≤◌, ◌^◌, sym, ap, subst, ◌∙◌, arith, IsTrue, ◌⊎◌, inl}
use Rattle.std.proofs.Common.{inr}
use Rattle.std.specs.Prelude.{bit_or, ◌≢◌}
use Rattle.std.proofs.lemmas.Nat.{or_disjoint}
use Rattle.std.proofs.lemmas.Bool.{cases_eq}
use Rattle.query_core.specs.Sets.{bit, Has, is_several}
use Rattle.query_core.specs.Connected.{IsConnected, AreLinked}
use Rattle.query_core.specs.Expressions.{FallsInto}
use Rattle.query_core.specs.declared.query.Query.{Query}
use Rattle.query_core.proofs.Bits.{bit-below, bit-none, bit-or, bit-and, bit-one, bit-one_other, bit-difference}
use Rattle.query_core.proofs.Bits.{same_tables}
use Rattle.query_core.proofs.Unions.{one_connected, sides_turned, sides_moved, sides_whole, sides_apart}
use Rattle.query_core.proofs.Whole.{bit_cases, component}
use Rattle.xform_rules.specs.ExpandNAry.{IsLastCut}
use Rattle.xform_rules.specs.Held.{group, sides, IsHeld, left, expanded, moved}
use Rattle.xform_rules.specs.Splits.{AreJoinRulesOn}
use Rattle.xform_rules.proofs.Components.{less_of, IsCarved, carved_set, carved_apart, carved_from, carved_connected}
use Rattle.xform_rules.proofs.Components.{carved_linked, others_connected, linked_in_more}
use Rattle.xform_rules.proofs.LastCuts.{within_le, some_in}

-- a set is as large as its two sides together
pub sides_add : (q : Query) (set a b : ℕ) → FallsInto q set a b → set ≡ a + b
sides_add q set a b falls = sym falls.whole ∙ or_disjoint a b falls.disjoint

-- a set that has a table isn't empty
pub some_table : (set t : ℕ) → Has set t → 0 < set
some_table set t has = elim (cases_eq set 0) [
  | inl none ↦ absurd (omega (arith, subst (λ x. Has x t) none has, bit-none t))
  | inr some ↦ omega (arith, some)
]

-- of two sides a table of the set is in one
module _ (q : Query) (set a b : ℕ) (falls : FallsInto q set a b) where
  pub in_left : (t : ℕ) → Has a t → Has set t
  in_left t has = omega (arith, sides_whole q set a b falls t, has, bit-below b t)

  pub in_right : (t : ℕ) → Has b t → Has set t
  in_right t has = omega (arith, sides_whole q set a b falls t, has, bit-below a t)

  pub in_either : (t : ℕ) → Has set t → Has a t ⊎ Has b t
  in_either t has = elim (bit_cases a t) [
    | inl in_a ↦ inl in_a
    | inr none ↦ inr (omega (arith, sides_whole q set a b falls t, has, none))
  ]

-- a connected set falls into what it has without a component and the component
pub carved_falls : (q : Query) (set part rest from found first : ℕ) → IsCarved q.links set part rest from found
    → IsConnected q.links set → IsConnected q.links part
    → Has part first → FallsInto q set (less_of set found) found
carved_falls q set part rest from found first carved connected whole in_part =
    let others : (t : ℕ) → bit (less_of set found) t ≡ bit set t - bit found t = λ t. bit-difference set found t in
    let inside : (t : ℕ) → bit found t ≤ bit set t = λ t. elim (bit_cases found t) [
      | inl has ↦ omega (arith, has, carved_set q.links set part rest from found carved t has)
      | inr none ↦ omega (arith, none)
    ] in
    record {
      whole = same_tables _ set (λ t. omega (
        arith,
        bit-or (less_of set found) found t,
        others t,
        inside t,
        bit-below set t,
      ));
      disjoint = same_tables _ 0 (λ t. omega (
        arith,
        bit-and (less_of set found) found t,
        others t,
        bit-none t,
        bit-below set t,
        bit-below found t,
      ));
      left = others_connected q.links set part rest from found carved connected first in_part whole;
      right = carved_connected q.links set part rest from found carved;
      some_left = some_table (less_of set found) first (elim (bit_cases found first) [
        | inl has ↦ absurd (omega (arith, carved_apart q.links set part rest from found carved first has, in_part))
        | inr none ↦ omega (arith, others first, none, carved.within first in_part)
      ]);
      some_right = some_table found from (carved_from q.links set part rest from found carved);
    }

-- what is left of a set is at most the set
pub less_le : (set part : ℕ) → less_of set part ≤ set
less_le set part = within_le (less_of set part) set
    (λ t has. omega (arith, bit-difference set part t, has, bit-below set t))

-- a side that has more than one table has another one
other_table : (set t : ℕ) → set < 2 ^ 32 → Has set t → set ≢ 2 ^ t → (u : ℕ) × Has (less_of set (2 ^ t)) u
other_table set t small has several = elim (cases_eq (less_of set (2 ^ t)) 0) [
  | inl none ↦ absurd (several (same_tables set (2 ^ t) (λ u. elim (cases_eq u t) [
    | inl same ↦ subst (λ x. bit set x ≡ bit (2 ^ t) x) (sym same) (has ∙ sym (bit-one t))
    | inr other ↦ omega (
      arith,
      bit-difference set (2 ^ t) u,
      ap (λ x. bit x u) none,
      bit-none u,
      bit-one_other t u other,
    )
  ])))
  | inr some ↦ some_in (less_of set (2 ^ t)) (omega (arith, some)) (omega (arith, less_le set (2 ^ t), small))
]

module _ (q : Query) (on : AreJoinRulesOn q) (set t : ℕ) (small : set < 2 ^ 32) (held : IsHeld q (group set))
    (several : IsTrue (is_several set)) (last : IsLastCut q set t)
    (cut : FallsInto q set (set - 2 ^ t) (2 ^ t))
    (smaller : (inner a b : ℕ) → inner < set → IsHeld q (group inner) → FallsInto q inner a b
    → IsHeld q (sides inner a b)) where
  -- a way to fall into two where the right side has the last table: a part of the right side that hangs at both goes
  -- over to the left one
  pub with_last : (bound b a : ℕ) → b < bound → FallsInto q set a b → Has b t → IsHeld q (sides set a b)
  with_last zero b a below falls in_b = absurd (omega (arith, below))
  with_last (suc bound) b a below falls in_b = elim (cases_eq b (2 ^ t)) [
    | inl alone ↦
        let a_is : a ≡ set - 2 ^ t = omega (arith, sides_add q set a b falls, alone) in
        subst (λ x. IsHeld q (sides set x b)) (sym a_is)
        (subst (λ x. IsHeld q (sides set (set - 2 ^ t) x)) (sym alone) (expanded set t held several last))
    | inr more ↦
        let b_small : b < 2 ^ 32 = omega (arith, sides_add q set a b falls, small) in
        let (from, start) = other_table b t b_small in_b more in
        let rest = less_of b (2 ^ t) in
        let (found, found_small, reached) = component q.links rest 32 from (omega (arith, less_le b (2 ^ t), b_small))
        start in
        let power : (u : ℕ) → Has (2 ^ t) u → u ≡ t = λ u has. elim (cases_eq u t) [
          | inl same ↦ same
          | inr other ↦ absurd (omega (arith, bit-one_other t u other, has))
        ] in
        let in_rest : IsCarved q.links b (2 ^ t) rest from found = record {
          within = λ u has. subst (Has b) (sym (power u has)) in_b;
          left = λ u. bit-difference b (2 ^ t) u;
          start = start;
          reached = reached;
        } in
        let none_left : bit a t ≡ 0 = omega (arith, sides_apart q set a b falls t, in_b, bit-below a t) in
        let cut_falls : FallsInto q set (set - 2 ^ t) (2 ^ t) = cut in
        let in_others : IsCarved q.links (set - 2 ^ t) a rest from found = record {
          within = λ u has. elim (cases_eq u t) [
            | inl same ↦ absurd (omega (arith, subst (λ x. bit a x ≡ 0) (sym same) none_left, has))
            | inr other ↦ omega (
              arith,
              sides_whole q set (set - 2 ^ t) (2 ^ t) cut_falls u,
              bit-one_other t u other,
              in_left q set a b falls u has,
            )
          ];
          left = λ u. omega (
            arith,
            bit-difference b (2 ^ t) u,
            sides_whole q set (set - 2 ^ t) (2 ^ t) cut_falls u,
            sides_apart q set (set - 2 ^ t) (2 ^ t) cut_falls u,
            sides_whole q set a b falls u,
            sides_apart q set a b falls u,
            bit-below a u,
            bit-below b u,
            bit-below (2 ^ t) u,
            bit-below (set - 2 ^ t) u,
          );
          start = start;
          reached = reached;
        } in
        let (some_a, in_a) = some_in a falls.some_left (omega (arith, sides_add q set a b falls, small)) in
        let to_last : AreLinked q.links found (2 ^ t) =
        carved_linked q.links b (2 ^ t) rest from found in_rest falls.right t (bit-one t) in
        let to_a : AreLinked q.links found a = carved_linked q.links (set - 2 ^ t) a rest from found in_others
        last.cut.1 some_a in_a in
        let kept = less_of b found in
        let inner : FallsInto q b kept found = carved_falls q b (2 ^ t) rest from found t in_rest falls.right
        (one_connected q.links t) (bit-one t) in
        let (near, far) = sides_moved q set b kept found a (sides_turned q set a b falls) inner to_a in
        let not_found : bit found t ≡ 0 = elim (bit_cases found t) [
          | inl has ↦ absurd (omega (arith, carved_apart q.links b (2 ^ t) rest from found in_rest t has, bit-one t))
          | inr none ↦ none
        ] in
        let in_kept : Has kept t = omega (arith, sides_whole q b kept found inner t, in_b, not_found) in
        let kept_less : kept < bound = omega (arith, sides_add q b kept found inner, inner.some_right, below) in
        let outer : IsHeld q (sides set (bit_or found a) kept) =
        with_last bound kept (bit_or found a) kept_less (sides_turned q set kept (bit_or found a) far) in_kept in
        let less : bit_or found a < set = omega (arith, sides_add q set kept (bit_or found a) far, far.some_left) in
        let split : IsHeld q (sides (bit_or found a) a found) =
        smaller (bit_or found a) a found less (left set (bit_or found a) kept outer)
        (sides_turned q (bit_or found a) found a near) in
        let to_kept : AreLinked q.links found kept =
        linked_in_more q.links found (2 ^ t) found kept (λ u has. has)
        (λ u has. subst (Has kept) (sym (power u has)) in_kept) to_last in
        subst (λ x. IsHeld q (sides set a x)) (sides_turned q b kept found inner).whole
        (moved set (bit_or found a) a found kept on.associate outer split to_kept)
  ]
