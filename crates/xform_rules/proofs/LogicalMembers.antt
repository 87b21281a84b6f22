-- Which logical expressions of tables and of GROUP BY are members, for every choice of the rules.
use Rattle.std.proofs.Common.{◌≡◌, ℕ, zero, suc, ◌-◌, ◌^◌, ◌<◌, refl, ap, sym, subst, ◌∙◌, arith, inl, inr, length}
use Rattle.std.proofs.Common.{IsTrue, true, None, Some}
use Rattle.std.specs.Prelude.{◌==◌, if◌then◌else◌}
use Rattle.std.specs.Option.{option_map_or}
use Rattle.std.specs.Int.{trailing_zeros, w32}
use Rattle.std.proofs.lemmas.Nat.{pow_pos}
use Rattle.std.proofs.lemmas.Bool.{cases_eq, cond_both, eq-eqb}
use Rattle.query_core.specs.Sets.{Has}
use Rattle.query_core.specs.Keys.{has_own, group_of_table, top_of, input_of, root_of}
use Rattle.query_core.specs.Expressions.{origin_of}
use Rattle.query_core.specs.declared.query.Query.{Query}
use Rattle.query_core.specs.declared.words.KeyParts.TheVariants as groups
use Rattle.query_core.specs.declared.expressions.Logical.TheVariants as logical
use Rattle.query_core.specs.declared.expressions.ExprParts.{ExprParts}
use Rattle.query_core.proofs.Bits.{bit-first, bit-one_other, power_below, least-found}
use Rattle.xform_rules.specs.declared.rules.Rule.TheVariants as rules
use Rattle.xform_rules.specs.Rules.{IsOn}
use Rattle.xform_rules.specs.Forms.{logical_in}
use Rattle.xform_rules.specs.Closure.{IsMember, root_origin, child_origin, result}
use Rattle.xform_rules.specs.Held.{group, all_of, IsHeld, all, left, right, expanded}
use Rattle.xform_rules.proofs.LastCuts.{last_cut, within_le}
use Rattle.xform_rules.proofs.Validity.{set_small, several_cases, held_valid}
use Rattle.xform_rules.proofs.HeldMembers.{held_member}
use Rattle.xform_rules.proofs.Beginnings.{rest_bit}

-- grouping of groups that are not complete
abbrev pub split_parts : ExprParts
split_parts = logical_in groups.Agg (logical.Agg groups.Partial)

-- the group of one table
top_one : (q : Query) (t : ℕ) → t < 32 → top_of q (2 ^ t) ≡ group_of_table q t
top_one q t within =
    let least = trailing_zeros w32 (2 ^ t) in
    let has : Has (2 ^ t) least = (least-found (2 ^ t) (pow_pos t) (power_below t 32 within)).here in
    let same : least ≡ t = elim (cases_eq least t) [
      | inl is ↦ is
      | inr other ↦ absurd (omega (arith, bit-one_other t least other, has))
    ] in
    let one : (2 ^ t == 2 ^ least) ≡ true = eq-eqb (2 ^ t) (2 ^ least) (ap (λ x. 2 ^ x) (sym same)) in
    ap (λ b. option_map_or (group_of_table q) (if b then Some least else None) (groups.Join (2 ^ t))) one
    ∙ ap (group_of_table q) same

module _ (q : Query) where
  -- every table's group is held: the last cuts go down to it
  one_held : (bound set t : ℕ) → set < bound → IsHeld q (group set) → Has set t → IsHeld q (group (2 ^ t))
  one_held zero set t below held has = absurd (omega (arith, below))
  one_held (suc bound) set t below held has = elim (cases_eq set (2 ^ t)) [
    | inl one ↦ subst (λ x. IsHeld q (group x)) one held
    | inr other ↦
        let (some, of_tables, connected) = held_valid q (group set) held in
        let (u, last) = last_cut q set (set_small q set of_tables) connected t has other in
        let power : (v : ℕ) → Has (2 ^ u) v → Has set v = λ v in_one. elim (cases_eq v u) [
          | inl same ↦ subst (Has set) (sym same) last.cut.0
          | inr differs ↦ absurd (omega (arith, bit-one_other u v differs, in_one))
        ] in
        elim (several_cases set) [
          | inr (inl empty) ↦ absurd (omega (arith, some, empty))
          | inr (inr (k, one)) ↦
              let is_k : t ≡ k = elim (cases_eq t k) [
                | inl same ↦ same
                | inr differs ↦ absurd (omega (arith, bit-one_other k t differs, subst (λ x. Has x t) one has))
              ] in
              absurd (other (one ∙ ap (λ x. 2 ^ x) (sym is_k)))
          | inl several ↦ elim (cases_eq t u) [
            | inl same ↦ subst (λ x. IsHeld q (group (2 ^ x))) (sym same)
                (right set (set - 2 ^ u) (2 ^ u) (expanded set u held several last))
            | inr differs ↦
                one_held bound (set - 2 ^ u) t (omega (arith, below, within_le (2 ^ u) set power, pow_pos u))
                (left set (set - 2 ^ u) (2 ^ u) (expanded set u held several last))
                (omega (arith, rest_bit set (2 ^ u) power t, bit-one_other u t differs, has))
          ]
        ]
  ]

  -- so the group of one table is in the closure
  alone_member : (t : ℕ) → t < length q.tables → IsMember q (origin_of q (group_of_table q t))
  alone_member t there =
      let held = one_held (suc (all_of q)) (all_of q) t (omega arith) all (bit-first (length q.tables) t there) in
      subst (λ g. IsMember q (origin_of q g)) (top_one q t (omega (arith, there, q.tables_valid.few)))
      (held_member q (group (2 ^ t)) held)

  pub get_member : (t : ℕ) → t < length q.tables → IsMember q (origin_of q (groups.Get t))
  get_member t there =
      cond_both (has_own q t) (groups.Filter t) (groups.Get t) (λ g. IsMember q (origin_of q g)
      → IsMember q (origin_of q (groups.Get t)))
      (λ own member. child_origin (origin_of q (groups.Filter t)) (groups.Get t) member refl) (λ none member. member)
      (alone_member t there)

  pub filter_member : (t : ℕ) → t < length q.tables → IsTrue (has_own q t) → IsMember q (origin_of q (groups.Filter t))
  filter_member t there own =
      let filters : group_of_table q t ≡ groups.Filter t = ap (λ b. if b then groups.Filter t else groups.Get t) own in
      subst (λ g. IsMember q (origin_of q g)) filters (alone_member t there)

  -- ---- GROUP BY

  -- a grouped query's root is its groups
  pub agg_member : IsTrue q.grouped → IsMember q (origin_of q groups.Agg)
  agg_member grouped =
      let root : root_of q ≡ groups.Agg = ap (λ b. if b then groups.Agg else input_of q) grouped in
      subst (λ g. IsMember q (origin_of q g)) root root_origin

  pub split_member : IsTrue q.grouped → IsOn q rules.SplitAgg → IsMember q split_parts
  split_member grouped on = result (origin_of q groups.Agg) split_parts rules.SplitAgg 0 (agg_member grouped)
      (record { on = on; group = refl; gives = (refl, (refl, refl)) })

  pub partial_member : IsTrue q.grouped → IsOn q rules.SplitAgg → IsMember q (origin_of q groups.Partial)
  partial_member grouped on = child_origin split_parts groups.Partial (split_member grouped on) refl
