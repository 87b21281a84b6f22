-- Groups that are not complete come into the closure by SplitAgg alone.
use Rattle.std.proofs.Common.{◌≡◌, ℕ, ◌-◌, ◌^◌, ap, sym, subst, ◌∙◌, ◌⊎◌, inl, inr, ◌↔◌, Option, None, Some}
use Rattle.std.specs.Prelude.{bit_or}
use Rattle.std.specs.Option.{option_map_or}
use Rattle.std.proofs.lemmas.Bool.{cond_both}
use Rattle.query_core.specs.Sets.{only_of}
use Rattle.query_core.specs.Keys.{IsGroup, has_own, group_of_table, top_of, tables_of, input_of, root_of}
use Rattle.query_core.specs.Expressions.{IsChild, children_of, HasLogical, HasShape, IsCandidate, origin_operator}
use Rattle.query_core.specs.declared.query.Query.{Query}
use Rattle.query_core.specs.declared.words.KeyParts.{KeyParts}
use Rattle.query_core.specs.declared.words.KeyParts.TheVariants as groups
use Rattle.query_core.specs.declared.expressions.Operator.{Operator}
use Rattle.query_core.specs.declared.expressions.Operator.TheVariants as operators
use Rattle.query_core.specs.declared.expressions.Logical.{Logical}
use Rattle.query_core.specs.declared.expressions.Logical.TheVariants as logical
use Rattle.query_core.specs.declared.expressions.ExprParts.{ExprParts}
use Rattle.xform_rules.specs.declared.rules.Rule.{Rule}
use Rattle.xform_rules.specs.declared.rules.Rule.TheVariants as rules
use Rattle.xform_rules.specs.Rules.{IsOn}
use Rattle.xform_rules.specs.Forms.{IsLogical, logical_in}
use Rattle.xform_rules.specs.JoinAssociate.{Associates}
use Rattle.xform_rules.specs.SplitAgg.{GroupsInput}
use Rattle.xform_rules.specs.Results.{Gives, GivesWith}
use Rattle.xform_rules.specs.Closure.{IsMember, root_origin, child_origin, result, bound_result}
use Rattle.xform_rules.proofs.Operators.{logical_from}
use Rattle.xform_rules.proofs.Implementing.{explored, implemented_child}
use Rattle.xform_rules.proofs.LogicalMembers.{get_member, filter_member, agg_member, split_member, partial_member}

-- a group that joins tables isn't that of groups that are not complete
not_partial : (q : Query) (set : ℕ) (o : Option ℕ)
    → groups.Partial ≡ option_map_or (group_of_table q) o (groups.Join set) → ⊥
not_partial q set None same = let never : groups.Partial ≡ groups.Join set = same in cc
not_partial q set (Some t) same =
    cond_both (has_own q t) (groups.Filter t) (groups.Get t) (λ g. groups.Partial ≡ g → ⊥)
    (λ own is. let never : groups.Partial ≡ groups.Filter t = is in cc)
    (λ none is. let never : groups.Partial ≡ groups.Get t = is in cc) same

top_not_partial : (q : Query) (set : ℕ) → groups.Partial ≡ top_of q set → ⊥
top_not_partial q set same = not_partial q set (only_of set) same

grouped_same : (a b : KeyParts) → logical.Agg a ≡ logical.Agg b → a ≡ b
grouped_same a b same = cc

module _ (q : Query) where
  -- a member over or in that group says that the rule is on
  record SaysSplit (g : KeyParts) (o : Operator) : Type 0 where
    own : g ≡ groups.Partial → IsOn q rules.SplitAgg
    child : IsChild (children_of o) groups.Partial → IsOn q rules.SplitAgg

  origin_says : (g : KeyParts) → (g ≡ groups.Partial → IsOn q rules.SplitAgg)
      → SaysSplit g (operators.Logical (origin_operator q g))
  origin_says (groups.Get t) on = record { own = on; child = λ never. absurd never }
  origin_says (groups.Filter t) on = record {
    own = on;
    child = λ is. let never : groups.Partial ≡ groups.Get t = is in
        cc;
  }
  origin_says (groups.Join s) on = record { own = on; child = λ never. absurd never }
  origin_says groups.Partial on = record { own = on; child = λ is. absurd (top_not_partial q _ is) }
  origin_says groups.Agg on = record { own = on; child = λ is. absurd (top_not_partial q _ is) }

  module _ (g : KeyParts) (from : Logical) (shape : HasLogical q g from) (says : SaysSplit g (operators.Logical from))
    where
      -- another logical operator
      becomes : (o to : Logical) → to ≡ o → (IsChild (children_of (operators.Logical o)) groups.Partial
          → IsOn q rules.SplitAgg) → SaysSplit g (operators.Logical to)
      becomes o to made child = subst (λ x. SaysSplit g (operators.Logical x)) (sym made)
          (record { own = says.own; child = child })

      gives_says : (rule : Rule) (n : ℕ) (to : Operator) → IsOn q rule → Gives q rule g from n to → SaysSplit g to
      gives_says rule n (operators.Physical to) on gives =
          record {
            own = says.own;
            child = λ is. says.child (implemented_child q g from rule n to gives groups.Partial is);
          }
      gives_says rule n (operators.Logical to) on gives = elim (explored q g from rule n to gives) [
        | inl (is_on, (set, t, joins, last, made)) ↦
            becomes (logical.Join (top_of q (set - 2 ^ t)) (top_of q (2 ^ t))) to made
            (λ is. elim is [
              | inl first ↦ absurd (top_not_partial q _ first)
              | inr second ↦
                  absurd (top_not_partial q _ second)
            ])
        | inr (inl (is_on, (l, r, is, made))) ↦
            let turned : (groups.Partial ≡ l) ⊎ (groups.Partial ≡ r) → IsOn q rules.SplitAgg = λ either.
            says.child (subst (λ x. IsChild (children_of (operators.Logical x)) groups.Partial) (sym is) either) in
            becomes (logical.Join r l) to made (λ child.
            elim child [ inl this ↦ turned (inr this) | inr that ↦ turned (inl that) ])
        | inr (inr (is_on, (is, made))) ↦ becomes (logical.Agg groups.Partial) to made (λ child. is_on on)
      ]

      -- of the groups of a join that JoinAssociate gives one is the bound member's, and the other joins tables
      bound_says : (bound : ExprParts) (to : Operator) → SaysSplit bound.group bound.operator
          → IsLogical (Associates q from bound) to → SaysSplit g to
      bound_says bound (operators.Physical to) says_bound never = absurd never
      bound_says bound (operators.Logical to) says_bound (inner, r, a, b, is, joins, linked, made) =
          let in_bound : (groups.Partial ≡ a) ⊎ (groups.Partial ≡ b) → IsOn q rules.SplitAgg = λ either.
          says_bound.child (subst (λ (x : ExprParts). IsChild (children_of x.operator) groups.Partial) (sym joins)
          either) in
          becomes (logical.Join a (top_of q (bit_or (tables_of b) (tables_of r)))) to made
          (λ child. elim child [ inl this ↦ in_bound (inl this) | inr that ↦ absurd (top_not_partial q _ that) ])

  module _ (candidates : (e : ExprParts) → IsMember q e → IsCandidate q e) where
    member_says : (e : ExprParts) → IsMember q e → SaysSplit e.group e.operator
    member_says e root_origin = origin_says (root_of q) (λ same.
        cond_both q.grouped groups.Agg (input_of q) (λ g. g ≡ groups.Partial → IsOn q rules.SplitAgg)
        (λ yes is. let never : groups.Agg ≡ groups.Partial = is in cc) (λ no is. absurd (top_not_partial q _ (sym is)))
        same)
    member_says e (child_origin before g member child) =
        origin_says g (λ same. (member_says before member).child
        (subst (IsChild (children_of before.operator)) same child))
    member_says e (result before other rule n member has) =
        let (from, is_from, gives) = logical_from (GivesWith q rule before.group None n e.operator) before.operator
        has.gives in
        let shape = subst (HasShape q before.group) is_from (candidates before member).shape in
        subst (λ x. SaysSplit x e.operator) (sym has.group)
        (gives_says before.group from shape (subst (SaysSplit before.group) is_from (member_says before member)) rule n
        e.operator has.on gives)
    member_says e (bound_result before bound other rule n member bound_member has) =
        let (from, is_from, (associate, first, gives)) =
        logical_from (GivesWith q rule before.group (Some bound) n e.operator) before.operator has.gives in
        let shape = subst (HasShape q before.group) is_from (candidates before member).shape in
        subst (λ x. SaysSplit x e.operator) (sym has.group)
        (bound_says before.group from shape (subst (SaysSplit before.group) is_from (member_says before member)) bound
        e.operator
        (member_says bound bound_member) gives)

    -- ---- the logical members that join no sets

    module _ (g : KeyParts) where
      -- every table's rows are a member
      pub get_logical : IsCandidate q (logical_in g logical.Get) → IsMember q (logical_in g logical.Get)
      get_logical candidate =
          let (t, own) = candidate.shape in
          subst (λ x. IsMember q (logical_in x logical.Get)) (sym own)
          (get_member q t (subst (IsGroup q) own candidate.known))

      pub filter_logical : (child : KeyParts) → IsCandidate q (logical_in g (logical.Select child))
          → IsMember q (logical_in g (logical.Select child))
      filter_logical child candidate =
          let (t, own, is) = candidate.shape in
          let known : IsGroup q (groups.Filter t) = subst (IsGroup q) own candidate.known in
          subst (λ x. IsMember q (logical_in x (logical.Select child))) (sym own)
          (subst (λ c. IsMember q (logical_in (groups.Filter t) (logical.Select c))) (sym is)
          (filter_member q t known.0 known.1))

      -- groups that are not complete are there where SplitAgg is on
      pub partial_logical : (child : KeyParts) → IsCandidate q (logical_in g (logical.Partial child))
          → IsOn q rules.SplitAgg ↔ IsMember q (logical_in g (logical.Partial child))
      partial_logical child candidate =
          let (own, is) = candidate.shape in
          let known : IsGroup q groups.Partial = subst (IsGroup q) own candidate.known in (
            λ on. subst (λ x. IsMember q (logical_in x (logical.Partial child))) (sym own)
                (subst (λ c. IsMember q (logical_in groups.Partial (logical.Partial c))) (sym is)
                (partial_member q known on)),
            λ member. (member_says (logical_in g (logical.Partial child)) member).own own,
          )

      -- the groups of GROUP BY come from all rows, or where SplitAgg is on from groups that are not complete
      pub agg_logical : (child : KeyParts) → IsCandidate q (logical_in g (logical.Agg child))
          → (GroupsInput q (logical.Agg child) ⊎ IsOn q rules.SplitAgg) ↔ IsMember q (logical_in g (logical.Agg child))
      agg_logical child candidate =
          let (own, from) = candidate.shape in
          let known : IsGroup q groups.Agg = subst (IsGroup q) own candidate.known in
          let here : (c : KeyParts) → child ≡ c → IsMember q (logical_in groups.Agg (logical.Agg c))
          → IsMember q (logical_in g (logical.Agg child)) = λ c is member.
          subst (λ x. IsMember q (logical_in x (logical.Agg child))) (sym own)
          (subst (λ x. IsMember q (logical_in groups.Agg (logical.Agg x))) (sym is) member) in (
            λ either. elim from [
              | inl input ↦ here (input_of q) input (agg_member q known)
              | inr partial ↦ elim either [
                | inr on ↦ here groups.Partial partial (split_member q known on)
                | inl input ↦
                    let same : child ≡ input_of q = grouped_same child (input_of q) input in
                    absurd (top_not_partial q _ (sym partial ∙ same))
              ]
            ],
            λ member. elim from [
              | inl input ↦ inl (ap logical.Agg input)
              | inr partial ↦ inr ((member_says (logical_in g (logical.Agg child)) member).child (sym partial))
            ],
          )
