-- What a rule that implements makes, by its condition.
use Rattle.std.proofs.Common.{◌≡◌, ℕ, ◌≤◌, ◌<◌, refl, ap, sym, subst, ◌∙◌, arith}
use Rattle.query_core.specs.Expressions.{implements, access, table_in, HasIndex, HasLogical, HasAccess, HasPhysical}
use Rattle.query_core.specs.declared.query.Query.{Query}
use Rattle.query_core.specs.declared.words.KeyParts.{KeyParts}
use Rattle.query_core.specs.declared.expressions.Access.{Access}
use Rattle.query_core.specs.declared.expressions.Access.TheVariants.{Direct, Index}
use Rattle.query_core.specs.declared.expressions.Logical.{Logical}
use Rattle.query_core.specs.declared.expressions.Physical.{Physical}
use Rattle.query_core.specs.declared.expressions.Physical.TheVariants as physical
use Rattle.xform_rules.specs.declared.rules.Rule.{Rule}
use Rattle.xform_rules.specs.declared.rules.Work.{Work}
use Rattle.xform_rules.specs.declared.rules.Work.TheVariants.{Explores, Implements}
use Rattle.xform_rules.specs.declared.rules.Condition.{Condition}
use Rattle.xform_rules.specs.declared.rules.Condition.TheVariants.{Always, Equated, Grouping, OwnIndex, UsableIndex}
use Rattle.xform_rules.specs.Rules.{work_of, most_allowed}
use Rattle.xform_rules.specs.Implemented.{rule_of, index_of, IsAllowed, Makes}
use Rattle.xform_rules.proofs.Usable.{usable_there, usable_within, usable_one, few_own, few_usable, first_usable}

-- how the operators that a condition allows come to their rows
abbrev access_by : Condition → ℕ → Access
access_by Always index = Direct
access_by Equated index = Direct
access_by Grouping index = Direct
access_by OwnIndex index = Index index
access_by UsableIndex index = Index index

abbrev access_of_work : Work → ℕ → Access
access_of_work (Explores way) index = Direct
access_of_work (Implements condition) index = access_by condition index

-- an operator comes to its rows as the condition of its rule says
reads : (to : Physical) → access to ≡ access_of_work (work_of (rule_of to)) (index_of to)
reads to = grind arith

-- an operator is told by its rule, what it implements and its index
made_one : (group : KeyParts) (x y : Physical) → rule_of x ≡ rule_of y → implements group x ≡ implements group y
    → index_of x ≡ index_of y → x ≡ y
made_one group x y rule from index = grind arith

-- an operator of a rule with this condition reads an index
scans : (to : Physical) → work_of (rule_of to) ≡ Implements OwnIndex → to ≡ physical.IndexScan (index_of to)
scans to is = grind arith

seeks : (to : Physical) → work_of (rule_of to) ≡ Implements UsableIndex → to ≡ physical.IndexSeek (index_of to)
seeks to is = grind arith

module _ (q : Query) (group : KeyParts) (from : Logical) where
  -- an index that is read is one of the group's table
  has_access : (condition : Condition) (n index : ℕ) → IsAllowed q group from condition n index
      → HasAccess q group (access_by condition index)
  has_access Always n index allowed = tt
  has_access Equated n index allowed = tt
  has_access Grouping n index allowed = tt
  has_access OwnIndex n index (same, (t, is_group, there)) =
      subst (λ g. HasIndex q (table_in g) index) (sym is_group) there
  has_access UsableIndex n index (t, is_group, usable) =
      subst (λ g. HasIndex q (table_in g) index) (sym is_group) (usable_there q t n index usable)

  -- the n-th operator has one index
  pub allowed_one : (condition : Condition) (n i j : ℕ) → IsAllowed q group from condition n i
      → IsAllowed q group from condition n j → i ≡ j
  allowed_one Always n i j this other = this.1 ∙ sym other.1
  allowed_one Equated n i j this other = this.0.1 ∙ sym other.0.1
  allowed_one Grouping n i j this other = this.0.1 ∙ sym other.0.1
  allowed_one OwnIndex n i j this other = sym this.0 ∙ other.0
  allowed_one UsableIndex n i j this other = usable_one q group n i j this other

  -- and there are few
  few_allowed : (condition : Condition) (n index : ℕ) → IsAllowed q group from condition n index
      → n < most_allowed condition
  few_allowed Always n index allowed = omega (arith, allowed.0)
  few_allowed Equated n index allowed = omega (arith, allowed.0.0)
  few_allowed Grouping n index allowed = omega (arith, allowed.0.0)
  few_allowed OwnIndex n index (same, (t, is_group, there)) = omega (arith, same, few_own q t index there)
  few_allowed UsableIndex n index (t, is_group, usable) = few_usable q t n index usable

  -- it has at most the number of its index
  allowed_within : (condition : Condition) (n index : ℕ) → IsAllowed q group from condition n index → n ≤ index
  allowed_within Always n index allowed = omega (arith, allowed.0)
  allowed_within Equated n index allowed = omega (arith, allowed.0.0)
  allowed_within Grouping n index allowed = omega (arith, allowed.0.0)
  allowed_within OwnIndex n index allowed = omega (arith, allowed.0)
  allowed_within UsableIndex n index (t, is_group, usable) = usable_within q t n index usable

  module _ (rule : Rule) (condition : Condition) (work : work_of rule ≡ Implements condition) where
    -- the condition of an operator's rule
    own_work : (to : Physical) → rule_of to ≡ rule → work_of (rule_of to) ≡ Implements condition
    own_work to is = ap work_of is ∙ work

    -- the group can hold what is made
    pub makes_held : (n : ℕ) (to : Physical) → HasLogical q group from → Makes q rule condition group from n to
        → HasPhysical q group to
    makes_held n to shape (is_rule, is_from, allowed) =
        let by : access to ≡ access_by condition (index_of to) =
        reads to ∙ ap (λ w. access_of_work w (index_of to)) (own_work to is_rule) in (
          subst (HasLogical q group) (sym is_from) shape,
          subst (HasAccess q group) (sym by) (has_access condition n (index_of to) allowed),
        )

    -- where an n-th operator is made, a first one is
    pub makes_first : (n : ℕ) (to : Physical) → Makes q rule condition group from n to
        → (first : Physical) × Makes q rule condition group from 0 first
    makes_first n to (is_rule, is_from, allowed) = by_condition condition (own_work to is_rule) allowed
      where
        by_condition : (c : Condition) → work_of (rule_of to) ≡ Implements c → IsAllowed q group from c n (index_of to)
            → (first : Physical) × Makes q rule c group from 0 first
        by_condition Always is (first, index) = (to, (is_rule, is_from, (refl, index)))
        by_condition Equated is ((first, index), equated) = (to, (is_rule, is_from, ((refl, index), equated)))
        by_condition Grouping is ((first, index), some) = (to, (is_rule, is_from, ((refl, index), some)))
        by_condition OwnIndex is (same, (t, is_group, (table, got, there))) =
            let scan = scans to is in (
              physical.IndexScan 0,
              (
                ap rule_of (sym scan) ∙ is_rule,
                ap (implements group) (sym scan) ∙ is_from,
                (refl, (t, is_group, (table, got, omega (arith, there)))),
              ),
            )
        by_condition UsableIndex is usable =
            let seek = seeks to is in
            let (index, first) = first_usable q group n (index_of to) usable in (
              physical.IndexSeek index,
              (ap rule_of (sym seek) ∙ is_rule, ap (implements group) (sym seek) ∙ is_from, first),
            )

  -- one operator is the n-th
  pub makes_one : (rule : Rule) (condition : Condition) (n : ℕ) (x y : Physical)
      → Makes q rule condition group from n x → Makes q rule condition group from n y → x ≡ y
  makes_one rule condition n x y (rule_x, from_x, allowed_x) (rule_y, from_y, allowed_y) =
      made_one group x y (rule_x ∙ sym rule_y) (from_x ∙ sym from_y)
      (allowed_one condition n (index_of x) (index_of y) allowed_x allowed_y)

  pub makes_few : (rule : Rule) (condition : Condition) (n : ℕ) (to : Physical)
      → Makes q rule condition group from n to → n < most_allowed condition
  makes_few rule condition n to makes = few_allowed condition n (index_of to) makes.2

  pub makes_within : (rule : Rule) (condition : Condition) (n : ℕ) (to : Physical)
      → Makes q rule condition group from n to → n ≤ index_of to
  makes_within rule condition n to makes = allowed_within condition n (index_of to) makes.2
