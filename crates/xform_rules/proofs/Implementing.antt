-- A physical member is made by its rule of its logical expression, and by nothing else.
use Rattle.std.proofs.Common.{◌≡◌, ℕ, false, Option, arith, refl, ap, sym, subst, ◌∙◌, ◌⊎◌, inl, inr, ◌↔◌, None, Some}
use Rattle.std.proofs.lemmas.Bool.{false≢true}
use Rattle.query_core.specs.Keys.{root_of}
use Rattle.query_core.specs.Sets.{bit}
use Rattle.query_core.specs.Expressions.{access, children_by, implements, logical_fields, physical_children, origin_of}
use Rattle.query_core.specs.Expressions.{children_of, is_logical, IsChild, IsCandidate}
use Rattle.query_core.specs.declared.query.Query.{Query}
use Rattle.query_core.specs.declared.words.KeyParts.{KeyParts}
use Rattle.query_core.specs.declared.expressions.Logical.{Logical}
use Rattle.query_core.specs.declared.expressions.Physical.{Physical}
use Rattle.query_core.specs.declared.expressions.Access.{Access}
use Rattle.query_core.specs.declared.expressions.Access.TheVariants.{Direct, Index}
use Rattle.query_core.specs.declared.expressions.Children.{Children}
use Rattle.query_core.specs.declared.expressions.Operator.{Operator}
use Rattle.query_core.specs.declared.expressions.Operator.TheVariants as operators
use Rattle.query_core.specs.declared.expressions.ExprParts.{ExprParts}
use Rattle.xform_rules.specs.declared.rules.Rule.{Rule}
use Rattle.xform_rules.specs.declared.rules.Rule.TheVariants as rules
use Rattle.xform_rules.specs.declared.rules.Work.{Work}
use Rattle.xform_rules.specs.declared.rules.Work.TheVariants as works
use Rattle.xform_rules.specs.declared.rules.Exploration.TheVariants.{Expansion, Commutation, Association, Split}
use Rattle.xform_rules.specs.Forms.{IsLogical, logical_in, physical_in}
use Rattle.xform_rules.specs.ExpandNAry.{Expands}
use Rattle.xform_rules.specs.JoinCommute.{Commutes}
use Rattle.xform_rules.specs.JoinAssociate.{Associates}
use Rattle.xform_rules.specs.SplitAgg.{SplitsGrouping}
use Rattle.xform_rules.specs.Rules.{rule_number, work_of, IsOn}
use Rattle.xform_rules.specs.Results.{GivesByWork, Gives, GivesWith, HasResult}
use Rattle.xform_rules.specs.Closure.{IsMember, root_origin, child_origin, result, bound_result}
use Rattle.xform_rules.specs.Implemented.{implemented_by}
use Rattle.query_core.proofs.Implementations.{children_taken}
use Rattle.xform_rules.proofs.Operators.{logical_from, expr_one}

-- ---- what a rule gives without a bound member

-- the rule of each way has its number
expansion_number : (rule : Rule) → work_of rule ≡ works.Explores Expansion → rule_number rule ≡ 1
expansion_number rule is = grind arith

commutation_number : (rule : Rule) → work_of rule ≡ works.Explores Commutation → rule_number rule ≡ 2
commutation_number rule is = grind arith

split_number : (rule : Rule) → work_of rule ≡ works.Explores Split → rule_number rule ≡ 4
split_number rule is = grind arith

module _ (q : Query) (g : KeyParts) (from : Logical) where
  -- a logical operator comes by one of three rules
  abbrev pub Explores : Rule → Logical → Type 0
  Explores rule to =
      (IsOn q rule → IsOn q rules.ExpandNAry) × Expands q g from to
      ⊎ ((IsOn q rule → IsOn q rules.JoinCommute) × Commutes from to ⊎ (IsOn q rule → IsOn q rules.SplitAgg)
      × SplitsGrouping q from to)

  explored_by : (rule : Rule) (work : Work) (n : ℕ) (to : Logical) → work_of rule ≡ work
      → GivesByWork q rule work g from n (operators.Logical to) → Explores rule to
  explored_by rule (works.Explores Expansion) n to is (first, gives) =
      inl (subst (λ x. bit q.options.off x ≡ 0) (expansion_number rule is), gives)
  explored_by rule (works.Explores Commutation) n to is (first, gives) =
      inr (inl (subst (λ x. bit q.options.off x ≡ 0) (commutation_number rule is), gives))
  explored_by rule (works.Explores Association) n to is (first, never) = absurd never
  explored_by rule (works.Explores Split) n to is (first, gives) =
      inr (inr (subst (λ x. bit q.options.off x ≡ 0) (split_number rule is), gives))
  explored_by rule (works.Implements condition) n to is never = absurd never

  pub explored : (rule : Rule) (n : ℕ) (to : Logical) → Gives q rule g from n (operators.Logical to) → Explores rule to
  explored rule n to gives = explored_by rule (work_of rule) n to refl gives

  -- a physical one by its own rule, of its own logical operator
  implemented_of : (rule : Rule) (work : Work) (n : ℕ) (to : Physical)
      → GivesByWork q rule work g from n (operators.Physical to) → implemented_by g to ≡ (rule, from)
  implemented_of rule (works.Explores way) n to (first, never) = absurd never
  implemented_of rule (works.Implements condition) n to (is_rule, is_from, allowed) =
      ap (λ r. (r, implements g to)) is_rule ∙ ap (λ f. (rule, f)) is_from

  pub implemented : (rule : Rule) (n : ℕ) (to : Physical) → Gives q rule g from n (operators.Physical to)
      → implemented_by g to ≡ (rule, from)
  implemented rule = implemented_of rule (work_of rule)

-- a physical operator's children are some of those of its logical one
own_child : (access : Access) (children : Children) (c : KeyParts) → IsChild (children_by access children) c
    → IsChild children c
own_child Direct children c is = is
own_child (Index index) children c never = absurd never

pub implemented_child : (q : Query) (g : KeyParts) (from : Logical) (rule : Rule) (n : ℕ) (to : Physical)
    → Gives q rule g from n (operators.Physical to) → (c : KeyParts) → IsChild (physical_children to) c
    → IsChild (logical_fields from).children c
implemented_child q g from rule n to gives c is =
    subst (λ (x : Rule × Logical). IsChild (logical_fields x.1).children c) (implemented q g from rule n to gives)
    (own_child (access to) (logical_fields (implements g to)).children c
    (subst (λ (x : Children). IsChild x c) (children_taken g to) is))

-- what a rule gives that isn't logical stands on groups on which the expression stands
given_children : (q : Query) (rule : Rule) (group : KeyParts) (bound : Option ExprParts) (n : ℕ) (o to : Operator)
    → IsLogical (GivesWith q rule group bound n to) o → is_logical to ≡ false → (c : KeyParts)
    → IsChild (children_of to) c → IsChild (children_of o) c
given_children q rule group None n (operators.Logical from) (operators.Physical to) gives other c is =
    implemented_child q group from rule n to gives c is
given_children q rule group (Some bound) n (operators.Logical from) (operators.Physical to) gives other c is =
    absurd gives.2
given_children q rule group bound n (operators.Logical from) (operators.Logical to) gives other c is =
    absurd (false≢true (sym other))
given_children q rule group bound n (operators.Physical o) to never other c is = absurd never

pub result_children : (q : Query) (rule : Rule) (e : ExprParts) (bound : Option ExprParts) (n : ℕ) (x : ExprParts)
    → HasResult q rule e bound n x → is_logical x.operator ≡ false → (c : KeyParts)
    → IsChild (children_of x.operator) c → IsChild (children_of e.operator) c
result_children q rule e bound n x has =
    given_children q rule e.group bound n e.operator x.operator has.gives

-- the logical expression is one that the group can hold
pub logical_candidate : (q : Query) (g : KeyParts) (to : Physical) → IsCandidate q (physical_in g to)
    → IsCandidate q (logical_in g (implemented_by g to).1)
logical_candidate q g to candidate = record { known = candidate.known; shape = candidate.shape.0 }

-- ---- physical members

-- the logical expression is a member, and the rule gives the other
abbrev pub IsImplemented : Query → Rule → ExprParts → ExprParts → Type 0
IsImplemented q rule from e = IsMember q from × ((n : ℕ) × HasResult q rule from None n e)

module _ (q : Query) (candidates : (e : ExprParts) → IsMember q e → IsCandidate q e) (g : KeyParts) (to : Physical)
  where
    abbrev Made : Rule × Logical → Type 0
    Made p = IsImplemented q p.0 (logical_in g p.1) (physical_in g to)

    -- an origin isn't one
    not_origin : (h : KeyParts) → (origin_of q h).operator ≡ operators.Physical to → ⊥
    not_origin h is = false≢true (sym (ap is_logical is))

    -- a result is made by its rule of its logical operator
    made_of : (e : ExprParts) → IsMember q e → e.group ≡ g → e.operator ≡ operators.Physical to
        → Made (implemented_by g to)
    made_of e root_origin own is = absurd (not_origin (root_of q) is)
    made_of e (child_origin before h member child) own is = absurd (not_origin h is)
    made_of e (result before other rule n member has) own is =
        let (from, is_from, gives) = logical_from (GivesWith q rule before.group None n e.operator) before.operator
        has.gives in
        let group : before.group ≡ g = sym has.group ∙ own in
        let made : implemented_by before.group to ≡ (rule, from) =
        implemented q before.group from rule n to (subst (Gives q rule before.group from n) is gives) in
        let is_before : before ≡ logical_in g from = expr_one before (logical_in g from) group is_from in
        subst Made (sym (subst (λ x. implemented_by x to ≡ (rule, from)) group made)) (
          subst (IsMember q) is_before member,
          (
            n,
            subst (λ x. HasResult q rule x None n (physical_in g to)) is_before
                (subst (HasResult q rule before None n) (expr_one e (physical_in g to) own is) has),
          ),
        )
    made_of e (bound_result before bound other rule n member bound_member has) own is =
        let (from, is_from, (associate, first, gives)) =
        logical_from (GivesWith q rule before.group (Some bound) n e.operator) before.operator has.gives in
        let (o, is_o, associates) = logical_from (Associates q from bound) e.operator gives in
        absurd (false≢true (ap is_logical (sym is ∙ is_o)))

    -- so it is a member exactly where its logical expression is one and the rule gives it
    pub implemented_member : Made (implemented_by g to) ↔ IsMember q (physical_in g to)
    implemented_member = (
      λ (member, (n, has)). result (logical_in g (implemented_by g to).1) (physical_in g to) (implemented_by g to).0 n
          member has,
      λ member. made_of (physical_in g to) member refl refl,
    )
