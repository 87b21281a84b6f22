-- What is known of all results.
use Rattle.std.proofs.Common.{◌≡◌, ℕ, false, Option, None, Some, IsTrue, refl, sym, ap, subst, ◌∙◌}
use Rattle.std.specs.Prelude.{is_some}
use Rattle.query_core.specs.Expressions.{is_logical}
use Rattle.query_core.specs.declared.query.Query.{Query}
use Rattle.query_core.specs.declared.words.KeyParts.{KeyParts}
use Rattle.query_core.specs.declared.expressions.Logical.{Logical}
use Rattle.query_core.specs.declared.expressions.Logical.TheVariants as logical
use Rattle.query_core.specs.declared.expressions.Operator.{Operator}
use Rattle.query_core.specs.declared.expressions.Operator.TheVariants as operators
use Rattle.query_core.specs.declared.expressions.ExprParts.{ExprParts}
use Rattle.xform_rules.specs.declared.rules.Rule.{Rule}
use Rattle.xform_rules.specs.declared.rules.Work.{Work}
use Rattle.xform_rules.specs.declared.rules.Work.TheVariants.{Explores, Implements}
use Rattle.xform_rules.specs.declared.rules.Exploration.{Exploration}
use Rattle.xform_rules.specs.declared.rules.Exploration.TheVariants.{Expansion, Commutation, Association, Split}
use Rattle.xform_rules.specs.Rules.{work_of, explores, is_exploring, binds, is_binding, binds_member}
use Rattle.xform_rules.specs.Forms.{IsLeftSide}
use Rattle.xform_rules.specs.JoinAssociate.{Associates}
use Rattle.xform_rules.specs.Implemented.{Makes}
use Rattle.xform_rules.specs.Results.{IsExplored, IsForWork, IsFor, Applies, Says, GivesByWork, Gives, GivesWith}
use Rattle.xform_rules.specs.Results.{HasResult}
use Rattle.xform_rules.proofs.Operators.{logical_from, physical_from, logical_as, logical_kind, physical_kind}

module _ (q : Query) (group : KeyParts) (from : Logical) where
  -- an operator of which a rule says another is one that it is for
  said_meets : (way : Exploration) (to : Logical) → Says q way group from to → IsExplored q way group from
  said_meets Expansion to (set, table, joins, last, made) = (set, joins)
  said_meets Commutation to (left, right, is, made) = (left, right, is)
  said_meets Association to never = absurd never
  said_meets Split to (is, made) = is

  -- and so is one with any result of the rule
  work_meets : (rule : Rule) (work : Work) (n : ℕ) (to : Operator) → GivesByWork q rule work group from n to
      → IsForWork q rule work group from
  work_meets rule (Explores way) n to (first, gives) =
      let (o, is_o, says) = logical_from (Says q way group from) to gives in
      said_meets way o says
  work_meets rule (Implements condition) n to gives =
      let (o, is_o, makes) = physical_from (Makes q rule condition group from n) to gives in
      (n, o, makes)

  gives_meets : (rule : Rule) (n : ℕ) (to : Operator) → Gives q rule group from n to → IsFor q rule group from
  gives_meets rule = work_meets rule (work_of rule)

  with_meets : (rule : Rule) (bound : Option ExprParts) (n : ℕ) (to : Operator) → GivesWith q rule group bound n to from
      → IsFor q rule group from
  with_meets rule None n to gives = gives_meets rule n to gives
  with_meets rule (Some bound) n to (is_rule, first, gives) =
      let (o, is_o, (set, right, a, b, is, joins, linked, made)) = logical_from (Associates q from bound) to gives in
      subst (λ r. IsFor q r group from) (sym is_rule) (set, right, is)

  -- rules that explore give logical operators, and the others physical ones
  work_kind : (rule : Rule) (work : Work) (n : ℕ) (to : Operator) → GivesByWork q rule work group from n to
      → is_logical to ≡ is_exploring work
  work_kind rule (Explores way) n to (first, gives) = logical_kind (Says q way group from) to gives
  work_kind rule (Implements condition) n to gives = physical_kind (Makes q rule condition group from n) to gives

  gives_kind : (rule : Rule) (n : ℕ) (to : Operator) → Gives q rule group from n to → is_logical to ≡ explores rule
  gives_kind rule = work_kind rule (work_of rule)

  with_kind : (rule : Rule) (bound : Option ExprParts) (n : ℕ) (to : Operator) → GivesWith q rule group bound n to from
      → is_logical to ≡ explores rule
  with_kind rule None n to gives = gives_kind rule n to gives
  with_kind rule (Some bound) n to (is_rule, first, gives) = logical_kind (Associates q from bound) to gives
      ∙ sym (ap explores is_rule)

  -- a member is bound exactly by a rule that binds one
  said_unbound : (way : Exploration) (to : Logical) → Says q way group from to → false ≡ binds_member way
  said_unbound Expansion to says = refl
  said_unbound Commutation to says = refl
  said_unbound Association to never = absurd never
  said_unbound Split to says = refl

  work_unbound : (rule : Rule) (work : Work) (n : ℕ) (to : Operator) → GivesByWork q rule work group from n to
      → false ≡ is_binding work
  work_unbound rule (Explores way) n to (first, gives) =
      let (o, is_o, says) = logical_from (Says q way group from) to gives in
      said_unbound way o says
  work_unbound rule (Implements condition) n to gives = refl

  gives_unbound : (rule : Rule) (n : ℕ) (to : Operator) → Gives q rule group from n to → false ≡ binds rule
  gives_unbound rule = work_unbound rule (work_of rule)

  with_binds : (rule : Rule) (bound : Option ExprParts) (n : ℕ) (to : Operator) → GivesWith q rule group bound n to from
      → is_some bound ≡ binds rule
  with_binds rule None n to gives = gives_unbound rule n to gives
  with_binds rule (Some bound) n to (is_rule, first, gives) = sym (ap binds is_rule)

module _ (q : Query) (rule : Rule) (e : ExprParts) (bound : Option ExprParts) (n : ℕ) (x : ExprParts)
    (has : HasResult q rule e bound n x) where
  -- the logical operator, and what it gives
  given : (from : Logical) × (e.operator ≡ operators.Logical from) × GivesWith q rule e.group bound n x.operator from
  given = logical_from (GivesWith q rule e.group bound n x.operator) e.operator has.gives

  pub result_applies : Applies q rule e
  result_applies = record {
    on = has.on;
    is_for = logical_as (GivesWith q rule e.group bound n x.operator) (IsFor q rule e.group)
        (λ from gives. with_meets q e.group from rule bound n x.operator gives) e.operator has.gives;
  }

  pub result_logical : IsTrue (is_logical e.operator)
  result_logical = logical_kind (GivesWith q rule e.group bound n x.operator) e.operator has.gives

  pub result_kind : is_logical x.operator ≡ explores rule
  result_kind = let (from, is_from, gives) = given in with_kind q e.group from rule bound n x.operator gives

  pub result_binds : is_some bound ≡ binds rule
  result_binds = let (from, is_from, gives) = given in with_binds q e.group from rule bound n x.operator gives

module _ (q : Query) (rule : Rule) (e bound : ExprParts) (n : ℕ) (x : ExprParts)
    (has : HasResult q rule e (Some bound) n x) where
  -- the bound member is of the left child's group
  pub bound_left : IsLeftSide e bound.group
  bound_left =
      let (from, is_from, (is_rule, first, gives)) = given q rule e (Some bound) n x has in
      let (o, is_o, (set, right, a, b, is, joins, linked, made)) =
      logical_from (Associates q from bound) x.operator gives in (
        right,
        is_from ∙ ap operators.Logical is
            ∙ ap (λ (m : ExprParts). operators.Logical (logical.Join m.group right)) (sym joins),
      )

  -- and it is logical
  pub bound_logical : IsTrue (is_logical bound.operator)
  bound_logical =
      let (from, is_from, (is_rule, first, gives)) = given q rule e (Some bound) n x has in
      let (o, is_o, (set, right, a, b, is, joins, linked, made)) =
      logical_from (Associates q from bound) x.operator gives in
      ap (λ (m : ExprParts). is_logical m.operator) joins
