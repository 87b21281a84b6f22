-- A rule has one result of a number, and few.
use Rattle.std.proofs.Common.{◌≡◌, ℕ, ◌-◌, ◌^◌, ◌<◌, ap, sym, subst, ◌∙◌, arith, Option, None, Some}
use Rattle.std.specs.Prelude.{bit_or}
use Rattle.query_core.specs.Keys.{top_of, tables_of}
use Rattle.query_core.specs.declared.query.Query.{Query}
use Rattle.query_core.specs.declared.words.KeyParts.{KeyParts}
use Rattle.query_core.specs.declared.words.KeyParts.TheVariants as groups
use Rattle.query_core.specs.declared.expressions.Logical.{Logical}
use Rattle.query_core.specs.declared.expressions.Logical.TheVariants as logical
use Rattle.query_core.specs.declared.expressions.Operator.{Operator}
use Rattle.query_core.specs.declared.expressions.Operator.TheVariants as operators
use Rattle.query_core.specs.declared.expressions.ExprParts.{ExprParts}
use Rattle.xform_rules.specs.declared.rules.Rule.{Rule}
use Rattle.xform_rules.specs.declared.rules.Work.{Work}
use Rattle.xform_rules.specs.declared.rules.Work.TheVariants.{Explores, Implements}
use Rattle.xform_rules.specs.declared.rules.Exploration.{Exploration}
use Rattle.xform_rules.specs.declared.rules.Exploration.TheVariants.{Expansion, Commutation, Association, Split}
use Rattle.xform_rules.specs.Rules.{work_of, rule_limit, most_results}
use Rattle.xform_rules.specs.Forms.{IsLogical}
use Rattle.xform_rules.specs.ExpandNAry.{IsLastCut, Expands}
use Rattle.xform_rules.specs.JoinCommute.{Commutes}
use Rattle.xform_rules.specs.JoinAssociate.{Associates}
use Rattle.xform_rules.specs.SplitAgg.{SplitsGrouping}
use Rattle.xform_rules.specs.Implemented.{Makes}
use Rattle.xform_rules.specs.Results.{Says, GivesByWork, Gives, GivesWith, HasResult}
use Rattle.xform_rules.proofs.Operators.{logical_one, physical_one, physical_from, expr_one}
use Rattle.xform_rules.proofs.Making.{makes_one, makes_few}

module _ (q : Query) (group : KeyParts) (from : Logical) where
  expanded_one : (x y : Logical) → Expands q group from x → Expands q group from y → x ≡ y
  expanded_one x y (s, t, (is_group, is), last, made) (u, v, (is_group_other, is_other), last_other, made_other) =
      let same_group : groups.Join s ≡ groups.Join u = sym is_group ∙ is_group_other in
      let same_set : s ≡ u = cc in
      let last_same : IsLastCut q s v = subst (λ set. IsLastCut q set v) (sym same_set) last_other in
      let same : t ≡ v = omega (arith, last.greatest v last_same.cut, last_same.greatest t last.cut) in
      made ∙ ap (λ set. logical.Join (top_of q (set - 2 ^ t)) (top_of q (2 ^ t))) same_set
      ∙ ap (λ k. logical.Join (top_of q (u - 2 ^ k)) (top_of q (2 ^ k))) same ∙ sym made_other

  commuted_one : (x y : Logical) → Commutes from x → Commutes from y → x ≡ y
  commuted_one x y (a, b, is, made) (c, d, is_other, made_other) = cc

  split_one : (x y : Logical) → SplitsGrouping q from x → SplitsGrouping q from y → x ≡ y
  split_one x y (is, made) (is_other, made_other) = made ∙ sym made_other

  associated_one : (bound : ExprParts) (x y : Logical) → Associates q from bound x → Associates q from bound y → x ≡ y
  associated_one bound x y (s, r, a, b, is, joins, linked, made)
      (t, u, c, d, is_other, joins_other, linked_other, made_other) =
      let same : operators.Logical (logical.Join a b) ≡ operators.Logical (logical.Join c d) =
      ap (λ (m : ExprParts). m.operator) (sym joins ∙ joins_other) in
      let same_a : a ≡ c = cc in
      let same_b : b ≡ d = cc in
      let same_right : r ≡ u = cc in
      made ∙ ap (λ g. logical.Join g (top_of q (bit_or (tables_of b) (tables_of r)))) same_a
      ∙ ap (λ g. logical.Join c (top_of q (bit_or (tables_of g) (tables_of r)))) same_b
      ∙ ap (λ g. logical.Join c (top_of q (bit_or (tables_of d) (tables_of g)))) same_right ∙ sym made_other

  said_one : (way : Exploration) (x y : Logical) → Says q way group from x → Says q way group from y → x ≡ y
  said_one Expansion x y this other = expanded_one x y this other
  said_one Commutation x y this other = commuted_one x y this other
  said_one Association x y this other = absurd this
  said_one Split x y this other = split_one x y this other

  work_one : (rule : Rule) (work : Work) (n : ℕ) (x y : Operator) → GivesByWork q rule work group from n x
      → GivesByWork q rule work group from n y → x ≡ y
  work_one rule (Explores way) n x y this other = logical_one (Says q way group from) (said_one way) x y this.1 other.1
  work_one rule (Implements condition) n x y this other =
      physical_one (Makes q rule condition group from n) (makes_one q group from rule condition n) x y this other

  gives_one : (rule : Rule) (n : ℕ) (x y : Operator) → Gives q rule group from n x → Gives q rule group from n y → x ≡ y
  gives_one rule = work_one rule (work_of rule)

  -- also with a bound member
  with_one : (rule : Rule) (bound : Option ExprParts) (n : ℕ) (x y : Operator) → GivesWith q rule group bound n x from
      → GivesWith q rule group bound n y from → x ≡ y
  with_one rule None n x y this other = gives_one rule n x y this other
  with_one rule (Some bound) n x y this other =
      logical_one (Associates q from bound) (associated_one bound) x y this.2 other.2

-- one operator is given
given_one : (q : Query) (rule : Rule) (group : KeyParts) (bound : Option ExprParts) (n : ℕ) (o x y : Operator)
    → IsLogical (GivesWith q rule group bound n x) o
    → IsLogical (GivesWith q rule group bound n y) o → x ≡ y
given_one q rule group bound n (operators.Logical from) x y this other =
    with_one q group from rule bound n x y this other
given_one q rule group bound n (operators.Physical from) x y this other = absurd this

-- so one result has the number
pub result_one : (q : Query) (rule : Rule) (e : ExprParts) (bound : Option ExprParts) (n : ℕ) (x y : ExprParts)
    → HasResult q rule e bound n x → HasResult q rule e bound n y → x ≡ y
result_one q rule e bound n x y this other =
    expr_one x y (this.group ∙ sym other.group)
    (given_one q rule e.group bound n e.operator x.operator y.operator this.gives other.gives)

-- a rule has no more results than its limit
few_by_work : (q : Query) (rule : Rule) (work : Work) (group : KeyParts) (from : Logical) (n : ℕ) (to : Operator)
    → GivesByWork q rule work group from n to → n < most_results work
few_by_work q rule (Explores way) group from n to gives = omega (arith, gives.0)
few_by_work q rule (Implements condition) group from n to gives =
    let (o, is_o, makes) = physical_from (Makes q rule condition group from n) to gives in
    makes_few q group from rule condition n o makes

few_gives : (q : Query) (rule : Rule) (group : KeyParts) (from : Logical) (n : ℕ) (to : Operator)
    → Gives q rule group from n to → n < rule_limit rule
few_gives q rule = few_by_work q rule (work_of rule)

few_given : (q : Query) (rule : Rule) (group : KeyParts) (bound : Option ExprParts) (n : ℕ) (o to : Operator)
    → IsLogical (GivesWith q rule group bound n to) o
    → n < rule_limit rule
few_given q rule group None n (operators.Logical from) to gives = few_gives q rule group from n to gives
few_given q rule group (Some bound) n (operators.Logical from) to gives =
    subst (λ r. n < rule_limit r) (sym gives.0) (omega (arith, gives.1))
few_given q rule group bound n (operators.Physical from) to never = absurd never

pub few_results : (q : Query) (rule : Rule) (e : ExprParts) (bound : Option ExprParts) (n : ℕ) (x : ExprParts)
    → HasResult q rule e bound n x → n < rule_limit rule
few_results q rule e bound n x has = few_given q rule e.group bound n e.operator x.operator has.gives
