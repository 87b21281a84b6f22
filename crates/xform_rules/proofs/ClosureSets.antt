-- The closure's joins are those that it holds of sets of tables: what each member says of sets, by the rules that give
-- it.
use Rattle.std.proofs.Common.{◌≡◌, ℕ, ◌-◌, ◌^◌, refl, ap, sym, subst, ◌∙◌, inl, inr, Option, None, Some, IsTrue}
use Rattle.std.specs.Prelude.{bit_or, is_none}
use Rattle.std.specs.Option.{option_map_or}
use Rattle.std.proofs.lemmas.Bool.{cond_both, false≢true}
use Rattle.query_core.specs.Keys.{IsGroup, group_of_table, top_of, tables_of, input_of, root_of}
use Rattle.query_core.specs.Expressions.{IsChild, children_of, HasLogical, HasShape, IsJoin, IsCandidate}
use Rattle.query_core.specs.Expressions.{origin_operator}
use Rattle.query_core.specs.declared.query.Query.{Query}
use Rattle.query_core.specs.declared.words.KeyParts.{KeyParts}
use Rattle.query_core.specs.declared.words.KeyParts.TheVariants as groups
use Rattle.query_core.specs.declared.expressions.Operator.{Operator}
use Rattle.query_core.specs.declared.expressions.Operator.TheVariants as operators
use Rattle.query_core.specs.declared.expressions.Logical.{Logical}
use Rattle.query_core.specs.declared.expressions.Logical.TheVariants as logical
use Rattle.query_core.specs.declared.expressions.Physical.{Physical}
use Rattle.query_core.specs.declared.expressions.ExprParts.{ExprParts}
use Rattle.query_core.proofs.Splitting.{tables_top}
use Rattle.xform_rules.specs.declared.rules.Rule.{Rule}
use Rattle.xform_rules.specs.declared.rules.Rule.TheVariants as rules
use Rattle.xform_rules.specs.Rules.{IsOn}
use Rattle.xform_rules.specs.Forms.{IsLogical}
use Rattle.xform_rules.specs.ExpandNAry.{Expands}
use Rattle.xform_rules.specs.JoinCommute.{Commutes}
use Rattle.xform_rules.specs.JoinAssociate.{Associates}
use Rattle.xform_rules.specs.SplitAgg.{SplitsGrouping}
use Rattle.xform_rules.specs.Results.{Gives, GivesWith}
use Rattle.xform_rules.specs.Closure.{IsMember, root_origin, child_origin, result, bound_result}
use Rattle.xform_rules.specs.Held.{group, sides, all_of, IsHeld, all, left, right, expanded, turned, moved}
use Rattle.xform_rules.proofs.Operators.{logical_from}
use Rattle.xform_rules.proofs.Implementing.{explored, implemented_child}

-- the group of several tables is a join group
pub one_or_join : (q : Query) (set : ℕ) (o : Option ℕ) → IsTrue (is_none o)
    → option_map_or (group_of_table q) o (groups.Join set) ≡ groups.Join set
one_or_join q set None none = refl
one_or_join q set (Some t) none = absurd (false≢true none)

-- a set whose group is a join group is that group's set
pub set_of_top : (q : Query) (a set : ℕ) → top_of q a ≡ groups.Join set → a ≡ set
set_of_top q a set same = sym (tables_top q a) ∙ ap tables_of same

-- what the operator of a member in a group says of the sets that the group and its children join
pub record SaysHeld (q : Query) (g : KeyParts) (o : Operator) : Type 0 where
  pub own : (set : ℕ) → g ≡ groups.Join set → IsHeld q (group set)
  pub both : (set : ℕ) (l r : KeyParts) → g ≡ groups.Join set → o ≡ operators.Logical (logical.Join l r)
      → IsHeld q (sides set (tables_of l) (tables_of r))
  pub child : (c : KeyParts) (set : ℕ) → IsChild (children_of o) c → c ≡ groups.Join set → IsHeld q (group set)

module _ (q : Query) where
  -- the group of all rows joins all tables
  input_held : (c : KeyParts) (set : ℕ) → c ≡ input_of q → c ≡ groups.Join set → IsHeld q (group set)
  input_held c set is same = subst (λ x. IsHeld q (group x)) (set_of_top q (all_of q) set (sym is ∙ same)) all

  -- an origin of a group that is held
  origin_says : (g : KeyParts) → ((set : ℕ) → g ≡ groups.Join set → IsHeld q (group set))
      → SaysHeld q g (operators.Logical (origin_operator q g))
  origin_says (groups.Get t) held = record {
    own = held;
    both = λ set l r own two. let never : operators.Logical logical.Get ≡ operators.Logical (logical.Join l r) = two in
        cc;
    child = λ c set never same. absurd never;
  }
  origin_says (groups.Filter t) held = record {
    own = held;
    both = λ set l r own two. let never : operators.Logical (logical.Select (groups.Get t)) ≡ operators.Logical
        (logical.Join l r) = two in cc;
    child = λ c set is same. let never : groups.Get t ≡ groups.Join set = sym is ∙ same in cc;
  }
  origin_says (groups.Join s) held = record {
    own = held;
    both = λ set l r own two. let never : operators.Logical logical.NJoin ≡ operators.Logical (logical.Join l r) =
        two in cc;
    child = λ c set never same. absurd never;
  }
  origin_says groups.Partial held = record {
    own = held;
    both = λ set l r own two. let never : operators.Logical (logical.Partial (input_of q)) ≡ operators.Logical
        (logical.Join l r) = two in cc;
    child = λ c set is same. input_held c set is same;
  }
  origin_says groups.Agg held = record {
    own = held;
    both = λ set l r own two. let never : operators.Logical (logical.Agg (input_of q)) ≡ operators.Logical
        (logical.Join l r) = two in cc;
    child = λ c set is same. input_held c set is same;
  }

  module _ (g : KeyParts) (from : Logical) (known : IsGroup q g) (shape : HasLogical q g from)
      (says : SaysHeld q g (operators.Logical from)) where
    -- a physical operator over its children
    implemented_says : (rule : Rule) (n : ℕ) (to : Physical) → Gives q rule g from n (operators.Physical to)
        → SaysHeld q g (operators.Physical to)
    implemented_says rule n to gives = record {
      own = says.own;
      both = λ set l r own two. let never : operators.Physical to ≡ operators.Logical (logical.Join l r) = two in cc;
      child = λ c set is same. says.child c set (implemented_child q g from rule n to gives c is) same;
    }

    split : (to : Logical) → SplitsGrouping q from to → SaysHeld q g (operators.Logical to)
    split to (is, made) = subst (λ x. SaysHeld q g (operators.Logical x)) (sym made) (record {
      own = says.own;
      both = λ set l r own two. let never : operators.Logical (logical.Agg groups.Partial) ≡ operators.Logical
          (logical.Join l r) = two in cc;
      child = λ c set is same. let never : groups.Partial ≡ groups.Join set = sym is ∙ same in cc;
    })

    -- a join of two sides that are held
    joined : (set : ℕ) (l r : KeyParts) → g ≡ groups.Join set → IsHeld q (sides set (tables_of l) (tables_of r))
        → (to : Logical)
        → to ≡ logical.Join l r → SaysHeld q g (operators.Logical to)
    joined set l r own held to made = subst (λ x. SaysHeld q g (operators.Logical x)) (sym made) (record {
      own = says.own;
      both = λ s x y is two.
          let both : operators.Logical (logical.Join l r) ≡ operators.Logical (logical.Join x y) = two in
          let same_set : groups.Join set ≡ groups.Join s = sym own ∙ is in
          let same_left : l ≡ x = cc in
          let same_right : r ≡ y = cc in
          subst (λ z. IsHeld q (sides z (tables_of x) (tables_of y))) (ap tables_of same_set)
          (subst (λ z. IsHeld q (sides set (tables_of x) (tables_of z))) same_right
          (subst (λ z. IsHeld q (sides set (tables_of z) (tables_of r))) same_left held));
      child = λ c s is same. elim is [
        | inl is_left ↦ subst (λ z. IsHeld q (group z)) (ap tables_of (sym is_left ∙ same))
            (left set (tables_of l) (tables_of r) held)
        | inr is_right ↦ subst (λ z. IsHeld q (group z)) (ap tables_of (sym is_right ∙ same))
            (right set (tables_of l) (tables_of r) held)
      ];
    })

    -- a join stands in the group of a set
    join_group : (l r : KeyParts) → from ≡ logical.Join l r → (set : ℕ) × (g ≡ groups.Join set)
    join_group l r is = let joins : IsJoin q g l r = subst (HasLogical q g) is shape in (joins.0, joins.3)

    expands : (to : Logical) → IsOn q rules.ExpandNAry → Expands q g from to → SaysHeld q g (operators.Logical to)
    expands to on (set, t, (own, is), last, made) =
        let several : IsGroup q (groups.Join set) = subst (IsGroup q) own known in
        let held : IsHeld q (sides set (set - 2 ^ t) (2 ^ t)) = expanded set t (says.own set own) several.1 last in
        joined set (top_of q (set - 2 ^ t)) (top_of q (2 ^ t)) own
        (subst (λ x. IsHeld q (sides set x (tables_of (top_of q (2 ^ t))))) (sym (tables_top q (set - 2 ^ t)))
        (subst (λ x. IsHeld q (sides set (set - 2 ^ t) x)) (sym (tables_top q (2 ^ t))) held))
        to made

    commutes : (to : Logical) → IsOn q rules.JoinCommute → Commutes from to → SaysHeld q g (operators.Logical to)
    commutes to on (l, r, is, made) =
        let (set, own) = join_group l r is in
        joined set r l own (turned set (tables_of l) (tables_of r) on (says.both set l r own (ap operators.Logical is)))
        to made

    associates : (bound : ExprParts) (to : Logical) → IsOn q rules.JoinAssociate → SaysHeld q bound.group bound.operator
        → Associates q from bound to
        → SaysHeld q g (operators.Logical to)
    associates bound to on bound_says (inner, r, a, b, is, joins, linked, made) =
        let (set, own) = join_group (groups.Join inner) r is in
        let outer : IsHeld q (sides set inner (tables_of r)) =
        says.both set (groups.Join inner) r own (ap operators.Logical is) in
        let within : IsHeld q (sides inner (tables_of a) (tables_of b)) =
        bound_says.both inner a b (ap (λ (x : ExprParts). x.group) joins) (ap (λ (x : ExprParts). x.operator) joins) in
        let union = bit_or (tables_of b) (tables_of r) in
        joined set a (top_of q union) own
        (subst (λ x. IsHeld q (sides set (tables_of a) x)) (sym (tables_top q union))
        (moved set inner (tables_of a) (tables_of b) (tables_of r) on outer within linked))
        to made

    -- a result of a rule
    gives_says : (rule : Rule) (n : ℕ) (to : Operator) → IsOn q rule → Gives q rule g from n to → SaysHeld q g to
    gives_says rule n (operators.Physical to) on gives = implemented_says rule n to gives
    gives_says rule n (operators.Logical to) on gives = elim (explored q g from rule n to gives) [
      | inl (is_on, this) ↦ expands to (is_on on) this
      | inr (inl (is_on, this)) ↦ commutes to (is_on on) this
      | inr (inr (is_on, this)) ↦ split to this
    ]

    -- with a bound member
    bound_says : (bound : ExprParts) (to : Operator) → IsOn q rules.JoinAssociate
        → SaysHeld q bound.group bound.operator → IsLogical (Associates q from bound) to
        → SaysHeld q g to
    bound_says bound (operators.Logical to) on says_bound gives = associates bound to on says_bound gives
    bound_says bound (operators.Physical to) on says_bound never = absurd never

  -- each member of the closure, of which all are candidates, says of sets what is held
  pub member_says : ((e : ExprParts) → IsMember q e → IsCandidate q e) → (e : ExprParts) → IsMember q e
      → SaysHeld q e.group e.operator
  member_says candidates e root_origin = origin_says (root_of q) (λ set.
      cond_both q.grouped groups.Agg (input_of q) (λ g. g ≡ groups.Join set → IsHeld q (group set))
      (λ yes same. let never : groups.Agg ≡ groups.Join set = same in cc)
      (λ no same. input_held (input_of q) set refl same))
  member_says candidates e (child_origin before g member child) =
      origin_says g (λ set same. (member_says candidates before member).child g set child same)
  member_says candidates e (result before other rule n member has) =
      let (from, is_from, gives) = logical_from (GivesWith q rule before.group None n e.operator) before.operator
      has.gives in
      let candidate = candidates before member in
      subst (λ x. SaysHeld q x e.operator) (sym has.group)
      (gives_says before.group from candidate.known (subst (HasShape q before.group) is_from candidate.shape)
      (subst (SaysHeld q before.group) is_from (member_says candidates before member)) rule n e.operator has.on gives)
  member_says candidates e (bound_result before bound other rule n member bound_member has) =
      let (from, is_from, (associate, first, gives)) =
      logical_from (GivesWith q rule before.group (Some bound) n e.operator) before.operator has.gives in
      let candidate = candidates before member in
      subst (λ x. SaysHeld q x e.operator) (sym has.group)
      (bound_says before.group from candidate.known (subst (HasShape q before.group) is_from candidate.shape)
      (subst (SaysHeld q before.group) is_from (member_says candidates before member)) bound e.operator
      (subst (IsOn q) associate has.on)
      (member_says candidates bound bound_member) gives)
