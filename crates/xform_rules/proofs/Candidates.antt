-- The results of a rule at a candidate are candidates.
use Rattle.std.proofs.Common.{◌≡◌, ℕ, ◌-◌, ◌^◌, refl, ap, sym, subst, ◌∙◌, inr, Option, None, Some}
use Rattle.std.specs.Prelude.{bit_or, IfSome}
use Rattle.query_core.specs.Sets.{Has}
use Rattle.query_core.specs.Connected.{IsConnected, AreLinked}
use Rattle.query_core.specs.Keys.{IsGroup, top_of, tables_of}
use Rattle.query_core.specs.Expressions.{HasLogical, HasPhysical, HasShape, FallsInto, IsCandidate}
use Rattle.query_core.specs.declared.query.Query.{Query}
use Rattle.query_core.specs.declared.words.KeyParts.{KeyParts}
use Rattle.query_core.specs.declared.words.KeyParts.TheVariants as groups
use Rattle.query_core.specs.declared.expressions.Logical.{Logical}
use Rattle.query_core.specs.declared.expressions.Physical.{Physical}
use Rattle.query_core.specs.declared.expressions.Operator.{Operator}
use Rattle.query_core.specs.declared.expressions.Operator.TheVariants as operators
use Rattle.query_core.specs.declared.expressions.ExprParts.{ExprParts}
use Rattle.xform_rules.specs.declared.rules.Rule.{Rule}
use Rattle.xform_rules.specs.declared.rules.Work.{Work}
use Rattle.xform_rules.specs.declared.rules.Work.TheVariants.{Explores, Implements}
use Rattle.xform_rules.specs.declared.rules.Exploration.{Exploration}
use Rattle.xform_rules.specs.declared.rules.Exploration.TheVariants.{Expansion, Commutation, Association, Split}
use Rattle.xform_rules.specs.Forms.{IsLogical, IsPhysical}
use Rattle.xform_rules.specs.ExpandNAry.{Expands}
use Rattle.xform_rules.specs.JoinCommute.{Commutes}
use Rattle.xform_rules.specs.JoinAssociate.{JoinsIn, Associates}
use Rattle.xform_rules.specs.SplitAgg.{SplitsGrouping}
use Rattle.xform_rules.specs.Implemented.{Makes}
use Rattle.xform_rules.specs.Rules.{work_of}
use Rattle.xform_rules.specs.Results.{Says, Gives, GivesByWork, GivesWith, HasResult}
use Rattle.xform_rules.proofs.Making.{makes_held}

-- how the two sides of joins go into one another
pub record AreSides : Type 0 where
  pub turned : (q : Query) (set a b : ℕ) → FallsInto q set a b → FallsInto q set b a
  pub outer : (q : Query) (set left a b c : ℕ) → FallsInto q set left c → FallsInto q left a b → AreLinked q.links b c
      → FallsInto q set a (bit_or b c)
  pub cut : (q : Query) (set t : ℕ) → IsGroup q (groups.Join set) → Has set t → IsConnected q.links (set - 2 ^ t)
      → FallsInto q set (set - 2 ^ t) (2 ^ t)
  pub tables : (q : Query) (set : ℕ) → tables_of (top_of q set) ≡ set

-- the set of one join group is that of another that is the same
set_same : (s t : ℕ) → groups.Join s ≡ groups.Join t → s ≡ t
set_same s t same = cc

-- a set whose group is a join group is the set of that group
joined_set : AreSides → (q : Query) (set a : ℕ) → groups.Join set ≡ top_of q a → a ≡ set
joined_set sides q set a same = sym (ap tables_of same ∙ sides.tables q a)

-- the sets that a bound member of a join group joins
bound_sets : (q : Query) (set : ℕ) (bound : ExprParts) (left right : KeyParts) → IsCandidate q bound
    → JoinsIn bound set left right
    → (a b : ℕ) × FallsInto q set a b × (left ≡ top_of q a) × (right ≡ top_of q b)
bound_sets q set bound left right candidate joins =
    let (inner, a, b, group, falls, is_left, is_right) = (subst (IsCandidate q) joins candidate).shape in
    (a, b, subst (λ x. FallsInto q x a b) (sym (set_same set inner group)) falls, is_left, is_right)

module _ (sides : AreSides) (q : Query) (group : KeyParts) (known : IsGroup q group) (from : Logical)
    (shape : HasLogical q group from) where
  expanded : (to : Logical) → Expands q group from to → HasLogical q group to
  expanded to (set, table, (is_group, is), last, made) =
      let joined : IsGroup q (groups.Join set) = subst (IsGroup q) is_group known in
      subst (HasLogical q group) (sym made) (
        set,
        set - 2 ^ table,
        2 ^ table,
        is_group,
        sides.cut q set table joined last.cut.0 last.cut.1,
        refl,
        refl,
      )

  commuted : (to : Logical) → Commutes from to → HasLogical q group to
  commuted to (left, right, is, made) =
      let (set, a, b, is_group, falls, is_left, is_right) = subst (HasLogical q group) is shape in
      subst (HasLogical q group) (sym made) (set, b, a, is_group, sides.turned q set a b falls, is_right, is_left)

  associated : (bound : ExprParts) (to : Logical) → IsCandidate q bound → Associates q from bound to
      → HasLogical q group to
  associated bound to in_left (inner, right, first, second, is, joins, linked, made) =
      let (set, l, r, is_group, falls, is_left, is_right) = subst (HasLogical q group) is shape in
      let (a, b, within, is_first, is_second) = bound_sets q inner bound first second in_left joins in
      let same_r : tables_of right ≡ r = ap tables_of is_right ∙ sides.tables q r in
      let same_b : tables_of second ≡ b = ap tables_of is_second ∙ sides.tables q b in
      let outer : FallsInto q set inner r = subst (λ x. FallsInto q set x r) (joined_set sides q inner l is_left)
      falls in
      let link : AreLinked q.links b r = subst (λ x. AreLinked q.links x r) same_b
      (subst (λ x. AreLinked q.links (tables_of second) x) same_r linked) in
      let same_or : bit_or (tables_of second) (tables_of right) ≡ bit_or b r =
      ap (λ x. bit_or x (tables_of right)) same_b ∙ ap (λ x. bit_or b x) same_r in
      subst (HasLogical q group) (sym made) (
        set,
        a,
        bit_or b r,
        is_group,
        sides.outer q set inner a b r outer within link,
        is_first,
        ap (top_of q) same_or,
      )

  split : (to : Logical) → SplitsGrouping q from to → HasLogical q group to
  split to (is, made) = subst (HasLogical q group) (sym made) ((subst (HasLogical q group) is shape).0, inr refl)

  -- another logical operator
  said : (way : Exploration) (to : Logical) → Says q way group from to → HasLogical q group to
  said Expansion to says = expanded to says
  said Commutation to says = commuted to says
  said Association to never = absurd never
  said Split to says = split to says

  -- the group can have what comes of it
  logically : (P : Logical → Type 0) → ((to : Logical) → P to → HasLogical q group to) → (to : Operator)
      → IsLogical P to → HasShape q group to
  logically P can (operators.Logical to) gives = can to gives
  logically P can (operators.Physical to) never = absurd never

  physically : (P : Physical → Type 0) → ((to : Physical) → P to → HasPhysical q group to) → (to : Operator)
      → IsPhysical P to → HasShape q group to
  physically P can (operators.Physical to) gives = can to gives
  physically P can (operators.Logical to) never = absurd never

  -- without a bound member
  by_work : (rule : Rule) (work : Work) (n : ℕ) (to : Operator) → work_of rule ≡ work
      → GivesByWork q rule work group from n to → HasShape q group to
  by_work rule (Explores way) n to is (first, gives) = logically (Says q way group from) (said way) to gives
  by_work rule (Implements condition) n to is gives =
      physically (Makes q rule condition group from n)
      (λ o makes. makes_held q group from rule condition is n o shape makes) to gives

  given : (rule : Rule) (n : ℕ) (to : Operator) → Gives q rule group from n to → HasShape q group to
  given rule n to gives = by_work rule (work_of rule) n to refl gives

  -- also with one
  given_with : (rule : Rule) (bound : Option ExprParts) (n : ℕ) (to : Operator) → IfSome bound (IsCandidate q)
      → GivesWith q rule group bound n to from
      → HasShape q group to
  given_with rule None n to in_left gives = given rule n to gives
  given_with rule (Some bound) n to in_left (is_rule, first, gives) =
      logically (Associates q from bound) (λ o. associated bound o in_left) to gives

-- a physical operator gives nothing
given_at : AreSides → (q : Query) (rule : Rule) (group : KeyParts) (bound : Option ExprParts) (n : ℕ) (o to : Operator)
    → IsGroup q group → HasShape q group o
    → IfSome bound (IsCandidate q) → IsLogical (GivesWith q rule group bound n to) o → HasShape q group to
given_at sides q rule group bound n (operators.Logical from) to known shape in_left gives =
    given_with sides q group known from shape rule bound n to in_left gives
given_at sides q rule group bound n (operators.Physical from) to known shape in_left never = absurd never

pub result_candidate : AreSides → (q : Query) (rule : Rule) (e : ExprParts) (bound : Option ExprParts) (n : ℕ)
    (other : ExprParts) → IsCandidate q e
    → IfSome bound (IsCandidate q) → HasResult q rule e bound n other → IsCandidate q other
result_candidate sides q rule e bound n other candidate in_left has = record {
  known = subst (IsGroup q) (sym has.group) candidate.known;
  shape = subst (λ g. HasShape q g other.operator) (sym has.group)
      (given_at sides q rule e.group bound n e.operator other.operator candidate.known candidate.shape in_left
      has.gives);
}
