-- What the search finds at the requests that an expression in a mode asks for.
use Rattle.std.proofs.Common.{◌≡◌, ℕ, ◌<◌, ◌≤◌, ◌+◌, refl, subst, sym, ◌∙◌, ap, inl, inr, arith}
use Rattle.std.specs.Prelude.{List, [], ◌∷◌, Option, None, Some}
use Rattle.std.specs.Option.{option_map_or}
use Rattle.query_core.specs.declared.words.Key.{Key}
use Rattle.query_core.specs.Expressions.{expr_of, physical_children, IsCandidate, IsChild}
use Rattle.query_core.specs.Keys.{key_number}
use Rattle.query_core.specs.declared.expressions.ExprParts.{ExprParts}
use Rattle.query_core.specs.declared.query.Query.{Query}
use Rattle.query_core.specs.declared.words.KeyParts.{KeyParts}
use Rattle.query_core.specs.declared.expressions.Children.{Children}
use Rattle.query_core.specs.declared.expressions.Children.TheVariants.{One, Two}
use Rattle.query_core.specs.declared.expressions.PhysicalExpr.{PhysicalExpr}
use Rattle.xform_rules.specs.Closure.{IsMember}
use Rattle.request_props.specs.Numbered.{IsProps}
use Rattle.request_props.specs.declared.props.Props.{Props}
use Rattle.request_props.specs.declared.request.Request.{Request}
use Rattle.request_props.specs.Fitting.{Fits}
use Rattle.plan_space.specs.declared.lines.Line.{Line}
use Rattle.plan_space.specs.Alternatives.{IsAlternative, asked_of}
use Rattle.plan_space.specs.Nodes.{two}
use Rattle.plan_space.specs.declared.nodes.NodeKind.TheVariants as nodes
use Rattle.plan_space.specs.Choices.{groups_of, AreLeast, native_choice}
use Rattle.plan_space.specs.Cost.{most_of_all}
use Rattle.plan_space.specs.Laws.{AsksWhatFits, ChoicesServe, RequestsFit, KeysFall, LeastCostsFit, ChoiceCostsFit}
use Rattle.plan_search.specs.declared.kept_plans.KeptPlans.{KeptPlans}
use Rattle.plan_search.specs.declared.native.NativeNode.{NativeNode}
use Rattle.plan_tree.specs.declared.alternatives.Alt.{Alt}
use Rattle.plan_tree.specs.Alternatives.{IsAltBy, IsAltIn}
use Rattle.plan_search.specs.Places.{place_of, place_at, place_asked}
use Rattle.plan_search.specs.declared.choice.Choice.{Choice}
use Rattle.plan_search.specs.KeptPlans.{IsAnswered, AreAnswered, kept_at, cost_at, asked_cost}
use Rattle.plan_search.specs.Natives.{IsNative}
use Rattle.plan_search.proofs.Answered.{some_case, cost_small, kid_before, kid_answered}
use Rattle.plan_search.proofs.Asked.{asked_one, asked_two}

-- what is asked fits, choices serve, keys fall, and costs fit
pub record AreLaws (q : Query) : Type 0 where
  pub asks : AsksWhatFits q
  pub serve : ChoicesServe q
  pub fall : KeysFall q
  pub least : LeastCostsFit q
  pub choice : ChoiceCostsFit q

-- what is known where an alternative is looked at
pub record IsAsked (q : Query) (answers : KeptPlans) (e : PhysicalExpr) (wanted : Request) (mode : ℕ) (alt : Alt) : Type
    0 where
  pub props : Props
  pub is_props : IsProps q props
  pub laws : AreLaws q
  pub line : Line
  pub alt_of : IsAltBy q e wanted mode alt line
  pub candidate : IsCandidate q (expr_of e)
  pub member : IsMember q (expr_of e)
  pub fits : Fits q e.group wanted
  pub few : mode < 192
  pub answered : AreAnswered q answers (place_of e.group wanted)

-- it is known of a member in its mode
pub asked_here : (q : Query) (answers : KeptPlans) (p : NativeNode) (wanted : Request) (alt : Alt) (props : Props)
    → IsProps q props → AreLaws q
    → ((e : ExprParts) → IsMember q e → IsCandidate q e) → IsNative q p.expr.group p → Fits q p.expr.group wanted
    → AreAnswered q answers (place_of p.expr.group wanted) → IsAltIn q p.expr wanted p.mode (Some alt)
    → IsAsked q answers p.expr wanted p.mode alt
asked_here q answers p wanted alt props is_props laws candidates is fits answered alt_in = record {
  props = props;
  is_props = is_props;
  laws = laws;
  line = alt_in.0;
  alt_of = alt_in.1;
  candidate = candidates (expr_of p.expr) is.member;
  member = is.member;
  fits = fits;
  few = is.few;
  answered = answered;
}

module _ (q : Query) (answers : KeptPlans) (e : PhysicalExpr) (wanted : Request) (mode : ℕ) (alt : Alt)
    (known : IsAsked q answers e wanted mode alt) where
  -- a mode has one line
  pub line_is : (other : Line) → IsAlternative q e wanted mode other → other ≡ known.line
  line_is other alternative = let same : Some other ≡ Some known.line = sym alternative.is_line
      ∙ known.alt_of.is_alternative.is_line in cc

  requests_fit : (c : Children) (asked : List Request) → physical_children e.operator ≡ c
      → asked_of known.line wanted ≡ asked → RequestsFit q (groups_of c) asked
  requests_fit c asked is are = subst (λ a. RequestsFit q (groups_of c) a) are
      (subst (λ d. RequestsFit q (groups_of d) (asked_of known.line wanted)) is
      (known.laws.asks e mode known.line wanted known.candidate known.fits known.alt_of.is_alternative))

  -- a child's group has a lesser key
  key_falls : (g : KeyParts) → IsChild (physical_children e.operator) g → key_number g < key_number e.group
  key_falls g is = known.laws.fall e g known.candidate is

  -- what is known of the one child
  pub record OneKid (kid : Key × Request) (g : KeyParts) : Type 0 where
    pub children : physical_children e.operator ≡ One g
    pub asked : asked_of known.line wanted ≡ kid.1 ∷ []
    pub place : place_at kid.0.0 kid.1 ≡ place_of g kid.1
    pub is_answered : IsAnswered q answers g kid.1
    pub before : place_asked kid < place_of e.group wanted
    pub fits : Fits q g kid.1

  pub one_kid : (kid : Key × Request) → alt.left ≡ Some kid → alt.right ≡ None → (g : KeyParts) × OneKid kid g
  one_kid kid left right =
      let found = asked_one q alt (physical_children e.operator) (asked_of known.line wanted) kid left right
      known.alt_of.asks in
      let g = found.0 in
      let key = key_falls g (subst (λ c. IsChild c g) (sym found.1) refl) in
      let fit = (requests_fit (One g) (kid.1 ∷ []) found.1 found.2).0 in
      let place : place_asked kid ≡ place_of g kid.1 = ap (λ k. place_at k kid.1) found.3.number in (
        g,
        record {
          children = found.1;
          asked = found.2;
          place = place;
          is_answered = kid_answered q answers known.props known.is_props e.group wanted known.answered g kid.1
              found.3.known fit key;
          before = omega (
            arith,
            place,
            kid_before q answers known.props known.is_props e.group wanted known.answered g
                kid.1 fit key,
          );
          fits = fit;
        },
      )

  -- what is known of the two children
  pub record TwoKids (first second : Key × Request) (g h : KeyParts) : Type 0 where
    pub children : physical_children e.operator ≡ Two g h
    pub asked : asked_of known.line wanted ≡ first.1 ∷ second.1 ∷ []
    pub place : place_at first.0.0 first.1 ≡ place_of g first.1
    pub other_place : place_at second.0.0 second.1 ≡ place_of h second.1
    pub is_answered : IsAnswered q answers g first.1
    pub other_answered : IsAnswered q answers h second.1
    pub before : place_asked first < place_of e.group wanted
    pub other_before : place_asked second < place_of e.group wanted
    pub fits : Fits q g first.1
    pub other_fits : Fits q h second.1

  pub two_kids : (first second : Key × Request) → alt.left ≡ Some first → alt.right ≡ Some second → (g h : KeyParts)
      × TwoKids first second g h
  two_kids first second left right =
      let found = asked_two q alt (physical_children e.operator) (asked_of known.line wanted) first second left right
      known.alt_of.asks in
      let g = found.0 in
      let h = found.1 in
      let key = key_falls g (subst (λ c. IsChild c g) (sym found.2) (inl refl)) in
      let other_key = key_falls h (subst (λ c. IsChild c h) (sym found.2) (inr refl)) in
      let fit = requests_fit (Two g h) (first.1 ∷ second.1 ∷ []) found.2 found.3 in
      let place : place_asked first ≡ place_of g first.1 = ap (λ k. place_at k first.1) found.4.number in
      let other_place : place_asked second ≡ place_of h second.1 = ap (λ k. place_at k second.1) found.5.number in (
        g,
        h,
        record {
          children = found.2;
          asked = found.3;
          place = place;
          other_place = other_place;
          is_answered = kid_answered q answers known.props known.is_props e.group wanted known.answered g first.1
              found.4.known fit.0 key;
          other_answered = kid_answered q answers known.props known.is_props e.group wanted known.answered h second.1
              found.5.known fit.1.0 other_key;
          before = omega (
            arith,
            place,
            kid_before q answers known.props known.is_props e.group wanted known.answered g
                first.1 fit.0 key,
          );
          other_before = omega (
            arith,
            other_place,
            kid_before q answers known.props known.is_props e.group wanted known.answered h second.1 fit.1.0
                other_key,
          );
          fits = fit.0;
          other_fits = fit.1.0;
        },
      )

  -- the one child's plan costs no more than any plan
  pub one_small : (kid : Key × Request) → alt.left ≡ Some kid → alt.right ≡ None
      → cost_at answers (place_at kid.0.0 kid.1) ≤ most_of_all
  one_small kid left right =
      let found = one_kid kid left right in
      subst (λ p. cost_at answers p ≤ most_of_all) (sym found.1.place)
      (cost_small q answers found.0 kid.1 known.laws.least found.1.fits found.1.is_answered)

  -- where one of the two places is empty, the other's plan is all
  sum_small : (first second : Key × Request) (g h : KeyParts) → TwoKids first second g h → (x y : Option Choice)
      → kept_at answers (place_of g first.1) ≡ x
      → kept_at answers (place_of h second.1) ≡ y
      → cost_at answers (place_of g first.1) + cost_at answers (place_of h second.1) ≤ most_of_all
  sum_small first second g h both None y is also =
      let none = ap (λ kept. option_map_or (λ k. k.cost) kept 0) is in
      omega (arith, none, cost_small q answers h second.1 known.laws.least both.other_fits both.other_answered)
  sum_small first second g h both (Some a) None is also =
      let none = ap (λ kept. option_map_or (λ k. k.cost) kept 0) also in
      omega (arith, none, cost_small q answers g first.1 known.laws.least both.fits both.is_answered)
  sum_small first second g h both (Some a) (Some b) is also =
      let left = some_case q answers g first.1 a both.is_answered is in
      let right = some_case q answers h second.1 b both.other_answered also in
      let kids = left.0 ∷ right.0 ∷ [] in
      let are_least : AreLeast (IsMember q) q (groups_of (physical_children e.operator)) (asked_of known.line wanted)
      kids =
      subst (λ c. AreLeast (IsMember q) q (groups_of c) (asked_of known.line wanted) kids) (sym both.children)
      (subst (λ a. AreLeast (IsMember q) q (g ∷ h ∷ []) a kids) (sym both.asked) (left.1.least, (right.1.least, tt))) in
      let plan = two (nodes.Native e mode) left.0 right.0 in
      let most = known.laws.choice e.group wanted plan known.fits
      (native_choice e mode known.line kids known.member refl known.alt_of.is_alternative are_least refl) in
      let first_cost = ap (λ kept. option_map_or (λ k. k.cost) kept 0) is in
      let second_cost = ap (λ kept. option_map_or (λ k. k.cost) kept 0) also in
      omega (arith, most, first_cost, second_cost, left.1.cost, right.1.cost)

  -- so do the two children's plans together
  pub two_small : (first second : Key × Request) → alt.left ≡ Some first → alt.right ≡ Some second
      → cost_at answers (place_at first.0.0 first.1) + cost_at answers (place_at second.0.0 second.1) ≤ most_of_all
  two_small first second left right =
      let found = two_kids first second left right in
      let both = found.2 in
      subst (λ p. cost_at answers p + cost_at answers (place_at second.0.0 second.1) ≤ most_of_all) (sym both.place)
      (subst (λ p. cost_at answers (place_of found.0 first.1) + cost_at answers p ≤ most_of_all) (sym both.other_place)
      (sum_small first second found.0 found.1 both (kept_at answers (place_of found.0 first.1))
      (kept_at answers (place_of found.1 second.1)) refl refl))

  cost_below : (left right : Option (Key × Request)) → alt.left ≡ left → alt.right ≡ right
      → asked_cost answers left right ≤ most_of_all
  cost_below None right is also = omega arith
  cost_below (Some left) None is also = one_small left is also
  cost_below (Some left) (Some right) is also = two_small left right is also

  -- the plans that are asked for cost no more than any plan
  pub asked_small : asked_cost answers alt.left alt.right ≤ most_of_all
  asked_small = cost_below alt.left alt.right refl refl
