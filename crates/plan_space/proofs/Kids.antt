-- The kids of a node: what is seen of them, that an expression stands over plans of its children, and that it
-- does the same over kids that are alike.
use Rattle.std.proofs.Common.{◌≡◌, ℕ, List, [], ◌∷◌, refl, sym, ap, ◌∙◌, subst}
use Rattle.std.specs.Prelude.{Option, Some, None}
use Rattle.std.specs.Bool.{⊤}
use Rattle.query_core.specs.declared.query.Query.{Query}
use Rattle.query_core.specs.declared.expressions.Children.{Children}
use Rattle.query_core.specs.declared.expressions.ExprParts.{ExprParts}
use Rattle.query_core.specs.declared.expressions.PhysicalExpr.{PhysicalExpr}
use Rattle.request_props.specs.declared.request.Request.{Request}
use Rattle.plan_space.specs.Nodes.{Tree}
use Rattle.plan_space.specs.Lines.{line_of}
use Rattle.plan_space.specs.declared.lines.LeftDist.{LeftDist}
use Rattle.plan_space.specs.declared.lines.LeftDist.TheVariants as left_dists
use Rattle.plan_space.specs.declared.lines.LeftOrder.{LeftOrder}
use Rattle.plan_space.specs.declared.lines.Line.{Line}
use Rattle.plan_space.specs.declared.lines.Line.TheVariants as lines
use Rattle.plan_space.specs.declared.seen.Kid.{Kid}
use Rattle.plan_space.specs.Gives.{kid_of, gives, first_given, left_dist, gives_by, native_gives}
use Rattle.plan_space.specs.Valid.{OneFits, TwoFit, OverOne, OverTwo, FitsBy, IsValid}
use Rattle.request_props.specs.Dists.{class_of}
use Rattle.plan_space.specs.Cost.{share_of, first_share, second_share, operator_shape, native_shape}
use Rattle.plan_space.specs.Choices.{groups_of}
use Rattle.plan_space.specs.Laws.{GivenFits, KidsFit, AreOf}

-- what is seen of each plan
abbrev pub sights : Query → List Tree → List Kid
sights q [] = []
sights q (plan ∷ plans) = kid_of q plan ∷ sights q plans

abbrev pub AreValid : (ExprParts → Type 0) → Query → List Tree → Type 0
AreValid Member q [] = ⊤
AreValid Member q (plan ∷ plans) = IsValid Member q plan × AreValid Member q plans

-- what valid kids give lies in their groups, where this holds of each valid plan
pub kids_fit : (Member : ExprParts → Type 0) (q : Query)
    → ((plan : Tree) → IsValid Member q plan → GivenFits q (kid_of q plan).group (gives q plan)) → (kids : List Tree)
    → AreValid Member q kids → KidsFit q (sights q kids)
kids_fit Member q given_fits [] valid = tt
kids_fit Member q given_fits (kid ∷ kids) valid =
    (given_fits kid valid.0, kids_fit Member q given_fits kids valid.1)

-- the kids are of the same groups, and as many segments have a share
abbrev pub AreAlike : List Kid → List Kid → Type 0
AreAlike [] [] = ⊤
AreAlike [] (other ∷ others) = ⊥
AreAlike (kid ∷ kids) [] = ⊥
AreAlike (kid ∷ kids) (other ∷ others) = (kid.group ≡ other.group)
    × (class_of kid.given.dist ≡ class_of other.given.dist) × AreAlike kids others

same_first_share : (q : Query) (kids others : List Kid) → AreAlike kids others
    → first_share q kids ≡ first_share q others
same_first_share q [] [] alike = refl
same_first_share q [] (other ∷ others) alike = absurd alike
same_first_share q (kid ∷ kids) [] alike = absurd alike
same_first_share q (kid ∷ kids) (other ∷ others) alike = let group = alike.0 in let class = alike.1 in cc

same_second_share : (q : Query) (kids others : List Kid) → AreAlike kids others
    → second_share q kids ≡ second_share q others
same_second_share q [] [] alike = refl
same_second_share q [] (other ∷ others) alike = absurd alike
same_second_share q (kid ∷ kids) [] alike = absurd alike
same_second_share q (kid ∷ kids) (other ∷ others) alike = same_first_share q kids others alike.2

same_first_class : (kids others : List Kid) → AreAlike kids others
    → class_of (first_given kids).dist ≡ class_of (first_given others).dist
same_first_class [] [] alike = refl
same_first_class [] (other ∷ others) alike = absurd alike
same_first_class (kid ∷ kids) [] alike = absurd alike
same_first_class (kid ∷ kids) (other ∷ others) alike = alike.1

same_left_class : (dist : LeftDist) (kids others : List Kid) → AreAlike kids others
    → class_of (left_dist dist (first_given kids).dist) ≡ class_of (left_dist dist (first_given others).dist)
same_left_class (left_dists.Fixed given asked) kids others alike = refl
same_left_class (left_dists.Grouped list) kids others alike = refl
same_left_class left_dists.Same kids others alike = same_first_class kids others alike
same_left_class left_dists.SameSpread kids others alike = same_first_class kids others alike

same_given_class : (found : Option Line) (kids others : List Kid) → AreAlike kids others
    → class_of (gives_by found kids).dist ≡ class_of (gives_by found others).dist
same_given_class None kids others alike = refl
same_given_class (Some (lines.Leaf dist order)) kids others alike = refl
same_given_class (Some (lines.Above dist order)) kids others alike = same_left_class dist kids others alike
same_given_class (Some (lines.Beside dist order wanted)) kids others alike = same_left_class dist kids others alike

-- an expression does the same over kids that are alike
pub same_native_shape : (q : Query) (e : PhysicalExpr) (mode : ℕ) (kids others : List Kid) → AreAlike kids others
    → native_shape q e mode kids ≡ native_shape q e mode others
same_native_shape q e mode kids others alike =
    let first = same_first_share q kids others alike in
    let second = same_second_share q kids others alike in
    let class : class_of (native_gives q e mode kids).dist ≡ class_of (native_gives q e mode others).dist =
    same_given_class (line_of q e mode) kids others alike in
    ap (λ left. operator_shape e.operator left (second_share q kids)
    (share_of q e.group (class_of (native_gives q e mode kids).dist))) first
    ∙ ap (λ right. operator_shape e.operator (first_share q others) right
    (share_of q e.group (class_of (native_gives q e mode kids).dist))) second
    ∙ ap (λ class. operator_shape e.operator (first_share q others) (second_share q others) (share_of q e.group class))
    class

-- ---- the kids that an expression may stand over are plans of its children

module _ (q : Query) (children : Children) where
  one_of : (dist : LeftDist) (order : LeftOrder) (kids : List Kid) → OverOne (OneFits q children dist order) kids
      → AreOf (groups_of children) kids
  one_of dist order [] fits = absurd fits
  one_of dist order (kid ∷ []) fits = subst (λ (c : Children). AreOf (groups_of c) (kid ∷ [])) (sym fits.of_child)
      (refl, tt)
  one_of dist order (kid ∷ other ∷ others) fits = absurd fits

  two_of : (dist : LeftDist) (order : LeftOrder) (wanted : Request) (kids : List Kid)
      → OverTwo (TwoFit q children dist order wanted) kids
      → AreOf (groups_of children) kids
  two_of dist order wanted [] fits = absurd fits
  two_of dist order wanted (kid ∷ []) fits = absurd fits
  two_of dist order wanted (left ∷ right ∷ []) fits =
      subst (λ (c : Children). AreOf (groups_of c) (left ∷ right ∷ [])) (sym fits.of_children) (refl, (refl, tt))
  two_of dist order wanted (left ∷ right ∷ other ∷ others) fits = absurd fits

  pub kids_of_children : (found : Option Line) (kids : List Kid) → FitsBy q found children kids
      → AreOf (groups_of children) kids
  kids_of_children None kids fits = absurd fits
  kids_of_children (Some (lines.Leaf dist order)) kids fits =
      subst (λ (c : Children). AreOf (groups_of c) kids) (sym fits.0)
      (subst (λ (k : List Kid). AreOf [] k) (sym fits.1) tt)
  kids_of_children (Some (lines.Above dist order)) kids fits = one_of dist order kids fits
  kids_of_children (Some (lines.Beside dist order wanted)) kids fits = two_of dist order wanted kids fits
