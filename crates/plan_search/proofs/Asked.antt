-- Which children an expression has, by what is asked of them.
use Rattle.std.proofs.Common.{◌≡◌, refl, subst, sym, ◌∙◌, ap}
use Rattle.std.specs.Prelude.{List, [], ◌∷◌, None, Some}
use Rattle.query_core.specs.Keys as keys
use Rattle.query_core.specs.declared.words.Key.{Key}
use Rattle.query_core.specs.declared.query.Query.{Query}
use Rattle.query_core.specs.declared.words.KeyParts.{KeyParts}
use Rattle.query_core.specs.declared.expressions.Children.{Children}
use Rattle.query_core.specs.declared.expressions.Children.TheVariants.{Zero, One, Two}
use Rattle.request_props.specs.declared.request.Request.{Request}
use Rattle.plan_space.specs.Choices.{groups_of}
use Rattle.plan_tree.specs.declared.alternatives.Alt.{Alt}
use Rattle.plan_tree.specs.Alternatives.{Asks, AreAsked}

-- the one child, and what is asked of it
pub asked_one : (q : Query) (alt : Alt) (c : Children) (wishes : List Request) (kid : Key × Request)
    → alt.left ≡ Some kid → alt.right ≡ None
    → AreAsked q alt (groups_of c) wishes
    → (g : KeyParts) × (c ≡ One g) × (wishes ≡ kid.1 ∷ []) × keys.NamesGroup q kid.0 g
asked_one q alt Zero [] kid left right asked = let never : Some kid ≡ None = sym left ∙ asked.0 in cc
asked_one q alt Zero (wanted ∷ wishes) kid left right asked = absurd asked
asked_one q alt (One g) [] kid left right asked = absurd asked
asked_one q alt (One g) (wanted ∷ []) kid left right asked =
    let asks : Asks q (Some kid) g wanted = subst (λ l. Asks q l g wanted) left asked.0 in
    (g, refl, ap (λ w. w ∷ []) (sym asks.1), asks.0)
asked_one q alt (One g) (wanted ∷ other ∷ wishes) kid left right asked = absurd asked
asked_one q alt (Two g h) [] kid left right asked = absurd asked
asked_one q alt (Two g h) (wanted ∷ []) kid left right asked = absurd asked
asked_one q alt (Two g h) (wanted ∷ other ∷ []) kid left right asked =
    absurd (subst (λ r. Asks q r h other) right asked.1)
asked_one q alt (Two g h) (wanted ∷ other ∷ third ∷ wishes) kid left right asked = absurd asked

-- the two children, and what is asked of them
pub asked_two : (q : Query) (alt : Alt) (c : Children) (wishes : List Request) (first second : Key × Request)
    → alt.left ≡ Some first → alt.right ≡ Some second
    → AreAsked q alt (groups_of c) wishes → (g h : KeyParts) × (c ≡ Two g h) × (wishes ≡ first.1 ∷ second.1 ∷ [])
    × keys.NamesGroup q first.0 g × keys.NamesGroup q second.0 h
asked_two q alt Zero [] first second left right asked = let never : Some first ≡ None = sym left ∙ asked.0 in cc
asked_two q alt Zero (wanted ∷ wishes) first second left right asked = absurd asked
asked_two q alt (One g) [] first second left right asked = absurd asked
asked_two q alt (One g) (wanted ∷ []) first second left right asked = let never : Some second ≡ None = sym right
    ∙ asked.1 in cc
asked_two q alt (One g) (wanted ∷ other ∷ wishes) first second left right asked = absurd asked
asked_two q alt (Two g h) [] first second left right asked = absurd asked
asked_two q alt (Two g h) (wanted ∷ []) first second left right asked = absurd asked
asked_two q alt (Two g h) (wanted ∷ other ∷ []) first second left right asked =
    let one : Asks q (Some first) g wanted = subst (λ l. Asks q l g wanted) left asked.0 in
    let two : Asks q (Some second) h other = subst (λ r. Asks q r h other) right asked.1 in (
      g,
      h,
      refl,
      (let make : Request → Request → List Request = λ v w. v ∷ w ∷ [] in let e = one.1 in let f = two.1 in
          cc),
      one.0,
      two.0,
    )
asked_two q alt (Two g h) (wanted ∷ other ∷ third ∷ wishes) first second left right asked = absurd asked

-- where nothing is asked there are no children
pub asked_zero : (q : Query) (alt : Alt) (c : Children) (wishes : List Request) → alt.left ≡ None
    → AreAsked q alt (groups_of c) wishes → (c ≡ Zero) × (wishes ≡ [])
asked_zero q alt Zero [] left asked = (refl, refl)
asked_zero q alt Zero (wanted ∷ wishes) left asked = absurd asked
asked_zero q alt (One g) [] left asked = absurd asked
asked_zero q alt (One g) (wanted ∷ []) left asked = absurd (subst (λ l. Asks q l g wanted) left asked.0)
asked_zero q alt (One g) (wanted ∷ other ∷ wishes) left asked = absurd asked
asked_zero q alt (Two g h) [] left asked = absurd asked
asked_zero q alt (Two g h) (wanted ∷ []) left asked = absurd asked
asked_zero q alt (Two g h) (wanted ∷ other ∷ []) left asked = absurd (subst (λ l. Asks q l g wanted) left asked.0)
asked_zero q alt (Two g h) (wanted ∷ other ∷ third ∷ wishes) left asked = absurd asked
