-- Goals that ascend by their words and are the same ones are one list.
use Rattle.std.proofs.Common.{◌≡◌, ℕ, ◌<◌, List, [], ◌∷◌, All, map, length, get_or, refl, sym, subst, ap, ◌∙◌, arith}
use Rattle.std.specs.List.{Contains}
use Rattle.std.proofs.lemmas.List.{get_or-map, length-map}
use Rattle.std.proofs.lemmas.List.Elements.{All-head, All-tail, Contains-get_or}
use Rattle.query_core.specs.declared.query.Query.{Query}
use Rattle.xform_rules.proofs.OneClosure.{increasing_one}
use Rattle.goal_space.specs.Words.{goal_word, IsGoalInRange}
use Rattle.goal_space.specs.declared.goals.GoalKind.{GoalKind}
use Rattle.goal_children.specs.Children.{IsChildIn, AreChildren}
use Rattle.goal_children.proofs.Listing.{some_goal}

-- where a number is that of one thing, a list of numbers is that of one list
pub one_list : {A : Type 0} (number : A → ℕ) (Fits : A → Type 0)
    → ((k l : A) → Fits k → Fits l → number k ≡ number l → k ≡ l) → (ks ls : List A) → All Fits ks → All Fits ls
    → map number ks ≡ map number ls → ks ≡ ls
one_list number Fits one [] [] first second same = refl
one_list number Fits one [] (l ∷ ls) first second same = absurd (cc)
one_list number Fits one (k ∷ ks) [] first second same = absurd (cc)
one_list number Fits one (k ∷ ks) (l ∷ ls) first second same =
    let this : number k ≡ number l = cc in
    let others : map number ks ≡ map number ls = cc in
    let head : k ≡ l = one k l (All-head Fits k ks first) (All-head Fits l ls second) this in
    let tail : ks ≡ ls = one_list number Fits one ks ls (All-tail Fits k ks first) (All-tail Fits l ls second) others in
    cc

-- so words are those of one list of goals
pub goals_one : ((k l : GoalKind) → IsGoalInRange k → IsGoalInRange l → goal_word k ≡ goal_word l → k ≡ l)
    → (goals others : List GoalKind) → All IsGoalInRange goals → All IsGoalInRange others
    → map goal_word goals ≡ map goal_word others → goals ≡ others
goals_one = one_list goal_word IsGoalInRange

-- a word of some goals is that of one of them
pub goal_of_word : (goals : List GoalKind) (word : ℕ) → Contains (map goal_word goals) word → (goal : GoalKind)
    × Contains goals goal × (goal_word goal ≡ word)
goal_of_word goals word (k, within, at) =
    let inside : k < length goals = omega (arith, within, length-map goals goal_word) in
    let goal = get_or goals k some_goal in
    (goal, Contains-get_or goals k some_goal inside, sym (get_or-map goal_word goals k some_goal word inside) ∙ at)

-- and each of them has its word there
pub word_of_goal : (goals : List GoalKind) (goal : GoalKind) → Contains goals goal
    → Contains (map goal_word goals) (goal_word goal)
word_of_goal goals goal (k, within, at) =
    let inside : k < length (map goal_word goals) = omega (arith, within, length-map goals goal_word) in
    (k, inside, get_or-map goal_word goals k goal (goal_word goal) within ∙ ap goal_word at)

module _ (q : Query) (words : List ℕ) (goal : GoalKind) where
  -- the words of the children are among those of the same children
  among : (children others : List GoalKind) → AreChildren q words goal children → AreChildren q words goal others
      → (word : ℕ) → Contains (map goal_word children) word
      → Contains (map goal_word others) word
  among children others are also word there =
      let (child, inside, number) = goal_of_word children word there in
      subst (Contains (map goal_word others)) number
      (word_of_goal others child ((also.exact child).1 ((are.exact child).0 inside)))

  -- so the children are one list
  pub children_one : ((k l : GoalKind) → IsGoalInRange k → IsGoalInRange l → goal_word k ≡ goal_word l → k ≡ l)
      → ((child : GoalKind) → IsChildIn q words goal child → IsGoalInRange child)
      → (children others : List GoalKind) → AreChildren q words goal children → AreChildren q words goal others
      → children ≡ others
  children_one one in_range children others are also =
      goals_one one children others
      (λ k d within. in_range _ ((are.exact _).0 (Contains-get_or children k d within)))
      (λ k d within. in_range _ ((also.exact _).0 (Contains-get_or others k d within)))
      (increasing_one _ _ are.rises also.rises (among children others are also) (among others children also are))
