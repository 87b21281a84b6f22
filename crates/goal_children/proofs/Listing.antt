-- Children that were found one after the other are all children up to the last one found.
use Rattle.std.proofs.Common.{◌≡◌, ℕ, ◌+◌, ◌<◌, ◌≤◌, ◌↔◌, List, [], ◌∷◌, ◌++◌, Option, None, Some, ◌⊎◌, inl, inr, map}
use Rattle.std.proofs.Common.{length, get_or, subst, ap, ◌∙◌, arith}
use Rattle.std.specs.List.{Contains}
use Rattle.std.specs.List.Sorted.{IsStrictlyIncreasing}
use Rattle.std.proofs.lemmas.Bool.{cases_lt}
use Rattle.std.proofs.lemmas.List.{get_or-map, get_or_append_left, get_or-append-add, length-append, length-map}
use Rattle.std.proofs.lemmas.List.{map-append}
use Rattle.std.proofs.lemmas.List.Elements.{Contains-append_left, Contains-get_or, Contains-push, Contains-push_cases}
use Rattle.query_core.specs.declared.query.Query.{Query}
use Rattle.query_core.specs.declared.words.Goal.{Goal}
use Rattle.query_core.specs.declared.words.KeyParts.TheVariants.{Partial}
use Rattle.goal_space.specs.Words.{goal_word, IsGoalInRange}
use Rattle.goal_space.specs.declared.goals.GoalKind.{GoalKind}
use Rattle.goal_space.specs.declared.goals.GoalKind.TheVariants.{Exp}
use Rattle.goal_children.specs.Children.{IsChildIn, IsBehind, IsNextChild, IsLastChild, AreChildren, AreChildrenBelow}

-- some goal, to name the one at a place
pub some_goal : GoalKind
some_goal = Exp Partial

-- the goal's word is at most the one before, if there is one
abbrev pub IsUpTo : Option Goal → GoalKind → Type 0
IsUpTo None goal = ⊥
IsUpTo (Some before) goal = goal_word goal ≤ before.0

-- a goal comes later or it doesn't
behind_or_not : (before : Option Goal) (goal : GoalKind) → IsBehind before goal ⊎ IsUpTo before goal
behind_or_not None goal = inl tt
behind_or_not (Some before) goal = cases_lt before.0 (goal_word goal)

-- and not both
not_both : (before : Option Goal) (goal next : GoalKind) → IsUpTo before goal → IsBehind before next
    → goal_word goal < goal_word next
not_both None goal next up_to behind = absurd up_to
not_both (Some before) goal next up_to behind = omega (arith, up_to, behind)

-- one more word, above all
pub rises_more : (words : List ℕ) (word : ℕ) → IsStrictlyIncreasing words
    → ((k : ℕ) → k < length words → get_or words k 0 < word) → IsStrictlyIncreasing (words ++ word ∷ [])
rises_more words word rises above k within = elim (cases_lt (k + 1) (length words)) [
  | inl less ↦
      rw (
        get_or_append_left words (word ∷ []) 0 k (omega (arith, less)),
        get_or_append_left words (word ∷ []) 0 (k + 1) less,
      ) (rises k less)
  | inr more ↦
      let last : k + 1 ≡ length words + 0 = omega (arith, more, within, length-append words (word ∷ [])) in
      let end : get_or (words ++ word ∷ []) (k + 1) 0 ≡ word = ap (λ j. get_or (words ++ word ∷ []) j 0) last
      ∙ get_or-append-add words (word ∷ []) 0 0 in
      rw (get_or_append_left words (word ∷ []) 0 k (omega (arith, last)), end) (above k (omega (arith, last)))
]

-- the words of listed goals, each below the limit
words_below : (goals : List GoalKind) (limit : ℕ) → ((goal : GoalKind) → Contains goals goal → goal_word goal < limit)
    → (k : ℕ) → k < length (map goal_word goals) → get_or (map goal_word goals) k 0 < limit
words_below goals limit below k within =
    let at : k < length goals = omega (arith, within, length-map goals goal_word) in
    let some = get_or goals k some_goal in
    rw (get_or-map goal_word goals k some_goal 0 at) (below some (Contains-get_or goals k some_goal at))

module _ (q : Query) (words : List ℕ) (goal : GoalKind) where
  -- the children up to the one before, each once, ascending
  pub record AreUpTo (before : Option Goal) (children : List GoalKind) : Type 0 where
    pub rises : IsStrictlyIncreasing (map goal_word children)
    pub exact : (child : GoalKind) → Contains children child ↔ (IsChildIn q words goal child × IsUpTo before child)

  -- before the first
  pub up_to_none : AreUpTo None []
  up_to_none = record {
    rises = λ k within. absurd (omega (arith, within));
    exact = λ child. (λ (k, within, is). absurd (omega (arith, within)), λ is. absurd is.1);
  }

  -- with the next one
  pub up_to_next : (before : Option Goal) (children : List GoalKind) (next : GoalKind) (word : Goal)
      → ((k l : GoalKind) → IsGoalInRange k → IsGoalInRange l → goal_word k ≡ goal_word l → k ≡ l)
      → ((child : GoalKind) → IsChildIn q words goal child → IsGoalInRange child) → word.0 ≡ goal_word next
      → AreUpTo before children → IsNextChild q words goal before next → AreUpTo (Some word) (children ++ next ∷ [])
  up_to_next before children next word one in_range number are is =
      let less : (child : GoalKind) → Contains children child → goal_word child < goal_word next =
      λ child there. not_both before child next ((are.exact child).0 there).1 is.behind in
      record {
        rises = rw (map-append goal_word children (next ∷ []))
            (rises_more (map goal_word children) (goal_word next) are.rises
            (words_below children (goal_word next) less));
        exact = λ child. (
          λ there. elim (Contains-push_cases children next child there) [
            | inl earlier ↦ (((are.exact child).0 earlier).0, omega (arith, number, less child earlier))
            | inr same ↦ subst (λ (k : GoalKind). IsChildIn q words goal k × IsUpTo (Some word) k) same
                (is.is_child, omega (arith, number))
          ],
          λ (is_child, up_to). elim (behind_or_not before child) [
            | inl behind ↦
                let same : next ≡ child = one next child (in_range next is.is_child) (in_range child is_child)
                (omega (arith, number, up_to, is.least child is_child behind)) in
                subst (Contains (children ++ next ∷ [])) same (Contains-push children next)
            | inr earlier ↦ Contains-append_left children (next ∷ []) child ((are.exact child).1 (is_child, earlier))
          ],
        );
      }

  -- before the next one there are those below it
  pub below_next : (before : Option Goal) (children : List GoalKind) (next : GoalKind) → AreUpTo before children
      → IsNextChild q words goal before next
      → AreChildrenBelow q words goal (goal_word next) children
  below_next before children next are is = record {
    rises = are.rises;
    exact = λ child. (
      λ there. let (is_child, up_to) = (are.exact child).0 there in
          (is_child, not_both before child next up_to is.behind),
      λ (is_child, below). elim (behind_or_not before child) [
        | inl behind ↦ absurd (omega (arith, below, is.least child is_child behind))
        | inr up_to ↦ (are.exact child).1 (is_child, up_to)
      ],
    );
  }

  -- where none comes later, they are all
  pub all_up_to : (before : Option Goal) (children : List GoalKind) → AreUpTo before children
      → IsLastChild q words goal before → AreChildren q words goal children
  all_up_to before children are last = record {
    rises = are.rises;
    exact = λ child. (
      λ there. ((are.exact child).0 there).0,
      λ is_child. elim (behind_or_not before child) [
        | inl behind ↦ absurd (last child is_child behind)
        | inr up_to ↦ (are.exact child).1 (is_child, up_to)
      ],
    );
  }

  -- so many children were passed, those up to the one before
  pub record ArePassed (before : Option Goal) (count : ℕ) : Type 0 where
    pub children : List GoalKind
    pub are : AreUpTo before children
    pub so_many : length children ≡ count
