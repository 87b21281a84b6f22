-- The rank of a child's word is smaller.
use Rattle.std.proofs.Common.{◌≡◌, ℕ, ◌<◌, sym, ap, ◌∙◌, subst}
use Rattle.query_core.specs.declared.query.Query.{Query}
use Rattle.goal_space.specs.Words.{goal_word, IsGoalInRange}
use Rattle.goal_space.specs.Goals.{IsGoal, child_goal}
use Rattle.goal_space.specs.Ranks.{rank_of}
use Rattle.goal_space.specs.Laws.{RanksFall, GoalsAreOfCandidates}
use Rattle.goal_space.specs.declared.goals.GoalKind.{GoalKind}
use Rattle.goal_rules.specs.WordRanks.{rank_of_word, WordRanksFall}

-- where ranks fall from goals to children, and goals have words with their ranks
pub word_ranks_fall : (q : Query) → RanksFall q → GoalsAreOfCandidates q
    → ((goal : GoalKind) → IsGoal q goal → IsGoalInRange goal)
    → ((k : GoalKind) → IsGoalInRange k → rank_of_word (goal_word k) ≡ rank_of k) → WordRanksFall q
word_ranks_fall q fall candidates in_range ranked word child is =
    let is_goal = is.names.is_goal in
    let other_is_goal = child_goal is.goal is.other is_goal is.is_child in
    let less = fall is.goal is.other (candidates is.goal is_goal) is.is_child in
    let of_goal : rank_of_word word ≡ rank_of is.goal = ap rank_of_word (sym is.names.number)
    ∙ ranked is.goal (in_range is.goal is_goal) in
    let of_other : rank_of_word child ≡ rank_of is.other = ap rank_of_word (sym is.number)
    ∙ ranked is.other (in_range is.other other_is_goal) in
    subst (λ (r : ℕ). r < rank_of_word word) (sym of_other) (subst (λ (r : ℕ). rank_of is.other < r) (sym of_goal) less)
