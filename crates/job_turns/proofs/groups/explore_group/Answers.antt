-- The exploration that the goal is, over the board's rules, which are the query's.
use Rattle.std.proofs.Common.{refl, sym, subst}
use Rattle.query_core.specs.declared.query.Query.{Query}
use Rattle.goal_board.specs.Seats.{hands}
use Rattle.board_moves.specs.Collects.{IsExploration, ExplorationAdds}
use Rattle.board_moves.specs.Turns.{Works}
use Rattle.board_moves.proofs.Working.{works_wider}
use Rattle.goal_space.specs.Words.{goal_word}
use Rattle.goal_space.specs.Answers.{no_choice}
use Rattle.goal_space.specs.declared.goals.GoalKind.TheVariants.{Exp}
use Rattle.goal_rules.specs.Explored.{explored, origin_word, IsLogicalWord}
use Rattle.goal_rules.specs.Answers.{IsAnswerWord}
use Rattle.goal_rules.specs.Meaning.{meaning_of}
use Rattle.job_turns.specs.Works.{AddsWord}
use Rattle.job_turns.proofs.Staying.{small_of}
use Rattle.job_turns.proofs.GroupLemmas.{exploration_of, exploration_adds}
use Rattle.job_turns.proofs.groups.explore_group.Goals as goal

pub explore-requires-clause-goal : goal.explore-requires-clause-goal
explore-requires-clause-goal g c κs within = sym c.requires.goal.number

pub explore-requires-clause-can_next : goal.explore-requires-clause-can_next
explore-requires-clause-can_next g c κs within = (
  c.goals_are_known.ensures.candidates c.args.search.now.query.now (Exp c.args.group) c.requires.goal.is_goal,
  c.requires.at_work.has_job.its.props,
)

pub explore-requires-clause-group : goal.explore-requires-clause-group
explore-requires-clause-group g c κs within =
    let q = c.args.search.now.query.now in
    let group = c.args.group in
    subst (λ (p : Query). IsExploration (meaning_of p) (origin_word q group) (IsLogicalWord q group) explored
    (goal_word (Exp group))) (sym c.requires.at_work.has_job.its.same_query)
    (exploration_of q group (c.explorations_are_known.ensures q c.args.search.now.props.now c.requires.at_work.has_job.its.props
    group
    c.requires.goal.is_goal))

pub explore-requires-clause-answer : goal.explore-requires-clause-answer
explore-requires-clause-answer g c κs within =
    subst (λ (p : Query). IsAnswerWord p (goal_word (Exp c.args.group)) 0 0)
    (sym c.requires.at_work.has_job.its.same_query)
    (record {
      goal = Exp c.args.group;
      names = record { is_goal = c.requires.goal.is_goal; number = refl };
      answer = no_choice;
      is_answer = refl;
      words = (refl, refl);
    })

pub returns-clause-works : goal.returns-clause-works
returns-clause-works g c =
    let q = c.args.search.now.query.now in
    let b = c.args.search.now.board.now in
    let group = c.args.group in
    let right = c.args.turn.now.job.right in
    works_wider (meaning_of q) b.setup.capacity (ExplorationAdds (meaning_of q) (origin_word q group) right.goal)
    (AddsWord q (Exp group)) (exploration_adds q group (c.words_are_known.ensures.children q)
    (small_of c.requires.at_work.has_job.its) right.goal c.requires.goal)
    (hands c.args.turn.now.seat.now) right c.explore.result (hands c.explore.new.seat) c.explore.new.job.right
    (subst (λ (p : Query). Works (meaning_of p) b.setup.capacity
    (ExplorationAdds (meaning_of p) (origin_word q group) right.goal) (hands c.args.turn.now.seat.now) right
    c.explore.result
    (hands c.explore.new.seat) c.explore.new.job.right) c.requires.at_work.has_job.its.same_query
    c.explore.ensures.works)
