-- Once the group is explored all its logical members are found, and once they are implemented all others are there.
use Rattle.std.proofs.Common.{refl, sym, subst, inl}
use Rattle.goal_board.specs.Seats.{hands}
use Rattle.goal_space.specs.declared.goals.GoalKind.TheVariants.{Imp}
use Rattle.goal_space.specs.Entries.{NamesGoal, IsEntry, IsChildWord}
use Rattle.goal_rules.specs.Explored.{IsLogicalWord}
use Rattle.goal_rules.specs.Meaning.{meaning_of}
use Rattle.query_core.specs.declared.query.Query.{Query}
use Rattle.board_moves.specs.Moves.{RunsOut}
use Rattle.board_moves.specs.Passes.{AwaitsAll}
use Rattle.board_moves.proofs.MovesLemmas.{runs_out_then}
use Rattle.job_turns.specs.Groups.{implemented}
use Rattle.job_turns.proofs.Staying.{small_of}
use Rattle.job_turns.proofs.GroupLemmas.{some_logical}
use Rattle.job_turns.proofs.ImplementLemmas.{implements_child, implement_works}
use Rattle.job_turns.proofs.Promises.{runs_out, goes_on}
use Rattle.job_turns.proofs.groups.implement_group.Goals as goal

pub await_goal-requires-clause-child : goal.await_goal-requires-clause-child
await_goal-requires-clause-child g c = (Imp c.args.group, c.requires.goal, inl refl)

pub returns-in-Full-clause-works : goal.returns-in-Full-clause-works
returns-in-Full-clause-works g c =
    let q = c.args.search.now.query.now in
    runs_out q (c.words_are_known.ensures.children q) (small_of c.requires.at_work.has_job.its) (Imp c.args.group)
    c.args.search.now.board.now.setup.capacity (hands c.args.turn.now.seat.now) c.args.turn.now.job.right
    (hands c.await_goal.new.turn.seat.now)
    c.await_goal.new.turn.job.right c.requires.goal
    c.in-Full.ensures.awaits

pub returns-in-Waiting-clause-works : goal.returns-in-Waiting-clause-works
returns-in-Waiting-clause-works g c =
    let q = c.args.search.now.query.now in
    let waits = c.in-Waiting.ensures.awaits in (
      goes_on q (c.words_are_known.ensures.children q) (small_of c.requires.at_work.has_job.its) (Imp c.args.group)
          (hands c.args.turn.now.seat.now) c.args.turn.now.job.right (hands c.await_goal.new.turn.seat.now)
          c.await_goal.new.turn.job.right
          c.requires.goal waits.0,
      waits.1,
    )

pub await_found-requires-clause-words : goal.await_found-requires-clause-words
await_found-requires-clause-words g c κs within = (
  c.goals_are_known.ensures.candidates c.args.search.now.query.now (Imp c.args.group) c.requires.goal.is_goal,
  c.requires.at_work.has_job.its.props,
)

pub await_found-requires-clause-some_word : goal.await_found-requires-clause-some_word
await_found-requires-clause-some_word g c κs within = some_logical c.args.search.now.query.now c.args.group

pub await_found-requires-clause-children : goal.await_found-requires-clause-children
await_found-requires-clause-children g c κs within = λ word is.
    let q = c.args.search.now.query.now in
    let same = c.requires.at_work.has_job.its.same_query in
    let named : NamesGoal q c.await_goal.new.turn.job.right.goal (Imp c.args.group) =
    subst (λ k. NamesGoal q k (Imp c.args.group)) (sym c.in-Complete.ensures.awaits.0.same_goal) c.requires.goal in
    subst (λ (p : Query). IsChildWord p c.await_goal.new.turn.job.right.goal (implemented word)) (sym same)
    (implements_child q c.args.group (c.entries_are_known.ensures.members q) c.await_goal.new.turn.job.right.goal named
    word
    is.0 (subst (λ (p : Query). IsEntry p word) same is.1))

pub returns-in-Some-clause-works : goal.returns-in-Some-clause-works
returns-in-Some-clause-works g c =
    let q = c.args.search.now.query.now in
    let b = c.args.search.now.board.now in
    let known = c.results_are_known.ensures in
    implement_works q c.args.group (record {
      applies = known.applies q;
      group = known.group q;
      logical = known.logical q;
      explored = known.explored q;
    }) (c.members_are_candidates.ensures q)
    (c.words_are_known.ensures.children q)
    (c.words_are_known.ensures.asked q) (small_of c.requires.at_work.has_job.its) b.setup.capacity (hands c.args.turn.now.seat.now)
    (hands c.await_goal.new.turn.seat.now) (hands c.await_found.new.seat) c.args.turn.now.job.right
    c.await_goal.new.turn.job.right
    c.await_found.new.job.right c.in-Some.field-0 c.progress.result
    c.requires.goal c.in-Complete.ensures.awaits.0 c.in-Complete.ensures.awaits.2.finished
    (subst (λ (p : Query). AwaitsAll (meaning_of p) b.setup.capacity (hands c.await_goal.new.turn.seat.now)
    (IsLogicalWord q c.args.group) implemented c.await_goal.new.turn.job.right c.in-Some.field-0
    (hands c.await_found.new.seat) c.await_found.new.job.right)
    c.requires.at_work.has_job.its.same_query c.in-Some.ensures.awaits)
    c.progress.ensures

pub returns-in-None-clause-works : goal.returns-in-None-clause-works
returns-in-None-clause-works g c =
    let q = c.args.search.now.query.now in
    let b = c.args.search.now.board.now in
    let here = subst (λ (p : Query). RunsOut (IsChildWord p c.await_goal.new.turn.job.right.goal)
    (hands c.await_goal.new.turn.seat.now) c.await_goal.new.turn.job.right b.setup.capacity
    (hands c.await_found.new.seat)
    c.await_found.new.job.right) c.requires.at_work.has_job.its.same_query c.in-None.ensures.awaits in
    let first = c.in-Complete.ensures.awaits.0 in
    runs_out q (c.words_are_known.ensures.children q) (small_of c.requires.at_work.has_job.its) (Imp c.args.group)
    b.setup.capacity (hands c.args.turn.now.seat.now) c.args.turn.now.job.right (hands c.await_found.new.seat)
    c.await_found.new.job.right c.requires.goal
    (runs_out_then (IsChildWord q c.args.turn.now.job.right.goal) b.setup.capacity (hands c.args.turn.now.seat.now)
    c.args.turn.now.job.right
    (hands c.await_goal.new.turn.seat.now) c.await_goal.new.turn.job.right (hands c.await_found.new.seat)
    c.await_found.new.job.right first
    (subst (λ k. RunsOut (IsChildWord q k) (hands c.await_goal.new.turn.seat.now) c.await_goal.new.turn.job.right
    b.setup.capacity
    (hands c.await_found.new.seat) c.await_found.new.job.right) first.same_goal here))
