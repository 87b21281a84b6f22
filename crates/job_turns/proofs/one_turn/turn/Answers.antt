-- The turn begins with the claimed right, and ends as its work has come out.
use Rattle.std.proofs.Common.{rules, sym, subst}
use Rattle.query_core.specs.declared.query.Query.{Query}
use Rattle.goal_board.specs.Seats.{hands}
use Rattle.goal_board.specs.declared.board.Right.{Right}
use Rattle.goal_rules.specs.Meaning.{meaning_of}
use Rattle.board_moves.specs.Turns.{MayFinish}
use Rattle.board_moves.proofs.Ending.{ready_after, turns_end}
use Rattle.job_turns.specs.Searches.{HasRight}
use Rattle.job_turns.specs.Turns.{TurnsGoal}
use Rattle.job_turns.specs.Works.{AddsWord}
use Rattle.job_turns.proofs.one_turn.turn.Goals as goal

pub work-progress-requires-clause-at_work : goal.work-progress-requires-clause-at_work
work-progress-requires-clause-at_work g c = record {
  has_job = record {
    its = c.requires.search;
    seat = c.requires.seat;
    right =
        subst (HasRight c.args.search.now.board.now c.args.seat.now) (sym c.of-job.ensures) c.requires.right;
  };
  hints = c.requires.hints;
}

pub end-requires-clause-ready : goal.end-requires-clause-ready
end-requires-clause-ready g c κs within =
    let search = c.args.search.now in
    let after = c.work-progress.new.turn in
    subst (λ (p : Query). MayFinish (meaning_of p) search.board.now.setup.capacity (hands after.seat.now).looks
    after.job.right c.work-progress.result) (sym c.requires.search.same_query)
    (ready_after (meaning_of search.query.now) search.board.now.setup.capacity
    (AddsWord search.query.now c.goal_of-goal.result) (hands c.args.seat.now) c.of-job.result.right
    c.work-progress.result (hands after.seat.now) after.job.right c.work-progress.ensures.works)

-- what was lent to the turn is back: the seat that the end left is the caller's
pub returns-clause-turns : goal.returns-clause-turns
returns-clause-turns g c =
    let q = c.args.search.now.query.now in
    let capacity = c.args.search.now.board.now.setup.capacity in
    let v = hands c.args.seat.now in
    let w = hands c.end.new.seat in
    let after = c.work-progress.new.turn in
    let turned : TurnsGoal q capacity v c.args.right c.args.worker c.end.result w =
    subst (λ (r : Right). TurnsGoal q capacity v r c.args.worker c.end.result w) c.of-job.ensures (record {
      goal = c.goal_of-goal.result;
      names = c.goal_of-goal.ensures;
      turns = turns_end (meaning_of q) capacity (AddsWord q c.goal_of-goal.result) v c.of-job.result.right c.args.worker
          c.work-progress.result (hands after.seat.now) after.job.right c.end.result w c.work-progress.ensures.works
          c.end.ensures.ends;
    }) in
    search rules
