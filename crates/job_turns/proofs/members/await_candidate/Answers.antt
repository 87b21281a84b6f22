-- The goal of a member that may serve is awaited, and else there is no answer.
use Rattle.std.proofs.Common.{◌≡◌, None, refl, inr, inl}
use Rattle.goal_board.specs.Seats.{hands}
use Rattle.xform_rules.specs.Closure.{IsMember}
use Rattle.goal_space.specs.Answers.{IsAnswerTo}
use Rattle.goal_space.specs.Children.{CanServe}
use Rattle.goal_space.specs.declared.goals.GoalKind.{GoalKind}
use Rattle.goal_space.specs.declared.goals.GoalKind.TheVariants.{Opt, OptE}
use Rattle.job_turns.specs.Requests.{IsGoalOfMember, IsBestOfMember}
use Rattle.job_turns.specs.declared.known_best.KnownBest.TheVariants.{Known}
use Rattle.job_turns.proofs.JobHeld.{job_looked}
use Rattle.job_turns.proofs.Finding.{finds_none, finds_looked, looks_choose, chooses_others}
use Rattle.job_turns.proofs.Serving.{best_without, best_with}
use Rattle.job_turns.proofs.members.await_candidate.Goals as goal

pub goal_here-requires-clause-in_range : goal.goal_here-requires-clause-in_range
goal_here-requires-clause-in_range g c =
    (c.goals_are_known.ensures.words c.args.search.now.query.now c.requires.at_work.has_job.its.props.few_lists
    c.requires.at_work.has_job.its.props.few_orders
    (Opt c.args.candidate.now.expr.group c.args.wanted) c.requires.goal.is_goal).1

pub await_best-requires-clause-word : goal.await_best-requires-clause-word
await_best-requires-clause-word g c = c.in-Some.ensures.goal.1

pub returns-in-None-clause-at_work : goal.returns-in-None-clause-at_work
returns-in-None-clause-at_work g c =
    record {
      still = record {
        has_job = job_looked c.args.search.now c.args.turn.now.seat.now c.goal_here.new.seat c.args.turn.now.job
            c.goal_here.ensures.seat c.requires.at_work.has_job c.goal_here.ensures.looks;
        hints = c.requires.at_work.hints;
      };
      same_seat = refl;
      same_hints = refl;
    }

pub returns-in-None-clause-chooses : goal.returns-in-None-clause-chooses
returns-in-None-clause-chooses g c =
    let q = c.args.search.now.query.now in
    let e = c.args.candidate.now.expr in
    let wanted = c.args.wanted in
    let capacity = c.args.search.now.board.now.setup.capacity in
    let v = hands c.args.turn.now.seat.now in
    let none : CanServe (IsMember q) q e.group wanted e → ⊥ = c.in-None.ensures.goal in
    finds_looked q capacity v c.args.turn.now.job.right (IsGoalOfMember q e wanted) (IsBestOfMember q e wanted)
    (Known None) v
    c.args.turn.now.job.right (hands c.goal_here.new.seat)
    (finds_none q capacity v c.args.turn.now.job.right (IsGoalOfMember q e wanted) (IsBestOfMember q e wanted)
    (λ child is. none is.0) None (best_without q e.group wanted (c.answers_are_best.ensures.none q) e none))
    c.goal_here.ensures.looks

pub await_best-requires-clause-at_work : goal.await_best-requires-clause-at_work
await_best-requires-clause-at_work g c =
    record {
      has_job = job_looked c.args.search.now c.args.turn.now.seat.now c.goal_here.new.seat c.args.turn.now.job
          c.goal_here.ensures.seat c.requires.at_work.has_job c.goal_here.ensures.looks;
      hints = c.requires.at_work.hints;
    }

pub await_best-requires-clause-child : goal.await_best-requires-clause-child
await_best-requires-clause-child g c =
    let e = c.args.candidate.now.expr in
    (Opt e.group c.args.wanted, c.requires.goal, inr (inl (e, c.in-Some.ensures.goal.0, refl)))

pub returns-in-Some-clause-chooses : goal.returns-in-Some-clause-chooses
returns-in-Some-clause-chooses g c =
    let q = c.args.search.now.query.now in
    let e = c.args.candidate.now.expr in
    let wanted = c.args.wanted in
    let capacity = c.args.search.now.board.now.setup.capacity in
    let v = hands c.args.turn.now.seat.now in
    let before = c.args.turn.now.job.right in
    let w = hands c.await_best.new.turn.seat.now in
    let after = c.await_best.new.turn.job.right in
    looks_choose q capacity v before (IsGoalOfMember q e wanted) (IsBestOfMember q e wanted)
    (hands c.goal_here.new.seat)
    c.goal_here.ensures.looks c.await_best.result w after
    (chooses_others q capacity (hands c.goal_here.new.seat) before (λ (child : GoalKind). child ≡ OptE e wanted)
    (IsGoalOfMember q e wanted) (IsAnswerTo q (OptE e wanted)) (IsBestOfMember q e wanted)
    (λ child is. is.1) (best_with q e.group wanted e) c.await_best.result w after c.await_best.ensures.chooses)
