-- First the enforcers, then the members, which together are all nodes that may serve.
use Rattle.std.proofs.Common.{ℕ, sym, subst, inl, inr, ⊎_elim}
use Rattle.best_answers.specs.Best.{IsBest}
use Rattle.best_answers.specs.Nodes.{all_nodes}
use Rattle.board_moves.proofs.Shown.{still_finished}
use Rattle.board_moves.proofs.MovesLemmas.{later_proceeded}
use Rattle.goal_board.specs.Seats.{hands}
use Rattle.goal_space.specs.Entries.{NamesGoal, IsChildWord}
use Rattle.goal_space.specs.Words.{goal_word}
use Rattle.goal_space.specs.declared.goals.GoalKind.TheVariants.{Imp, Opt}
use Rattle.goal_rules.specs.Meaning.{meaning_of}
use Rattle.job_turns.specs.Choices.{FindsBest}
use Rattle.job_turns.specs.Requests.{IsMemberGoal, IsBestOfMembers, IsEnforcerGoal, IsPlanGoal, first_enforcers}
use Rattle.job_turns.specs.declared.known_best.KnownBest.{KnownBest}
use Rattle.job_turns.proofs.Finding.{chooses_none, finds_both, finds_others}
use Rattle.job_turns.proofs.Serving.{best_of_all}
use Rattle.job_turns.proofs.requests.best_plan.Goals as goal

pub best_member-requires-clause-goal : goal.best_member-requires-clause-goal
best_member-requires-clause-goal g c =
    subst (λ (word : ℕ). NamesGoal c.args.search.now.query.now word (Opt c.args.group c.args.wanted))
    (sym c.in_ok-enforced.ensures.chooses.awaited.proceeds.same_goal) c.requires.goal

pub best_member-requires-clause-implemented : goal.best_member-requires-clause-implemented
best_member-requires-clause-implemented g c =
    let q = c.args.search.now.query.now in
    record {
      is_goal = c.requires.implemented.is_goal;
      finished = still_finished (meaning_of q) c.args.search.now.board.now.setup.capacity
          (hands c.args.turn.now.seat.now).looks
          (hands c.best_enforcer.new.turn.seat.now).looks
          (later_proceeded (IsChildWord q c.args.turn.now.job.right.goal) (hands c.args.turn.now.seat.now)
          c.args.turn.now.job.right
          (hands c.best_enforcer.new.turn.seat.now) c.best_enforcer.new.turn.job.right
          c.in_ok-enforced.ensures.chooses.awaited.proceeds)
          (goal_word (Imp c.args.group)) c.requires.implemented.finished;
    }

pub returns-in_err-member-clause-chooses : goal.returns-in_err-member-clause-chooses
returns-in_err-member-clause-chooses g c =
    let q = c.args.search.now.query.now in
    rw c.from_residual-in_err-member.ensures
    (chooses_none q c.args.search.now.board.now.setup.capacity (hands c.args.turn.now.seat.now)
    c.args.turn.now.job.right
    (IsEnforcerGoal q c.args.group c.args.wanted)
    (IsBest q c.args.group c.args.wanted (first_enforcers c.args.wanted)) c.in_ok-enforced.enforced
    (hands c.best_enforcer.new.turn.seat.now) c.best_enforcer.new.turn.job.right (hands c.best_member.new.turn.seat.now)
    c.best_member.new.turn.job.right c.in_ok-enforced.ensures.chooses c.in_err-member.ensures.chooses)

pub returns-clause-chooses : goal.returns-clause-chooses
returns-clause-chooses g c =
    let q = c.args.search.now.query.now in
    let b = c.args.search.now.board.now in
    let group = c.args.group in
    let wanted = c.args.wanted in
    let v = hands c.args.turn.now.seat.now in
    let start = c.args.turn.now.job.right in
    let w = hands c.best_member.new.turn.seat.now in
    let after = c.best_member.new.turn.job.right in
    let fits = c.goals_are_known.ensures.requests q (Opt group wanted) c.requires.goal.is_goal in
    let both = finds_both q b.setup.capacity v start (IsEnforcerGoal q group wanted) (IsMemberGoal q group wanted)
    (IsBest q group wanted (first_enforcers wanted)) (IsBestOfMembers q group wanted)
    (IsBest q group wanted all_nodes)
    (best_of_all q group wanted (c.answers_are_best.ensures.lesser q) (c.answers_are_best.ensures.covered q)
    c.args.search.now.props.now c.requires.at_work.has_job.its.props fits) c.in_ok-enforced.enforced c.in_ok-member.member
    (hands c.best_enforcer.new.turn.seat.now) c.best_enforcer.new.turn.job.right w after
    c.in_ok-enforced.ensures.chooses
    c.in_ok-member.ensures.chooses in
    subst (λ (known_best : KnownBest). FindsBest q b.setup.capacity v start (IsPlanGoal q group wanted)
    (IsBest q group wanted all_nodes) known_best w after) (sym c.or.ensures)
    (finds_others q b.setup.capacity v start _ (IsPlanGoal q group wanted) (IsBest q group wanted all_nodes)
    (IsBest q group wanted all_nodes)
    (λ child is. ⊎_elim (λ (member : IsMemberGoal q group wanted child). inr member)
    (λ (enforced : IsEnforcerGoal q group wanted child). inl enforced) is) (λ best is. is) _ w after both)
