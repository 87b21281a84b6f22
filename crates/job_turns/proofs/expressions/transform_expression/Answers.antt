-- The goals of the children's groups and of the rules are all children that the goal has.
use Rattle.std.proofs.Common.{◌⊎◌, sym, subst, inl, inr, ⊎_elim}
use Rattle.goal_board.specs.Seats.{hands}
use Rattle.goal_space.specs.Phases.{phase_goal_of_expr, IsRuleAt}
use Rattle.goal_space.proofs.Phases.{children_in_phase, asks_for_none, chooses_none}
use Rattle.xform_rules.specs.Closure.{IsMember}
use Rattle.job_turns.specs.Works.{IsChildOf, IsOneOf}
use Rattle.job_turns.proofs.GoalsHeld.{has_word, packed_in_phase}
use Rattle.job_turns.proofs.Staying.{small_of}
use Rattle.job_turns.proofs.Awaited.{has_both, runs_out_after}
use Rattle.job_turns.proofs.Promises.{runs_out, works_of_children}
use Rattle.job_turns.proofs.expressions.transform_expression.Goals as goal

pub await_both-requires-clause-children : goal.await_both-requires-clause-children
await_both-requires-clause-children g c = λ child is.
    let q = c.args.search.now.query.now in (
      phase_goal_of_expr c.args.phase c.args.e,
      c.requires.goal,
      (children_in_phase q (IsMember q) c.args.phase c.args.e child).1
          (inl ((c.group_goals-groups.ensures child).0 is)),
    )

pub returns-then-not-await_both-clause-works : goal.returns-then-not-await_both-clause-works
returns-then-not-await_both-clause-works g c =
    let q = c.args.search.now.query.now in
    runs_out q (c.words_are_known.ensures.children q) (small_of c.requires.at_work.has_job.its)
    (phase_goal_of_expr c.args.phase c.args.e) c.args.search.now.board.now.setup.capacity
    (hands c.args.turn.now.seat.now)
    c.args.turn.now.job.right
    (hands c.await_both.new.turn.seat.now) c.await_both.new.turn.job.right c.requires.goal
    c.if-not-await_both.ensures.awaits

pub await_rules-requires-clause-packed : goal.await_rules-requires-clause-packed
await_rules-requires-clause-packed g c =
    let q = c.args.search.now.query.now in
    packed_in_phase c.args.phase c.args.e
    (has_word q (c.goals_are_known.ensures.words q) (small_of c.requires.at_work.has_job.its)
    c.args.turn.now.job.right.goal (phase_goal_of_expr c.args.phase c.args.e, c.requires.goal)).in_range

pub await_rules-requires-clause-children : goal.await_rules-requires-clause-children
await_rules-requires-clause-children g c = λ child is.
    let q = c.args.search.now.query.now in
    subst (λ k. IsChildOf q k child) (sym c.if-not-await_both.ensures.awaits.proceeds.same_goal) (
      phase_goal_of_expr c.args.phase c.args.e,
      c.requires.goal,
      (children_in_phase q (IsMember q) c.args.phase c.args.e child).1 (inr is),
    )

pub returns-then-not-await_rules-clause-works : goal.returns-then-not-await_rules-clause-works
returns-then-not-await_rules-clause-works g c =
    let q = c.args.search.now.query.now in
    let b = c.args.search.now.board.now in
    runs_out q (c.words_are_known.ensures.children q) (small_of c.requires.at_work.has_job.its)
    (phase_goal_of_expr c.args.phase c.args.e) b.setup.capacity (hands c.args.turn.now.seat.now)
    c.args.turn.now.job.right
    (hands c.await_rules.new.turn.seat.now) c.await_rules.new.turn.job.right c.requires.goal
    (runs_out_after q b.setup.capacity (hands c.args.turn.now.seat.now) c.args.turn.now.job.right
    (IsOneOf c.group_goals-groups.result)
    (hands c.await_both.new.turn.seat.now) c.await_both.new.turn.job.right (hands c.await_rules.new.turn.seat.now)
    c.await_rules.new.turn.job.right c.if-not-await_both.ensures.awaits c.if-not-await_rules.ensures.awaits)

pub returns-clause-works : goal.returns-clause-works
returns-clause-works g c =
    let q = c.args.search.now.query.now in
    let b = c.args.search.now.board.now in
    let phase = c.args.phase in
    let e = c.args.e in
    let groups = IsOneOf c.group_goals-groups.result in
    let rules = IsRuleAt q phase e in
    works_of_children q (c.words_are_known.ensures.children q) (small_of c.requires.at_work.has_job.its)
    (phase_goal_of_expr phase e) (c.words_are_known.ensures.asked q) (asks_for_none q phase e)
    (chooses_none q phase e)
    (λ child. groups child ⊎ rules child)
    (λ child is. ⊎_elim (λ of_group. inl ((c.group_goals-groups.ensures child).1 of_group)) (λ of_rule. inr of_rule)
    ((children_in_phase q (IsMember q) phase e child).0 is))
    b.setup.capacity (hands c.args.turn.now.seat.now) c.args.turn.now.job.right (hands c.await_rules.new.turn.seat.now)
    c.await_rules.new.turn.job.right
    c.progress.result c.requires.goal
    (has_both q b.setup.capacity (hands c.args.turn.now.seat.now) c.args.turn.now.job.right groups rules
    (hands c.await_both.new.turn.seat.now)
    c.await_both.new.turn.job.right (hands c.await_rules.new.turn.seat.now) c.await_rules.new.turn.job.right
    c.if-not-await_both.ensures.awaits c.if-not-await_rules.ensures.awaits)
    c.progress.ensures
