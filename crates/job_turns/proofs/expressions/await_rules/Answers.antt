-- One rule more.
use Rattle.std.proofs.Common.{◌+◌, ◌⊎◌, get_or, sym, subst, arith}
use Rattle.xform_rules.specs.declared.rules.Rule.TheVariants.{ExpandNAry}
use Rattle.goal_board.specs.Seats.{hands}
use Rattle.goal_space.specs.Phases.{IsOfRule, IsRuleAt}
use Rattle.goal_space.specs.declared.goals.GoalKind.{GoalKind}
use Rattle.job_turns.specs.Works.{IsChildOf}
use Rattle.job_turns.proofs.Staying.{stays_at_first, stays_then}
use Rattle.job_turns.proofs.Awaited.{IsRuleBefore, rule_more, each_rule, has_none, has_both, has_others, runs_out_after}
use Rattle.job_turns.proofs.expressions.await_rules.Goals as goal

pub loop-rule-init : goal.loop-rule-init
loop-rule-init g c = record {
  at_work = stays_at_first c.args.search.now c.args.turn.now _ c.requires.at_work;
  awaited = has_none c.args.search.now.query.now c.args.search.now.board.now.setup.capacity
      (hands c.args.turn.now.seat.now)
      c.args.turn.now.job.right
      (IsRuleBefore c.args.search.now.query.now c.args.phase c.args.e c.rules_to_try-rules.result.now 0)
      (λ child is. let none = is.1 in
      absurd (omega arith));
}

pub await_rule-requires-clause-word : goal.await_rule-requires-clause-word
await_rule-requires-clause-word g c = record {
  packed = c.requires.packed;
  number = sym c.make-word.ensures.number;
}

pub await_rule-requires-clause-children : goal.await_rule-requires-clause-children
await_rule-requires-clause-children g c = λ child is.
    subst (λ k. IsChildOf c.args.search.now.query.now k child) (sym c.loop-rule.invariant.awaited.proceeds.same_goal)
    (c.requires.children child (get_or c.rules_to_try-rules.result.now c.loop-rule.rule-index ExpandNAry, is))

pub returns-then-not-await_rule-clause-awaits : goal.returns-then-not-await_rule-clause-awaits
returns-then-not-await_rule-clause-awaits g c =
    runs_out_after c.args.search.now.query.now c.args.search.now.board.now.setup.capacity
    (hands c.args.turn.now.seat.now)
    c.args.turn.now.job.right
    (IsRuleBefore c.args.search.now.query.now c.args.phase c.args.e c.rules_to_try-rules.result.now
    c.loop-rule.rule-index)
    (hands c.loop-rule.turn.seat.now) c.loop-rule.turn.job.right
    (hands c.await_rule.new.turn.seat.now) c.await_rule.new.turn.job.right c.loop-rule.invariant.awaited
    c.if-not-await_rule.ensures.awaits

pub loop-rule-preserved : goal.loop-rule-preserved
loop-rule-preserved g c =
    let q = c.args.search.now.query.now in
    let b = c.args.search.now.board.now in
    let rules = c.rules_to_try-rules.result.now in
    let place = c.loop-rule.rule-index in
    let before = IsRuleBefore q c.args.phase c.args.e rules place in
    let here : GoalKind → Type 0 = IsOfRule q c.args.phase c.args.e (get_or rules place ExpandNAry) in
    record {
      at_work = stays_then c.args.search.now c.args.turn.now c.loop-rule.turn c.await_rule.new.turn _ _
          c.loop-rule.invariant.at_work c.await_rule.ensures.at_work;
      awaited = has_others q b.setup.capacity (hands c.args.turn.now.seat.now) c.args.turn.now.job.right
          (λ child. before child ⊎ here child) (IsRuleBefore q c.args.phase c.args.e rules (place + 1))
          (rule_more q c.args.phase c.args.e rules place)
          (hands c.await_rule.new.turn.seat.now) c.await_rule.new.turn.job.right
          (has_both q b.setup.capacity (hands c.args.turn.now.seat.now) c.args.turn.now.job.right before here
          (hands c.loop-rule.turn.seat.now)
          c.loop-rule.turn.job.right (hands c.await_rule.new.turn.seat.now) c.await_rule.new.turn.job.right
          c.loop-rule.invariant.awaited
          c.if-not-await_rule.ensures.awaits);
    }

pub returns-clause-awaits : goal.returns-clause-awaits
returns-clause-awaits g c =
    let q = c.args.search.now.query.now in
    let b = c.args.search.now.board.now in
    has_others q b.setup.capacity (hands c.args.turn.now.seat.now) c.args.turn.now.job.right
    (IsRuleBefore q c.args.phase c.args.e c.rules_to_try-rules.result.now c.loop-rule.rule-index)
    (IsRuleAt q c.args.phase c.args.e)
    (λ child is. each_rule q c.args.phase c.args.e c.rules_to_try-rules.result.now c.loop-rule.rule-index child
    (c.rules_to_try-rules.ensures.every q) c.loop-rule-test.false is)
    (hands c.loop-rule.turn.seat.now) c.loop-rule.turn.job.right c.loop-rule.invariant.awaited
