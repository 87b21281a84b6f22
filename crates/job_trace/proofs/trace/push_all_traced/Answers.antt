use Rattle.std.proofs.Common.{◌+◌, List, get_or, map, string_bytes, sym, subst, take}
use Rattle.std.specs.List.{concat}
use Rattle.std.proofs.lemmas.List.{take_all, take_more}
use Rattle.goal_space.specs.declared.goals.GoalKind.{GoalKind}
use Rattle.query_text.specs.Added.{AddsText}
use Rattle.job_trace.specs.Goals.{child_line}
use Rattle.job_trace.specs.GoalLines.{AddsTraced}
use Rattle.job_trace.proofs.Traced.{traced_none, traced_more}
use Rattle.job_trace.proofs.trace.push_all_traced.Goals as goal

pub loop-goal-init : goal.loop-goal-init
loop-goal-init c = record {
  added = traced_none c.args.query.now c.args.members.now (string_bytes c.args.text.now);
  kept = c.in_ok-pieces.ensures.kept c.args.query.now;
  held = c.none-held.ensures c.args.members.now;
}

-- one more goal with its children
pub loop-goal-preserved : goal.loop-goal-preserved
loop-goal-preserved c =
    let q = c.args.query.now in
    let goals = c.args.goals.now in
    let i = c.loop-goal.goal-index in
    let children = c.list_children_by_group.new.list.items in
    let before = string_bytes c.args.text.now in
    let last = string_bytes c.push_child_lines.new.text in
    let added : AddsTraced q c.args.members.now (take (i + 1) goals) before last =
    subst (λ (gs : List GoalKind). AddsTraced q c.args.members.now gs before last)
    (sym (take_more goals i _ c.loop-goal-test.true))
    (traced_more q c.args.members.now (take i goals) (get_or goals i _) children before (string_bytes c.loop-goal.text)
    (string_bytes c.push_goal_line.new.text) last
    c.in_ok-list_children_by_group.ensures.ok c.loop-goal.invariant.added c.in_ok-push_goal_line.ensures.ok
    (subst (λ (cs : List GoalKind). AddsText (string_bytes c.push_goal_line.new.text) (concat (map (child_line q) cs))
    last)
    c.as_slice.ensures.value c.in_ok-push_child_lines.ensures.ok)) in
    record {
      added = added;
      kept = c.in_ok-push_child_lines.ensures.kept;
      held = c.in_ok-list_children_by_group.ensures.held;
    }

pub returns : goal.returns
returns c = record {
  ok = subst (λ (gs : List GoalKind). AddsTraced c.args.query.now c.args.members.now gs (string_bytes c.args.text.now)
      (string_bytes c.loop-goal.text))
      (take_all c.loop-goal.goal-index c.args.goals.now c.loop-goal-test.false) c.loop-goal.invariant.added;
}
