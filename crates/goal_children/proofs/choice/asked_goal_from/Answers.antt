use Rattle.std.proofs.Common.{arith}
use Rattle.plan_tree.proofs.ModesTried.{all_below}
use Rattle.goal_children.specs.Choices.{IsOfModesBelow}
use Rattle.goal_children.proofs.Alternatives.{no_modes, mode_more, all_modes}
use Rattle.goal_children.proofs.Finds.{found_in_range}
use Rattle.goal_children.proofs.choice.asked_goal_from.Goals as goal

pub modes-init : goal.modes-init
modes-init c = record {
  within = omega arith;
  finds = no_modes c.args.memo.query.now c.args.e c.args.wanted c.args.bound;
}

pub sooner-next-requires-clause-a : goal.sooner-next-requires-clause-a
sooner-next-requires-clause-a c =
    found_in_range (IsOfModesBelow c.args.memo.query.now c.args.e c.args.wanted c.modes.from) c.args.bound c.modes.next
    c.modes.invariant.finds

pub sooner-next-requires-clause-b : goal.sooner-next-requires-clause-b
sooner-next-requires-clause-b c = found_in_range _ c.args.bound c.goal_in_mode.result c.goal_in_mode.ensures

-- one more mode that has a line
pub modes-preserved : goal.modes-preserved
modes-preserved c =
    let step = c.in-Some.ensures in
    record {
      within = omega (arith, step.1);
      finds = mode_more c.args.memo.query.now c.args.e c.args.wanted c.args.bound c.modes.from c.in-Some.mode step.0
          step.2 c.modes.next c.goal_in_mode.result
          c.sooner-next.result c.sooner-next.ensures c.modes.invariant.finds c.goal_in_mode.ensures;
    }

-- no mode is left
pub returns : goal.returns
returns c =
    let q = c.args.memo.query.now in
    all_modes q c.args.e c.args.wanted c.args.bound c.modes.from c.modes.next
    (all_below q c.args.e c.args.wanted c.modes.from c.in_default.ensures) c.modes.invariant.finds
