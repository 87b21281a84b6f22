use Rattle.std.proofs.Common.{◌+◌, arith}
use Rattle.plan_tree.proofs.ModesTried.{all_below}
use Rattle.goal_children.specs.Choices.{IsOfAlternatives, IsOfMode, IsOfModesBelow}
use Rattle.goal_children.proofs.Alternatives.{mode_there, mode_cases, mode_asks, asks_among}
use Rattle.goal_children.proofs.Inserting.{inserts_as, inserts_more, inserts_nothing}
use Rattle.goal_children.proofs.asked.insert_asked.Goals as goal

-- no mode is below the first
pub modes-init : goal.modes-init
modes-init c = inserts_nothing (IsOfModesBelow c.args.memo.query.now c.args.e c.args.wanted 0) c.args.goals.now.items
    (λ k (mode, less, is). omega (arith, less))

-- one more mode that has a line
pub modes-preserved : goal.modes-preserved
modes-preserved c =
    let q = c.args.memo.query.now in
    let next = c.in-Some.ensures in
    let from = c.modes.from in
    let mode = c.in-Some.mode in
    inserts_more (IsOfModesBelow q c.args.e c.args.wanted from) (IsOfMode q c.args.e c.args.wanted mode)
    (IsOfModesBelow q c.args.e c.args.wanted (mode + 1))
    c.args.goals.now.items c.modes.goals.items c.insert_in_mode.new.goals.items
    (mode_there q c.args.e c.args.wanted 0 from mode next.0 next.2)
    (mode_cases q c.args.e c.args.wanted 0 from mode next.0 next.2) c.modes.invariant c.in_ok-insert_in_mode.ensures.ok

-- no mode is left
pub returns : goal.returns
returns c =
    let q = c.args.memo.query.now in
    let all = all_below q c.args.e c.args.wanted c.modes.from c.in_default.ensures in
    record {
      ok = inserts_as (IsOfModesBelow q c.args.e c.args.wanted c.modes.from) (IsOfAlternatives q c.args.e c.args.wanted)
          c.args.goals.now.items c.modes.goals.items
          (mode_asks q c.args.e c.args.wanted 0 c.modes.from) (asks_among q c.args.e c.args.wanted 0 c.modes.from all)
          c.modes.invariant;
    }
