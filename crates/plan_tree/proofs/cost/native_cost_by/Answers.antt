use Rattle.std.proofs.Common.{◌≡◌}
use Rattle.query_core.specs.Expressions.{physical_children}
use Rattle.plan_space.specs.Alternatives.{asked_of}
use Rattle.plan_space.specs.Choices.{groups_of}
use Rattle.plan_tree.proofs.Costs.{first_met, second_met, out_met}
use Rattle.plan_tree.proofs.cost.native_cost_by.Goals as goal

-- the shares are those of plans that give what is asked of them
pub returns-clause-value : goal.returns-clause-value
returns-clause-value c = λ mode is_line line kids is of serve.
    let q = c.args.query.now in
    let agree = c.classes_agree.ensures.met in
    let groups = groups_of (physical_children c.args.expr.operator) in
    let same : c.args.line.now ≡ line = cc (is_line, is.is_line) in
    let first = first_met agree q groups kids (asked_of line c.args.request) of serve in
    let second = second_met agree q groups kids (asked_of line c.args.request) of serve in
    let out = out_met agree q c.args.expr mode line kids c.args.request is of serve in
    cc (c.local.ensures.value, c.native_shape.ensures.value)
