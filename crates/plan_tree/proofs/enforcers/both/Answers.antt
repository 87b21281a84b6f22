use Rattle.std.proofs.Common.{◌≡◌, true, false, rules, arith}
use Rattle.request_props.specs.Fitting.{OrderFits}
use Rattle.plan_space.specs.Enforcers.{merges_to}
use Rattle.plan_tree.proofs.Kept.{sort_fits, sort_and_merge_fit}
use Rattle.plan_tree.proofs.enforcers.both.Goals as goal

-- the sort alone
pub returns-then-not-merges_to : goal.returns-then-not-merges_to
returns-then-not-merges_to c =
    let fits : OrderFits c.args.query.now c.args.group c.args.request.order = search rules in
    let sorts : merges_to c.args.request.dist ≡ false = search rules in
    sort_fits c.args.query.now c.args.group c.args.request.dist c.args.request.order c.over-sorted.result
    (λ none. omega arith) fits sorts c.over-sorted.ensures.node c.over-sorted.ensures.below

-- the sort, and the merge
pub returns : goal.returns
returns c =
    let fits : OrderFits c.args.query.now c.args.group c.args.request.order = search rules in
    let merges : merges_to c.args.request.dist ≡ true = search rules in
    sort_and_merge_fit c.args.query.now c.args.group c.args.request.dist c.args.request.order c.over-sorted.result
    c.over.result (λ none. omega arith) fits merges c.over-sorted.ensures.node c.over-sorted.ensures.below
    c.over.ensures.node c.over.ensures.below
