-- The node of the plan's root comes behind those of the plans below it, the right ones first.
use Rattle.std.proofs.Common.{suc, rules}
use Rattle.std.proofs.lemmas.Result.{on_ok_weaker}
use Rattle.plan_lines.specs.Gathered.{IsKidOf}
use Rattle.plan_lines.proofs.Gathered.{leaf_plan, over_plan, two_plan}
use Rattle.planner.specs.Adding.{AddsNodes}
use Rattle.planner.proofs.Adding.{root_first}
use Rattle.planner.proofs.nodes.+push_plan.Goals as goal

-- the root stands over none
pub returns-in-Leaf-clause-added : goal.returns-in-Leaf-clause-added
returns-in-Leaf-clause-added t c =
    let q = c.args.query.now in
    on_ok_weaker c.push_node.result
    (leaf_plan q _ _ _ (root_first q c.args.depth) c.args.plan.now c.in-Leaf.node _ _ c.in-Leaf.is)
    c.push_node.ensures.added

-- the root stands over one plan
pub returns-in_ok-only-in-Over-clause-added : goal.returns-in_ok-only-in-Over-clause-added
returns-in_ok-only-in-Over-clause-added t c =
    let q = c.args.query.now in
    let kid = c.in-Over.kid.value in
    let is : IsKidOf q kid c.in_ok-only-in-Over.only = search rules in
    let first : AddsNodes q (suc c.args.depth) kid c.args.nodes.now.items c.push_plan.new.nodes.items = search rules in
    on_ok_weaker c.push_node-in-Over.result
    (over_plan q _ _ _ (root_first q c.args.depth) c.args.plan.now c.in-Over.node _ kid c.in_ok-only-in-Over.only _ _ _
    c.in-Over.is is first)
    c.push_node-in-Over.ensures.added

-- the root stands over two plans
pub returns-in_ok-first-in-Two-clause-added : goal.returns-in_ok-first-in-Two-clause-added
returns-in_ok-first-in-Two-clause-added t c =
    let q = c.args.query.now in
    let left = c.in-Two.left.value in
    let right = c.in-Two.right.value in
    let halfway = c.push_plan-in-Two.new.nodes.items in
    let first : IsKidOf q left c.in_ok-first-in-Two.first = search rules in
    let second : IsKidOf q right c.in_ok-second-in-Two.second = search rules in
    let last : AddsNodes q (suc c.args.depth) right c.args.nodes.now.items halfway = search rules in
    let next : AddsNodes q (suc c.args.depth) left halfway c.push_plan-in-Two-2.new.nodes.items = search rules in
    on_ok_weaker c.push_node-in-Two.result
    (two_plan q _ _ _ (root_first q c.args.depth) c.args.plan.now c.in-Two.node _ left _ right
    c.in_ok-first-in-Two.first c.in_ok-second-in-Two.second _ _ _ _ c.in-Two.is first second last next)
    c.push_node-in-Two.ensures.added
