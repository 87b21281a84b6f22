-- The line of the plan's root comes behind those of the plans below it, the right ones first.
use Rattle.std.proofs.Common.{rules}
use Rattle.std.proofs.lemmas.Result.{on_ok_weaker}
use Rattle.plan_lines.specs.Gathered.{IsKidOf}
use Rattle.plan_lines.proofs.Gathered.{leaf_plan, over_plan, two_plan}
use Rattle.text_check.specs.OwnLines.{AddsLines}
use Rattle.text_check.proofs.OwnLines.{root_first}
use Rattle.text_check.proofs.own.+push_lines.Goals as goal

-- the root stands over none
pub returns-in-Leaf-clause-added : goal.returns-in-Leaf-clause-added
returns-in-Leaf-clause-added t c =
    let q = c.args.query.now in
    on_ok_weaker c.push_line.result
    (leaf_plan q _ _ _ (root_first q) c.args.plan.now c.in-Leaf.node _ _ c.in-Leaf.is)
    c.push_line.ensures.added

-- the root stands over one plan
pub returns-in_ok-only-in-Over-clause-added : goal.returns-in_ok-only-in-Over-clause-added
returns-in_ok-only-in-Over-clause-added t c =
    let q = c.args.query.now in
    let kid = c.in-Over.kid.value in
    let is : IsKidOf q kid c.in_ok-only-in-Over.only = search rules in
    let first : AddsLines q kid c.args.lines.now.items c.push_lines.new.lines.items = search rules in
    on_ok_weaker c.push_line-in-Over.result
    (over_plan q _ _ _ (root_first q) c.args.plan.now c.in-Over.node _ kid c.in_ok-only-in-Over.only _ _ _ c.in-Over.is
    is first)
    c.push_line-in-Over.ensures.added

-- the root stands over two plans
pub returns-in_ok-first-in-Two-clause-added : goal.returns-in_ok-first-in-Two-clause-added
returns-in_ok-first-in-Two-clause-added t c =
    let q = c.args.query.now in
    let left = c.in-Two.left.value in
    let right = c.in-Two.right.value in
    let halfway = c.push_lines-in-Two.new.lines.items in
    let first : IsKidOf q left c.in_ok-first-in-Two.first = search rules in
    let second : IsKidOf q right c.in_ok-second-in-Two.second = search rules in
    let last : AddsLines q right c.args.lines.now.items halfway = search rules in
    let next : AddsLines q left halfway c.push_lines-in-Two-2.new.lines.items = search rules in
    on_ok_weaker c.push_line-in-Two.result
    (two_plan q _ _ _ (root_first q) c.args.plan.now c.in-Two.node _ left _ right c.in_ok-first-in-Two.first
    c.in_ok-second-in-Two.second _ _ _ _ c.in-Two.is first second last next)
    c.push_line-in-Two.ensures.added
