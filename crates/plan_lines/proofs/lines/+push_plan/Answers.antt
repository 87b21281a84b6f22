-- The line of the plan's root comes behind those of the plans below it, the right ones first.
use Rattle.std.proofs.Common.{◌≡◌, ◌++◌, rules}
use Rattle.std.proofs.lemmas.Result.{on_ok_weaker}
use Rattle.std.specs.Prelude.{codes}
use Rattle.plan_lines.specs.Gathered.{IsKidOf}
use Rattle.plan_lines.specs.Lines.{AddsLines}
use Rattle.plan_lines.proofs.Following.{over_follows, two_follows}
use Rattle.plan_lines.proofs.lines.+push_plan.Goals as goal

-- the root stands over one plan
pub returns-in_ok-only-in-Over-clause-added : goal.returns-in_ok-only-in-Over-clause-added
returns-in_ok-only-in-Over-clause-added t c =
    let q = c.args.query.now in
    let kid = c.in-Over.kid.value in
    let deeper = c.deref.result.now in
    let deepens : deeper ≡ c.args.indent.now ++ codes "  " = search rules in
    let is : IsKidOf q kid c.in_ok-only-in-Over.only = search rules in
    let first : AddsLines q deeper kid c.args.text.now.items c.push_plan.new.text.items = search rules in
    on_ok_weaker c.push_node-in-Over.result
    (over_follows q c.args.indent.now deeper deepens c.args.plan.now c.in-Over.node _ kid c.in_ok-only-in-Over.only
    _ _ _ c.in-Over.is is first)
    c.push_node-in-Over.ensures.added

-- the root stands over two plans
pub returns-in_ok-first-in-Two-clause-added : goal.returns-in_ok-first-in-Two-clause-added
returns-in_ok-first-in-Two-clause-added t c =
    let q = c.args.query.now in
    let left = c.in-Two.left.value in
    let right = c.in-Two.right.value in
    let deeper = c.deref-in-Two.result.now in
    let deepens : deeper ≡ c.args.indent.now ++ codes "  " = search rules in
    let halfway = c.push_plan-in-Two.new.text.items in
    let first : IsKidOf q left c.in_ok-first-in-Two.first = search rules in
    let second : IsKidOf q right c.in_ok-second-in-Two.second = search rules in
    let last : AddsLines q deeper right c.args.text.now.items halfway = search rules in
    let next : AddsLines q deeper left halfway c.push_plan-in-Two-2.new.text.items = search rules in
    on_ok_weaker c.push_node-in-Two.result
    (two_follows q c.args.indent.now deeper deepens c.args.plan.now c.in-Two.node _ left _ right
    c.in_ok-first-in-Two.first c.in_ok-second-in-Two.second _ _ _ _ c.in-Two.is first second last next)
    c.push_node-in-Two.ensures.added
