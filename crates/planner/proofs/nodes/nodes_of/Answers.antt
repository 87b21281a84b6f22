-- the nodes were put behind none, the last one first
use Rattle.std.proofs.Common.{◌≡◌, ◌++◌, List, ap, ◌∙◌, reverse, arith}
use Rattle.std.proofs.lemmas.Grind.{common_steps}
use Rattle.std.proofs.lemmas.List.{reverse-reverse}
use Rattle.plan_lines.proofs.Groups.{valid_groups}
use Rattle.planner.specs.Nodes.{nodes_of}
use Rattle.planner.specs.declared.node.PlanNode.{PlanNode}
use Rattle.planner.proofs.nodes.nodes_of.Goals as goal

pub returns : goal.returns
returns c = λ tree spells valid.
    let q = c.args.query.now in
    let has = valid_groups q (c.members_are_candidates.ensures q) tree valid in
    let behind : List PlanNode = c.push_plan.new.nodes.items in
    let turned : c.of.result ≡ reverse behind = grind (arith, common_steps) in
    let added : behind ≡ reverse (nodes_of q tree) = c.in_ok-push_plan.ensures.added tree spells has
    ∙ ap (λ (before : List PlanNode). before ++ reverse (nodes_of q tree)) c.new-nodes.ensures.items in
    turned ∙ ap reverse added ∙ reverse-reverse (nodes_of q tree)
