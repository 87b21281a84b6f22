-- The plan is one tree, and what is found out of it is told of the text.
use Rattle.std.proofs.Common.{List, Err, refl, sym, ap, ◌∙◌, subst, arith}
use Rattle.std.specs.List.{All}
use Rattle.text_check.specs.Outcome.{IsMemberLine}
use Rattle.text_check.specs.OwnLines.{IsLineOf}
use Rattle.text_check.specs.declared.own.OwnLine.{OwnLine}
use Rattle.text_check.proofs.Judged.{not_large, not_strange, not_wrong, unfit_small, served, told_unfit, told_unmet}
use Rattle.text_check.proofs.Judged.{told_numbers}
use Rattle.text_check.proofs.PlanNodes.{as_many_lines, own_few, own_known}
use Rattle.text_check.proofs.check.plan_outcome.Goals as goal

-- ---- the plan's own lines

pub first_outside-requires-clause-few : goal.first_outside-requires-clause-few
first_outside-requires-clause-few c =
    let tree = c.requires.spelled in
    own_few c.args.query.now c.args.lines.now.nodes.items tree.0 c.as_slice.result.now tree.2.spelled
    (c.as_slice.ensures.value ∙ c.in_ok-own.ensures tree.0 tree.1 tree.2.is_tree) c.requires.few

pub first_outside-requires-clause-nodes : goal.first_outside-requires-clause-nodes
first_outside-requires-clause-nodes c =
    let q = c.args.query.now in
    let tree = c.requires.spelled in
    let own = c.as_slice.ensures.value ∙ c.in_ok-own.ensures tree.0 tree.1 tree.2.is_tree in
    subst (λ (ls : List OwnLine). All (IsLineOf q) ls) (sym own) (own_known q tree.0 tree.2.is_tree)

pub number_outcome-requires-clause-few : goal.number_outcome-requires-clause-few
number_outcome-requires-clause-few c =
    let tree = c.requires.spelled in
    own_few c.args.query.now c.args.lines.now.nodes.items tree.0 c.as_slice-in-Ok.result.now tree.2.spelled
    (c.as_slice-in-Ok.ensures.value ∙ c.in_ok-own.ensures tree.0 tree.1 tree.2.is_tree) c.requires.few

pub number_outcome-requires-clause-as_many : goal.number_outcome-requires-clause-as_many
number_outcome-requires-clause-as_many c =
    let tree = c.requires.spelled in
    as_many_lines c.args.query.now c.args.lines.now.nodes.items tree.0 c.as_slice-in-Ok.result.now tree.2.spelled
    (c.as_slice-in-Ok.ensures.value ∙ c.in_ok-own.ensures tree.0 tree.1 tree.2.is_tree)

-- ---- what is told

-- the line of an expression that is no member
pub overflow_add-result : goal.overflow_add-result
overflow_add-result c =
    let tree = c.requires.spelled in
    let few = own_few c.args.query.now c.args.lines.now.nodes.items tree.0 c.as_slice.result.now tree.2.spelled
    (c.as_slice.ensures.value ∙ c.in_ok-own.ensures tree.0 tree.1 tree.2.is_tree) c.requires.few in
    let within = c.in-Some.ensures.within in
    omega (arith, few, within)

-- the cost, or the line of a number that isn't the plan's own
pub returns-in-Ok : goal.returns-in-Ok
returns-in-Ok c = λ text has.
    let q = c.args.query.now in
    let tree = c.requires.spelled in
    let own = c.in_ok-own.ensures tree.0 tree.1 tree.2.is_tree in
    let members = subst (λ (ls : List OwnLine). All (IsMemberLine q) ls) (c.as_slice.ensures.value ∙ own)
    c.in_default.ensures.first in
    let lines = c.args.lines.now.nodes.items in
    let asked = c.args.props.now.root in
    let is_root = c.root_request_is_collected.ensures q c.args.props.now c.requires.props in
    let good = (c.check_plan.ensures.ok c.in-Ok.cost).0 c.in-Ok.is in
    told_numbers q c.nodes_are_one.ensures c.args.plan.now tree.0 tree.1 lines c.requires.few tree.2 members asked is_root text
    c.args.lines.now.cost has (c.plans_are_read.ensures.read q) (c.plans_are_read.ensures.spelled q) c.in-Ok.cost
    c.as_slice-in-Ok.result.now (c.as_slice-in-Ok.ensures.value ∙ own)
    (served q c.nodes_are_one.ensures c.args.plan.now tree.0 tree.1 lines c.requires.few tree.2 members asked is_root
    c.in-Ok.cost good) c.number_outcome.result c.number_outcome.ensures.ok c.number_outcome.ensures.fault

-- the line of the first node that may not stand over its kids
pub overflow_add-result-in-Err-Needs : goal.overflow_add-result-in-Err-Needs
overflow_add-result-in-Err-Needs c =
    let tree = c.requires.spelled in
    let node = c.in-Err-Needs.node in
    let found = (c.check_plan.ensures.needs node).0 (c.in-Err-Needs.is ∙ ap Err c.in-Err-Needs.field-0-is) in
    let small = unfit_small c.args.query.now c.nodes_are_one.ensures c.args.plan.now tree.0 tree.1
    c.args.lines.now.nodes.items c.requires.few tree.2 node found in
    omega (arith, small)

pub returns-in-Err-Needs : goal.returns-in-Err-Needs
returns-in-Err-Needs c = λ text has.
    let q = c.args.query.now in
    let tree = c.requires.spelled in
    let members = subst (λ (ls : List OwnLine). All (IsMemberLine q) ls)
    (c.as_slice.ensures.value ∙ c.in_ok-own.ensures tree.0 tree.1 tree.2.is_tree) c.in_default.ensures.first in
    let node = c.in-Err-Needs.node in
    let found = (c.check_plan.ensures.needs node).0 (c.in-Err-Needs.is ∙ ap Err c.in-Err-Needs.field-0-is) in
    told_unfit q c.nodes_are_one.ensures c.args.plan.now tree.0 tree.1 c.args.lines.now.nodes.items c.requires.few tree.2
    members c.args.props.now.root (c.root_request_is_collected.ensures q c.args.props.now c.requires.props) text
    c.args.lines.now.cost has node _ found refl

-- or that the plan doesn't give what is asked for
pub returns-in-Err-Unsatisfied : goal.returns-in-Err-Unsatisfied
returns-in-Err-Unsatisfied c = λ text has.
    let q = c.args.query.now in
    let tree = c.requires.spelled in
    let members = subst (λ (ls : List OwnLine). All (IsMemberLine q) ls)
    (c.as_slice.ensures.value ∙ c.in_ok-own.ensures tree.0 tree.1 tree.2.is_tree) c.in_default.ensures.first in
    let found = c.check_plan.ensures.unsatisfied.0 (c.in-Err-Unsatisfied.is ∙ ap Err c.in-Err-Unsatisfied.field-0-is) in
    told_unmet q c.nodes_are_one.ensures c.args.plan.now tree.0 tree.1 c.args.lines.now.nodes.items c.requires.few tree.2
    members c.args.props.now.root (c.root_request_is_collected.ensures q c.args.props.now c.requires.props) text
    c.args.lines.now.cost has found

-- ---- the plan is small, and a tree of nodes of the query with the right kids

pub unreachable-requires : goal.unreachable-requires
unreachable-requires c =
    let tree = c.requires.spelled in
    let nodes = c.in-Err-TooLarge.field-0-0 in
    not_large c.args.query.now c.nodes_are_one.ensures c.args.plan.now tree.0 tree.1 c.args.lines.now.nodes.items
    c.requires.few tree.2 nodes
    ((c.check_plan.ensures.too_large nodes).0 (c.in-Err-TooLarge.is ∙ ap Err c.in-Err-TooLarge.field-0-is))

pub unreachable-requires-in-Err-Shape : goal.unreachable-requires-in-Err-Shape
unreachable-requires-in-Err-Shape c =
    let tree = c.requires.spelled in
    let node = c.in-Err-Shape.field-0-0 in
    not_strange c.args.query.now c.nodes_are_one.ensures c.args.plan.now tree.0 tree.1 c.args.lines.now.nodes.items
    c.requires.few tree.2 node
    ((c.check_plan.ensures.shape node).0 (c.in-Err-Shape.is ∙ ap Err c.in-Err-Shape.field-0-is))

pub unreachable-requires-in-Err-Kids : goal.unreachable-requires-in-Err-Kids
unreachable-requires-in-Err-Kids c =
    let tree = c.requires.spelled in
    let node = c.in-Err-Kids.field-0-0 in
    not_wrong c.args.query.now c.nodes_are_one.ensures c.args.plan.now tree.0 tree.1 c.args.lines.now.nodes.items
    c.requires.few tree.2 node
    ((c.check_plan.ensures.kids node).0 (c.in-Err-Kids.is ∙ ap Err c.in-Err-Kids.field-0-is))
