use Rattle.std.proofs.Common.{slice_get}
use Rattle.query_core.specs.declared.expressions.Children.{Children}
use Rattle.query_core.specs.declared.expressions.Children.TheVariants.{Zero, One, Two}
use Rattle.query_core.specs.declared.query.Query.{Query}
use Rattle.request_props.specs.declared.request.Request.{Request}
use Rattle.plan_space.specs.Alternatives.{LineServes, asked_of}
use Rattle.plan_space.specs.Choices.{groups_of}
use Rattle.plan_space.specs.declared.lines.Line.{Line}
use Rattle.plan_space.specs.declared.lines.Line.TheVariants.{Leaf, Above, Beside}
use Rattle.plan_tree.specs.Alternatives.{AreAsked, IsAsk}
use Rattle.plan_tree.specs.declared.alternatives.Alt.{Alt}
use Rattle.plan_tree.proofs.alternatives.alt_over.Goals as goal

-- a line that serves asks something of each child, and of no other
both_asked : (q : Query) (alt : Alt) (line : Line) (children : Children) (wanted : Request)
    → LineServes q line children wanted
    → IsAsk q alt.left (slice_get (groups_of children) 0) (slice_get (asked_of line wanted) 0)
    → IsAsk q alt.right (slice_get (groups_of children) 1) (slice_get (asked_of line wanted) 1)
    → AreAsked q alt (groups_of children) (asked_of line wanted)
both_asked q alt (Leaf dist order) Zero wanted serves left right = (left, right)
both_asked q alt (Leaf dist order) (One child) wanted serves left right = absurd serves
both_asked q alt (Leaf dist order) (Two first second) wanted serves left right = absurd serves
both_asked q alt (Above dist order) Zero wanted serves left right = absurd serves
both_asked q alt (Above dist order) (One child) wanted serves left right = (left, right)
both_asked q alt (Above dist order) (Two first second) wanted serves left right = absurd serves
both_asked q alt (Beside dist order request) Zero wanted serves left right = absurd serves
both_asked q alt (Beside dist order request) (One child) wanted serves left right = absurd serves
both_asked q alt (Beside dist order request) (Two first second) wanted serves left right = (left, right)

pub returns-clause-asks : goal.returns-clause-asks
returns-clause-asks c =
    both_asked c.args.query.now (record { node = c.args.node; left = c.ask.result; right = c.ask-2.result })
    c.args.line.now c.args.children c.args.request c.requires.serves
    (rw (← c.left_child.ensures, ← c.asked_left.ensures) c.ask.ensures)
    (rw (← c.right_child.ensures, ← c.asked_right.ensures) c.ask-2.ensures)
