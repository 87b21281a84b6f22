use Rattle.std.proofs.Common.{List, sym, subst}
use Rattle.query_core.specs.declared.expressions.ExprParts.{ExprParts}
use Rattle.goal_children.specs.GroupMembers.{AreOfWords}
use Rattle.goal_children.proofs.HeldMembers.{no_members, one_more_member}
use Rattle.goal_children.proofs.group_members.put_expressions.Goals as goal

pub loop-word-init : goal.loop-word-init
loop-word-init c = subst (AreOfWords _) (sym c.clear.ensures.items) no_members

-- the expression comes behind those before it
pub loop-word-preserved : goal.loop-word-preserved
loop-word-preserved c =
    let known = c.known_parts.result in
    subst (AreOfWords _) (sym {A = List ExprParts} c.in_ok-push.ensures.items)
    (one_more_member c.args.words.now c.loop-word.word-index c.loop-word.list.items known c.loop-word-test.true
    c.known_parts.ensures.has.packed c.known_parts.ensures.has.number c.loop-word.invariant)
