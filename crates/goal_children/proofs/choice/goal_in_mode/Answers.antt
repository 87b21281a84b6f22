use Rattle.std.proofs.Common.{sym, subst}
use Rattle.query_core.specs.Expressions.{expr_of, physical_children, AreInRange}
use Rattle.query_core.specs.declared.expressions.Children.{Children}
use Rattle.goal_children.specs.Choices.{IsOfAsked, IsOfMode}
use Rattle.goal_children.specs.Finding.{FindsFrom}
use Rattle.goal_children.proofs.Finds.{finds_as}
use Rattle.goal_children.proofs.choice.goal_in_mode.Goals as goal

-- children are groups with keys
pub wished_goal_from-requires-clause-children : goal.wished_goal_from-requires-clause-children
wished_goal_from-requires-clause-children c =
    subst AreInRange (sym c.children.ensures)
    (c.candidates_are_known.ensures.packed c.args.memo.query.now (expr_of c.args.e)
    c.requires.goal.of_candidate).children

-- what is found of the children is found of the mode
pub returns : goal.returns
returns c =
    let Asked = λ (x : Children). IsOfAsked x c.asked_in_mode-first.result.0 c.asked_in_mode-first.result.1 in
    let found = c.wished_goal_from.result in
    finds_as (Asked (physical_children c.args.e.operator))
    (IsOfMode c.args.memo.query.now c.args.e c.args.wanted c.args.mode) c.args.bound found
    (λ k. (c.asked_in_mode-first.ensures.exact k).1) (λ k. (c.asked_in_mode-first.ensures.exact k).0)
    (subst (λ (x : Children). FindsFrom (Asked x) c.args.bound found) c.children.ensures c.wished_goal_from.ensures)
