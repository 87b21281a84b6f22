use Rattle.std.proofs.Common.{sym, subst}
use Rattle.std.proofs.lemmas.Result.{on_ok_weaker}
use Rattle.query_core.specs.Expressions.{expr_of, physical_children, AreInRange}
use Rattle.query_core.specs.declared.expressions.Children.{Children}
use Rattle.goal_children.specs.Choices.{IsOfAsked, IsOfMode}
use Rattle.goal_children.specs.Finding.{InsertsGoals}
use Rattle.goal_children.proofs.Inserting.{inserts_as}
use Rattle.goal_children.proofs.asked.insert_in_mode.Goals as goal

-- children are groups with keys
pub insert_wished-requires-clause-children : goal.insert_wished-requires-clause-children
insert_wished-requires-clause-children c =
    subst AreInRange (sym c.children.ensures)
    (c.candidates_are_known.ensures.packed c.args.memo.query.now (expr_of c.args.e)
    c.requires.goal.of_candidate).children

-- what came of the children came of the mode
pub returns : goal.returns
returns c =
    let Asked = λ (x : Children). IsOfAsked x c.asked_in_mode-first.result.0 c.asked_in_mode-first.result.1 in
    let old = c.args.goals.now.items in
    let new = c.insert_wished.new.goals.items in
    record {
      ok = on_ok_weaker c.insert_wished.result
          (λ inserts. inserts_as (Asked (physical_children c.args.e.operator))
          (IsOfMode c.args.memo.query.now c.args.e c.args.wanted c.args.mode) old new
          (λ k. (c.asked_in_mode-first.ensures.exact k).1) (λ k. (c.asked_in_mode-first.ensures.exact k).0)
          (subst (λ (x : Children). InsertsGoals (Asked x) old new) c.children.ensures inserts))
          c.insert_wished.ensures.ok;
    }
