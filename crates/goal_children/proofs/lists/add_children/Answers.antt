use Rattle.std.proofs.Common.{subst}
use Rattle.std.proofs.lemmas.Result.{on_ok_weaker}
use Rattle.goal_space.specs.Laws.{IsOfCandidate}
use Rattle.goal_space.specs.declared.goals.GoalKind.TheVariants.{Exp, ExpE, Xf, ImpE, OptE}
use Rattle.goal_children.proofs.Appending.{appended_children, inserted_children}
use Rattle.goal_children.proofs.lists.add_children.Goals as goal

-- a goal over the query is about a candidate, whose parts fit
pub insert_transformed-requires-clause-packed : goal.insert_transformed-requires-clause-packed
insert_transformed-requires-clause-packed c =
    c.candidates_are_known.ensures.packed c.args.memo.query.now c.in-ExpE.e
    (subst (IsOfCandidate c.args.memo.query.now) c.in-ExpE.is c.requires.goal.of_candidate)

pub insert_left-requires-clause-children : goal.insert_left-requires-clause-children
insert_left-requires-clause-children c =
    let packed = c.candidates_are_known.ensures.packed c.args.memo.query.now c.in-Xf.e
    (subst (IsOfCandidate c.args.memo.query.now) c.in-Xf.is c.requires.goal.of_candidate) in
    packed.children

pub insert_transformed-requires-in-ImpE-clause-packed : goal.insert_transformed-requires-in-ImpE-clause-packed
insert_transformed-requires-in-ImpE-clause-packed c =
    c.candidates_are_known.ensures.packed c.args.memo.query.now c.in-ImpE.e
    (subst (IsOfCandidate c.args.memo.query.now) c.in-ImpE.is c.requires.goal.of_candidate)

-- what came is what the table says of this kind of goal
pub returns-in-Exp-clause-ok : goal.returns-in-Exp-clause-ok
returns-in-Exp-clause-ok c =
    on_ok_weaker c.push_member_goals.result
    (appended_children c.args.memo.query.now c.args.memo.members.now c.args.goal (Exp c.in-Exp.group)
    c.args.goals.now.items c.push_member_goals.new.goals.items c.in-Exp.is)
    c.push_member_goals.ensures.ok

pub returns-in-ExpE-clause-ok : goal.returns-in-ExpE-clause-ok
returns-in-ExpE-clause-ok c =
    on_ok_weaker c.insert_transformed.result
    (inserted_children c.args.memo.query.now c.args.memo.members.now c.args.goal (ExpE c.in-ExpE.e)
    c.args.goals.now.items c.insert_transformed.new.goals.items c.in-ExpE.is)
    c.insert_transformed.ensures.ok

pub returns-in-Xf-clause-ok : goal.returns-in-Xf-clause-ok
returns-in-Xf-clause-ok c =
    on_ok_weaker c.insert_left.result
    (inserted_children c.args.memo.query.now c.args.memo.members.now c.args.goal (Xf c.in-Xf.e c.in-Xf.rule)
    c.args.goals.now.items c.insert_left.new.goals.items c.in-Xf.is)
    c.insert_left.ensures.ok

pub returns-in-ImpE-clause-ok : goal.returns-in-ImpE-clause-ok
returns-in-ImpE-clause-ok c =
    on_ok_weaker c.insert_transformed-in-ImpE.result
    (inserted_children c.args.memo.query.now c.args.memo.members.now c.args.goal (ImpE c.in-ImpE.e)
    c.args.goals.now.items c.insert_transformed-in-ImpE.new.goals.items c.in-ImpE.is)
    c.insert_transformed-in-ImpE.ensures.ok

pub returns-in-OptE-clause-ok : goal.returns-in-OptE-clause-ok
returns-in-OptE-clause-ok c =
    on_ok_weaker c.insert_asked.result
    (inserted_children c.args.memo.query.now c.args.memo.members.now c.args.goal (OptE c.in-OptE.e c.in-OptE.wanted)
    c.args.goals.now.items c.insert_asked.new.goals.items c.in-OptE.is)
    c.insert_asked.ensures.ok
