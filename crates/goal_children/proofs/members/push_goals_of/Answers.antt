use Rattle.std.proofs.Common.{◌≤◌, ◌<◌, length, map, sym, subst, arith}
use Rattle.std.proofs.lemmas.List.{get_or-map, length-map, take_all}
use Rattle.query_core.specs.Expressions.{word_of}
use Rattle.goal_children.specs.Finding.{AppendsGoals}
use Rattle.goal_children.specs.MemberJobs.{IsGoalAmong, IsGoalOfWord}
use Rattle.goal_children.proofs.MemberGoals.{none_among, more_among}
use Rattle.goal_children.proofs.members.push_goals_of.Goals as goal

pub push_goal_of-requires-clause-candidate : goal.push_goal_of-requires-clause-candidate
push_goal_of-requires-clause-candidate c = c.requires.candidates c.loop-e.e-index _ c.loop-e-test.true

pub loop-e-init : goal.loop-e-init
loop-e-init c = none_among c.args.memo.query.now c.args.job c.args.goals.now.items

-- and so did that of this one
pub loop-e-preserved : goal.loop-e-preserved
loop-e-preserved c =
    let q = c.args.memo.query.now in
    let job = c.args.job in
    let es = c.args.exprs.now in
    let i = c.loop-e.e-index in
    let within : i < length (map word_of es) = omega (arith, c.loop-e-test.true, length-map es word_of) in
    more_among q job (map word_of es) i c.args.goals.now.items c.loop-e.goals.items c.push_goal_of.new.goals.items
    c.requires.ascending within c.loop-e.invariant
    (subst (λ word. AppendsGoals (IsGoalOfWord q job word) c.loop-e.goals.items c.push_goal_of.new.goals.items)
    (sym (get_or-map word_of es i _ 0 c.loop-e-test.true))
    c.in_ok-push_goal_of.ensures.ok)

pub returns : goal.returns
returns c =
    let words = map word_of c.args.exprs.now in
    let i = c.loop-e.e-index in
    let whole : length words ≤ i = omega (arith, c.loop-e-test.false, length-map c.args.exprs.now word_of) in
    record {
      ok = subst (λ ws. AppendsGoals (IsGoalAmong c.args.memo.query.now c.args.job ws) c.args.goals.now.items
          c.loop-e.goals.items) (take_all i words whole) c.loop-e.invariant;
    }
