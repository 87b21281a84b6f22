use Rattle.std.proofs.Common.{◌≡◌, List, Option, Some, sym, subst}
use Rattle.std.specs.Prelude.{IfSome, MatchOption}
use Rattle.std.proofs.lemmas.Result.{on_ok_weaker}
use Rattle.query_core.specs.Expressions.{word_of}
use Rattle.goal_space.specs.Words.{IsGoalInRange}
use Rattle.goal_space.specs.declared.goals.GoalKind.{GoalKind}
use Rattle.goal_children.specs.declared.jobs.MemberJob.{MemberJob}
use Rattle.goal_children.specs.declared.jobs.MemberJob.TheVariants.{Transform, Serve}
use Rattle.goal_children.specs.Finding.{AppendsGoals}
use Rattle.goal_children.specs.MemberJobs.{HasNumberedJob, IsGoalOf, IsGoalOfWord}
use Rattle.goal_children.proofs.MemberGoals.{found_fits, found_of_word}
use Rattle.goal_children.proofs.OfMembers.{job_in_range}
use Rattle.goal_children.proofs.members.push_goal_of.Goals as goal
use Rattle.goal_children.proofs.members.push_goal_of.Goals.{After-expressions_are_one}

module _ (c : After-expressions_are_one) (job : MemberJob) (is : c.args.job ≡ job) (found : Option GoalKind)
    (finds : MatchOption found ((k : GoalKind) → IsGoalOf c.args.memo.query.now job c.args.e k → ⊥)
    (IsGoalOf c.args.memo.query.now job c.args.e)) where
  -- what was found for the job fits
  fits : IfSome found IsGoalInRange
  fits =
      let q = c.args.memo.query.now in
      let props = c.requires.memo.collected in
      found_fits q (c.candidates_are_known.ensures.packed q) c.expressions_are_one.ensures.expressions job c.args.e
      c.requires.candidate
      (job_in_range q props.few_lists props.few_orders job (subst (HasNumberedJob q) is c.requires.numbered)) found
      finds

  -- and is the goal of the expression's word
  added : (old new : List GoalKind) → AppendsGoals (λ k. found ≡ Some k) old new
      → AppendsGoals (IsGoalOfWord c.args.memo.query.now c.args.job (word_of c.args.e)) old new
  added old new appends =
      let q = c.args.memo.query.now in
      subst (λ (j : MemberJob). AppendsGoals (IsGoalOfWord q j (word_of c.args.e)) old new) (sym is)
      (found_of_word q (c.candidates_are_known.ensures.packed q) c.expressions_are_one.ensures.expressions job c.args.e
      c.requires.candidate found finds old new appends)

-- a logical expression has one goal, and no other has one
pub push_found-requires : goal.push_found-requires
push_found-requires c =
    fits (goal.at.push_found-requires c).After-expressions_are_one (Transform c.in-Transform.phase) c.in-Transform.is
    c.transform.result c.transform.ensures

pub returns-in-Transform : goal.returns-in-Transform
returns-in-Transform c =
    let of_word = added (goal.at.returns-in-Transform c).After-expressions_are_one (Transform c.in-Transform.phase)
    c.in-Transform.is c.transform.result c.transform.ensures in
    record {
      ok = on_ok_weaker c.push_found.result (of_word c.args.goals.now.items c.push_found.new.goals.items)
          c.push_found.ensures.ok;
    }

-- and so has a physical one that may serve
pub push_found-requires-in-Serve : goal.push_found-requires-in-Serve
push_found-requires-in-Serve c =
    fits (goal.at.push_found-requires-in-Serve c).After-expressions_are_one (Serve c.in-Serve.wanted) c.in-Serve.is
    c.serve.result c.serve.ensures

pub returns-in-Serve : goal.returns-in-Serve
returns-in-Serve c =
    let of_word = added (goal.at.returns-in-Serve c).After-expressions_are_one (Serve c.in-Serve.wanted) c.in-Serve.is
    c.serve.result c.serve.ensures in
    record {
      ok = on_ok_weaker c.push_found-in-Serve.result
          (of_word c.args.goals.now.items c.push_found-in-Serve.new.goals.items) c.push_found-in-Serve.ensures.ok;
    }
