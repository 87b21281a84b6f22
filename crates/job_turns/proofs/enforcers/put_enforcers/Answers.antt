-- The first and then the second.
use Rattle.std.proofs.Common.{sym, subst, ◌∙◌}
use Rattle.goal_board.specs.Seats.{hands}
use Rattle.goal_board.specs.declared.board.Right.{Right}
use Rattle.goal_space.specs.Entries.{NamesGoal}
use Rattle.goal_space.specs.declared.goals.GoalKind.TheVariants.{Opt}
use Rattle.job_turns.specs.Choices.{PutsChildren}
use Rattle.job_turns.proofs.Finding.{puts_children_then}
use Rattle.job_turns.proofs.enforcers.put_enforcers.Goals as goal

pub returns-then-not-put_enforcer-clause-puts : goal.returns-then-not-put_enforcer-clause-puts
returns-then-not-put_enforcer-clause-puts g c = c.if-not-put_enforcer.ensures.puts

pub put_enforcer-requires-2-clause-goal : goal.put_enforcer-requires-2-clause-goal
put_enforcer-requires-2-clause-goal g c =
    subst (λ (right : Right). NamesGoal c.args.search.now.query.now right.goal (Opt c.args.group c.args.wanted))
    (sym c.if-not-put_enforcer.ensures.puts.same_right) c.requires.goal

pub returns-clause-puts : goal.returns-clause-puts
returns-clause-puts g c =
    let q = c.args.search.now.query.now in
    let capacity = c.args.search.now.board.now.setup.capacity in
    let before = c.args.turn.now in
    let u = hands c.put_enforcer.new.turn.seat.now in
    let w = hands c.put_enforcer-2.new.turn.seat.now in
    let first = c.if-not-put_enforcer.ensures.puts in
    let second = c.put_enforcer-2.ensures.puts in
    record {
      same_right = second.same_right ∙ first.same_right;
      puts = puts_children_then q capacity (hands before.seat.now) before.job.right u c.put_enforcer-2.result w
          first.puts
          (subst (λ (right : Right). PutsChildren q capacity u right c.put_enforcer-2.result w) first.same_right
          second.puts);
    }
