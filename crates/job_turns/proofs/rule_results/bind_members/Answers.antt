-- Once the left child's group is explored all members that can be bound are in cells.
use Rattle.std.proofs.Common.{refl, sym, subst, inr}
use Rattle.board_rule.specs.Looks.{ShowsFinished, asked_by}
use Rattle.goal_board.specs.Seats.{hands}
use Rattle.board_moves.proofs.MovesLemmas.{runs_out_then}
use Rattle.goal_space.specs.Words.{goal_word}
use Rattle.goal_space.specs.Goals.{child_goal}
use Rattle.goal_space.specs.Entries.{NamesGoal}
use Rattle.goal_space.specs.declared.goals.GoalKind.TheVariants.{Exp, Xf}
use Rattle.goal_rules.specs.Meaning.{meaning_of}
use Rattle.job_turns.specs.Results.{IsBroughtFrom}
use Rattle.job_turns.specs.Works.{AddsWord}
use Rattle.job_turns.proofs.Staying.{small_of}
use Rattle.job_turns.proofs.Promises.{goes_on, runs_out}
use Rattle.job_turns.proofs.RuleLemmas.{rule_works, results_run_out, bound_wanted, left_one, left_child}
use Rattle.job_turns.proofs.rule_results.bind_members.Goals as goal

pub await_goal-requires-clause-child : goal.await_goal-requires-clause-child
await_goal-requires-clause-child g c = (
  Xf c.args.e c.args.rule,
  c.requires.goal,
  left_child c.args.search.now.query.now c.args.e c.args.rule c.args.left c.requires.left,
)

pub returns-in-Full-clause-works : goal.returns-in-Full-clause-works
returns-in-Full-clause-works g c =
    runs_out c.args.search.now.query.now (c.words_are_known.ensures.children c.args.search.now.query.now)
    (small_of c.requires.at_work.has_job.its) (Xf c.args.e c.args.rule) c.args.search.now.board.now.setup.capacity
    (hands c.args.turn.now.seat.now) c.args.turn.now.job.right (hands c.await_goal.new.turn.seat.now)
    c.await_goal.new.turn.job.right
    c.requires.goal c.in-Full.ensures.awaits

pub returns-in-Waiting-clause-works : goal.returns-in-Waiting-clause-works
returns-in-Waiting-clause-works g c =
    let waits = c.in-Waiting.ensures.awaits in (
      goes_on c.args.search.now.query.now (c.words_are_known.ensures.children c.args.search.now.query.now)
          (small_of c.requires.at_work.has_job.its) (Xf c.args.e c.args.rule) (hands c.args.turn.now.seat.now)
          c.args.turn.now.job.right
          (hands c.await_goal.new.turn.seat.now) c.await_goal.new.turn.job.right c.requires.goal waits.0,
      waits.1,
    )

pub put_with_members-requires-clause-known : goal.put_with_members-requires-clause-known
put_with_members-requires-clause-known g c =
    let q = c.args.search.now.query.now in
    c.goals_are_known.ensures.candidates q (Exp c.args.left)
    (child_goal (Xf c.args.e c.args.rule) (Exp c.args.left) c.requires.goal.is_goal
    (left_child q c.args.e c.args.rule c.args.left c.requires.left))

pub put_with_members-requires-clause-e : goal.put_with_members-requires-clause-e
put_with_members-requires-clause-e g c =
    c.goals_are_known.ensures.candidates c.args.search.now.query.now (Xf c.args.e c.args.rule) c.requires.goal.is_goal

pub put_with_members-requires-clause-shown : goal.put_with_members-requires-clause-shown
put_with_members-requires-clause-shown g c = λ bound is_in.
    let q = c.args.search.now.query.now in
    let is_goal = child_goal (Xf c.args.e c.args.rule) (Exp c.args.left) c.requires.goal.is_goal
    (left_child q c.args.e c.args.rule c.args.left c.requires.left) in
    asked_by (goal_word (Exp c.args.left)) _ c.in-Complete.ensures.awaits.2.finished
    (record {
      goal = Exp c.args.left;
      member = bound;
      names = record { is_goal = is_goal; number = refl };
      asks = is_in;
      number = refl;
    })

pub put_with_members-requires-clause-asked : goal.put_with_members-requires-clause-asked
put_with_members-requires-clause-asked g c = λ x (bound, is_in, (n, (found, has, brought))). (
  Xf c.args.e c.args.rule,
  subst (λ k. NamesGoal c.args.search.now.query.now k (Xf c.args.e c.args.rule))
      (sym c.in-Complete.ensures.awaits.0.same_goal)
      c.requires.goal,
  (found, inr (bound, n, is_in.member, has), brought),
)

pub returns-then-put_with_members-clause-works : goal.returns-then-put_with_members-clause-works
returns-then-put_with_members-clause-works g c =
    let q = c.args.search.now.query.now in
    let b = c.args.search.now.board.now in
    let right = c.args.turn.now.job.right in
    let laws = c.words_are_known.ensures in
    let known = c.results_are_known.ensures in
    let awaits = c.in-Complete.ensures.awaits in
    rule_works q (laws.children q) (laws.asked q) (small_of c.requires.at_work.has_job.its) c.args.e c.args.rule
    b.setup.capacity
    (hands c.args.turn.now.seat.now) (hands c.await_goal.new.turn.seat.now) (hands c.put_with_members.new.seat) right
    c.await_goal.new.turn.job.right
    (IsBroughtFrom q c.args.rule c.args.e c.args.left) c.progress.result c.requires.goal
    (goes_on q (laws.children q) (small_of c.requires.at_work.has_job.its) (Xf c.args.e c.args.rule)
    (hands c.args.turn.now.seat.now) right (hands c.await_goal.new.turn.seat.now) c.await_goal.new.turn.job.right
    c.requires.goal awaits.0)
    c.if-put_with_members.ensures.puts
    (λ none child (group, joins, left, is). subst
    (λ k. ShowsFinished (meaning_of q) b.setup.capacity (hands c.await_goal.new.turn.seat.now).looks (goal_word k))
    (sym is)
    (subst (λ k. ShowsFinished (meaning_of q) b.setup.capacity (hands c.await_goal.new.turn.seat.now).looks
    (goal_word (Exp k)))
    (left_one _ c.args.left group c.requires.left.1 left) awaits.2.finished))
    (bound_wanted q c.args.e c.args.rule c.args.left c.requires.left (known.binds q c.args.rule c.args.e)
    (known.left q c.args.rule c.args.e) (known.bound q c.args.rule c.args.e)) c.progress.ensures

pub returns-else-put_with_members-clause-works : goal.returns-else-put_with_members-clause-works
returns-else-put_with_members-clause-works g c =
    let q = c.args.search.now.query.now in
    let b = c.args.search.now.board.now in
    let right = c.args.turn.now.job.right in
    let middle = c.await_goal.new.turn.job.right in
    let laws = c.words_are_known.ensures in
    let awaits = c.in-Complete.ensures.awaits in
    let named : NamesGoal q middle.goal (Xf c.args.e c.args.rule) =
    subst (λ k. NamesGoal q k (Xf c.args.e c.args.rule)) (sym awaits.0.same_goal) c.requires.goal in
    runs_out_then (AddsWord q (Xf c.args.e c.args.rule)) b.setup.capacity (hands c.args.turn.now.seat.now) right
    (hands c.await_goal.new.turn.seat.now) middle (hands c.put_with_members.new.seat) middle
    (goes_on q (laws.children q) (small_of c.requires.at_work.has_job.its) (Xf c.args.e c.args.rule)
    (hands c.args.turn.now.seat.now) right (hands c.await_goal.new.turn.seat.now) middle c.requires.goal awaits.0)
    (results_run_out q (laws.children q) (laws.asked q) (small_of c.requires.at_work.has_job.its) c.args.e c.args.rule
    b.setup.capacity (hands c.await_goal.new.turn.seat.now) middle (hands c.put_with_members.new.seat) middle named
    c.if-put_with_members.ensures.puts)
