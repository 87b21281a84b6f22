-- Where the collection is settled the promise is shown; else the goals of all members that are found are awaited, and
-- where they all are finished already the next round knows more.
use Rattle.std.proofs.Common.{◌≡◌, ◌<◌, ℕ, refl, sym, subst, ◌∙◌, arith}
use Rattle.board_rule.specs.Looks.{ShowsPromise}
use Rattle.goal_board.specs.Seats.{hands}
use Rattle.board_moves.specs.Moves.{Proceeds, RunsOut}
use Rattle.board_moves.proofs.Shown.{later_looked, still_shown}
use Rattle.board_moves.proofs.MovesLemmas.{proceeds_none, proceeds_then, later_proceeded, runs_out_then}
use Rattle.board_moves.proofs.OneChild.{right_looked}
use Rattle.board_moves.proofs.Rounds.{knows_none, knows_all, knows_more, settles_only_looks, no_waits, proceeds_on}
use Rattle.board_moves.proofs.exploring.explore_members.Goals as goal

pub rounds-init : goal.rounds-init
rounds-init g c =
    let b = c.args.board.now in
    let group = c.args.group.now in
    let meaning = g.R.GoalRules.meaning b.setup.rules in
    record {
      seat = c.requires.seat;
      right = c.requires.right;
      no_wait = c.requires.fresh;
      hints = c.requires.hints;
      proceeds = proceeds_none (meaning.child c.args.job.now.right.goal) (hands c.args.seat.now) c.args.job.now.right;
      origin = c.requires.origin;
      knows = knows_none meaning b.setup.capacity (g.W.Words.has group) (g.W.Members.goal_of group)
          (hands c.args.seat.now).looks;
    }

pub returns-in-Yes-clause-right : goal.returns-in-Yes-clause-right
returns-in-Yes-clause-right g c =
    let b = c.args.board.now in
    right_looked (g.R.GoalRules.meaning b.setup.rules) b.setup.capacity c.rounds.job.right (hands c.rounds.seat)
    (hands c.settle.new.seat) c.in-Yes.ensures.settles.0 c.rounds.invariant.right

pub returns-in-Yes-clause-works : goal.returns-in-Yes-clause-works
returns-in-Yes-clause-works g c =
    let b = c.args.board.now in
    let group = c.args.group.now in
    let meaning = g.R.GoalRules.meaning b.setup.rules in
    let same : c.rounds.job.right.goal ≡ g.W.Group.goal group = c.rounds.invariant.proceeds.same_goal
    ∙ c.requires.goal in (
      proceeds_on c.rounds.invariant.proceeds c.in-Yes.ensures.settles.0,
      (
        c.rounds.invariant.no_wait,
        subst (ShowsPromise meaning b.setup.capacity (hands c.settle.new.seat).looks) (sym same)
            c.in-Yes.ensures.settles.1,
        subst (λ (k : ℕ). meaning.answer k 0 0) (sym same) c.requires.answer,
      ),
    )

pub await_found-requires-clause-right : goal.await_found-requires-clause-right
await_found-requires-clause-right g c κs within =
    let b = c.args.board.now in
    let group = c.args.group.now in
    let meaning = g.R.GoalRules.meaning b.setup.rules in
    right_looked meaning b.setup.capacity c.rounds.job.right (hands c.rounds.seat) (hands c.settle.new.seat)
    (settles_only_looks meaning b.setup.capacity (g.W.Words.has group) (g.W.Members.goal_of group) (hands c.rounds.seat)
    (g.W.Group.goal group) c.settle.result (hands c.settle.new.seat) c.settle.ensures.settles)
    c.rounds.invariant.right

pub returns-in-None-clause-works : goal.returns-in-None-clause-works
returns-in-None-clause-works g c =
    let b = c.args.board.now in
    let group = c.args.group.now in
    let meaning = g.R.GoalRules.meaning b.setup.rules in
    let Adds = meaning.child c.args.job.now.right.goal in
    let looks = settles_only_looks meaning b.setup.capacity (g.W.Words.has group) (g.W.Members.goal_of group)
    (hands c.rounds.seat) (g.W.Group.goal group) c.settle.result (hands c.settle.new.seat)
    c.settle.ensures.settles in
    runs_out_then Adds b.setup.capacity (hands c.args.seat.now) c.args.job.now.right (hands c.settle.new.seat)
    c.rounds.job.right (hands c.await_found.new.seat) c.await_found.new.job.right
    (proceeds_on c.rounds.invariant.proceeds looks)
    (subst (λ k. RunsOut (meaning.child k) (hands c.settle.new.seat) c.rounds.job.right b.setup.capacity
    (hands c.await_found.new.seat) c.await_found.new.job.right) c.rounds.invariant.proceeds.same_goal
    c.in-None.ensures.awaits)

pub returns-then-is_waiting-clause-works : goal.returns-then-is_waiting-clause-works
returns-then-is_waiting-clause-works g c =
    let b = c.args.board.now in
    let group = c.args.group.now in
    let meaning = g.R.GoalRules.meaning b.setup.rules in
    let Adds = meaning.child c.args.job.now.right.goal in
    let looks = settles_only_looks meaning b.setup.capacity (g.W.Words.has group) (g.W.Members.goal_of group)
    (hands c.rounds.seat) (g.W.Group.goal group) c.settle.result (hands c.settle.new.seat)
    c.settle.ensures.settles in (
      proceeds_then Adds (hands c.args.seat.now) c.args.job.now.right (hands c.settle.new.seat) c.rounds.job.right
          (hands c.await_found.new.seat) c.await_found.new.job.right
          (proceeds_on c.rounds.invariant.proceeds looks)
          (subst (λ k. Proceeds (meaning.child k) (hands c.settle.new.seat) c.rounds.job.right
          (hands c.await_found.new.seat) c.await_found.new.job.right) c.rounds.invariant.proceeds.same_goal
          c.in-Some.ensures.awaits.proceeds),
      c.if-is_waiting.ensures.0 refl,
    )

pub rounds-smaller : goal.rounds-smaller
rounds-smaller g c =
    let b = c.args.board.now in
    let group = c.args.group.now in
    let meaning = g.R.GoalRules.meaning b.setup.rules in
    let more : c.rounds.known < c.in-Some.number =
    knows_more meaning b.setup.capacity (g.W.Words.has group) (g.W.Members.goal_of group) (hands c.rounds.seat)
    c.rounds.known
    c.rounds.invariant.knows (g.W.Group.goal group) c.settle.result (hands c.settle.new.seat) c.rounds.job.right
    c.in-Some.number
    (hands c.await_found.new.seat) c.await_found.new.job.right c.in-Some.ensures.awaits c.requires.group.some_word
    c.in_default.not-Yes c.settle.ensures.settles in
    omega arith

pub rounds-preserved : goal.rounds-preserved
rounds-preserved g c =
    let b = c.args.board.now in
    let group = c.args.group.now in
    let meaning = g.R.GoalRules.meaning b.setup.rules in
    let Adds = meaning.child c.args.job.now.right.goal in
    let looks = settles_only_looks meaning b.setup.capacity (g.W.Words.has group) (g.W.Members.goal_of group)
    (hands c.rounds.seat) (g.W.Group.goal group) c.settle.result (hands c.settle.new.seat)
    c.settle.ensures.settles in
    let awaits = c.in-Some.ensures.awaits in
    let gone_on = subst (λ k. Proceeds (meaning.child k) (hands c.settle.new.seat) c.rounds.job.right
    (hands c.await_found.new.seat) c.await_found.new.job.right) c.rounds.invariant.proceeds.same_goal
    awaits.proceeds in
    let none = no_waits c.await_found.new.job.right.waits c.if-is_waiting.ensures.1 in
    record {
      seat = c.await_found.ensures.seat;
      right = c.await_found.ensures.right;
      no_wait = none;
      hints = c.await_found.ensures.hints ∙ c.rounds.invariant.hints;
      proceeds = proceeds_then Adds (hands c.args.seat.now) c.args.job.now.right (hands c.settle.new.seat)
          c.rounds.job.right (hands c.await_found.new.seat) c.await_found.new.job.right
          (proceeds_on c.rounds.invariant.proceeds looks) gone_on;
      origin = still_shown meaning b.setup.capacity (hands c.settle.new.seat).looks (hands c.await_found.new.seat).looks
          (later_proceeded Adds (hands c.settle.new.seat) c.rounds.job.right (hands c.await_found.new.seat)
          c.await_found.new.job.right gone_on) (g.W.Group.origin group)
          (still_shown meaning b.setup.capacity (hands c.rounds.seat).looks (hands c.settle.new.seat).looks
          (later_looked (hands c.rounds.seat) (hands c.settle.new.seat) looks) (g.W.Group.origin group)
          c.rounds.invariant.origin);
      knows = knows_all meaning b.setup.capacity (g.W.Words.has group) (g.W.Members.goal_of group)
          (hands c.settle.new.seat)
          c.rounds.job.right c.in-Some.number (hands c.await_found.new.seat) c.await_found.new.job.right awaits none;
    }
