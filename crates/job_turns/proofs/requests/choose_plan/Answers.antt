-- The group's implementation was awaited, and then its members and the enforcers.
use Rattle.std.proofs.Common.{◌≡◌, ℕ, refl, sym, subst, inl}
use Rattle.best_answers.specs.Best.{IsBest}
use Rattle.best_answers.specs.Nodes.{all_nodes}
use Rattle.board_moves.specs.declared.progress.Progress.TheVariants as progress
use Rattle.goal_board.specs.Seats.{hands}
use Rattle.goal_board.specs.declared.board.Right.{Right}
use Rattle.goal_space.specs.Goals.{child_goal}
use Rattle.goal_space.specs.Entries.{NamesGoal}
use Rattle.goal_space.specs.declared.goals.GoalKind.TheVariants.{Imp, Opt}
use Rattle.job_turns.specs.Requests.{IsPlanGoal}
use Rattle.job_turns.specs.Works.{WorksOn}
use Rattle.job_turns.proofs.Staying.{small_of}
use Rattle.job_turns.proofs.Awaited.{has_one}
use Rattle.job_turns.proofs.Finding.{chooses_after, children_put, children_full}
use Rattle.job_turns.proofs.Chosen.{works_chosen, works_waiting, works_full}
use Rattle.job_turns.proofs.requests.choose_plan.Goals as goal

pub await_goal-requires-clause-child : goal.await_goal-requires-clause-child
await_goal-requires-clause-child g c = (Opt c.args.group c.args.wanted, c.requires.goal, inl refl)

pub best_plan-found-requires-clause-goal : goal.best_plan-found-requires-clause-goal
best_plan-found-requires-clause-goal g c =
    subst (λ (word : ℕ). NamesGoal c.args.search.now.query.now word (Opt c.args.group c.args.wanted))
    (sym c.in-Complete.ensures.awaits.0.same_goal) c.requires.goal

pub best_plan-found-requires-clause-implemented : goal.best_plan-found-requires-clause-implemented
best_plan-found-requires-clause-implemented g c = record {
  is_goal = child_goal (Opt c.args.group c.args.wanted) (Imp c.args.group) c.requires.goal.is_goal (inl refl);
  finished = c.in-Complete.ensures.awaits.2.finished;
}

pub returns-in-Complete-clause-works : goal.returns-in-Complete-clause-works
returns-in-Complete-clause-works g c =
    let q = c.args.search.now.query.now in
    let b = c.args.search.now.board.now in
    let group = c.args.group in
    let wanted = c.args.wanted in
    let v = hands c.args.turn.now.seat.now in
    let start = c.args.turn.now.job.right in
    let u = hands c.await_goal.new.turn.seat.now in
    let middle = c.await_goal.new.turn.job.right in
    let w = hands c.best_plan-found.new.turn.seat.now in
    let after = c.best_plan-found.new.turn.job.right in
    let first = has_one q b.setup.capacity v start (Imp group) (progress.Complete c.in-Complete.field-0) u middle
    (λ full. let bad : ⊥ = cc in bad) c.in-Complete.ensures.awaits in
    works_chosen q b.setup.capacity (small_of c.requires.at_work.has_job.its) (c.words_are_known.ensures.children q)
    (c.words_are_known.ensures.asked q) (Opt group wanted) (λ e asks. asks) v start c.requires.goal
    c.best_plan-found.result w after c.progress_of.result
    (chooses_after q b.setup.capacity v start (λ goal. goal ≡ Imp group) (IsPlanGoal q group wanted)
    (IsBest q group wanted all_nodes) u middle c.best_plan-found.result w after first
    c.best_plan-found.ensures.chooses) c.progress_of.ensures

pub put_enforcers-requires-clause-goal : goal.put_enforcers-requires-clause-goal
put_enforcers-requires-clause-goal g c =
    subst (λ (word : ℕ). NamesGoal c.args.search.now.query.now word (Opt c.args.group c.args.wanted))
    (sym c.in-Waiting.ensures.awaits.0.same_goal) c.requires.goal

pub returns-then-put_enforcers-clause-works : goal.returns-then-put_enforcers-clause-works
returns-then-put_enforcers-clause-works g c =
    let q = c.args.search.now.query.now in
    let capacity = c.args.search.now.board.now.setup.capacity in
    let wanted = Opt c.args.group c.args.wanted in
    let v = hands c.args.turn.now.seat.now in
    let start = c.args.turn.now.job.right in
    let u = hands c.await_goal.new.turn.seat.now in
    let middle = c.await_goal.new.turn.job.right in
    let w = hands c.put_enforcers.new.turn.seat.now in
    let first = c.in-Waiting.ensures.awaits in
    let put = c.if-put_enforcers.ensures.puts in
    subst (λ (right : Right). WorksOn q capacity v start wanted progress.Waiting w right) (sym put.same_right)
    (works_waiting q capacity (small_of c.requires.at_work.has_job.its) (c.words_are_known.ensures.children q)
    (c.words_are_known.ensures.asked q) wanted (λ e asks. asks) v start c.requires.goal w middle
    (children_put q capacity v start u middle w first.0 put.puts) first.1)

pub returns-else-put_enforcers-clause-works : goal.returns-else-put_enforcers-clause-works
returns-else-put_enforcers-clause-works g c =
    let q = c.args.search.now.query.now in
    let capacity = c.args.search.now.board.now.setup.capacity in
    let wanted = Opt c.args.group c.args.wanted in
    let v = hands c.args.turn.now.seat.now in
    let start = c.args.turn.now.job.right in
    let u = hands c.await_goal.new.turn.seat.now in
    let middle = c.await_goal.new.turn.job.right in
    let w = hands c.put_enforcers.new.turn.seat.now in
    let first = c.in-Waiting.ensures.awaits in
    let put = c.if-put_enforcers.ensures.puts in
    subst (λ (right : Right). WorksOn q capacity v start wanted progress.Full w right) (sym put.same_right)
    (works_full q capacity (small_of c.requires.at_work.has_job.its) (c.words_are_known.ensures.children q)
    (c.words_are_known.ensures.asked q) wanted (λ e asks. asks) v start c.requires.goal w middle
    (children_full q capacity v start u middle w first.0 put.puts))

pub returns-in-Full-clause-works : goal.returns-in-Full-clause-works
returns-in-Full-clause-works g c =
    let q = c.args.search.now.query.now in
    works_full q c.args.search.now.board.now.setup.capacity (small_of c.requires.at_work.has_job.its)
    (c.words_are_known.ensures.children q)
    (c.words_are_known.ensures.asked q) (Opt c.args.group c.args.wanted) (λ e asks. asks)
    (hands c.args.turn.now.seat.now)
    c.args.turn.now.job.right c.requires.goal
    (hands c.await_goal.new.turn.seat.now) c.await_goal.new.turn.job.right c.in-Full.ensures.awaits
