-- The origin is put in first, and then the members that are found are awaited.
use Rattle.std.proofs.Common.{◌≢◌, sym, subst, inl, inr}
use Rattle.word_table.specs.declared.outcome.Inserted.TheVariants.{Full}
use Rattle.board_rule.specs.Looks.{ShowsEntry}
use Rattle.goal_board.specs.Seats.{hands}
use Rattle.board_moves.specs.Collects.{ExplorationAdds}
use Rattle.board_moves.proofs.OneChild.{right_put}
use Rattle.board_moves.proofs.Working.{proceeds_put, runs_out_at, works_then, works_wider, put_shown}
use Rattle.board_moves.proofs.exploring.explore.Goals as goal

pub explore_members-requires-clause-right : goal.explore_members-requires-clause-right
explore_members-requires-clause-right g c κs within =
    let b = c.args.board.now in
    right_put (g.R.GoalRules.meaning b.setup.rules) b.setup.capacity c.args.job.now.right (hands c.args.seat.now)
    c.origin.result c.insert.result (hands c.insert.new.seat) c.insert.ensures.answer c.requires.right

pub explore_members-requires-clause-origin : goal.explore_members-requires-clause-origin
explore_members-requires-clause-origin g c κs within =
    let b = c.args.board.now in
    let group = c.args.group.now in
    let meaning = g.R.GoalRules.meaning b.setup.rules in
    let some_origin : c.origin.result ≢ 0 = subst (λ x. x ≢ 0) (sym c.origin.ensures)
    (c.requires.group.some_word (g.W.Group.origin group) c.requires.group.origin_has) in
    subst (ShowsEntry meaning b.setup.capacity (hands c.insert.new.seat).looks) c.origin.ensures
    (put_shown meaning b.setup.capacity (ExplorationAdds meaning (g.W.Group.origin group) c.args.job.now.right.goal)
    (hands c.args.seat.now) c.origin.result c.insert.result (hands c.insert.new.seat) some_origin
    c.in_default.not-Full c.insert.ensures.answer)

pub returns-in-Full-clause-right : goal.returns-in-Full-clause-right
returns-in-Full-clause-right g c =
    let b = c.args.board.now in
    right_put (g.R.GoalRules.meaning b.setup.rules) b.setup.capacity c.args.job.now.right (hands c.args.seat.now)
    c.origin.result Full (hands c.insert.new.seat) c.in-Full.ensures.answer c.requires.right

pub returns-in-Full-clause-works : goal.returns-in-Full-clause-works
returns-in-Full-clause-works g c =
    let b = c.args.board.now in
    let group = c.args.group.now in
    let meaning = g.R.GoalRules.meaning b.setup.rules in
    runs_out_at meaning b.setup.capacity (ExplorationAdds meaning (g.W.Group.origin group) c.args.job.now.right.goal)
    (hands c.args.seat.now) c.args.job.now.right c.origin.result (hands c.insert.new.seat) (inr c.origin.ensures)
    c.in-Full.ensures.answer

pub returns-in_default-clause-works : goal.returns-in_default-clause-works
returns-in_default-clause-works g c =
    let b = c.args.board.now in
    let group = c.args.group.now in
    let meaning = g.R.GoalRules.meaning b.setup.rules in
    let Adds = ExplorationAdds meaning (g.W.Group.origin group) c.args.job.now.right.goal in
    works_then meaning b.setup.capacity Adds (hands c.args.seat.now) c.args.job.now.right (hands c.insert.new.seat)
    c.args.job.now.right c.explore_members.result (hands c.explore_members.new.seat) c.explore_members.new.job.right
    (proceeds_put meaning b.setup.capacity Adds (hands c.args.seat.now) c.args.job.now.right c.origin.result
    c.insert.result
    (hands c.insert.new.seat) (inr c.origin.ensures) c.in_default.not-Full c.insert.ensures.answer)
    (works_wider meaning b.setup.capacity (meaning.child c.args.job.now.right.goal) Adds (λ word is_child. inl is_child)
    (hands c.insert.new.seat) c.args.job.now.right c.explore_members.result (hands c.explore_members.new.seat)
    c.explore_members.new.job.right
    c.explore_members.ensures.works)
