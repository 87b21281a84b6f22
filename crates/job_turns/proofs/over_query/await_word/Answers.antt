-- The child of the goal is one over the board's rules.
use Rattle.std.proofs.Common.{ℕ, sym, subst}
use Rattle.query_core.specs.declared.query.Query.{Query}
use Rattle.goal_board.specs.Seats.{hands}
use Rattle.board_moves.specs.Moves.{Awaits}
use Rattle.goal_space.specs.Words.{goal_word}
use Rattle.goal_space.specs.Entries.{IsChildWord}
use Rattle.goal_rules.specs.Meaning.{meaning_of}
use Rattle.job_turns.proofs.Staying.{small_of}
use Rattle.job_turns.proofs.over_query.await_word.Goals as goal

pub await_child-requires-clause-child : goal.await_child-requires-clause-child
await_child-requires-clause-child g c κs within =
    let child = c.requires.child in
    let known = (c.words_are_known.ensures.words c.args.search.now.query.now (small_of c.requires.at_work.has_job.its) child.0
    c.args._child c.args.turn.now.job.right.goal child.1 child.2).0 in
    subst (λ (q : Query). IsChildWord q c.args.turn.now.job.right.goal c.args.word.0)
    (sym c.requires.at_work.has_job.its.same_query)
    (subst (IsChildWord c.args.search.now.query.now c.args.turn.now.job.right.goal) c.requires.word known)

pub returns-clause-awaits : goal.returns-clause-awaits
returns-clause-awaits g c =
    let b = c.args.search.now.board.now in
    subst (λ (q : Query). Awaits (meaning_of q) b.setup.capacity (hands c.args.turn.now.seat.now)
    c.args.turn.now.job.right
    (goal_word c.args._child) c.await_child.result (hands c.await_child.new.seat) c.await_child.new.self.right)
    c.requires.at_work.has_job.its.same_query
    (subst (λ (word : ℕ). Awaits (meaning_of b.setup.rules.query.now) b.setup.capacity (hands c.args.turn.now.seat.now)
    c.args.turn.now.job.right word c.await_child.result (hands c.await_child.new.seat) c.await_child.new.self.right)
    (sym c.requires.word) c.await_child.ensures.awaits)
