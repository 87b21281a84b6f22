-- The root's goal isn't finished, so the board was full, or some goal is ready.
use Rattle.std.proofs.Common.{sym, ◌∙◌}
use Rattle.job_outcome.proofs.Outcomes.{tells_full, tells_unfinished, some_left}
use Rattle.job_outcome.proofs.outcome.left_open.Goals as goal

pub returns-then-is_full : goal.returns-then-is_full
returns-then-is_full c =
    tells_full c.args.rules.now.query.now c.args.capacity c.args.board c.requires.open_root
    (sym c.is_full.ensures ∙ c.if-is_full.true)

pub unreachable-requires : goal.unreachable-requires
unreachable-requires c =
    some_left c.args.rules.now.query.now c.args.capacity c.args.board c.requires.board c.requires.open_root
    c.in-None.ensures

pub returns : goal.returns
returns c =
    let q = c.args.rules.now.query.now in
    tells_unfinished q c.args.capacity c.args.board c.requires.open_root
    (sym c.is_full.ensures ∙ c.if-is_full.false)
    (c.members_are_known.ensures.small q) c.in-Some.ready c.in-Some.ensures
