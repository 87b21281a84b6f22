-- A member is a candidate.
use Rattle.query_core.specs.Expressions.{expr_of}
use Rattle.job_turns.proofs.modes.await_mode.Goals as goal

pub alternative_at-alt-requires-clause-candidate : goal.alternative_at-alt-requires-clause-candidate
alternative_at-alt-requires-clause-candidate g c =
    c.members_are_candidates.ensures c.args.search.now.query.now (expr_of c.args.native.now.expr)
    c.requires.native.member
