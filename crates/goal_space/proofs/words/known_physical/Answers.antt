use Rattle.std.proofs.Common.{sym, ◌∙◌}
use Rattle.query_core.specs.Expressions.{expr_of}
use Rattle.query_core.proofs.ExpressionLemmas.{expr_of_one}
use Rattle.goal_space.proofs.words.known_physical.Goals as goal

-- the word is that of a physical expression, and of no other
pub unreachable-requires : goal.unreachable-requires
unreachable-requires c =
    c.in-None.ensures c.requires.0 (sym (c.known_parts.ensures.only (expr_of c.requires.0) c.requires.1))

pub returns : goal.returns
returns c e has = expr_of_one e c.in-Some.e (c.known_parts.ensures.only (expr_of e) has ∙ c.in-Some.ensures)
