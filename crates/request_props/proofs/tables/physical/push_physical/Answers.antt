use Rattle.std.proofs.Common.{sym, refl, inl}
use Rattle.query_core.specs.Expressions.{expr_of}
use Rattle.request_props.proofs.tables.physical.push_physical.Goals as goal

-- a word has one expression, which is no physical one
pub returns-in-None : goal.returns-in-None
returns-in-None c = inl (λ e has. c.in-None.ensures e (sym (c.known_parts.ensures.only (expr_of e) has)), refl)
