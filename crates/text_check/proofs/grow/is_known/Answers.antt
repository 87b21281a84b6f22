-- Each expression of the query has a word.
use Rattle.std.proofs.Common.{sym, ◌∙◌, subst}
use Rattle.std.proofs.lemmas.Bool.{false≢true}
use Rattle.query_core.specs.Expressions.{expr_of}
use Rattle.plan_check.specs.Nodes.{IsKindOf}
use Rattle.text_check.proofs.grow.is_known.Goals as goal

pub returns-else-has_word : goal.returns-else-has_word
returns-else-has_word c = (
  λ yes. absurd (false≢true (sym c.if-has_word.false ∙ yes)),
  λ is. let native = subst (IsKindOf c.args.query.now) c.in-Native.is is in
      absurd (false≢true (sym c.if-has_word.false ∙ c.has_word.ensures.1
      (c.candidates_are_known.ensures.packed c.args.query.now (expr_of c.in-Native.expr) native.candidate))),
)
