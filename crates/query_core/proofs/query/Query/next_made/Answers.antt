use Rattle.std.proofs.Common.{sym, subst, ◌∙◌}
use Rattle.std.proofs.lemmas.Bool.{false≢true}
use Rattle.query_core.specs.Expressions.{HasShape}
use Rattle.query_core.proofs.ExpressionLemmas.{operator_one}
use Rattle.query_core.proofs.Finding.{finds_made}
use Rattle.query_core.proofs.query.Query.next_made.Goals as goal

-- no operator has the fields
pub returns-in_err-operator : goal.returns-in_err-operator
returns-in_err-operator c = rw c.from_residual.ensures (λ e (held, is) above. c.in_err-operator.ensures e.operator is)

pub returns-then-has_shape : goal.returns-then-has_shape
returns-then-has_shape c =
    finds_made c.args.self.now c.args.group c.args.fields c.in_ok-operator.operator c.args.bound c.word_from.result
    c.in_ok-operator.ensures (c.has_shape.ensures.0 c.if-has_shape.true) c.word_from.ensures

-- the group can't have the one that has them
pub returns-else-has_shape : goal.returns-else-has_shape
returns-else-has_shape c e (held, is) above =
    let one = operator_one e.operator c.in_ok-operator.operator (is ∙ sym c.in_ok-operator.ensures) in
    false≢true (sym c.if-has_shape.false
    ∙ c.has_shape.ensures.1 (subst (HasShape c.args.self.now c.args.group) one held.1))
