use Rattle.std.proofs.Common.{rules}
use Rattle.query_core.proofs.ExpressionLemmas.{word_fields}
use Rattle.query_core.proofs.words.Expr.parts.Goals as goal

-- no operator has the fields that the word has
pub returns-in_err-operator : goal.returns-in_err-operator
returns-in_err-operator c = rw c.from_residual-in_err-operator.ensures (λ e in_e is.
    let f = c.new-fields.result in
    c.in_err-operator.ensures e.operator
    (word_fields e c.args.self.0 f in_e is (search rules) (search rules) (search rules) (search rules) (search rules)))
