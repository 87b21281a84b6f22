use Rattle.std.proofs.Common.{ℕ, ◌/◌, ap, sym, ◌∙◌}
use Rattle.query_core.specs.Expressions.{word_of, expr_of}
use Rattle.plan_tree.proofs.NodeNumbers.{word_at}
use Rattle.plan_tree.proofs.node.native_of.Goals as goal

-- the word is that of no expression
pub returns-in_err-expr-clause-none : goal.returns-in_err-expr-clause-none
returns-in_err-expr-clause-none c =
    rw c.from_residual-in_err-expr.ensures (λ e mode in_range is.
    let word = word_at c.args.number (word_of (expr_of e)) mode in_range.few is in
    let past = c.in_ok-past.ensures in
    c.in_err-expr.ensures (expr_of e) in_range.packed (sym (ap (λ (p : ℕ). p / 256) past.1 ∙ word)))

-- it is that of a logical one
pub returns-in-None-clause-none : goal.returns-in-None-clause-none
returns-in-None-clause-none c = λ e mode in_range is.
    let word = word_at c.args.number (word_of (expr_of e)) mode in_range.few is in
    let parts = c.in_ok-expr.ensures in
    let past = c.in_ok-past.ensures in
    let one = c.expressions_are_one.ensures.expressions c.in_ok-expr.expr (expr_of e) parts.0 in_range.packed
    (parts.1 ∙ ap (λ (p : ℕ). p / 256) past.1 ∙ word) in
    c.in-None.ensures e one
