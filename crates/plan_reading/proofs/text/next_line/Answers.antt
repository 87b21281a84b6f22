-- The line is cut off, read, and may stand there.
use Rattle.std.proofs.Common.{sym, ◌∙◌}
use Rattle.std.proofs.lemmas.Bool.{false≢true}
use Rattle.plan_reading.proofs.Ways.{no_cut, no_form, no_level, next_found}
use Rattle.plan_reading.proofs.text.next_line.Goals as goal

pub returns-in_err-cut-clause-found : goal.returns-in_err-cut-clause-found
returns-in_err-cut-clause-found c = λ q texts. rw c.from_residual.ensures
    (no_cut q c.args.last c.args.text.now c.in_err-cut.ensures)

pub returns-in_err-line-clause-found : goal.returns-in_err-line-clause-found
returns-in_err-line-clause-found c = λ q texts. rw c.from_residual-in_err-line.ensures
    (no_form q c.args.last c.args.text.now c.in_ok-cut.cut.line.now c.in_ok-cut.cut.rest.now c.in_ok-cut.ensures
    (c.in_err-line.ensures q texts))

pub returns-then-may_follow-clause-found : goal.returns-then-may_follow-clause-found
returns-then-may_follow-clause-found c = λ q texts.
    next_found q c.args.last c.args.text.now c.in_ok-cut.cut.line.now c.in_ok-cut.cut.rest.now c.in_ok-line.line
    c.in_ok-cut.ensures (c.in_ok-line.ensures q texts) (c.may_follow.ensures.0 c.if-may_follow.true)

pub returns-else-may_follow-clause-found : goal.returns-else-may_follow-clause-found
returns-else-may_follow-clause-found c = λ q texts.
    no_level q c.args.last c.args.text.now c.in_ok-cut.cut.line.now c.in_ok-cut.cut.rest.now c.in_ok-line.line
    c.in_ok-cut.ensures (c.in_ok-line.ensures q texts)
    (λ may. false≢true (sym c.if-may_follow.false ∙ c.may_follow.ensures.1 may))
