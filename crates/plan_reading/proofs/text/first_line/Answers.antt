-- The first line is cut off, and its number is behind the word.
use Rattle.std.proofs.Common.{decimal, ◌++◌}
use Rattle.std.specs.Prelude.{codes}
use Rattle.plan_reading.proofs.Ended.{cost_cut, cost_digits, cost_line_is, cost_found}
use Rattle.plan_reading.proofs.text.first_line.Goals as goal

pub returns-in_err-cut-clause-found : goal.returns-in_err-cut-clause-found
returns-in_err-cut-clause-found c = rw c.from_residual.ensures (λ cost rest has.
    c.in_err-cut.ensures (codes "cost " ++ decimal cost) rest (cost_cut c.args.text.now cost rest has))

pub returns-in_err-digits-clause-found : goal.returns-in_err-digits-clause-found
returns-in_err-digits-clause-found c = rw c.from_residual-in_err-digits.ensures (λ cost rest has.
    c.in_err-digits.ensures.found (decimal cost)
    (cost_line_is c.args.text.now c.in_ok-cut.cut.line.now c.in_ok-cut.cut.rest.now cost rest c.in_ok-cut.ensures has))

pub returns-in_err-cost-clause-found : goal.returns-in_err-cost-clause-found
returns-in_err-cost-clause-found c = rw c.from_residual-in_err-cost.ensures (λ cost rest has.
    c.in_err-cost.ensures cost has.fits
    (cost_digits c.args.text.now c.in_ok-cut.cut.line.now c.in_ok-cut.cut.rest.now c.in_ok-digits.digits.now cost rest
    c.in_ok-cut.ensures c.in_ok-digits.ensures.found has))

pub returns-clause-found : goal.returns-clause-found
returns-clause-found c = cost_found c.args.text.now c.in_ok-cut.cut.line.now c.in_ok-cut.cut.rest.now
    c.in_ok-digits.digits.now c.in_ok-cost.cost c.in_ok-cut.ensures c.in_ok-digits.ensures.found
    c.in_ok-cost.ensures.0 c.in_ok-cost.ensures.1
