use Rattle.std.proofs.Common.{add-one, sym, arith}
use Rattle.orca_cli.proofs.FirstLines.{first_line_at, first_line_all}
use Rattle.orca_cli.proofs.lines.first_line.Goals as goal

-- the first line feed
pub returns-then-byte-eq10 : goal.returns-then-byte-eq10
returns-then-byte-eq10 c = rw add-one (sym
    (first_line_at c.args.text.now c.loop-at.at c.loop-at.invariant c.loop-at-test.true c.if-byte-eq10.true))

-- there is none
pub returns : goal.returns
returns c = sym (first_line_all c.args.text.now
    (λ k below. c.loop-at.invariant k (omega (arith, below, c.loop-at-test.false))))
