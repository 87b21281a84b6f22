use Rattle.std.proofs.Common.{◌/◌, ap, arith, length}
use Rattle.plan_reading.proofs.LineTexts.{indent_long, spaces_indent}
use Rattle.plan_reading.proofs.reader.level_of.Goals as goal

pub returns-then-spaces-eq0 : goal.returns-then-spaces-eq0
returns-then-spaces-eq0 c = spaces_indent c.args.spaces.now (length c.args.spaces.now / 2) c.requires.spaced
    (let even = c.if-spaces-eq0.true in omega arith)

pub returns-else-spaces-eq0 : goal.returns-else-spaces-eq0
returns-else-spaces-eq0 c = λ d is. let odd = c.if-spaces-eq0.false in let long = indent_long d in let same = ap length is in
    omega arith
