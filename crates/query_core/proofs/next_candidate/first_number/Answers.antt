use Rattle.std.proofs.Common.{arith, ap, sym, ◌∙◌}
use Rattle.query_core.specs.Keys.{key_number}
use Rattle.query_core.proofs.ExpressionLemmas.{number_below}
use Rattle.query_core.proofs.next_candidate.first_number.Goals as goal

pub returns : goal.returns
returns c e packed same less =
    number_below e c.args.bound c.make.result.0 packed (c.make.ensures.number ∙ ap key_number (sym same))
    (omega (arith, less))
