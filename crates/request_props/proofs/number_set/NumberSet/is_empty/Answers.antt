use Rattle.std.proofs.Common.{arith, rules, subst}
use Rattle.std.proofs.lemmas.Bool.{eqb-true, eqb-false}
use Rattle.query_core.specs.Sets.{Has}
use Rattle.request_props.proofs.NumberSets.{none_in, some_in}
use Rattle.request_props.proofs.number_set.NumberSet.is_empty.Goals as goal

pub returns-clause-none : goal.returns-clause-none
returns-clause-none c empty number has =
    none_in number (subst (λ mask. Has mask number) (eqb-true c.args.self.mask 0 empty) has)

pub returns-clause-some : goal.returns-clause-some
returns-clause-some c other = some_in c.args.self.mask (search rules)
    (omega (arith, eqb-false c.args.self.mask 0 other))
