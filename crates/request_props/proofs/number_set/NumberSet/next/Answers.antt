use Rattle.std.proofs.Common.{rules, arith}
use Rattle.request_props.proofs.NumberSets.{none_left, first_left}
use Rattle.request_props.proofs.number_set.NumberSet.next.Goals as goal

pub returns-then-rest-eq0-clause-none : goal.returns-then-rest-eq0-clause-none
returns-then-rest-eq0-clause-none c number after below =
    none_left c.args.self.mask c.args.from number c.if-rest-eq0.true after

pub returns-clause-near : goal.returns-clause-near
returns-clause-near c = omega (
  arith,
  (first_left c.args.self.mask c.args.from (search rules)
      (omega (arith, c.if-rest-eq0.false))).small,
)

pub returns-clause-found : goal.returns-clause-found
returns-clause-found c near = (first_left c.args.self.mask c.args.from (search rules)
    (omega (arith, c.if-rest-eq0.false))).here

pub returns-clause-none : goal.returns-clause-none
returns-clause-none c = (first_left c.args.self.mask c.args.from (search rules)
    (omega (arith, c.if-rest-eq0.false))).first
