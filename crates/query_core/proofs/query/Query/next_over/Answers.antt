use Rattle.std.proofs.Common.{None, refl, arith}
use Rattle.query_core.specs.Finding.{operator_number, IsOver}
use Rattle.query_core.proofs.ExpressionLemmas.{operator_below}
use Rattle.query_core.proofs.Finding.{held_packed, numbers_rise}
use Rattle.query_core.proofs.Least.{finds_more, finds_all, finds_first}
use Rattle.query_core.proofs.query.Query.next_over.Goals as goal

-- below the first number words are below the bound
pub loop-number-init : goal.loop-number-init
loop-number-init c e ((held, over), less) above =
    omega (
      arith,
      c.first_number-number.ensures e (held_packed c.args.self.now c.args.group c.requires.known e held) held.0 less,
      above,
    )

pub loop-number-preserved : goal.loop-number-preserved
loop-number-preserved c =
    finds_more (IsOver c.args.self.now c.args.group c.args.children) operator_number c.args.bound c.loop-number.number
    None
    None None refl c.loop-number.invariant c.in_default.ensures

pub returns-in-Some : goal.returns-in-Some
returns-in-Some c =
    finds_first (IsOver c.args.self.now c.args.group c.args.children) operator_number c.args.bound
    (numbers_rise c.args.self.now c.args.group c.requires.known c.args.children) c.loop-number.number c.in-Some.next
    c.loop-number.invariant c.in-Some.ensures

pub returns : goal.returns
returns c =
    finds_all (IsOver c.args.self.now c.args.group c.args.children) operator_number c.args.bound c.loop-number.number
    None
    (λ e over. omega (arith, operator_below e.operator)) c.loop-number.invariant
