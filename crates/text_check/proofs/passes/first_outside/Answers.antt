-- The lines are gone through one after the other.
use Rattle.std.proofs.Common.{arith}
use Rattle.std.proofs.lemmas.List.Elements.{All-more}
use Rattle.text_check.specs.Outcome.{IsMemberLine}
use Rattle.text_check.proofs.FirstAt.{first_at, all_have}
use Rattle.text_check.proofs.passes.first_outside.Goals as goal

pub returns-then-not-is_member-clause-first : goal.returns-then-not-is_member-clause-first
returns-then-not-is_member-clause-first c =
    first_at (IsMemberLine c.args.query.now) c.args.own.now c.loop-line.line-index c.loop-line.place _ c.is_member.result
    c.loop-line-test.true c.loop-line.invariant.place_is c.loop-line.invariant.members c.is_member.ensures.1
    c.if-not-is_member.true

pub loop-line-preserved : goal.loop-line-preserved
loop-line-preserved c = record {
  place_is = omega arith;
  members = All-more (IsMemberLine c.args.query.now) c.args.own.now c.loop-line.line-index _ c.loop-line-test.true
      c.loop-line.invariant.members (c.is_member.ensures.0 c.if-not-is_member.false);
}

pub returns-clause-first : goal.returns-clause-first
returns-clause-first c =
    all_have (IsMemberLine c.args.query.now) c.args.own.now c.loop-line.line-index c.loop-line-test.false
    c.loop-line.invariant.members
