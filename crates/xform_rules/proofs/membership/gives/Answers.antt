use Rattle.std.proofs.Common.{arith}
use Rattle.std.proofs.lemmas.Bool.{false≢true}
use Rattle.xform_rules.specs.Forms.{physical_in}
use Rattle.xform_rules.proofs.Numbers.{number_within}
use Rattle.xform_rules.proofs.membership.gives.Goals as goal

-- the index fits its field
pub overflow_add-n-end : goal.overflow_add-n-end
overflow_add-n-end c = omega (
  arith,
  c.index_of-last.ensures,
  (c.candidates_are_known.ensures.packed c.args.query.now (physical_in c.args.group c.args.to) c.requires.to).index,
)

-- no later result reads it
pub returns : goal.returns
returns c = (
  λ never. absurd (false≢true never),
  λ (n, has).
      let within = number_within c.args.query.now c.args.rule c.args.group c.args.from n c.args.to has.gives in
      absurd (c.loop-n.invariant n (omega (arith, within, c.index_of-last.ensures, c.loop-n-test.false)) has),
)
