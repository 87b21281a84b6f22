use Rattle.std.proofs.Common.{◌≡◌, take, arith, ap}
use Rattle.std.specs.List.{count_by}
use Rattle.std.proofs.lemmas.List.{take_all}
use Rattle.xform_rules.specs.UsableIndexes.{is_usable}
use Rattle.xform_rules.proofs.Usable.{counted_with}
use Rattle.xform_rules.proofs.usable_indexes.nth_usable.Goals as goal

-- there are not so many usable indexes
pub returns : goal.returns
returns c index nth =
    let usable = is_usable c.args.query.now c.args.table in
    let all : count_by usable (take c.loop-number.number c.args.indexes.now) ≡ count_by usable c.args.indexes.now =
    ap (count_by usable) (take_all c.loop-number.number c.args.indexes.now c.loop-number-test.false) in
    absurd (omega (
      arith,
      all,
      c.loop-number.invariant.counted,
      nth.before,
      counted_with c.args.query.now c.args.table c.args.indexes.now index nth.usable,
    ))
