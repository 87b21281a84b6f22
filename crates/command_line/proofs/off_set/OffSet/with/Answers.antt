use Rattle.std.proofs.Common.{sym, subst, ◌∙◌}
use Rattle.query_core.specs.Sets.{Has, Adds}
use Rattle.xform_rules.specs.Rules.{rule_number}
use Rattle.command_line.proofs.OffSets.{more_rules, stays_on, stands_there, has_room, fresh_sum}
use Rattle.command_line.proofs.off_set.OffSet.with.Goals as goal
use Rattle.command_line.proofs.off_set.OffSet.with.Goals.{then-not-can_be_off-via-then-not-can_be_off}
use Rattle.command_line.proofs.off_set.OffSet.with.Goals.{then-not-can_be_off-via-else-not-can_be_off+then-has}

-- the rule must stay on, or is off already
pub returns-then-not-can_be_off-clause-refused : goal.returns-then-not-can_be_off-clause-refused
returns-then-not-can_be_off-clause-refused c = λ same before after is.
    elim c.then-not-can_be_off.branch [
      | then-not-can_be_off-via-then-not-can_be_off w ↦
          stays_on before c.args.rule c.args.self.bits is after (sym c.can_be_off.ensures ∙ w.if-not-can_be_off.true)
      | then-not-can_be_off-via-else-not-can_be_off+then-has w ↦
          stands_there before c.args.rule c.args.self.bits is after
          (subst (Has c.args.self.bits) c.number-number.ensures.value (w.has.ensures.0 w.if-has.true))
    ]

-- there is room for the bit
pub invariant_of-result : goal.invariant_of-result
invariant_of-result c =
    let facts = fresh_sum c.args.self.bits c.number-number.result (rule_number c.args.rule) c.with.result c.has.result
    c.number-number.ensures.value c.has.ensures c.if-has.false c.with.ensures.grows in
    rw facts.2 (record {
      may_be_off = has_room c.args.rule c.args.self.bits c.args.self.may_be_off
          (sym c.can_be_off.ensures ∙ c.if-not-can_be_off.false) facts.1;
    })

-- the rule is behind the others
pub returns-clause-added : goal.returns-clause-added
returns-clause-added c = λ before is.
    let number = c.number-number.ensures.value in
    let facts = fresh_sum c.args.self.bits c.number-number.result (rule_number c.args.rule) c.with.result c.has.result
    number c.has.ensures c.if-has.false c.with.ensures.grows in
    more_rules before c.args.rule c.args.self.bits is c.with.result (sym c.can_be_off.ensures
    ∙ c.if-not-can_be_off.false) facts.0 (subst (λ n. Adds c.args.self.bits n c.with.result) number
    c.with.ensures.adds) facts.2
