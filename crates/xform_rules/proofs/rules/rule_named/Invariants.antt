use Rattle.std.proofs.Common.{◌≡◌, false, take}
use Rattle.std.specs.List.{list_any}
use Rattle.xform_rules.proofs.Names.{is_named}
use Rattle.xform_rules.proofs.rules.rule_named.Given as goal

-- no rule so far has the name
abbrev pub invariant-loop-rule : goal.invariant-loop-rule
invariant-loop-rule l = list_any (is_named l.name) (take l.rule-index l.rule-items) ≡ false
