-- Rules that are switched off: which may be, and the word for them.
use Rattle.std.specs.Prelude.{ℕ, Bool, List, ◌&&◌, ◌^◌, length, map, nat_le}
use Rattle.std.specs.List.{list_all, sum_by, join_with_byte}
use Rattle.query_core.specs.Differ.{numbers_differ}
use Rattle.xform_rules.specs.Rules.{can_be_off, rule_name, rule_number}
use Rattle.xform_rules.specs.declared.rules.Rule.{Rule}

-- there are some rules, each once, and each can be switched off
abbrev pub may_be_off : List Rule → Bool
may_be_off some = nat_le 1 (length some) && list_all can_be_off some && numbers_differ (map rule_number some)

-- the bits of the rules' numbers
abbrev pub off_set : List Rule → ℕ
off_set some = sum_by (λ rule. 2 ^ rule_number rule) some

-- the names of rules, joined by `+`
abbrev pub rules_word : List Rule → List ℕ
rules_word some = join_with_byte 43 (map rule_name some)
