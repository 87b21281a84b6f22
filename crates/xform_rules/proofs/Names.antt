-- The names of rules, each that of one rule.
use Rattle.std.proofs.Common.{ℕ, ◌+◌, ◌<◌, ◌==◌, Bool, true, false, ◌||◌, List, Option}
use Rattle.std.proofs.Common.{None, Some, length, take, get_or, refl, ap, sym}
use Rattle.std.proofs.Common.{◌≡◌, ◌∙◌}
use Rattle.std.specs.List.{find, list_any}
use Rattle.std.specs.Str.{bytes_eq}
use Rattle.std.specs.Option.{option_map_or}
use Rattle.std.proofs.lemmas.Bool.{eqb-true, false≢true}
use Rattle.std.proofs.lemmas.List.Folds.{list_any_more}
use Rattle.std.proofs.lemmas.Slice.Eq.{bytes_eq-Decides}
use Rattle.xform_rules.specs.declared.rules.Rule.{Rule}
use Rattle.xform_rules.specs.Rules.{all_rules, rule_name, rule_number}
use Rattle.xform_rules.proofs.EveryRule.{every_rule, number_one}

-- the rule has the name
abbrev pub is_named : List ℕ → Rule → Bool
is_named name rule = bytes_eq (rule_name rule) name

-- the first rule of this rule's name has its number
abbrev is_first_named : Rule → Bool
is_first_named rule =
    option_map_or (λ (r : Rule). rule_number r == rule_number rule) (find (is_named (rule_name rule)) all_rules) false

-- so it is the rule
found_first : (rule : Rule) (found : Option Rule)
    → option_map_or (λ (r : Rule). rule_number r == rule_number rule) found false ≡ true → found ≡ Some rule
found_first rule None is = absurd (false≢true is)
found_first rule (Some r) is = ap Some (number_one r rule (eqb-true (rule_number r) (rule_number rule) is))

-- each rule is the first of its name
pub first_named : (rule : Rule) → find (is_named (rule_name rule)) all_rules ≡ Some rule
first_named rule = found_first rule (find (is_named (rule_name rule)) all_rules) (every_rule is_first_named refl rule)

-- no two rules have one name
pub name_one : (a b : Rule) → rule_name a ≡ rule_name b → a ≡ b
name_one a b same =
    let first : Some a ≡ Some b = sym (first_named a) ∙ (ap (λ name. find (is_named name) all_rules) same
    ∙ first_named b) in
    cc

-- what has the name is the rule's name
pub name_is : (rule : Rule) (own name : List ℕ) → own ≡ rule_name rule → bytes_eq own name ≡ true
    → rule_name rule ≡ name
name_is rule own name is same = sym is ∙ (bytes_eq-Decides own name).0 same

-- and the test tells it
pub named_by : (rule : Rule) (name : List ℕ) → rule_name rule ≡ name → is_named name rule ≡ true
named_by rule name same = (bytes_eq-Decides (rule_name rule) name).1 same

-- one more rule that doesn't have the name
pub none_more : (name : List ℕ) (some : List Rule) (i : ℕ) (d : Rule) → i < length some
    → list_any (is_named name) (take i some) ≡ false → is_named name (get_or some i d) ≡ false
    → list_any (is_named name) (take (i + 1) some) ≡ false
none_more name some i d within before this =
    list_any_more (is_named name) some i d within ∙ (ap (λ x. x || is_named name (get_or some i d)) before ∙ this)
