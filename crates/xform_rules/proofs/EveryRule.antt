-- Each rule stands in the list of all rules, under its number. So what a test finds of all in the list holds of each.
use Rattle.std.proofs.Common.{◌≡◌, ℕ, ◌-◌, ◌≤◌, Bool, true, List, [], ◌∷◌, Some, length, zero, suc}
use Rattle.std.proofs.Common.{refl, sym, ap, subst, ◌∙◌, arith}
use Rattle.std.specs.Prelude.{slice_get, nat_le}
use Rattle.std.specs.List.{list_all, Contains}
use Rattle.std.proofs.lemmas.Bool.{and_parts, leb-true}
use Rattle.xform_rules.specs.declared.rules.Rule.{Rule}
use Rattle.xform_rules.specs.Rules.{all_rules, rule_number}

-- a rule stands at the place of its number
pub listed : (rule : Rule) → slice_get all_rules (rule_number rule - 1) ≡ Some rule
listed rule = grind arith

-- what stands in a list passes where all do
passes_there : (test : Rule → Bool) (some : List Rule) (place : ℕ) (rule : Rule) → list_all test some ≡ true
    → slice_get some place ≡ Some rule → test rule ≡ true
passes_there test [] place rule all there = cc
passes_there test (first ∷ more) zero rule all there =
    let same : first ≡ rule = cc in
    subst (λ r. test r ≡ true) same (and_parts (test first) (list_all test more) all).0
passes_there test (first ∷ more) (suc place) rule all there =
    passes_there test more place rule (and_parts (test first) (list_all test more) all).1 there

-- what holds of all in the list holds of each rule
pub every_rule : (test : Rule → Bool) → list_all test all_rules ≡ true → (rule : Rule) → test rule ≡ true
every_rule test all rule = passes_there test all_rules (rule_number rule - 1) rule all (listed rule)

-- numbers are 1 to how many rules there are
pub rule_some : (rule : Rule) → 1 ≤ rule_number rule
rule_some rule = leb-true 1 (rule_number rule) (every_rule (λ r. nat_le 1 (rule_number r)) refl rule)

pub rule_few : (rule : Rule) → rule_number rule ≤ length all_rules
rule_few rule =
    leb-true (rule_number rule) (length all_rules)
    (every_rule (λ r. nat_le (rule_number r) (length all_rules)) refl rule)

-- a number is that of one rule
pub number_one : (a b : Rule) → rule_number a ≡ rule_number b → a ≡ b
number_one a b same =
    let there : Some a ≡ Some b = sym (listed a) ∙ ap (λ (n : ℕ). slice_get all_rules (n - 1)) same ∙ listed b in
    cc

-- so each rule is in the list
there_contains : (some : List Rule) (place : ℕ) (rule : Rule) → slice_get some place ≡ Some rule → Contains some rule
there_contains [] place rule there = cc
there_contains (first ∷ more) zero rule there = let same : first ≡ rule = cc in (0, omega arith, same)
there_contains (first ∷ more) (suc place) rule there =
    let (k, within, is) = there_contains more place rule there in
    (suc k, omega (arith, within), is)

pub each_listed : (rule : Rule) → Contains all_rules rule
each_listed rule = there_contains all_rules (rule_number rule - 1) rule (listed rule)
