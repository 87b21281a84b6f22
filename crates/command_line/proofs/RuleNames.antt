-- A rule is found by its name.
use Rattle.std.proofs.Common.{◌≡◌, ℕ, Bool, true, false, cond, List, [], ◌∷◌, Option, None, Some, bytes_eq, refl, sym}
use Rattle.std.proofs.Common.{ap, ◌∙◌}
use Rattle.std.specs.List.{find}
use Rattle.std.proofs.lemmas.Slice.Eq.{bytes_eq-Decides}
use Rattle.xform_rules.specs.Rules.{all_rules, rule_name}
use Rattle.xform_rules.specs.declared.rules.Rule.{Rule}
use Rattle.xform_rules.proofs.Names.{first_named}
use Rattle.command_line.specs.Reading.{rule_of_name}

-- a rule's name is the name of that rule
pub rule_of_own_name : (rule : Rule) → rule_of_name (rule_name rule) ≡ Some rule
rule_of_own_name = first_named

-- what is found passes the test
pub found_passes : {X : Type 0} (test : X → Bool) (xs : List X) (x : X) → find test xs ≡ Some x → test x ≡ true
found_passes test [] x is = cc
found_passes test (y ∷ ys) x is =
    elim (test y) as (λ b. test y ≡ b → cond b (Some y) (find test ys) ≡ Some x → test x ≡ true) [
      | true ↦ λ passes same. let here : y ≡ x = cc in sym (ap test here) ∙ passes
      | false ↦ λ fails same. found_passes test ys x same
    ] refl is

-- the rule of a name has this name
pub name_of_found : (word : List ℕ) (rule : Rule) → rule_of_name word ≡ Some rule → rule_name rule ≡ word
name_of_found word rule is = (bytes_eq-Decides (rule_name rule) word).0
    (found_passes (λ r. bytes_eq (rule_name r) word) all_rules rule is)

-- a word that is no rule's name names none
pub no_rule : (word : List ℕ) → ((rule : Rule) → rule_name rule ≡ word → ⊥) → rule_of_name word ≡ None
no_rule word none = of_found (rule_of_name word) refl
  where
    of_found : (found : Option Rule) → rule_of_name word ≡ found → rule_of_name word ≡ None
    of_found None is = is
    of_found (Some rule) is = absurd (none rule (name_of_found word rule is))

-- a word that is a rule's name names that rule
pub name_found : (word : List ℕ) (rule : Rule) → rule_name rule ≡ word → rule_of_name word ≡ Some rule
name_found word rule is = ap rule_of_name (sym is) ∙ rule_of_own_name rule
