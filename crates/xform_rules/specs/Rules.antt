-- The rules: what is known of each, and which of them are on.
use Rattle.std.specs.Prelude.{ℕ, Bool, true, false, Some, ◌≡◌, ◌≤◌, ◌-◌, List, [], ◌∷◌, codes, length, slice_get}
use Rattle.std.specs.List.{list_all}
use Rattle.query_core.specs.Sets.{bit}
use Rattle.query_core.specs.declared.query.Query.{Query}
use Rattle.xform_rules.specs.declared.rules.Rule.{Rule}
use Rattle.xform_rules.specs.declared.rules.Rule.TheVariants as rules
use Rattle.xform_rules.specs.declared.rules.Work.{Work}
use Rattle.xform_rules.specs.declared.rules.Work.TheVariants.{Explores, Implements}
use Rattle.xform_rules.specs.declared.rules.Exploration.{Exploration}
use Rattle.xform_rules.specs.declared.rules.Exploration.TheVariants.{Expansion, Commutation, Association, Split}
use Rattle.xform_rules.specs.declared.rules.Condition.{Condition}
use Rattle.xform_rules.specs.declared.rules.Condition.TheVariants.{Always, Equated, Grouping, OwnIndex, UsableIndex}

-- the rules, in the order of their numbers
abbrev pub all_rules : List Rule
all_rules =
    rules.ExpandNAry ∷ rules.JoinCommute ∷ rules.JoinAssociate ∷
    rules.SplitAgg ∷ rules.GetToScan ∷ rules.GetToIndexScan ∷
    rules.SelectToFilter ∷ rules.SelectToIndexSeek ∷ rules.JoinToHash ∷
    rules.JoinToMerge ∷ rules.JoinToLoop ∷ rules.AggToHash ∷
    rules.AggToStream ∷ rules.PartialToHash ∷ []

-- what is known of a rule: its number, its name, and what it does
pub record Facts : Type 0 where
  pub number : ℕ
  pub name : List ℕ
  pub work : Work

abbrev pub row : ℕ → List ℕ → Work → Facts
row number name work = record { number = number; name = name; work = work }

-- the facts of each rule
abbrev pub facts_of : Rule → Facts
facts_of rules.ExpandNAry = row 1 (codes "ExpandNAry") (Explores Expansion)
facts_of rules.JoinCommute = row 2 (codes "JoinCommute") (Explores Commutation)
facts_of rules.JoinAssociate = row 3 (codes "JoinAssociate") (Explores Association)
facts_of rules.SplitAgg = row 4 (codes "SplitAgg") (Explores Split)
facts_of rules.GetToScan = row 5 (codes "GetToScan") (Implements Always)
facts_of rules.GetToIndexScan = row 6 (codes "GetToIndexScan") (Implements OwnIndex)
facts_of rules.SelectToFilter = row 7 (codes "SelectToFilter") (Implements Always)
facts_of rules.SelectToIndexSeek = row 8 (codes "SelectToIndexSeek") (Implements UsableIndex)
facts_of rules.JoinToHash = row 9 (codes "JoinToHash") (Implements Equated)
facts_of rules.JoinToMerge = row 10 (codes "JoinToMerge") (Implements Equated)
facts_of rules.JoinToLoop = row 11 (codes "JoinToLoop") (Implements Always)
facts_of rules.AggToHash = row 12 (codes "AggToHash") (Implements Always)
facts_of rules.AggToStream = row 13 (codes "AggToStream") (Implements Grouping)
facts_of rules.PartialToHash = row 14 (codes "PartialToHash") (Implements Always)

-- the number of a rule
abbrev pub rule_number : Rule → ℕ
rule_number rule = (facts_of rule).number

-- the name of a rule
abbrev pub rule_name : Rule → List ℕ
rule_name rule = (facts_of rule).name

-- what a rule does
abbrev pub work_of : Rule → Work
work_of rule = (facts_of rule).work

-- ---- what follows of what a rule does

-- it explores: it says otherwise what is wanted; the other rules say how it is made
abbrev pub is_exploring : Work → Bool
is_exploring (Explores way) = true
is_exploring (Implements condition) = false

abbrev pub explores : Rule → Bool
explores rule = is_exploring (work_of rule)

-- it binds a member of the left child's group
abbrev pub binds_member : Exploration → Bool
binds_member Expansion = false
binds_member Commutation = false
binds_member Association = true
binds_member Split = false

abbrev pub is_binding : Work → Bool
is_binding (Explores way) = binds_member way
is_binding (Implements condition) = false

abbrev pub binds : Rule → Bool
binds rule = is_binding (work_of rule)

-- it can be switched off
abbrev pub can_be_without : Exploration → Bool
can_be_without Expansion = false
can_be_without Commutation = true
can_be_without Association = true
can_be_without Split = true

abbrev pub can_stop : Work → Bool
can_stop (Explores way) = can_be_without way
can_stop (Implements condition) = true

abbrev pub can_be_off : Rule → Bool
can_be_off rule = can_stop (work_of rule)

-- how many results it can have at an expression: one for each index of a table, of which there are at most 16, or one
abbrev pub most_allowed : Condition → ℕ
most_allowed Always = 1
most_allowed Equated = 1
most_allowed Grouping = 1
most_allowed OwnIndex = 16
most_allowed UsableIndex = 16

abbrev pub most_results : Work → ℕ
most_results (Explores way) = 1
most_results (Implements condition) = most_allowed condition

abbrev pub rule_limit : Rule → ℕ
rule_limit rule = most_results (work_of rule)

-- the query doesn't switch the rule off
abbrev pub IsOn : Query → Rule → Type 0
IsOn q rule = bit q.options.off (rule_number rule) ≡ 0

-- ---- what the layers above know of the rules

pub record RulesAreKnown : Type 0 where
  -- a rule stands in the list of all rules under its number
  pub listed : (rule : Rule) → slice_get all_rules (rule_number rule - 1) ≡ Some rule
  pub some : (rule : Rule) → 1 ≤ rule_number rule
  pub few : (rule : Rule) → rule_number rule ≤ length all_rules
  -- a number is that of one rule, and so is a name
  pub number_one : (rule other : Rule) → rule_number rule ≡ rule_number other → rule ≡ other
  pub name_one : (rule other : Rule) → rule_name rule ≡ rule_name other → rule ≡ other
  -- each rule passes a test that all in the list pass
  pub every : (test : Rule → Bool) → list_all test all_rules ≡ true → (rule : Rule) → test rule ≡ true
