-- What is found out of a text that is given.
use Rattle.std.specs.Prelude.{ℕ, ◌≡◌, ◌≢◌, ◌≤◌, ◌<◌, ◌+◌, ◌⊎◌, ◌↔◌, List, length, All, zip, Result, Ok, Err, ⊤}
use Rattle.std.specs.List.{concat}
use Rattle.query_core.specs.Expressions.{expr_of}
use Rattle.query_core.specs.Keys.{root_of}
use Rattle.query_core.specs.declared.query.Query.{Query}
use Rattle.xform_rules.specs.Closure.{IsMember}
use Rattle.request_props.specs.Numbered.{root_request}
use Rattle.request_props.specs.Satisfied.{Satisfies}
use Rattle.plan_space.specs.Cost.{cost_of}
use Rattle.plan_space.specs.Gives.{gives}
use Rattle.plan_space.specs.Least.{Serves}
use Rattle.plan_space.specs.Nodes.{Tree}
use Rattle.plan_space.specs.Valid.{IsValid}
use Rattle.plan_space.specs.declared.nodes.NodeKind.{NodeKind}
use Rattle.plan_space.specs.declared.nodes.NodeKind.TheVariants as nodes
use Rattle.plan_check.specs.Kids.{RootFits}
use Rattle.plan_check.specs.Outcome.{most_nodes}
use Rattle.plan_check.specs.Places.{IsFirstWithout}
use Rattle.plan_check.specs.Preorder.{plans_in}
use Rattle.plan_lines.specs.Text.{plan_section}
use Rattle.plan_reading.specs.Formed.{most_bytes, HasFormFault, IsFormed}
use Rattle.plan_reading.specs.declared.line.NodeLine.{NodeLine}
use Rattle.text_check.specs.Blocks.{AreLinesOf, IsMisfit}
use Rattle.text_check.specs.OwnLines.{own_lines}
use Rattle.text_check.specs.declared.own.OwnLine.{OwnLine}
use Rattle.text_check.specs.declared.text_fault.TextFault.{TextFault}
use Rattle.text_check.specs.declared.text_fault.TextFault.TheVariants as faults

-- ---- the text of a plan

-- the text is the section of a valid plan of the root over members, of few enough nodes, that gives what is asked for
pub record IsGoodText (q : Query) (text : List ℕ) (cost : ℕ) : Type 0 where
  pub short : length text ≤ most_bytes
  pub tree : Tree
  pub few : length (plans_in tree) ≤ most_nodes
  pub serves : Serves (IsMember q) q (root_of q) (root_request q) tree
  pub text_is : text ≡ concat (plan_section q tree)
  pub cost_is : cost ≡ cost_of q tree

-- ---- what is known of a text that has lines

-- the text is short enough, and made of these lines
pub record HasLines (q : Query) (text : List ℕ) (cost : ℕ) (lines : List NodeLine) : Type 0 where
  pub short : length text ≤ most_bytes
  pub formed : IsFormed q text cost lines

-- the lines are few enough, and but for their numbers those of the plan, whose nodes are nodes of the query over kids
-- right in number and group, the root's group at its root
pub record IsTreeText (q : Query) (text : List ℕ) (cost : ℕ) (lines : List NodeLine) (tree : Tree) : Type 0 where
  pub has_lines : HasLines q text cost lines
  pub few : length lines ≤ most_nodes
  pub spelled : AreLinesOf q lines tree

-- the rules lead to the node's expression; an enforcer has none
abbrev pub IsMemberNode : Query → NodeKind → Type 0
IsMemberNode q (nodes.Native e mode) = IsMember q (expr_of e)
IsMemberNode q (nodes.Enforcer e) = ⊤

abbrev pub IsMemberLine : Query → OwnLine → Type 0
IsMemberLine q own = IsMemberNode q own.node

-- the line has the rows and the cost of the plan's own
pub record HasNumbersOf (line : NodeLine) (own : OwnLine) : Type 0 where
  pub rows : line.rows ≡ own.rows
  pub cost : line.cost ≡ own.cost

abbrev pub HasOwnNumbers : NodeLine × OwnLine → Type 0
HasOwnNumbers both = HasNumbersOf both.0 both.1

-- this is the line of the first node that lacks the fact: two lines stand before those of nodes
pub record IsFirstLineWithout {X : Type 0} (Fact : X → Type 0) (nodes : List X) (line : ℕ) : Type 0 where
  pub place : ℕ
  pub line_is : line ≡ place + 2
  pub first : IsFirstWithout Fact nodes place

-- ---- faults

abbrev pub IsTooLong : List ℕ → Type 0
IsTooLong text = most_bytes < length text

-- the text is short enough, and this line lacks its form
pub record IsUnformed (q : Query) (text : List ℕ) (line : ℕ) : Type 0 where
  pub short : length text ≤ most_bytes
  pub fault : HasFormFault q text line

-- its lines of nodes are too many, and so many
pub record IsTooLarge (q : Query) (text : List ℕ) (nodes : ℕ) : Type 0 where
  pub cost : ℕ
  pub lines : List NodeLine
  pub has_lines : HasLines q text cost lines
  pub many : most_nodes < length lines
  pub told : nodes ≡ length lines

-- they are few enough, and this is the last that doesn't fit over those below it
pub record HasMisfit (q : Query) (text : List ℕ) (line : ℕ) : Type 0 where
  pub cost : ℕ
  pub lines : List NodeLine
  pub has_lines : HasLines q text cost lines
  pub few : length lines ≤ most_nodes
  pub misfit : IsMisfit q lines line

-- they are those of a plan, and this is the first of an expression to which no rule leads
pub record HasOutsider (q : Query) (text : List ℕ) (line : ℕ) : Type 0 where
  pub cost : ℕ
  pub lines : List NodeLine
  pub tree : Tree
  pub is_text : IsTreeText q text cost lines tree
  pub first : IsFirstLineWithout (IsMemberLine q) (own_lines q tree) line

-- all expressions are members, and this is the first node whose kids don't give what it needs, or whose order or list
-- doesn't lie in its group
pub record HasUnfit (q : Query) (text : List ℕ) (line : ℕ) : Type 0 where
  pub cost : ℕ
  pub lines : List NodeLine
  pub tree : Tree
  pub is_text : IsTreeText q text cost lines tree
  pub members : All (IsMemberLine q) (own_lines q tree)
  pub first : IsFirstLineWithout (RootFits q) (plans_in tree) line

-- the plan is valid over members, and doesn't give what is asked of the whole plan
pub record IsUnsatisfied (q : Query) (text : List ℕ) : Type 0 where
  pub cost : ℕ
  pub lines : List NodeLine
  pub tree : Tree
  pub is_text : IsTreeText q text cost lines tree
  pub valid : IsValid (IsMember q) q tree
  pub unmet : Satisfies q (gives q tree) (root_request q) → ⊥

-- the total is that of the plan, and so are the numbers of all lines
pub record AreOwnNumbers (cost : ℕ) (lines : List NodeLine) (total : ℕ) (own : List OwnLine) : Type 0 where
  pub total_is : cost ≡ total
  pub each : All HasOwnNumbers (zip lines own)

-- line 0 has another total than the plan, or else this is the first whose rows or cost aren't the plan's own
abbrev pub IsNumberAt : ℕ → List NodeLine → ℕ → List OwnLine → ℕ → Type 0
IsNumberAt cost lines total own line =
    ((line ≡ 0) × (cost ≢ total)) ⊎ ((cost ≡ total) × IsFirstLineWithout HasOwnNumbers (zip lines own) line)

-- the plan is valid over members and gives what is asked for, and a number of this line isn't its own
pub record HasNumberFault (q : Query) (text : List ℕ) (line : ℕ) : Type 0 where
  pub cost : ℕ
  pub lines : List NodeLine
  pub tree : Tree
  pub is_text : IsTreeText q text cost lines tree
  pub serves : Serves (IsMember q) q (root_of q) (root_request q) tree
  pub at : IsNumberAt cost lines (cost_of q tree) (own_lines q tree) line

-- ---- the outcome

-- the fault is the text's; none before it in this order is
abbrev pub HasFault : Query → List ℕ → TextFault → Type 0
HasFault q text faults.TooLong = IsTooLong text
HasFault q text (faults.Form line) = IsUnformed q text line
HasFault q text (faults.TooLarge nodes) = IsTooLarge q text nodes
HasFault q text (faults.Kids line) = HasMisfit q text line
HasFault q text (faults.Member line) = HasOutsider q text line
HasFault q text (faults.Needs line) = HasUnfit q text line
HasFault q text faults.Request = IsUnsatisfied q text
HasFault q text (faults.Number line) = HasNumberFault q text line
HasFault q text faults.Memory = ⊤

-- the cost or the fault of the text
abbrev pub IsOutcome : Query → List ℕ → Result ℕ TextFault → Type 0
IsOutcome q text (Ok cost) = IsGoodText q text cost
IsOutcome q text (Err fault) = HasFault q text fault

-- unless memory ran out, this is the answer exactly where the fact holds
abbrev pub IsExactly : Result ℕ TextFault → Result ℕ TextFault → Type 0 → Type 0
IsExactly result answer Fact = result ≢ Err faults.Memory → ((result ≡ answer) ↔ Fact)

-- ---- numbers

-- the fault is at the line of the first number that isn't the plan's own
abbrev pub IsNumberFault : ℕ → List NodeLine → ℕ → List OwnLine → TextFault → Type 0
IsNumberFault cost lines total own fault =
    (line : ℕ) × (fault ≡ faults.Number line) × IsNumberAt cost lines total own line
