-- What rules bring, with a bound member or without one.
use Rattle.std.specs.Prelude.{ℕ, ◌<◌, Option, Some, IsTrue}
use Rattle.query_core.specs.Expressions.{children_of}
use Rattle.query_core.specs.declared.query.Query.{Query}
use Rattle.query_core.specs.declared.expressions.ExprParts.{ExprParts}
use Rattle.query_core.specs.declared.words.KeyParts.{KeyParts}
use Rattle.xform_rules.specs.Closure.{IsMember}
use Rattle.xform_rules.specs.Results.{HasResult}
use Rattle.xform_rules.specs.Rules.{binds}
use Rattle.xform_rules.specs.declared.rules.Rule.{Rule}
use Rattle.goal_space.specs.Children.{IsLeft, IsLogicalIn}
use Rattle.goal_space.specs.Asked.{IsBroughtBy}
use Rattle.job_turns.specs.declared.board_search.BoardSearch.{BoardSearch}
use Rattle.job_turns.specs.declared.rule_results.RuleBinding.{RuleBinding}

-- the n-th result, or the origin of a group that it stands on
abbrev pub IsBroughtAt : Query → Rule → ExprParts → Option ExprParts → ℕ → ExprParts → Type 0
IsBroughtAt q rule e bound n other = (found : ExprParts) × HasResult q rule e bound n found × IsBroughtBy q found other

-- the same of some result
abbrev pub IsBroughtWith : Query → Rule → ExprParts → Option ExprParts → ExprParts → Type 0
IsBroughtWith q rule e bound other = (n : ℕ) × IsBroughtAt q rule e bound n other

-- the same of a result below the n-th
abbrev pub IsBroughtBelow : Query → Rule → ExprParts → Option ExprParts → ℕ → ExprParts → Type 0
IsBroughtBelow q rule e bound below other = (n : ℕ) × (n < below) × IsBroughtAt q rule e bound n other

-- the same with some logical member of the group bound
abbrev pub IsBroughtFrom : Query → Rule → ExprParts → KeyParts → ExprParts → Type 0
IsBroughtFrom q rule e group other = (bound : ExprParts) × IsLogicalIn (IsMember q) group bound
    × IsBroughtWith q rule e (Some bound) other

-- the rule binds a member of the left child's group, which is this one
abbrev pub IsLeftOf : ExprParts → Rule → KeyParts → Type 0
IsLeftOf e rule group = IsTrue (binds rule) × IsLeft (children_of e.operator) group

-- ---- over a search

-- what the rule brings as it is bound
abbrev pub IsFromRule : BoardSearch → RuleBinding → ExprParts → Type 0
IsFromRule search binding other = IsBroughtWith search.query.now binding.rule binding.e binding.bound other

-- the n-th result of it, or the origin of a group that this stands on
abbrev pub IsFromRuleAt : BoardSearch → RuleBinding → ℕ → ExprParts → Type 0
IsFromRuleAt search binding n other = IsBroughtAt search.query.now binding.rule binding.e binding.bound n other

-- what the rule brings with some logical member of the group bound
abbrev pub IsFromBound : BoardSearch → Rule → ExprParts → KeyParts → ExprParts → Type 0
IsFromBound search rule e group other = IsBroughtFrom search.query.now rule e group other
