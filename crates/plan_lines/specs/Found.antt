-- The text of what a search found.
use Rattle.std.specs.Prelude.{ℕ, ◌≡◌, List}
use Rattle.std.specs.List.{concat}
use Rattle.query_core.specs.declared.query.Query.{Query}
use Rattle.xform_rules.specs.Closure.{IsMember}
use Rattle.plan_space.specs.Nodes.{Tree}
use Rattle.plan_space.specs.Valid.{IsValid}
use Rattle.plan_space.specs.Cost.{cost_of}
use Rattle.plan_tree.specs.Spells.{Spells}
use Rattle.plan_tree.specs.declared.plan.Plan.{Plan}
use Rattle.plan_tree.specs.declared.plan.Found.{Found}
use Rattle.plan_tree.specs.declared.plan.Found.TheVariants.{Least, NoPlan}
use Rattle.plan_lines.specs.Text.{plan_section, no_plan_section}

-- the bytes are the lines of the valid plan tree that the plan is, where the cost is that tree's
abbrev pub IsLeastText : Query → Plan → ℕ → List ℕ → Type 0
IsLeastText q plan cost text =
    (tree : Tree) → Spells plan tree → IsValid (IsMember q) q tree → cost ≡ cost_of q tree
    → text ≡ concat (plan_section q tree)

-- the bytes of the lines of the least plan, or of the line that says there is none
abbrev pub IsFoundText : Query → Found → List ℕ → Type 0
IsFoundText q (Least plan cost) text = IsLeastText q plan cost text
IsFoundText q NoPlan text = text ≡ concat no_plan_section
