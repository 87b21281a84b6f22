-- A tree is valid where each root in it may stand over its kids, and then each has the right ones.
use Rattle.std.proofs.Common.{List, [], ◌∷◌, ◌++◌, Option, None, Some, refl}
use Rattle.std.specs.List.{All}
use Rattle.std.proofs.lemmas.List.Elements.{All-nil, All-cons, All-head, All-tail, All-append, All-weaker}
use Rattle.query_core.specs.Expressions.{physical_children, IsCandidate}
use Rattle.query_core.specs.declared.query.Query.{Query}
use Rattle.query_core.specs.declared.expressions.Children.{Children}
use Rattle.plan_space.specs.declared.nodes.NodeKind.{NodeKind}
use Rattle.plan_space.specs.declared.nodes.NodeKind.TheVariants as nodes
use Rattle.plan_space.specs.Nodes.{Tree, leaf, over, two}
use Rattle.plan_space.specs.declared.lines.Line.{Line}
use Rattle.plan_space.specs.declared.lines.Line.TheVariants.{Leaf, Above, Beside}
use Rattle.plan_space.specs.Lines.{line_of}
use Rattle.plan_space.specs.declared.seen.Kid.{Kid}
use Rattle.plan_space.specs.Valid.{OverOne, FitsBy, NodeFits, IsValid, EnforcerFits}
use Rattle.plan_space.specs.Choices.{groups_of}
use Rattle.plan_space.specs.Laws.{AreOf}
use Rattle.plan_tree.specs.Seen.{root_node}
use Rattle.plan_check.specs.Preorder.{plans_in}
use Rattle.plan_check.specs.Kids.{IsOne, HasKids, RootHasKids, RootFits, kids_of}
use Rattle.plan_check.proofs.Lists.{all_left, all_right}

-- a tree is valid where each root in it may stand over its kids
pub fits_valid : (q : Query) (tree : Tree) → All (RootFits q) (plans_in tree) → IsValid (IsCandidate q) q tree
fits_valid q (leaf node) all = All-head (RootFits q) (leaf node) [] all
fits_valid q (over node kid) all = (
  fits_valid q kid (All-tail (RootFits q) (over node kid) (plans_in kid) all),
  All-head (RootFits q) (over node kid) (plans_in kid) all,
)
fits_valid q (two node left right) all =
    let below = All-tail (RootFits q) (two node left right) (plans_in left ++ plans_in right) all in (
      fits_valid q left (all_left (RootFits q) (plans_in left) (plans_in right) below),
      fits_valid q right (all_right (RootFits q) (plans_in left) (plans_in right) below),
      All-head (RootFits q) (two node left right) (plans_in left ++ plans_in right) all,
    )

-- and where it is valid, each may
pub valid_fits : (q : Query) (tree : Tree) → IsValid (IsCandidate q) q tree → All (RootFits q) (plans_in tree)
valid_fits q (leaf node) valid = All-cons (RootFits q) (leaf node) [] valid (All-nil (RootFits q))
valid_fits q (over node kid) (below, fits) =
    All-cons (RootFits q) (over node kid) (plans_in kid) fits (valid_fits q kid below)
valid_fits q (two node left right) (first, second, fits) =
    All-cons (RootFits q) (two node left right) (plans_in left ++ plans_in right) fits
    (All-append (RootFits q) (plans_in left) (plans_in right) (valid_fits q left first) (valid_fits q right second))

-- an enforcer stands over one plan
over_one : (Fact : Kid → Type 0) (kids : List Kid) → OverOne Fact kids → IsOne kids
over_one Fact [] fits = absurd fits
over_one Fact (kid ∷ []) fits = tt
over_one Fact (kid ∷ other ∷ others) fits = absurd fits

-- a line stands over plans of the children
line_kids : (q : Query) (found : Option Line) (children : Children) (kids : List Kid) → FitsBy q found children kids
    → AreOf (groups_of children) kids
line_kids q None children kids fits = absurd fits
line_kids q (Some (Leaf dist order)) children kids fits = rw (fits.0, fits.1) tt
line_kids q (Some (Above dist order)) children [] fits = absurd fits
line_kids q (Some (Above dist order)) children (kid ∷ []) fits = rw fits.of_child (refl, tt)
line_kids q (Some (Above dist order)) children (kid ∷ other ∷ others) fits = absurd fits
line_kids q (Some (Beside dist order request)) children [] fits = absurd fits
line_kids q (Some (Beside dist order request)) children (kid ∷ []) fits = absurd fits
line_kids q (Some (Beside dist order request)) children (left ∷ right ∷ []) fits =
    rw fits.of_children (refl, (refl, tt))
line_kids q (Some (Beside dist order request)) children (left ∷ right ∷ other ∷ others) fits = absurd fits

-- a node that may stand over its kids has the right ones
fits_kids : (q : Query) (node : NodeKind) (kids : List Kid) → NodeFits (IsCandidate q) q node kids → HasKids node kids
fits_kids q (nodes.Native e mode) kids fits = line_kids q (line_of q e mode) (physical_children e.operator) kids fits.1
fits_kids q (nodes.Enforcer e) kids fits = over_one (EnforcerFits q e) kids fits

-- so a valid tree has the right kids everywhere
pub valid_kids : (q : Query) (tree : Tree) → IsValid (IsCandidate q) q tree → All (RootHasKids q) (plans_in tree)
valid_kids q tree valid =
    All-weaker (RootFits q) (RootHasKids q) (λ plan fits. fits_kids q (root_node plan) (kids_of q plan) fits)
    (plans_in tree) (valid_fits q tree valid)
