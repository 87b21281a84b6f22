-- A valid plan is a plan tree.
use Rattle.std.proofs.Common.{List, [], ◌∷◌, Option, Some, None, refl, sym, subst}
use Rattle.std.specs.Option.{IsSome}
use Rattle.query_core.specs.Expressions.{IsCandidate, expr_of, physical_children}
use Rattle.query_core.specs.declared.expressions.Children.{Children}
use Rattle.query_core.specs.declared.expressions.ExprParts.{ExprParts}
use Rattle.query_core.specs.declared.query.Query.{Query}
use Rattle.xform_rules.specs.Closure.{IsMember}
use Rattle.plan_space.specs.Choices.{groups_of}
use Rattle.plan_space.specs.Gives.{kid_of}
use Rattle.plan_space.specs.Laws.{AreOf}
use Rattle.plan_space.specs.Lines.{line_of}
use Rattle.plan_space.specs.Nodes.{Tree, leaf, over, two}
use Rattle.plan_space.specs.Valid.{OverOne, OverTwo, OneFits, TwoFit, LineFits, FitsBy, EnforcerFits, NodeFits, IsValid}
use Rattle.plan_space.specs.declared.lines.LeftDist.{LeftDist}
use Rattle.plan_space.specs.declared.lines.LeftOrder.{LeftOrder}
use Rattle.plan_space.specs.declared.lines.Line.{Line}
use Rattle.plan_space.specs.declared.lines.Line.TheVariants as lines
use Rattle.plan_space.specs.declared.nodes.Enforcer.{Enforcer}
use Rattle.plan_space.specs.declared.nodes.Enforcer.TheVariants as enforcers
use Rattle.plan_space.specs.declared.nodes.NodeKind.{NodeKind}
use Rattle.plan_space.specs.declared.nodes.NodeKind.TheVariants as nodes
use Rattle.plan_space.specs.declared.seen.Kid.{Kid}
use Rattle.request_props.specs.declared.request.Request.{Request}
use Rattle.plan_check.specs.Kids.{HasKids}
use Rattle.plan_check.specs.Nodes.{IsKindOf, IsEnforcerOf}
use Rattle.plan_reading.specs.Outline.{IsPlanTree}

module _ (q : Query) where
  one_kid : (children : Children) (dist : LeftDist) (order : LeftOrder) (kids : List Kid)
      → OverOne (OneFits q children dist order) kids → AreOf (groups_of children) kids
  one_kid children dist order [] fits = absurd fits
  one_kid children dist order (kid ∷ []) fits =
      subst (λ c. AreOf (groups_of c) (kid ∷ [])) (sym fits.of_child) (refl, tt)
  one_kid children dist order (kid ∷ other ∷ kids) fits = absurd fits

  two_kids : (children : Children) (dist : LeftDist) (order : LeftOrder) (request : Request) (kids : List Kid)
      → OverTwo (TwoFit q children dist order request) kids → AreOf (groups_of children) kids
  two_kids children dist order request [] fits = absurd fits
  two_kids children dist order request (kid ∷ []) fits = absurd fits
  two_kids children dist order request (left ∷ right ∷ []) fits =
      subst (λ c. AreOf (groups_of c) (left ∷ right ∷ [])) (sym fits.of_children) (refl, (refl, tt))
  two_kids children dist order request (left ∷ right ∷ other ∷ kids) fits = absurd fits

  line_kids : (line : Line) (children : Children) (kids : List Kid) → LineFits q line children kids
      → AreOf (groups_of children) kids
  line_kids (lines.Leaf dist order) children kids fits =
      subst (λ c. AreOf (groups_of c) kids) (sym fits.0) (subst (AreOf []) (sym fits.1) tt)
  line_kids (lines.Above dist order) children kids fits = one_kid children dist order kids fits
  line_kids (lines.Beside dist order request) children kids fits = two_kids children dist order request kids fits

  record HasLine (line : Option Line) (children : Children) (kids : List Kid) : Type 0 where
    there : IsSome line
    kids_are : AreOf (groups_of children) kids

  fits_line : (line : Option Line) (children : Children) (kids : List Kid) → FitsBy q line children kids
      → HasLine line children kids
  fits_line None children kids fits = absurd fits
  fits_line (Some line) children kids fits = record { there = refl; kids_are = line_kids line children kids fits }

  enforcer_of : (e : Enforcer) (kid : Kid) → EnforcerFits q e kid → IsEnforcerOf q e
  enforcer_of enforcers.Gather kid fits = tt
  enforcer_of enforcers.Broadcast kid fits = tt
  enforcer_of (enforcers.Sort order) kid fits = record { not_empty = fits.not_empty; numbered = fits.numbered }
  enforcer_of (enforcers.GatherMerge order) kid fits =
      record { not_empty = fits.can_sort.not_empty; numbered = fits.can_sort.numbered }
  enforcer_of (enforcers.Redistribute list) kid fits = fits.hash_fits.numbered

  record IsFine (node : NodeKind) (kids : List Kid) : Type 0 where
    kind : IsKindOf q node
    has_kids : HasKids node kids

  enforcer_fine : (e : Enforcer) (kids : List Kid) → OverOne (EnforcerFits q e) kids → IsFine (nodes.Enforcer e) kids
  enforcer_fine e [] fits = absurd fits
  enforcer_fine e (kid ∷ []) fits = record { kind = enforcer_of e kid fits; has_kids = tt }
  enforcer_fine e (kid ∷ other ∷ kids) fits = absurd fits

  module _ (known : (e : ExprParts) → IsMember q e → IsCandidate q e) where
    node_fine : (node : NodeKind) (kids : List Kid) → NodeFits (IsMember q) q node kids → IsFine node kids
    node_fine (nodes.Native e mode) kids fits =
        let has = fits_line (line_of q e mode) (physical_children e.operator) kids fits.1 in
        record { kind = record { candidate = known (expr_of e) fits.0; has_line = has.there }; has_kids = has.kids_are }
    node_fine (nodes.Enforcer e) kids fits = enforcer_fine e kids fits

    pub valid_tree : (t : Tree) → IsValid (IsMember q) q t → IsPlanTree q t
    valid_tree (leaf node) valid = let fine = node_fine node [] valid in (fine.kind, fine.has_kids)
    valid_tree (over node kid) valid =
        let fine = node_fine node (kid_of q kid ∷ []) valid.1 in (valid_tree kid valid.0, fine.kind, fine.has_kids)
    valid_tree (two node left right) valid =
        let fine = node_fine node (kid_of q left ∷ kid_of q right ∷ []) valid.2 in
        (valid_tree left valid.0, valid_tree right valid.1, fine.kind, fine.has_kids)
