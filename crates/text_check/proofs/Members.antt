-- A plan is valid over members where it is valid over candidates, and each of its expressions is a member.
use Rattle.std.proofs.Common.{List, [], ◌∷◌, ◌++◌}
use Rattle.std.specs.List.{All}
use Rattle.std.proofs.lemmas.List.Elements.{All-nil, All-cons, All-head, All-tail, All-append}
use Rattle.query_core.specs.Expressions.{expr_of, IsCandidate}
use Rattle.query_core.specs.declared.expressions.ExprParts.{ExprParts}
use Rattle.query_core.specs.declared.query.Query.{Query}
use Rattle.xform_rules.specs.Closure.{IsMember}
use Rattle.plan_space.specs.Gives.{kid_of}
use Rattle.plan_space.specs.Nodes.{Tree, leaf, over, two}
use Rattle.plan_space.specs.Valid.{NodeFits, IsValid}
use Rattle.plan_space.specs.declared.nodes.NodeKind.{NodeKind}
use Rattle.plan_space.specs.declared.nodes.NodeKind.TheVariants as nodes
use Rattle.plan_space.specs.declared.seen.Kid.{Kid}
use Rattle.plan_check.proofs.Lists.{all_left, all_right}
use Rattle.text_check.specs.Outcome.{IsMemberNode, IsMemberLine}
use Rattle.text_check.specs.OwnLines.{own_line, own_lines}

module _ (q : Query) where
  -- a node that may stand over kids where members are there is one, and it may where candidates are
  member_node : (node : NodeKind) (kids : List Kid) → NodeFits (IsMember q) q node kids → IsMemberNode q node
  member_node (nodes.Native e mode) kids fits = fits.0
  member_node (nodes.Enforcer e) kids fits = tt

  of_candidates : ((e : ExprParts) → IsMember q e → IsCandidate q e) → (node : NodeKind) (kids : List Kid)
      → NodeFits (IsMember q) q node kids → NodeFits (IsCandidate q) q node kids
  of_candidates known (nodes.Native e mode) kids fits = (known (expr_of e) fits.0, fits.1)
  of_candidates known (nodes.Enforcer e) kids fits = fits

  of_members : (node : NodeKind) (kids : List Kid) → NodeFits (IsCandidate q) q node kids → IsMemberNode q node
      → NodeFits (IsMember q) q node kids
  of_members (nodes.Native e mode) kids fits member = (member, fits.1)
  of_members (nodes.Enforcer e) kids fits member = fits

  -- a valid plan is one over members
  pub valid_members : (t : Tree) → IsValid (IsMember q) q t → All (IsMemberLine q) (own_lines q t)
  valid_members (leaf node) valid =
      All-cons (IsMemberLine q) (own_line q node []) [] (member_node node [] valid) (All-nil (IsMemberLine q))
  valid_members (over node kid) valid =
      let kids = kid_of q kid ∷ [] in
      All-cons (IsMemberLine q) (own_line q node kids) (own_lines q kid) (member_node node kids valid.1)
      (valid_members kid valid.0)
  valid_members (two node left right) valid =
      let kids = kid_of q left ∷ kid_of q right ∷ [] in
      All-cons (IsMemberLine q) (own_line q node kids) (own_lines q left ++ own_lines q right)
      (member_node node kids valid.2)
      (All-append (IsMemberLine q) (own_lines q left) (own_lines q right) (valid_members left valid.0)
      (valid_members right valid.1))

  pub valid_candidates : ((e : ExprParts) → IsMember q e → IsCandidate q e) → (t : Tree) → IsValid (IsMember q) q t
      → IsValid (IsCandidate q) q t
  valid_candidates known (leaf node) valid = of_candidates known node [] valid
  valid_candidates known (over node kid) valid =
      (valid_candidates known kid valid.0, of_candidates known node (kid_of q kid ∷ []) valid.1)
  valid_candidates known (two node left right) valid = (
    valid_candidates known left valid.0,
    valid_candidates known right valid.1,
    of_candidates known node (kid_of q left ∷ kid_of q right ∷ []) valid.2,
  )

  -- and one over candidates is valid where these are members
  pub members_valid : (t : Tree) → IsValid (IsCandidate q) q t → All (IsMemberLine q) (own_lines q t)
      → IsValid (IsMember q) q t
  members_valid (leaf node) valid members =
      of_members node [] valid (All-head (IsMemberLine q) (own_line q node []) [] members)
  members_valid (over node kid) valid members =
      let kids = kid_of q kid ∷ [] in (
        members_valid kid valid.0 (All-tail (IsMemberLine q) (own_line q node kids) (own_lines q kid) members),
        of_members node kids valid.1 (All-head (IsMemberLine q) (own_line q node kids) (own_lines q kid) members),
      )
  members_valid (two node left right) valid members =
      let kids = kid_of q left ∷ kid_of q right ∷ [] in
      let lines = own_lines q left ++ own_lines q right in
      let below = All-tail (IsMemberLine q) (own_line q node kids) lines members in (
        members_valid left valid.0 (all_left (IsMemberLine q) (own_lines q left) (own_lines q right) below),
        members_valid right valid.1 (all_right (IsMemberLine q) (own_lines q left) (own_lines q right) below),
        of_members node kids valid.2 (All-head (IsMemberLine q) (own_line q node kids) lines members),
      )
