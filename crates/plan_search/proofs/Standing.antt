-- What stands at a place, and what stands below it.
use Rattle.std.proofs.Common.{◌≡◌, ℕ, ◌<◌, refl, subst, sym, ◌∙◌, ap, arith}
use Rattle.std.specs.Prelude.{Option, None, Some}
use Rattle.std.specs.Option.{option_and_then}
use Rattle.plan_space.specs.declared.nodes.NodeKind.{NodeKind}
use Rattle.plan_space.specs.Nodes.{Tree, leaf, over, two}
use Rattle.plan_tree.specs.Nodes.{IsNode}
use Rattle.plan_search.specs.declared.kept_plans.KeptPlans.{KeptPlans}
use Rattle.plan_search.specs.declared.choice.Choice.{Choice}
use Rattle.plan_search.specs.declared.choice.KidPlaces.{KidPlaces}
use Rattle.plan_search.specs.declared.choice.KidPlaces.TheVariants as kids
use Rattle.plan_search.specs.KeptPlans.{answer_at, kept_at, IsRootAt, StandsAt}
use Rattle.plan_search.specs.BestSoFar.{IsBuilt}

answer_is : (answer : Option (Option Choice)) (kept : Choice) → option_and_then (λ a. a) answer ≡ Some kept
    → answer ≡ Some (Some kept)
answer_is None kept is = cc
answer_is (Some None) kept is = cc
answer_is (Some (Some other)) kept is = ap (λ a. Some a) is

-- where a tree stands there is an answer
pub stands_some : (answers : KeptPlans) (place : ℕ) (tree : Tree) → StandsAt answers place tree → (kept : Choice)
    × (kept_at answers place ≡ Some kept)
stands_some answers place (leaf node) (kept, root, is) = (kept, ap (option_and_then (λ a. a)) root.at)
stands_some answers place (over node kid) (kept, below, root, is, before, stands) =
    (kept, ap (option_and_then (λ a. a)) root.at)
stands_some answers place (two node left right) (kept, first, second, root, is, before, also, stands, stand) =
    (kept, ap (option_and_then (λ a. a)) root.at)

module _ (answers : KeptPlans) (place : ℕ) (kept : Choice) (at : kept_at answers place ≡ Some kept) where
  same_kids : (other : Choice) (node : NodeKind) (below also : KidPlaces) → IsRootAt answers place other node
      → other.kids ≡ also → kept.kids ≡ below → also ≡ below
  same_kids other node below also root is is_kept =
      let same : Some (Some other) ≡ Some (Some kept) = sym root.at ∙ answer_is (answer_at answers place) kept at in
      let equal : other ≡ kept = cc in
      sym is ∙ ap (λ (c : Choice). c.kids) equal ∙ is_kept

  same_node : (other : Choice) (node : NodeKind) → IsRootAt answers place other node → IsNode kept.node node
  same_node other node root =
      let same : Some (Some other) ≡ Some (Some kept) = sym root.at ∙ answer_is (answer_at answers place) kept at in
      let equal : other ≡ kept = cc in
      subst (λ (c : Choice). IsNode c.node node) equal root.is_node

  -- one with a place below it is a node over what stands there
  pub one_below : (below : ℕ) → kept.kids ≡ kids.One below → (tree : Tree) → StandsAt answers place tree
      → (node : NodeKind) × (kid : Tree) × IsNode kept.node node × (tree ≡ over node kid) × (below < place)
      × StandsAt answers below kid
  one_below below is (leaf node) (other, root, also) = let never : kids.Zero ≡ kids.One below =
      same_kids other node (kids.One below) kids.Zero root also is in cc
  one_below below is (over node kid) (other, under, root, also, before, stands) =
      let one : kids.One under ≡ kids.One below = same_kids other node (kids.One below) (kids.One under) root also is in
      let same : under ≡ below = cc in (
        node,
        kid,
        same_node other node root,
        refl,
        subst (λ p. p < place) same before,
        subst (λ p. StandsAt answers p kid) same stands,
      )
  one_below below is (two node left right) (other, first, second, root, also, before, too, stands, stand) =
      let never : kids.Two first second ≡ kids.One below =
      same_kids other node (kids.One below) (kids.Two first second) root also is in cc

  -- and one with two places below it a node over what stands at these
  pub two_below : (first second : ℕ) → kept.kids ≡ kids.Two first second → (tree : Tree) → StandsAt answers place tree
      → (node : NodeKind) × (left right : Tree) × IsNode kept.node node × (tree ≡ two node left right) × (first < place)
      × (second < place)
      × StandsAt answers first left × StandsAt answers second right
  two_below first second is (leaf node) (other, root, also) = let never : kids.Zero ≡ kids.Two first second =
      same_kids other node (kids.Two first second) kids.Zero root also is in cc
  two_below first second is (over node kid) (other, under, root, also, before, stands) =
      let never : kids.One under ≡ kids.Two first second =
      same_kids other node (kids.Two first second) (kids.One under) root also is in cc
  two_below first second is (two node left right) (other, one, more, root, also, before, too, stands, stand) =
      let both : kids.Two one more ≡ kids.Two first second =
      same_kids other node (kids.Two first second) (kids.Two one more) root also is in
      let same : one ≡ first = cc in
      let same_too : more ≡ second = cc in (
        node,
        left,
        right,
        same_node other node root,
        refl,
        subst (λ p. p < place) same before,
        subst (λ p. p < place) same_too too,
        subst (λ p. StandsAt answers p left) same stands,
        subst (λ p. StandsAt answers p right) same_too stand,
      )

-- ---- answers that come later

module _ (old new : KeptPlans) (bound : ℕ) (kept : (place : ℕ) → place < bound
    → answer_at new place ≡ answer_at old place) where
  root_stays : (place : ℕ) (choice : Choice) (node : NodeKind) → place < bound → IsRootAt old place choice node
      → IsRootAt new place choice node
  root_stays place choice node before root = record { at = kept place before ∙ root.at; is_node = root.is_node }

  -- a tree that stands before them stays
  pub stands_on : (tree : Tree) (place : ℕ) → place < bound → StandsAt old place tree → StandsAt new place tree
  stands_on (leaf node) place before (choice, root, is) = (choice, root_stays place choice node before root, is)
  stands_on (over node kid) place before (choice, below, root, is, less, stands) = (
    choice,
    below,
    root_stays place choice node before root,
    is,
    less,
    stands_on kid below (omega (arith, less, before)) stands,
  )
  stands_on (two node left right) place before (choice, first, second, root, is, less, also, stands, stand) = (
    choice,
    first,
    second,
    root_stays place choice node before root,
    is,
    less,
    also,
    stands_on left first (omega (arith, less, before)) stands,
    stands_on right second (omega (arith, also, before)) stand,
  )

  -- and a tree that was built over such trees stands at the place of its root
  pub built_stands : (choice : Choice) (below : KidPlaces) (node : NodeKind) (tree : Tree) → choice.kids ≡ below
      → IsRootAt new bound choice node → IsBuilt old bound below node tree
      → StandsAt new bound tree
  built_stands choice kids.Zero node tree is root built = subst (StandsAt new bound) (sym built) (choice, root, is)
  built_stands choice (kids.One place) node tree is root (kid, before, stands, built) =
      subst (StandsAt new bound) (sym built) (choice, place, root, is, before, stands_on kid place before stands)
  built_stands choice (kids.Two first second) node tree is root (left, right, before, also, stands, stand, built) =
      subst (StandsAt new bound) (sym built) (
        choice,
        first,
        second,
        root,
        is,
        before,
        also,
        stands_on left first before stands,
        stands_on right second also stand,
      )
