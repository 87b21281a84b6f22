-- The plans that are made of lines, from the last line up.
use Rattle.std.specs.Prelude.{ℕ, ◌≡◌, ◌<◌, ◌≤◌, List, [], ◌∷◌, ◌++◌, Option, None, Some, map, ⊤}
use Rattle.query_core.specs.Keys.{root_of, IsGroupInRange}
use Rattle.query_core.specs.declared.query.Query.{Query}
use Rattle.plan_space.specs.Gives.{node_group, kid_of}
use Rattle.plan_space.specs.Nodes.{Tree, leaf, over, two, node_modes}
use Rattle.plan_space.specs.declared.nodes.NodeKind.{NodeKind}
use Rattle.plan_space.specs.declared.nodes.NodeKind.TheVariants as nodes
use Rattle.plan_space.specs.declared.seen.Kid.{Kid}
use Rattle.plan_tree.specs.Seen.{root_node}
use Rattle.plan_tree.specs.Spells.{Spells}
use Rattle.plan_check.specs.Kids.{HasKids}
use Rattle.plan_check.specs.Nodes.{IsKindOf}
use Rattle.plan_reading.specs.Lines.{sketch}
use Rattle.plan_reading.specs.Named.{named_of}
use Rattle.plan_reading.specs.Outline.{outline, IsPlanTree}
use Rattle.plan_reading.specs.declared.line.NodeLine.{NodeLine}
use Rattle.text_check.specs.Blocks.{EndsBlock, IsMisfit}
use Rattle.text_check.specs.declared.fault.TreeFault.{TreeFault}
use Rattle.text_check.specs.declared.fault.TreeFault.TheVariants as faults
use Rattle.text_check.specs.declared.kids.Grown.{Grown}
use Rattle.text_check.specs.declared.kids.TakenKids.{TakenKids}
use Rattle.text_check.specs.declared.kids.TakenKids.TheVariants as kids

-- ---- one plan

-- the plans below a plan's root
abbrev pub subtrees : Tree → List Tree
subtrees (leaf node) = []
subtrees (over node kid) = kid ∷ []
subtrees (two node left right) = left ∷ right ∷ []

-- a plan with the line's node at its root, over these, and at level 0 of the query's root
pub record StandsOver (q : Query) (line : NodeLine) (below : List Tree) (tree : Tree) : Type 0 where
  pub is_tree : IsPlanTree q tree
  pub over : subtrees tree ≡ below
  pub named : named_of (root_node tree) ≡ line.node
  pub of_root : line.level ≡ 0 → (kid_of q tree).group ≡ root_of q

-- the node may stand over plans that are seen so, at the level of the line
pub record MayStand (q : Query) (level : ℕ) (node : NodeKind) (kids : List Kid) : Type 0 where
  pub kind : IsKindOf q node
  pub has_kids : HasKids node kids
  pub of_root : level ≡ 0 → node_group node kids ≡ root_of q

-- an expression's mode is one that a node's number can name
abbrev pub HasMode : NodeKind → Type 0
HasMode (nodes.Native e mode) = mode < node_modes
HasMode (nodes.Enforcer e) = ⊤

-- the program's plan is this tree, and seen as that is
pub record IsGrown (q : Query) (grown : Grown) (tree : Tree) : Type 0 where
  pub is_tree : IsPlanTree q tree
  pub spells : Spells grown.plan tree
  pub kid : grown.kid ≡ kid_of q tree

-- so are these
abbrev pub AreGrown : Query → List Grown → List Tree → Type 0
AreGrown q [] [] = ⊤
AreGrown q [] (tree ∷ trees) = ⊥
AreGrown q (grown ∷ others) [] = ⊥
AreGrown q (grown ∷ others) (tree ∷ trees) = IsGrown q grown tree × AreGrown q others trees

-- the plan of the line over these
pub record IsOver (q : Query) (line : NodeLine) (below : List Tree) (grown : Grown) : Type 0 where
  pub tree : Tree
  pub stands : StandsOver q line below tree
  pub is : IsGrown q grown tree
  pub level : grown.level ≡ line.level

-- ---- the plans below a node

-- none, one or two, the left one first
abbrev pub kids_list : TakenKids → List Grown
kids_list kids.Nothing = []
kids_list (kids.One only) = only ∷ []
kids_list (kids.Two left right) = left ∷ right ∷ []

-- what is seen of them
abbrev pub grown_kids : List Grown → List Kid
grown_kids list = map (λ grown. grown.kid) list

-- their groups are groups that some query can have
abbrev pub HaveRanges : List Kid → Type 0
HaveRanges [] = ⊤
HaveRanges (kid ∷ others) = IsGroupInRange kid.group × HaveRanges others

-- a node over none, one or two plans
abbrev pub tree_over : NodeKind → List Tree → Tree
tree_over node [] = leaf node
tree_over node (kid ∷ []) = over node kid
tree_over node (left ∷ right ∷ others) = two node left right

-- ---- the plans of all lines, the one of the first line first

-- it lies deeper
abbrev pub IsDeeper : ℕ → Grown → Type 0
IsDeeper level grown = level < grown.level

-- each of them lies deeper
abbrev pub AreDeeper : ℕ → List Grown → Type 0
AreDeeper level [] = ⊤
AreDeeper level (grown ∷ others) = IsDeeper level grown × AreDeeper level others

-- the first of them doesn't lie deeper
abbrev pub EndsAt : ℕ → List Grown → Type 0
EndsAt level [] = ⊤
EndsAt level (grown ∷ others) = grown.level ≤ level

-- the first plan is that of a block of lines, behind which none is part of it
pub record IsBlock (q : Query) (grown : Grown) (tree : Tree) (lines block rest : List NodeLine) : Type 0 where
  pub parts : lines ≡ block ++ rest
  pub is : IsGrown q grown tree
  pub spelled : map sketch block ≡ outline grown.level tree
  pub of_root : grown.level ≡ 0 → (kid_of q tree).group ≡ root_of q
  pub ends : EndsBlock grown.level rest

-- the plans of the lines, block by block
abbrev pub AreOf : Query → List Grown → List NodeLine → Type 0
AreOf q [] lines = lines ≡ []
AreOf q (grown ∷ others) lines = (tree : Tree) × (block : List NodeLine) × (rest : List NodeLine)
    × IsBlock q grown tree lines block rest × AreOf q others rest

-- the first lies deeper
abbrev pub IsFirstDeeper : ℕ → List Grown → Type 0
IsFirstDeeper level [] = ⊥
IsFirstDeeper level (grown ∷ others) = IsDeeper level grown

-- the first was taken off, if it lies deeper
abbrev pub IsPopped : ℕ → List Grown → List Grown → Option Grown → Type 0
IsPopped level before after None = (before ≡ after) × EndsAt level after
IsPopped level before after (Some first) = (before ≡ first ∷ after) × IsDeeper level first

-- the deeper plans were taken off, none, one or two of them; there are more where none are told
abbrev pub IsTaken : ℕ → List Grown → List Grown → Option TakenKids → Type 0
IsTaken level before after None = (first : Grown) × (second : Grown) × (third : Grown) × (others : List Grown)
    × (before ≡ first ∷ second ∷ third ∷ others) × AreDeeper level (first ∷ second ∷ third ∷ [])
IsTaken level before after (Some taken) =
    (before ≡ kids_list taken ++ after) × AreDeeper level (kids_list taken) × EndsAt level after

-- the fault is that of all lines
abbrev pub HasTreeFault : Query → List NodeLine → TreeFault → Type 0
HasTreeFault q lines (faults.Kids line) = IsMisfit q lines line
HasTreeFault q lines faults.Memory = ⊤
