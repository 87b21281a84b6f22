-- Expressions in modes: all that are members of a group, and those of them that may give a distribution.
use Rattle.std.specs.Prelude.{ℕ, ◌++◌, ◌≡◌, ◌<◌, ◌≤◌, ◌⊎◌, ◌+◌, ◌^◌, List, [], ◌∷◌, Some, ⊤}
use Rattle.query_core.specs.Expressions.{expr_of}
use Rattle.query_core.specs.declared.query.Query.{Query}
use Rattle.query_core.specs.declared.words.KeyParts.{KeyParts}
use Rattle.query_core.specs.declared.expressions.PhysicalExpr.{PhysicalExpr}
use Rattle.xform_rules.specs.Closure.{IsMember}
use Rattle.request_props.specs.declared.request.Dist.{Dist}
use Rattle.plan_space.specs.declared.nodes.NodeKind.TheVariants as nodes
use Rattle.plan_space.specs.Nodes.{node_number}
use Rattle.plan_space.specs.Modes.{modes_end}
use Rattle.plan_space.specs.declared.lines.Line.{Line}
use Rattle.plan_space.specs.Lines.{line_of}
use Rattle.plan_search.specs.declared.native.NativeNode.{NativeNode}
use Rattle.plan_tree.specs.Alternatives.{MayGive}
use Rattle.plan_tree.specs.Costs.{AreRowsOf}

-- ---- one, and lists of them

-- the number of an expression in a mode
abbrev pub mode_number : NativeNode → ℕ
mode_number p = node_number (nodes.Native p.expr p.mode)

-- a member of the group in one of its few modes, with its line there, and its rows
pub record IsNative (q : Query) (group : KeyParts) (p : NativeNode) : Type 0 where
  pub member : IsMember q (expr_of p.expr)
  pub of_group : p.expr.group ≡ group
  pub line : line_of q p.expr p.mode ≡ Some p.line
  pub rows : AreRowsOf q p.expr p.rows
  pub few : p.mode < modes_end
  pub small : mode_number p + 1 ≤ 2 ^ 57

-- so is each of the list
abbrev pub AreNative : Query → KeyParts → List NativeNode → Type 0
AreNative q group [] = ⊤
AreNative q group (p ∷ ps) = IsNative q group p × AreNative q group ps

-- the numbers rise, from the bound on
abbrev pub RisesFrom : ℕ → List NativeNode → Type 0
RisesFrom bound [] = ⊤
RisesFrom bound (p ∷ ps) = (bound ≤ mode_number p) × RisesFrom (mode_number p + 1) ps

-- it is one of the list
abbrev pub IsIn : NativeNode → List NativeNode → Type 0
IsIn p [] = ⊥
IsIn p (first ∷ others) = (p ≡ first) ⊎ IsIn p others

-- the expression in this mode is one of the list
abbrev pub HasMode : PhysicalExpr → ℕ → List NativeNode → Type 0
HasMode e mode list = (p : NativeNode) × IsIn p list × (p.expr ≡ e) × (p.mode ≡ mode)

-- ---- the members of a group

-- members of the group in all modes in which they have a line, by their numbers
pub record AreListed (q : Query) (group : KeyParts) (list : List NativeNode) : Type 0 where
  pub are : AreNative q group list
  pub rises : RisesFrom (2 ^ 56) list
  pub complete : (e : PhysicalExpr) (mode : ℕ) (line : Line) → IsMember q (expr_of e) → e.group ≡ group
      → line_of q e mode ≡ Some line → HasMode e mode list

-- those of them whose lines may give the distribution
pub record AreListedFor (q : Query) (group : KeyParts) (dist : Dist) (list : List NativeNode) : Type 0 where
  pub are : AreNative q group list
  pub rises : RisesFrom (2 ^ 56) list
  pub complete : (e : PhysicalExpr) (mode : ℕ) (line : Line) → IsMember q (expr_of e) → e.group ≡ group
      → line_of q e mode ≡ Some line → MayGive q line dist → HasMode e mode list

-- those of the list whose lines may give the distribution, in the same order
abbrev pub AreThoseFor : Query → Dist → List NativeNode → List NativeNode → Type 0
AreThoseFor q dist [] those = those ≡ []
AreThoseFor q dist (p ∷ ps) those =
    (MayGive q p.line dist × ((rest : List NativeNode) × AreThoseFor q dist ps rest × (those ≡ p ∷ rest)))
    ⊎ ((MayGive q p.line dist → ⊥) × AreThoseFor q dist ps those)

-- ---- the modes of one expression

-- the expression in a mode below the bound, with its line there, and its rows
pub record IsInMode (q : Query) (e : PhysicalExpr) (bound : ℕ) (p : NativeNode) : Type 0 where
  pub expr : p.expr ≡ e
  pub below : p.mode < bound
  pub line : line_of q e p.mode ≡ Some p.line
  pub rows : AreRowsOf q e p.rows

-- so is each of the list
abbrev pub AreInModes : Query → PhysicalExpr → ℕ → List NativeNode → Type 0
AreInModes q e bound [] = ⊤
AreInModes q e bound (p ∷ ps) = IsInMode q e bound p × AreInModes q e bound ps

-- the expression in all modes below the bound in which it has a line, by their numbers
pub record AreModesOf (q : Query) (e : PhysicalExpr) (bound : ℕ) (list : List NativeNode) : Type 0 where
  pub are : AreInModes q e bound list
  pub rises : RisesFrom (node_number (nodes.Native e 0)) list
  pub complete : (mode : ℕ) (line : Line) → mode < bound → line_of q e mode ≡ Some line → HasMode e mode list

-- the expression in all its modes comes behind the list
abbrev pub AddsModes : Query → PhysicalExpr → List NativeNode → List NativeNode → Type 0
AddsModes q e old new = (modes : List NativeNode) × AreModesOf q e modes_end modes × (new ≡ old ++ modes)
