-- What the program says of an expression in a mode that may serve a request.
use Rattle.std.specs.Prelude.{ℕ, ◌≡◌, ◌↔◌, List, [], ◌∷◌, Option, None, Some, slice_get}
use Rattle.std.specs.List.{Contains}
use Rattle.std.specs.List.Sorted.{IsStrictlyIncreasing}
use Rattle.query_core.specs.Keys.{NamesGroup}
use Rattle.query_core.specs.declared.query.Query.{Query}
use Rattle.query_core.specs.declared.words.Key.{Key}
use Rattle.query_core.specs.declared.words.KeyParts.{KeyParts}
use Rattle.query_core.specs.Expressions.{physical_children}
use Rattle.query_core.specs.declared.expressions.PhysicalExpr.{PhysicalExpr}
use Rattle.request_props.specs.Satisfied.{Meets}
use Rattle.request_props.specs.declared.request.Dist.{Dist}
use Rattle.request_props.specs.declared.request.Request.{Request}
use Rattle.plan_space.specs.declared.nodes.NodeKind.TheVariants.{Native}
use Rattle.plan_space.specs.declared.lines.Line.{Line}
use Rattle.plan_space.specs.declared.lines.Line.TheVariants.{Leaf, Above, Beside}
use Rattle.plan_space.specs.Alternatives.{DistServes, IsAlternative, asked_of}
use Rattle.plan_space.specs.Choices.{groups_of}
use Rattle.plan_tree.specs.Nodes.{IsNode}
use Rattle.plan_tree.specs.declared.alternatives.Alt.{Alt}

-- the line may give the distribution
abbrev pub MayGive : Query → Line → Dist → Type 0
MayGive q (Leaf given order) dist = Meets given dist
MayGive q (Above left order) dist = DistServes q left dist
MayGive q (Beside left order request) dist = DistServes q left dist

-- the key of this group, of which this is asked
abbrev pub Asks : Query → Option (Key × Request) → KeyParts → Request → Type 0
Asks q None group wanted = ⊥
Asks q (Some asked) group wanted = NamesGroup q asked.0 group × (asked.1 ≡ wanted)

-- the same for a group and a request that may not be there
abbrev pub IsAsk : Query → Option (Key × Request) → Option KeyParts → Option Request → Type 0
IsAsk q asked None wanted = asked ≡ None
IsAsk q asked (Some group) None = asked ≡ None
IsAsk q asked (Some group) (Some wanted) = Asks q asked group wanted

-- the children's keys with what is asked of them, the left one first
abbrev pub AreAsked : Query → Alt → List KeyParts → List Request → Type 0
AreAsked q alt [] [] = (alt.left ≡ None) × (alt.right ≡ None)
AreAsked q alt [] (wanted ∷ wishes) = ⊥
AreAsked q alt (group ∷ []) [] = ⊥
AreAsked q alt (group ∷ []) (wanted ∷ []) = Asks q alt.left group wanted × (alt.right ≡ None)
AreAsked q alt (group ∷ []) (wanted ∷ other ∷ wishes) = ⊥
AreAsked q alt (group ∷ second ∷ []) [] = ⊥
AreAsked q alt (group ∷ second ∷ []) (wanted ∷ []) = ⊥
AreAsked q alt (group ∷ second ∷ []) (wanted ∷ other ∷ []) = Asks q alt.left group wanted
    × Asks q alt.right second other
AreAsked q alt (group ∷ second ∷ []) (wanted ∷ other ∷ third ∷ wishes) = ⊥
AreAsked q alt (group ∷ second ∷ third ∷ groups) wishes = ⊥

-- the node of the expression in the mode, and what its line asks of the children
pub record IsAltBy (q : Query) (e : PhysicalExpr) (wanted : Request) (mode : ℕ) (alt : Alt) (line : Line) : Type 0 where
  pub is_alternative : IsAlternative q e wanted mode line
  pub is_node : IsNode alt.node (Native e mode)
  pub asks : AreAsked q alt (groups_of (physical_children e.operator)) (asked_of line wanted)

-- the line of the mode is there for the request, and asks this; or none is there
abbrev pub IsAltIn : Query → PhysicalExpr → Request → ℕ → Option Alt → Type 0
IsAltIn q e wanted mode None = (line : Line) → IsAlternative q e wanted mode line → ⊥
IsAltIn q e wanted mode (Some alt) = (line : Line) × IsAltBy q e wanted mode alt line

-- the expression may serve the request in this mode
abbrev pub HasAlternative : Query → PhysicalExpr → Request → ℕ → Type 0
HasAlternative q e wanted mode = (line : Line) × IsAlternative q e wanted mode line

-- the modes in which the expression may serve the request, ascending
pub record AreModes (q : Query) (e : PhysicalExpr) (wanted : Request) (modes : List ℕ) : Type 0 where
  pub rises : IsStrictlyIncreasing modes
  pub exact : (mode : ℕ) → Contains modes mode ↔ HasAlternative q e wanted mode

-- the alternative in this mode, or none where there is no mode
abbrev pub IsAltOf : Query → PhysicalExpr → Request → Option ℕ → Option Alt → Type 0
IsAltOf q e wanted None found = found ≡ None
IsAltOf q e wanted (Some mode) None = ⊥
IsAltOf q e wanted (Some mode) (Some alt) = (line : Line) × IsAltBy q e wanted mode alt line

-- of the modes in which the expression may serve the request, ascending, the alternative in the one at this place
pub record IsAltAt (q : Query) (e : PhysicalExpr) (wanted : Request) (place : ℕ) (found : Option Alt) : Type 0 where
  pub modes : List ℕ
  pub are_modes : AreModes q e wanted modes
  pub at_place : IsAltOf q e wanted (slice_get modes place) found
