-- What holds of all plans of a query.
use Rattle.std.specs.Prelude.{ℕ, ◌≡◌, ◌<◌, ◌≤◌, ◌⊎◌, ◌↔◌, List, [], ◌∷◌, length, map, Option}
use Rattle.std.specs.Prelude.{None, Some, ⊤}
use Rattle.query_core.specs.Crossing.{crossing_of}
use Rattle.query_core.specs.Keys.{root_of, key_number}
use Rattle.query_core.specs.Expressions.{expr_of, physical_children, IsCandidate, IsChild}
use Rattle.query_core.specs.declared.query.Query.{Query}
use Rattle.query_core.specs.declared.expressions.Children.TheVariants.{Two}
use Rattle.query_core.specs.declared.words.KeyParts.{KeyParts}
use Rattle.query_core.specs.declared.words.KeyParts.TheVariants as groups
use Rattle.query_core.specs.declared.expressions.PhysicalExpr.{PhysicalExpr}
use Rattle.xform_rules.specs.Closure.{IsMember}
use Rattle.request_props.specs.Numbered.{column_list, column_order, lists_of, orders_of, IsProps, root_request}
use Rattle.request_props.specs.declared.props.Props.{Props}
use Rattle.request_props.specs.Satisfied.{given_order, Meets, Satisfies}
use Rattle.request_props.specs.declared.request.Dist.{Dist}
use Rattle.request_props.specs.declared.request.Dist.TheVariants.{Spread}
use Rattle.request_props.specs.declared.given.Given.{Given}
use Rattle.request_props.specs.declared.given.GivenDist.{GivenDist}
use Rattle.request_props.specs.declared.request.Request.{Request}
use Rattle.request_props.specs.Lying.{OrderLiesIn}
use Rattle.request_props.specs.Dists.{list_given}
use Rattle.request_props.specs.Fitting.{HashFits, OrderFits, ListFits, Fits}
use Rattle.plan_space.specs.Nodes.{Tree}
use Rattle.plan_space.specs.declared.nodes.NodeKind.TheVariants as nodes
use Rattle.plan_space.specs.Modes.{modes_end}
use Rattle.plan_space.specs.Lines.{line_of}
use Rattle.plan_space.specs.declared.lines.Line.{Line}
use Rattle.plan_space.specs.declared.seen.Kid.{Kid}
use Rattle.plan_space.specs.Gives.{kid_of, gives, native_gives}
use Rattle.plan_space.specs.Valid.{NativeFits, IsValid}
use Rattle.plan_space.specs.Alternatives.{IsAlternative, asked_of, KidsServe}
use Rattle.plan_space.specs.Cost.{cost_of, most_of_all}
use Rattle.plan_space.specs.Enforcers.{EnforcedBy, below_of, enforcers_of, Among, motion_to, moved_by, BringsTo}
use Rattle.plan_space.specs.Enforcers.{IsEnforcerFor}
use Rattle.plan_space.specs.declared.nodes.Motion.{Motion}
use Rattle.plan_space.specs.Choices.{groups_of, IsNodeOver, IsChoice, BeatsMode, BeatsAll}
use Rattle.plan_space.specs.Choices.{BestServesAtRoot, IsAnswerAtRoot}
use Rattle.plan_space.specs.Least.{Serves, IsLeast, IsAnswer}

-- a distribution fits the group where its list does
abbrev pub GivenDistFits : Query → KeyParts → GivenDist → Type 0
GivenDistFits q group dist = ListFits q group (list_given dist)

-- so it is in each group, but that the rows of partial groups lie where those of the input lay, by whatever list
abbrev pub DistLiesIn : Query → KeyParts → GivenDist → Type 0
DistLiesIn q (groups.Get t) dist = GivenDistFits q (groups.Get t) dist
DistLiesIn q (groups.Filter t) dist = GivenDistFits q (groups.Filter t) dist
DistLiesIn q (groups.Join set) dist = GivenDistFits q (groups.Join set) dist
DistLiesIn q groups.Partial dist = ⊤
DistLiesIn q groups.Agg dist = GivenDistFits q groups.Agg dist

-- what is given lies in the group: its distribution and its order do
pub record GivenFits (q : Query) (group : KeyParts) (given : Given) : Type 0 where
  pub dist : DistLiesIn q group given.dist
  pub order : OrderLiesIn q group (given_order q given.order)

-- what each kid gives lies in its group
abbrev pub KidsFit : Query → List Kid → Type 0
KidsFit q [] = ⊤
KidsFit q (kid ∷ kids) = GivenFits q kid.group kid.given × KidsFit q kids

-- the kids are plans of the children
abbrev pub AreOf : List KeyParts → List Kid → Type 0
AreOf [] [] = ⊤
AreOf [] (kid ∷ kids) = ⊥
AreOf (group ∷ groups) [] = ⊥
AreOf (group ∷ groups) (kid ∷ kids) = (kid.group ≡ group) × AreOf groups kids

-- each request fits its group
abbrev pub RequestsFit : Query → List KeyParts → List Request → Type 0
RequestsFit q [] [] = ⊤
RequestsFit q [] (wanted ∷ wishes) = ⊥
RequestsFit q (group ∷ groups) [] = ⊥
RequestsFit q (group ∷ groups) (wanted ∷ wishes) = Fits q group wanted × RequestsFit q groups wishes

-- what a valid plan gives lies in its group
abbrev pub GivesWhatFits : Query → Type 0
GivesWhatFits q = (plan : Tree) → IsValid (IsMember q) q plan → GivenFits q (kid_of q plan).group (gives q plan)

-- a physical expression over kids meets a request that fits its group only in a mode that is there for the request,
-- over kids that give what is asked of them
abbrev pub SatisfactionSplits : Query → Type 0
SatisfactionSplits q =
    (e : PhysicalExpr) (mode : ℕ) (kids : List Kid) (wanted : Request) → IsCandidate q (expr_of e) → KidsFit q kids
    → Fits q e.group wanted
    → NativeFits q e mode kids → Satisfies q (native_gives q e mode kids) wanted
    → (line : Line) × IsAlternative q e wanted mode line × KidsServe q kids (asked_of line wanted)

-- a physical expression in a mode that is there for a request, over kids that give what is asked of them, may stand
-- over them and meets the request
abbrev pub SatisfactionJoins : Query → Type 0
SatisfactionJoins q =
    (e : PhysicalExpr) (mode : ℕ) (line : Line) (kids : List Kid) (wanted : Request)
    → IsAlternative q e wanted mode line
    → AreOf (groups_of (physical_children e.operator)) kids → KidsServe q kids (asked_of line wanted)
    → NativeFits q e mode kids × Satisfies q (native_gives q e mode kids) wanted

-- so a valid plan with a physical expression at its root meets a request that fits its group exactly where the
-- expression's mode is there for the request, and the plans below the root give what is asked of them
abbrev pub SatisfactionSplitsAtRoots : Query → Type 0
SatisfactionSplitsAtRoots q =
    (e : PhysicalExpr) (mode : ℕ) (kids : List Tree) (plan : Tree) (wanted : Request)
    → IsValid (IsMember q) q plan → IsNodeOver (nodes.Native e mode) kids plan → Fits q e.group wanted
    → Satisfies q (gives q plan) wanted
    ↔ ((line : Line) × IsAlternative q e wanted mode line × KidsServe q (map (kid_of q) kids) (asked_of line wanted))

-- for a request that fits the group, what is asked of the children fits their groups
abbrev pub AsksWhatFits : Query → Type 0
AsksWhatFits q =
    (e : PhysicalExpr) (mode : ℕ) (line : Line) (wanted : Request) → IsCandidate q (expr_of e) → Fits q e.group wanted
    → IsAlternative q e wanted mode line → RequestsFit q (groups_of (physical_children e.operator))
    (asked_of line wanted)

-- where a predicate equates columns across the children of a join, the hash and the order of the left one fit the left
-- child
abbrev pub CrossingsFit : Query → Type 0
CrossingsFit q =
    (e : PhysicalExpr) (left right : KeyParts) (pred a b : ℕ) → IsCandidate q (expr_of e)
    → physical_children e.operator ≡ Two left right
    → crossing_of q left right pred ≡ Some (a, b) → HashFits q left (column_list q a)
    × OrderFits q left (column_order q a)

-- so does what an enforcer asks
abbrev pub EnforcersAskWhatFits : Query → Type 0
EnforcersAskWhatFits q = (group : KeyParts) (wanted : Request) (e : EnforcedBy) → Fits q group wanted
    → Among e (enforcers_of wanted) → Fits q group e.below

-- the groups of an expression's children have lesser keys
abbrev pub KeysFall : Query → Type 0
KeysFall q =
    (e : PhysicalExpr) (child : KeyParts) → IsCandidate q (expr_of e) → IsChild (physical_children e.operator) child
    → key_number child < key_number e.group

-- a least plan costs no more than any may
abbrev pub LeastCostsFit : Query → Type 0
LeastCostsFit q =
    (group : KeyParts) (wanted : Request) (plan : Tree) → Fits q group wanted → IsLeast (IsMember q) q group wanted plan
    → cost_of q plan ≤ most_of_all

-- nor does a choice
abbrev pub ChoiceCostsFit : Query → Type 0
ChoiceCostsFit q =
    (group : KeyParts) (wanted : Request) (plan : Tree) → Fits q group wanted
    → IsChoice (IsMember q) q group wanted plan → cost_of q plan ≤ most_of_all

-- of all plans for a request one is least; with more than 60 lists or orders the numbers of two nodes could be one
abbrev pub LeastIsOne : Query → Type 0
LeastIsOne q =
    length (lists_of q) ≤ 60 → length (orders_of q) ≤ 60 → (group : KeyParts) (wanted : Request) (plan other : Tree)
    → IsLeast (IsMember q) q group wanted plan → IsLeast (IsMember q) q group wanted other → other ≡ plan

-- what is at most all that its nodes make of least plans is the least of all plans
abbrev pub BestOfAllIsLeast : Query → Type 0
BestOfAllIsLeast q =
    (group : KeyParts) (wanted : Request) (best : Option Tree) → Fits q group wanted
    → BeatsAll (IsMember q) q group wanted best
    → IsAnswer (IsMember q) q group wanted best

-- what is at most all that an expression makes of least plans in its modes is the least plan with the expression at its
-- root
abbrev pub BestAtRootIsLeast : Query → Type 0
BestAtRootIsLeast q =
    (e : PhysicalExpr) (wanted : Request) (best : Option Tree) → Fits q e.group wanted
    → BestServesAtRoot (IsMember q) q e wanted best
    → ((mode : ℕ) → BeatsMode (IsMember q) q wanted e mode best)
    → IsAnswerAtRoot (IsMember q) q e wanted best

-- a choice is a plan that meets the request
abbrev pub ChoicesServe : Query → Type 0
ChoicesServe q =
    (group : KeyParts) (wanted : Request) (plan : Tree) → Fits q group wanted
    → IsChoice (IsMember q) q group wanted plan
    → Serves (IsMember q) q group wanted plan

-- what is asked of the whole plan fits the root
abbrev pub RootRequestFits : Query → Type 0
RootRequestFits q = Fits q (root_of q) (root_request q)

-- what is collected for the whole plan is what is asked of it
abbrev pub RootRequestIsCollected : Query → Type 0
RootRequestIsCollected q = (props : Props) → IsProps q props → props.root ≡ root_request q

-- where a query has at most 60 hashed lists, an expression has lines in modes below their end only
abbrev pub ModesAreFew : Query → Type 0
ModesAreFew q =
    length (lists_of q) ≤ 60 → (e : PhysicalExpr) (mode : ℕ) (line : Line) → line_of q e mode ≡ Some line
    → mode < modes_end

-- ---- motions

-- the motion to a distribution brings rows there
abbrev pub MotionsBring : Type 0
MotionsBring = (dist : Dist) (motion : Motion) → motion_to dist ≡ Some motion → BringsTo motion dist

-- no motion has to where rows may lie on any segments, and only there
abbrev pub NoneMoves : Type 0
NoneMoves = (dist : Dist) → motion_to dist ≡ None → dist ≡ Spread

-- what a motion brings meets the distribution to which it is the motion, and rows that may lie on any segments
abbrev pub MotionsServe : Type 0
MotionsServe =
    (motion : Motion) (dist : Dist) → Meets (moved_by motion) dist → (dist ≡ Spread) ⊎ (motion_to dist ≡ Some motion)

-- each enforcer for a request moves, sorts or merges for it
abbrev pub EnforcersAreFor : Type 0
EnforcersAreFor = (wanted : Request) (e : EnforcedBy) → Among e (enforcers_of wanted) → IsEnforcerFor wanted e

-- and asks for what such an enforcer asks
abbrev pub EnforcersAsk : Type 0
EnforcersAsk = (wanted : Request) (e : EnforcedBy) → Among e (enforcers_of wanted) → e.below ≡ below_of e.node wanted
