-- What the turn of a goal that chooses the least plan for a request finds.
use Rattle.std.specs.Prelude.{◌≡◌, ℕ, ◌-◌, ◌^◌, ◌<◌, ◌≤◌, Option, None, Some, IfSome, Bool, true, false}
use Rattle.query_core.specs.Expressions.{expr_of, physical_children, HasWord}
use Rattle.query_core.specs.Keys.{NamesGroup}
use Rattle.query_core.specs.declared.query.Query.{Query}
use Rattle.query_core.specs.declared.words.Key.{Key}
use Rattle.query_core.specs.declared.words.KeyParts.{KeyParts}
use Rattle.query_core.specs.declared.expressions.PhysicalExpr.{PhysicalExpr}
use Rattle.xform_rules.specs.Closure.{IsMember}
use Rattle.request_props.specs.Fitting.{Fits}
use Rattle.request_props.specs.Numbered.{IsWithinLimits}
use Rattle.request_props.specs.declared.request.Request.{Request}
use Rattle.plan_space.specs.Nodes.{node_modes}
use Rattle.plan_space.specs.Lines.{line_of}
use Rattle.plan_space.specs.Alternatives.{IsAlternative, asked_of}
use Rattle.plan_space.specs.Choices.{groups_of}
use Rattle.plan_space.specs.declared.lines.Line.{Line}
use Rattle.plan_space.specs.declared.nodes.NodeKind.{NodeKind}
use Rattle.plan_space.specs.declared.nodes.NodeKind.TheVariants as nodes
use Rattle.plan_tree.specs.Alternatives.{Asks, IsAltBy}
use Rattle.plan_tree.specs.declared.alternatives.Alt.{Alt}
use Rattle.plan_tree.specs.Costs.{AreRowsOf}
use Rattle.best_answers.specs.Nodes.{Nodes, IsIn, IsModeOf}
use Rattle.best_answers.specs.Answers.{lesser}
use Rattle.best_answers.specs.Best.{IsBest}
use Rattle.best_answers.specs.declared.best.Best.{Best}
use Rattle.board_rule.specs.declared.hands.Hands.{Hands}
use Rattle.goal_board.specs.declared.board.Right.{Right}
use Rattle.board_moves.specs.Moves.{Proceeds, RunsOut}
use Rattle.board_moves.specs.declared.progress.Progress.{Progress}
use Rattle.board_moves.specs.declared.progress.Progress.TheVariants as progress
use Rattle.goal_space.specs.Children.{IsAsked}
use Rattle.goal_space.specs.Entries.{NamesGoal, IsChildWord}
use Rattle.goal_space.specs.Answers.{IsAnswerTo}
use Rattle.goal_space.specs.declared.goals.GoalKind.{GoalKind}
use Rattle.goal_space.specs.declared.goals.GoalKind.TheVariants.{Opt}
use Rattle.goal_rules.specs.Answers.{AreWordsOf, IsAnswerWord}
use Rattle.goal_rules.specs.declared.rules.Rules.{Rules}
use Rattle.job_turns.specs.Works.{IsChildOf, HasAwaited}
use Rattle.job_turns.specs.declared.known_best.KnownBest.{KnownBest}
use Rattle.job_turns.specs.declared.known_best.KnownBest.TheVariants.{Known, Open}
use Rattle.job_turns.specs.declared.modes.WantedNative.{WantedNative}

-- ---- answers in words

-- the word that says that there is no plan
abbrev pub most_word : ℕ
most_word = 2 ^ 64 - 1

-- the goal's answer, of which these are the words, and which costs less than that word
pub record TellsAnswer (q : Query) (goal : GoalKind) (cost node : ℕ) : Type 0 where
  pub best : Option Best
  pub is_answer : IsAnswerTo q goal best
  pub words : AreWordsOf best cost node
  pub small : IfSome best (λ b. b.cost < most_word)

-- the words of the answer of a goal of the query tell it
abbrev pub AnswersAreKnown : Query → Type 0
AnswersAreKnown q = IsWithinLimits q → (goal : GoalKind) (word cost node : ℕ) → NamesGoal q word goal
    → IsAnswerWord q word cost node → TellsAnswer q goal cost node

-- the best answer that has these words, and costs less than that word, is this one
abbrev pub TellsBest : (cost node : ℕ) → Option Best → Type 0
TellsBest cost node found = (best : Option Best) → AreWordsOf best cost node → IfSome best (λ b. b.cost < most_word)
    → found ≡ best

-- ---- choices

-- what is known of the best answer of both
abbrev pub best_of_both : KnownBest → KnownBest → KnownBest
best_of_both (Known first) (Known second) = Known (lesser first second)
best_of_both (Known first) Open = Open
best_of_both Open second = Open

-- the answer that is known is one of these, or the right has a wait
abbrev pub IsKnownBest : (Option Best → Type 0) → Right → KnownBest → Type 0
IsKnownBest Is right (Known best) = Is best
IsKnownBest Is right Open = 1 ≤ right.waits

module _ (q : Query) (capacity : ℕ) (v : Hands Rules) (before : Right) (Wanted : GoalKind → Type 0) (Is : Option Best
    → Type 0) where
  -- these goals were awaited, and the answer over theirs is one of these
  pub record FindsBest (known_best : KnownBest) (w : Hands Rules) (after : Right) : Type 0 where
    pub awaited : HasAwaited q capacity v before Wanted w after
    pub is : IsKnownBest Is after known_best

  -- or one of the goals found no cell
  abbrev pub Chooses : Option KnownBest → Hands Rules → Right → Type 0
  Chooses (Some known_best) w after = FindsBest known_best w after
  Chooses None w after = RunsOut (IsChildWord q before.goal) v before capacity w after

-- children of the goal were put in, or found in cells, or one of them found no cell
abbrev pub PutsChildren : Query → ℕ → Hands Rules → Right → Bool → Hands Rules → Type 0
PutsChildren q capacity v right true w = Proceeds (IsChildWord q right.goal) v right w right
PutsChildren q capacity v right false w = RunsOut (IsChildWord q right.goal) v right capacity w right

-- complete with the words of what is known where the right has no wait, and else waiting; full where a goal found no
-- cell
abbrev pub IsProgressOf : Right → Option KnownBest → Progress → Type 0
IsProgressOf right (Some (Known best)) (progress.Complete answer) = (right.waits ≡ 0)
    × AreWordsOf best answer.cost answer.node
IsProgressOf right (Some (Known best)) progress.Waiting = 1 ≤ right.waits
IsProgressOf right (Some (Known best)) progress.Full = ⊥
IsProgressOf right (Some Open) result = result ≡ progress.Waiting
IsProgressOf right None result = result ≡ progress.Full

-- ---- the modes of an expression

-- the expression is a member of a group that the request fits; its word, its line in the mode, and the rows of its groups
pub record IsWantedNative (q : Query) (native : WantedNative) : Type 0 where
  pub member : IsMember q (expr_of native.expr)
  pub fits : Fits q native.expr.group native.wanted
  pub rows : AreRowsOf q native.expr native.rows
  pub word : HasWord native.word.0 (expr_of native.expr)
  pub line : line_of q native.expr native.mode ≡ Some native.line.now
  pub few : native.mode < node_modes

-- the mode is there for the request, with that line
abbrev pub HasAlternative : Query → WantedNative → Type 0
HasAlternative q native = IsAlternative q native.expr native.wanted native.mode native.line.now

-- this is what the expression asks in the mode
abbrev pub IsAltOf : Query → WantedNative → Alt → Type 0
IsAltOf q native alt = IsAltBy q native.expr native.wanted native.mode alt native.line.now

-- the goal of what is asked, if something is, is a child of the goal with the word
abbrev pub IsAskedByChild : Query → ℕ → Option (Key × Request) → Type 0
IsAskedByChild q word None = Unit {0}
IsAskedByChild q word (Some asked) = (group : KeyParts) × NamesGroup q asked.0 group
    × IsChildOf q word (Opt group asked.1)

-- the goal of what is asked
abbrev pub IsGoalAsked : Query → Option (Key × Request) → GoalKind → Type 0
IsGoalAsked q asked child = (group : KeyParts) × (below : Request) × Asks q asked group below
    × (child ≡ Opt group below)

-- the goal of what the expression asks in the mode, to serve the request
pub record IsGoalIn (q : Query) (e : PhysicalExpr) (wanted : Request) (mode : ℕ) (child : GoalKind) : Type 0 where
  pub group : KeyParts
  pub below : Request
  pub line : Line
  pub is_alternative : IsAlternative q e wanted mode line
  pub is_asked : IsAsked (groups_of (physical_children e.operator)) (asked_of line wanted) group below
  pub is : child ≡ Opt group below

-- the best answer of the expression in the mode, if that is there for the request
pub record IsBestIn (q : Query) (e : PhysicalExpr) (wanted : Request) (mode : ℕ) (best : Option Best) : Type 0 where
  pub set : Nodes
  pub within : (node : NodeKind) → IsIn set node → IsModeOf e node
  pub has : (line : Line) → IsAlternative q e wanted mode line → IsIn set (nodes.Native e mode)
  pub is_best : IsBest q e.group wanted set best
