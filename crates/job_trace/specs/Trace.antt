-- The texts in which the goals of a search are printed: each with its children, and each with the worker that finished
-- it.
use Rattle.std.specs.Prelude.{ℕ, ◌≡◌, ◌==◌, List, [], ◌∷◌, ◌++◌, All, codes, count_by, decimal, flat_map, length, map}
use Rattle.std.specs.List.{concat}
use Rattle.std.specs.List.Sorted.{IsStrictlyIncreasing}
use Rattle.query_core.specs.Goals.{kind_of}
use Rattle.query_core.specs.declared.query.Query.{Query}
use Rattle.goal_space.specs.Words.{goal_word, parts_of}
use Rattle.goal_space.specs.declared.goals.GoalKind.{GoalKind}
use Rattle.goal_children.specs.GoalLists.{HaveGoalWords}
use Rattle.goal_children.specs.Over.{IsGoalOver}
use Rattle.goal_children.specs.Children.{AreChildren}
use Rattle.job_trace.specs.Counts.{counted}
use Rattle.job_trace.specs.Goals.{child_line, goal_line}

-- the words ascend, and are those of these goals, which are goals over the query
pub record AreGoals (q : Query) (words : List ℕ) (goals : List GoalKind) : Type 0 where
  pub numbers : map goal_word goals ≡ words
  pub over : All (IsGoalOver q) goals
  pub ascending : IsStrictlyIncreasing words

-- ---- the trace

-- a goal with its children
pub record Traced : Type 0 where
  pub goal : GoalKind
  pub children : List GoalKind

-- the goals are those of the words, each with its children over the listed members
pub record AreTraced (q : Query) (members goals : List ℕ) (traced : List Traced) : Type 0 where
  pub are_goals : AreGoals q goals (map (λ t. t.goal) traced)
  pub children : All (λ t. AreChildren q members t.goal t.children) traced

-- how many of the goals are of the kind of this number
abbrev pub count_of : ℕ → List GoalKind → ℕ
count_of kind goals = count_by (λ goal. kind_of (parts_of goal) == kind) goals

-- the first line: how many goals there are, and how many of each kind
abbrev pub trace_line : List GoalKind → List ℕ
trace_line goals =
    counted (codes "trace goals=") (length goals)
    ++ counted (codes " exp=") (count_of 0 goals)
    ++ counted (codes " expe=") (count_of 1 goals)
    ++ counted (codes " xf=") (count_of 2 goals)
    ++ counted (codes " imp=") (count_of 3 goals)
    ++ counted (codes " impe=") (count_of 4 goals)
    ++ counted (codes " opt=") (count_of 5 goals)
    ++ counted (codes " opte=") (count_of 6 goals)
    ++ codes "\n"

-- the line of a goal, and then those of its children
abbrev pub traced_lines : Query → Traced → List (List ℕ)
traced_lines q traced = goal_line q traced.goal ∷ map (child_line q) traced.children

-- the lines of the trace: the numbers, and then goal by goal
abbrev pub trace_section : Query → List Traced → List (List ℕ)
trace_section q traced = trace_line (map (λ t. t.goal) traced) ∷ flat_map (traced_lines q) traced

-- the text is that of the trace whose goals have these words, over the listed members
pub record IsTraceText (q : Query) (members goals text : List ℕ) : Type 0 where
  pub traced : List Traced
  pub are : AreTraced q members goals traced
  pub lines : text ≡ concat (trace_section q traced)

-- the line is the first one of the trace whose goals have these words
pub record IsTraceLine (goals line : List ℕ) : Type 0 where
  pub kinds : List GoalKind
  pub have : HaveGoalWords goals kinds
  pub is_line : line ≡ trace_line kinds

-- ---- by worker

-- a line for each goal: the worker's number, and the goal
abbrev pub crew_lines : Query → List GoalKind → List ℕ → List (List ℕ)
crew_lines q [] who = []
crew_lines q (goal ∷ goals) [] = []
crew_lines q (goal ∷ goals) (worker ∷ who) = (decimal worker ++ codes " " ++ goal_line q goal) ∷ crew_lines q goals who

-- the lines of the text by worker
abbrev pub crew_section : Query → List GoalKind → List ℕ → List (List ℕ)
crew_section q goals who = codes "by-worker\n" ∷ crew_lines q goals who

-- the text is that of goals of these words, each with the worker at its place
pub record IsCrewText (q : Query) (goals who text : List ℕ) : Type 0 where
  pub kinds : List GoalKind
  pub are : AreGoals q goals kinds
  pub lines : text ≡ concat (crew_section q kinds who)
