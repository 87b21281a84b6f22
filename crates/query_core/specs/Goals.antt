-- Goals of the search as numbers.
use Rattle.std.specs.Prelude.{ℕ, Bool, ◌≡◌, ◌==◌, ◌<◌, ◌≤◌, ◌+◌, ◌*◌, ◌/◌, ◌%◌, ◌^◌, nat_le, if◌then◌else◌}
use Rattle.query_core.specs.declared.words.GoalParts.{GoalParts}
use Rattle.query_core.specs.declared.words.GoalParts.TheVariants as goals

-- the number of each kind of goal
abbrev pub kind_of : GoalParts → ℕ
kind_of (goals.Exp key) = 0
kind_of (goals.ExpE expr) = 1
kind_of (goals.Xf expr rule) = 2
kind_of (goals.Imp key) = 3
kind_of (goals.ImpE expr) = 4
kind_of (goals.Opt key request) = 5
kind_of (goals.OptE expr request) = 6

-- the key or the word of the expression that the goal is about
abbrev pub subject_of : GoalParts → ℕ
subject_of (goals.Exp key) = key.0
subject_of (goals.ExpE expr) = expr.0
subject_of (goals.Xf expr rule) = expr.0
subject_of (goals.Imp key) = key.0
subject_of (goals.ImpE expr) = expr.0
subject_of (goals.Opt key request) = key.0
subject_of (goals.OptE expr request) = expr.0

-- the number of the rule or the code of the request, or 0
abbrev pub detail_of : GoalParts → ℕ
detail_of (goals.Exp key) = 0
detail_of (goals.ExpE expr) = 0
detail_of (goals.Xf expr rule) = rule
detail_of (goals.Imp key) = 0
detail_of (goals.ImpE expr) = 0
detail_of (goals.Opt key request) = request
detail_of (goals.OptE expr request) = request

-- the bit that words of goals have and words of expressions lack
abbrev pub goal_bit : ℕ
goal_bit = 2 ^ 63

-- whether a word of a goal or of an expression is that of a goal
abbrev pub has_goal_bit : ℕ → Bool
has_goal_bit word = nat_le goal_bit word

-- the word of a goal
abbrev pub goal_number : GoalParts → ℕ
goal_number parts = goal_bit + kind_of parts * 2 ^ 60 + subject_of parts * 2 ^ 12 + detail_of parts

-- the number of a key fits its field
abbrev pub FitsKey : ℕ → Type 0
FitsKey key = key < 2 ^ 12

-- words of expressions are below this number
abbrev pub EXPRS : ℕ
EXPRS = 2 ^ 48

-- the word of an expression fits its field
abbrev pub FitsExpr : ℕ → Type 0
FitsExpr word = word < EXPRS

-- the code of a request fits its field
abbrev pub FitsCode : ℕ → Type 0
FitsCode code = code < 2 ^ 12

-- each part fits its field; rules have the numbers 1 to 14
abbrev pub FitsGoal : GoalParts → Type 0
FitsGoal (goals.Exp key) = FitsKey key.0
FitsGoal (goals.ExpE expr) = FitsExpr expr.0
FitsGoal (goals.Xf expr rule) = FitsExpr expr.0 × (1 ≤ rule) × (rule ≤ 14)
FitsGoal (goals.Imp key) = FitsKey key.0
FitsGoal (goals.ImpE expr) = FitsExpr expr.0
FitsGoal (goals.Opt key request) = FitsKey key.0 × FitsCode request
FitsGoal (goals.OptE expr request) = FitsExpr expr.0 × FitsCode request

-- the number is the goal's word
pub record HasGoalWord (word : ℕ) (parts : GoalParts) : Type 0 where
  pub fits : FitsGoal parts
  pub number : goal_number parts ≡ word

-- the goal of the kind with this number, or of the last kind, from its key, its expression's word, and its detail
abbrev pub goal_by_kind : ℕ → ℕ → ℕ → ℕ → GoalParts
goal_by_kind kind key expr detail =
    if kind == 0 then goals.Exp (record { 0 = key })
    else if kind == 1 then goals.ExpE (record { 0 = expr })
    else if kind == 2 then goals.Xf (record { 0 = expr }) detail
    else if kind == 3 then goals.Imp (record { 0 = key })
    else if kind == 4 then goals.ImpE (record { 0 = expr })
    else if kind == 5 then goals.Opt (record { 0 = key }) detail
    else goals.OptE (record { 0 = expr }) detail

-- the goal whose fields the number has; a goal has the fields of its word
abbrev pub goal_fields : ℕ → GoalParts
goal_fields word = goal_by_kind (word / 2 ^ 60 % 8) (word / 2 ^ 12 % 2 ^ 12) (word / 2 ^ 12 % 2 ^ 48) (word % 2 ^ 12)
