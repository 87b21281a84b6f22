-- The rank of a goal by its word, as a function of any number.
use Rattle.std.specs.Prelude.{ℕ, ◌≡◌, ◌==◌, ◌+◌, ◌-◌, ◌*◌, ◌<◌, nat_lt, if◌then◌else◌}
use Rattle.query_core.specs.Keys.{key_number}
use Rattle.query_core.specs.Expressions.{key_field}
use Rattle.query_core.specs.Goals.{goal_fields}
use Rattle.query_core.specs.declared.query.Query.{Query}
use Rattle.query_core.specs.declared.words.GoalParts.{GoalParts}
use Rattle.query_core.specs.declared.words.GoalParts.TheVariants as goals
use Rattle.query_core.specs.declared.words.KeyParts.TheVariants.{Filter, Join, Partial}
use Rattle.xform_rules.specs.Counts.{table_count}
use Rattle.request_props.specs.Requests.{dist_code, dist_field, order_field}
use Rattle.request_props.specs.declared.request.Dist.TheVariants.{Spread}
use Rattle.goal_space.specs.Words.{goal_word, IsGoalInRange}
use Rattle.goal_space.specs.Ranks.{order_rank, rank_of}
use Rattle.goal_space.specs.Entries.{IsChildWord}
use Rattle.goal_space.specs.declared.goals.GoalKind.{GoalKind}

-- the level of the group whose key has this number: of a table, of one with own predicates, of a join of tables, and of
-- the two of a grouped query
abbrev pub level_by : ℕ → ℕ
level_by key =
    if nat_lt key (key_number (Filter 0)) then 1
    else if nat_lt key (key_number (Join 0)) then 2
    else if nat_lt key (key_number Partial) then 1 + table_count (key - key_number (Join 0))
    else 12 + (key - key_number Partial)

-- the level of the group of the expression with this word
abbrev pub expr_level_by : ℕ → ℕ
expr_level_by word = level_by (key_field word)

-- the rank of the distribution of a code: rows that may lie on any segments come first
abbrev pub dist_rank_by : ℕ → ℕ
dist_rank_by dist = if dist == dist_code Spread then 0 else 1

-- the rank of a goal by the key of its group, the word of its expression, and the code of its request
abbrev pub rank_of_parts : GoalParts → ℕ
rank_of_parts (goals.Exp key) = 100 * level_by key.0 + 20
rank_of_parts (goals.ExpE expr) = 100 * expr_level_by expr.0 + 10
rank_of_parts (goals.Xf expr rule) = 100 * expr_level_by expr.0
rank_of_parts (goals.Imp key) = 100 * level_by key.0 + 40
rank_of_parts (goals.ImpE expr) = 100 * expr_level_by expr.0 + 30
rank_of_parts (goals.Opt key request) = 100 * level_by
    key.0 + 60 + (dist_rank_by (dist_field request) + order_rank (order_field request))
rank_of_parts (goals.OptE expr request) = 100 * expr_level_by expr.0 + 50

-- the rank of the goal whose fields the number has
abbrev pub rank_of_word : ℕ → ℕ
rank_of_word word = rank_of_parts (goal_fields word)

-- a child has a smaller rank
abbrev pub WordRanksFall : Query → Type 0
WordRanksFall q = (word child : ℕ) → IsChildWord q word child → rank_of_word child < rank_of_word word

-- the rank by a goal's word is the goal's rank
abbrev pub WordRanksAreRanks : Type 0
WordRanksAreRanks = (goal : GoalKind) → IsGoalInRange goal → rank_of_word (goal_word goal) ≡ rank_of goal
