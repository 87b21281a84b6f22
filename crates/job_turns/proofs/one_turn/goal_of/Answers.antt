-- The goal that the seat holds is an entry and a goal, so its word is that of a goal of the query.
use Rattle.std.proofs.Common.{sym, subst}
use Rattle.std.proofs.lemmas.Bool.{leb-true}
use Rattle.query_core.specs.Goals.{goal_bit}
use Rattle.query_core.specs.declared.query.Query.{Query}
use Rattle.goal_space.specs.Words.{HasWord}
use Rattle.goal_space.specs.Entries.{IsEntry, NamesGoal}
use Rattle.goal_space.specs.declared.goals.GoalKind.{GoalKind}
use Rattle.job_turns.proofs.Staying.{small_of}
use Rattle.job_turns.proofs.GoalsHeld.{held_goal, has_word}
use Rattle.job_turns.proofs.one_turn.goal_of.Goals as goal

-- the goal of the query that the seat's word names
named : (c : goal.After-goal) → (k : GoalKind) × NamesGoal c.args.search.now.query.now c.args.job.now.right.goal k
named c =
    let q = c.args.search.now.query.now in
    let word = c.args.job.now.right.goal in
    held_goal q (c.members_are_known.ensures.small q) word
    (subst (λ (p : Query). IsEntry p word) c.requires.search.same_query c.requires.right.enters)
    (leb-true goal_bit word c.requires.right.is_goal)

-- and it has the word
word_is : (c : goal.After-goal) → HasWord (named c).0 c.goal.result
word_is c =
    subst (HasWord (named c).0) (sym c.goal.ensures)
    (has_word c.args.search.now.query.now (c.goals_are_known.ensures.words c.args.search.now.query.now)
    (small_of c.requires.search) c.args.job.now.right.goal (named c))

pub known-requires : goal.known-requires
known-requires c = ((named c).0, word_is c)

pub returns : goal.returns
returns c =
    subst (NamesGoal c.args.search.now.query.now c.args.job.now.right.goal)
    (c.known.ensures.only (named c.before).0 (word_is c.before)) (named c.before).1
