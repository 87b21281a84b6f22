-- Where the root's goal is finished, all goals are, and all members stand in cells.
use Rattle.std.proofs.Common.{◌≢◌, ℕ, ◌^◌, ◌<◌, ◌≤◌, refl, sym, subst, arith, inl, inr}
use Rattle.query_core.specs.Expressions.{word_of}
use Rattle.query_core.specs.Goals.{goal_bit, FitsExpr}
use Rattle.query_core.specs.declared.query.Query.{Query}
use Rattle.query_core.specs.declared.expressions.ExprParts.{ExprParts}
use Rattle.xform_rules.specs.Closure.{IsMember, IsMemberWord}
use Rattle.goal_space.specs.Words.{goal_word}
use Rattle.goal_space.specs.Goals.{IsGoal, root_goal, child_goal, root_goal_of}
use Rattle.goal_space.specs.Entries.{IsEntry, IsGoalWord}
use Rattle.goal_space.specs.Laws.{MembersAreAsked}
use Rattle.goal_space.specs.declared.goals.GoalKind.{GoalKind}
use Rattle.goal_space.specs.declared.goals.GoalKind.TheVariants.{Imp}
use Rattle.goal_rules.specs.Meaning.{meaning_of}
use Rattle.goal_rules.specs.EntryLaws.{goal_high}
use Rattle.board_rule.specs.Words.{Mem}
use Rattle.board_rule.specs.Soundness.{AreCells, IsFinished, KeepsPromises, Stands}

-- the word of a goal is not below those of goals
pub goal_word_high : (q : Query) (word : ℕ) → IsGoalWord q word → goal_bit ≤ word
goal_word_high q word (goal, names) = subst (λ (x : ℕ). goal_bit ≤ x) names.number (goal_high goal)

module _ (q : Query) (capacity : ℕ) (m : Mem) where
  -- the words of the query's search
  pub record IsSearchOf : Type 0 where
    pub cells : AreCells (meaning_of q) capacity m.cell
    pub promises : KeepsPromises (meaning_of q) capacity m.cell m.head m.cost m.node

  abbrev pub Finishes : GoalKind → Type 0
  Finishes goal = IsFinished (meaning_of q) capacity m.cell m.head (goal_word goal)

module _ (q : Query) (capacity : ℕ) (m : Mem) (its : IsSearchOf q capacity m) where
  -- a finished goal's children are finished
  pub all_finished : Finishes q capacity m (root_goal_of q) → (goal : GoalKind) → IsGoal q goal
      → Finishes q capacity m goal
  all_finished root _ root_goal = root
  all_finished root _ (child_goal goal child is_goal is_child) =
      let (p, near, some, at, closed) = all_finished root goal is_goal in
      (its.promises.promise p near closed).children (goal_word child)
      (record {
        goal = goal;
        other = child;
        names = record { is_goal = is_goal; number = sym at };
        is_child = is_child;
        number = refl;
      })

  -- each member is asked for by a finished goal
  pub all_stand : Finishes q capacity m (root_goal_of q) → MembersAreAsked q → (e : ExprParts) → IsMember q e
      → Stands (meaning_of q) capacity m.cell (word_of e)
  all_stand root asked e member =
      let (is_goal, asks) = asked e member in
      let (p, near, some, at, closed) = all_finished root (Imp e.group) is_goal in
      (its.promises.promise p near closed).asked (word_of e)
      (record {
        goal = Imp e.group;
        member = e;
        names = record { is_goal = is_goal; number = sym at };
        asks = asks;
        number = refl;
      })

  -- a closed head is that of a goal of the query
  pub goal_at : (p : ℕ) → p < capacity → 2 ^ 63 ≤ m.head p → IsGoalWord q (m.cell p)
  goal_at p near closed = let answer = its.promises.answer p near closed in (answer.goal, answer.names)

  pub high_at : (p : ℕ) → p < capacity → 2 ^ 63 ≤ m.head p → goal_bit ≤ m.cell p
  high_at p near closed = goal_word_high q (m.cell p) (goal_at p near closed)

  pub taken_at : (p : ℕ) → p < capacity → 2 ^ 63 ≤ m.head p → m.cell p ≢ 0
  taken_at p near closed empty = absurd (omega (arith, empty, high_at p near closed))

-- an entry below the words of goals is a member's
pub member_entry : (q : Query) (word : ℕ) → IsEntry q word → word < goal_bit → IsMemberWord q word
member_entry q word (inl member) low = member
member_entry q word (inr goal) low = absurd (omega (arith, low, goal_word_high q word goal))

-- and from there on a goal's, as members have smaller words
pub goal_entry : (q : Query) (word : ℕ) → ((e : ExprParts) → IsMember q e → FitsExpr (word_of e)) → IsEntry q word
    → goal_bit ≤ word → IsGoalWord q word
goal_entry q word small (inl (e, member, is)) high = absurd (omega (arith, high, is, small e member))
goal_entry q word small (inr goal) high = goal
