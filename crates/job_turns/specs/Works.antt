-- What the work of a goal has come to, over the query.
use Rattle.std.specs.Prelude.{◌≡◌, ◌⊎◌, ◌↔◌, ℕ, Bool, true, false, Option, Some}
use Rattle.query_core.specs.Expressions.{children_of, origin_of, word_of, IsChild, IsPacked}
use Rattle.query_core.specs.declared.query.Query.{Query}
use Rattle.query_core.specs.declared.expressions.ExprParts.{ExprParts}
use Rattle.query_core.specs.declared.words.KeyParts.{KeyParts}
use Rattle.xform_rules.specs.Closure.{IsMember}
use Rattle.board_rule.specs.Looks.{ShowsFinished, ShowsEntry}
use Rattle.board_rule.specs.declared.hands.Hands.{Hands}
use Rattle.goal_board.specs.declared.board.Right.{Right}
use Rattle.board_moves.specs.declared.progress.Progress.{Progress}
use Rattle.board_moves.specs.Moves.{Proceeds, RunsOut}
use Rattle.board_moves.specs.Turns.{Works}
use Rattle.goal_space.specs.Words.{goal_word}
use Rattle.goal_space.specs.Children.{IsChildGoal}
use Rattle.goal_space.specs.Asked.{AsksFor}
use Rattle.goal_space.specs.Entries.{NamesGoal, IsChildWord, IsAskedWord}
use Rattle.goal_space.specs.declared.goals.GoalKind.{GoalKind}
use Rattle.goal_space.specs.declared.goals.GoalKind.TheVariants.{Exp, ExpE, Xf, Imp, ImpE, Opt, OptE}
use Rattle.goal_rules.specs.Meaning.{meaning_of}
use Rattle.goal_rules.specs.declared.rules.Rules.{Rules}

-- the members that the turn of a goal may put in: the origin of a group that is explored, and all that a rule brings
abbrev pub Brings : Query → GoalKind → ExprParts → Type 0
Brings q (Exp group) e = e ≡ origin_of q group
Brings q (ExpE x) e = ⊥
Brings q (Xf x rule) e = AsksFor q (Xf x rule) e
Brings q (Imp group) e = ⊥
Brings q (ImpE x) e = ⊥
Brings q (Opt group wanted) e = ⊥
Brings q (OptE x wanted) e = ⊥

-- the words that the turn of a goal may put in: its children, and the members that it brings
abbrev pub AddsWord : Query → GoalKind → ℕ → Type 0
AddsWord q goal word =
    ((child : GoalKind) × IsChildGoal (IsMember q) q goal child × (goal_word child ≡ word))
    ⊎ ((e : ExprParts) × Brings q goal e × (word_of e ≡ word))

-- the goal is a child of the one with the word
abbrev pub IsChildOf : Query → ℕ → GoalKind → Type 0
IsChildOf q word child = (goal : GoalKind) × NamesGoal q word goal × IsChildGoal (IsMember q) q goal child

module _ (q : Query) (capacity : ℕ) (v : Hands Rules) (before : Right) where
  -- these goals were awaited: they are finished, unless the right has a wait
  pub record HasAwaited (Wanted : GoalKind → Type 0) (w : Hands Rules) (after : Right) : Type 0 where
    pub proceeds : Proceeds (IsChildWord q before.goal) v before w after
    pub finished : after.waits ≡ 0 → (child : GoalKind) → Wanted child
        → ShowsFinished (meaning_of q) capacity w.looks (goal_word child)

  -- or one of them found no cell
  abbrev pub AwaitsGoals : (Wanted : GoalKind → Type 0) → Bool → Hands Rules → Right → Type 0
  AwaitsGoals Wanted true w after = HasAwaited Wanted w after
  AwaitsGoals Wanted false w after = RunsOut (IsChildWord q before.goal) v before capacity w after

  -- the work of the goal is done, or waits, or found no cell
  abbrev pub WorksOn : GoalKind → Progress → Hands Rules → Right → Type 0
  WorksOn goal progress w after = Works (meaning_of q) capacity (AddsWord q goal) v before progress w after

-- one of the goals that are there
abbrev pub IsOneOf : Option GoalKind × Option GoalKind → GoalKind → Type 0
IsOneOf goals child = (goals.0 ≡ Some child) ⊎ (goals.1 ≡ Some child)

-- the goal with the word asks for the member
abbrev pub IsAskedOf : Query → ℕ → ExprParts → Type 0
IsAskedOf q word e = (goal : GoalKind) × NamesGoal q word goal × AsksFor q goal e

module _ (q : Query) (capacity : ℕ) (v : Hands Rules) (right : Right) where
  -- these members that the goal asks for were put in, or found in cells
  pub record HasPut (Wanted : ExprParts → Type 0) (w : Hands Rules) : Type 0 where
    pub proceeds : Proceeds (IsAskedWord q right.goal) v right w right
    pub shown : (e : ExprParts) → Wanted e → ShowsEntry (meaning_of q) capacity w.looks (word_of e)

  -- or one of them found no cell
  abbrev pub PutsMembers : (Wanted : ExprParts → Type 0) → Bool → Hands Rules → Type 0
  PutsMembers Wanted true w = HasPut Wanted w
  PutsMembers Wanted false w = RunsOut (IsAskedWord q right.goal) v right capacity w right

-- one of the groups that are there
abbrev pub IsOneOfGroups : Option KeyParts × Option KeyParts → KeyParts → Type 0
IsOneOfGroups groups group = (groups.0 ≡ Some group) ⊎ (groups.1 ≡ Some group)

-- the origin of the group, if there is one
abbrev pub IsOriginOf : Query → Option KeyParts → ExprParts → Type 0
IsOriginOf q found e = (group : KeyParts) × (found ≡ Some group) × (e ≡ origin_of q group)

-- the origin of the group has a word, if there is a group
abbrev pub HasPackedOrigin : Query → Option KeyParts → Type 0
HasPackedOrigin q found = (group : KeyParts) → found ≡ Some group → IsPacked (origin_of q group)

-- they are the groups that the expression stands on
abbrev pub AreGroupsBelow : ExprParts → Option KeyParts × Option KeyParts → Type 0
AreGroupsBelow e groups = (group : KeyParts) → IsOneOfGroups groups group ↔ IsChild (children_of e.operator) group
