-- What holds of all goals of a query.
use Rattle.std.specs.Prelude.{ℕ, ◌<◌, ◌≤◌, List, length, ⊤}
use Rattle.query_core.specs.Keys.{IsGroup}
use Rattle.query_core.specs.Expressions.{expr_of, IsCandidate}
use Rattle.query_core.specs.declared.query.Query.{Query}
use Rattle.query_core.specs.declared.expressions.ExprParts.{ExprParts}
use Rattle.xform_rules.specs.Closure.{IsMember}
use Rattle.request_props.specs.Fitting.{Fits}
use Rattle.request_props.specs.Numbered.{lists_of, orders_of}
use Rattle.plan_tree.specs.declared.answers.Answered.{Answered}
use Rattle.goal_space.specs.Words.{IsGoalInRange}
use Rattle.goal_space.specs.Children.{IsChildGoal, IsListedIn}
use Rattle.goal_space.specs.Goals.{IsGoal}
use Rattle.goal_space.specs.Ranks.{rank_of}
use Rattle.goal_space.specs.Asked.{AsksFor}
use Rattle.goal_space.specs.Answers.{Tells, TellsLeast}
use Rattle.goal_space.specs.OfMembers.{IsOfMember}
use Rattle.goal_space.specs.declared.goals.GoalKind.{GoalKind}
use Rattle.goal_space.specs.declared.goals.GoalKind.TheVariants.{Exp, ExpE, Xf, Imp, ImpE, Opt, OptE}

-- the goal is about a group of the query, or about a candidate
abbrev pub IsOfCandidate : Query → GoalKind → Type 0
IsOfCandidate q (Exp group) = IsGroup q group
IsOfCandidate q (ExpE e) = IsCandidate q e
IsOfCandidate q (Xf e rule) = IsCandidate q e
IsOfCandidate q (Imp group) = IsGroup q group
IsOfCandidate q (ImpE e) = IsCandidate q e
IsOfCandidate q (Opt group wanted) = IsGroup q group
IsOfCandidate q (OptE e wanted) = IsCandidate q (expr_of e)

-- the goal's request, where it has one, fits the group
abbrev pub HasFittingRequest : Query → GoalKind → Type 0
HasFittingRequest q (Exp group) = ⊤
HasFittingRequest q (ExpE e) = ⊤
HasFittingRequest q (Xf e rule) = ⊤
HasFittingRequest q (Imp group) = ⊤
HasFittingRequest q (ImpE e) = ⊤
HasFittingRequest q (Opt group wanted) = Fits q group wanted
HasFittingRequest q (OptE e wanted) = Fits q e.group wanted

-- a child of a goal has a smaller rank, over the members of the query's groups
abbrev pub RanksFall : Query → Type 0
RanksFall q = (goal child : GoalKind) → IsOfCandidate q goal → IsChildGoal (IsMember q) q goal child
    → rank_of child < rank_of goal

-- the same over any listed members
abbrev pub ListedRanksFall : Query → Type 0
ListedRanksFall q = (words : List ℕ) (goal child : GoalKind) → IsOfCandidate q goal
    → IsChildGoal (IsListedIn q words) q goal child → rank_of child < rank_of goal

-- the goals of a query are about its members
abbrev pub GoalsAreOfMembers : Query → Type 0
GoalsAreOfMembers q = (goal : GoalKind) → IsGoal q goal → IsOfMember q goal

-- so they are about its groups and candidates
abbrev pub GoalsAreOfCandidates : Query → Type 0
GoalsAreOfCandidates q = (goal : GoalKind) → IsGoal q goal → IsOfCandidate q goal

-- and their requests fit
abbrev pub GoalRequestsFit : Query → Type 0
GoalRequestsFit q = (goal : GoalKind) → IsGoal q goal → HasFittingRequest q goal

-- where a query has at most 60 hashed lists and orders, its goals have words
abbrev pub GoalsHaveWords : Query → Type 0
GoalsHaveWords q = length (lists_of q) ≤ 60 → length (orders_of q) ≤ 60 → (goal : GoalKind) → IsGoal q goal
    → IsGoalInRange goal

-- what a goal of the query asks for are members
abbrev pub AskedAreMembers : Query → Type 0
AskedAreMembers q = (goal : GoalKind) (e : ExprParts) → IsGoal q goal → AsksFor q goal e → IsMember q e

-- the implementation of each member's group is a goal of the query, and asks for the member
abbrev pub MembersAreAsked : Query → Type 0
MembersAreAsked q = (e : ExprParts) → IsMember q e → IsGoal q (Imp e.group) × AsksFor q (Imp e.group) e

-- what is told of a goal is the least plan among which it chooses, and none exactly where there is none
abbrev pub AnswersAreLeast : Query → Type 0
AnswersAreLeast q = (goal : GoalKind) (told : Answered) → Tells q told goal → TellsLeast q goal told
