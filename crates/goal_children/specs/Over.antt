-- Goals over a query: about its groups and candidates, for requests that have a number.
use Rattle.std.specs.Prelude.{ℕ, ◌≡◌, ◌<◌, List, All, length, Option, None, Some, ⊤}
use Rattle.std.specs.List.Sorted.{IsStrictlyIncreasing}
use Rattle.query_core.specs.declared.query.Query.{Query}
use Rattle.request_props.specs.Dists.{list_asked}
use Rattle.request_props.specs.Numbered.{lists_of, IsNumbered}
use Rattle.request_props.specs.declared.request.Dist.{Dist}
use Rattle.request_props.specs.declared.request.Request.{Request}
use Rattle.goal_space.specs.Words.{goal_word}
use Rattle.goal_space.specs.Laws.{IsOfCandidate}
use Rattle.goal_space.specs.declared.goals.GoalKind.{GoalKind}
use Rattle.goal_space.specs.declared.goals.GoalKind.TheVariants.{Exp, ExpE, Xf, Imp, ImpE, Opt, OptE}

-- the list has a number, if there is one
abbrev pub IsListNumbered : Query → Option ℕ → Type 0
IsListNumbered q None = ⊤
IsListNumbered q (Some list) = list < length (lists_of q)

-- so has that of a distribution
abbrev pub IsDistNumbered : Query → Dist → Type 0
IsDistNumbered q dist = IsListNumbered q (list_asked dist)

-- the request's list and order have numbers, wherever they lie
pub record IsNumberedRequest (q : Query) (wanted : Request) : Type 0 where
  pub dist : IsDistNumbered q wanted.dist
  pub order : IsNumbered q wanted.order

-- the goal's request, where it has one, has numbers
abbrev pub HasNumberedRequest : Query → GoalKind → Type 0
HasNumberedRequest q (Exp group) = ⊤
HasNumberedRequest q (ExpE e) = ⊤
HasNumberedRequest q (Xf e rule) = ⊤
HasNumberedRequest q (Imp group) = ⊤
HasNumberedRequest q (ImpE e) = ⊤
HasNumberedRequest q (Opt group wanted) = IsNumberedRequest q wanted
HasNumberedRequest q (OptE e wanted) = IsNumberedRequest q wanted

-- the goal is about a group or a candidate of the query, and its request has numbers
pub record IsGoalOver (q : Query) (goal : GoalKind) : Type 0 where
  pub of_candidate : IsOfCandidate q goal
  pub numbered : HasNumberedRequest q goal

-- the word is that of a goal over the query
abbrev pub IsGoalWordOver : Query → ℕ → Type 0
IsGoalWordOver q word = (goal : GoalKind) × IsGoalOver q goal × (goal_word goal ≡ word)

-- the words ascend, and are those of goals over the query
pub record AreGoalWords (q : Query) (words : List ℕ) : Type 0 where
  pub over : All (IsGoalWordOver q) words
  pub ascending : IsStrictlyIncreasing words
