-- The goals of a query, and their children over the words of all members.
use Rattle.std.proofs.Common.{◌≡◌, ℕ, List, subst, inl, inr}
use Rattle.std.proofs.lemmas.List.Elements.{All-contains}
use Rattle.query_core.specs.Expressions.{word_of, IsCandidate, IsPacked}
use Rattle.query_core.specs.declared.query.Query.{Query}
use Rattle.query_core.specs.declared.expressions.ExprParts.{ExprParts}
use Rattle.xform_rules.specs.Closure.{IsMember, IsMemberWord, IsClosureOf}
use Rattle.goal_space.specs.Children.{IsChildGoal, IsListedIn}
use Rattle.goal_space.specs.Laws.{IsOfCandidate, HasFittingRequest}
use Rattle.goal_space.specs.declared.goals.GoalKind.{GoalKind}
use Rattle.goal_space.specs.declared.goals.GoalKind.TheVariants.{Exp, ExpE, Xf, Imp, ImpE, Opt, OptE}
use Rattle.goal_children.specs.Over.{IsGoalOver, HasNumberedRequest}
use Rattle.goal_children.proofs.Asking.{fitting_request}

module _ (q : Query) where
  -- a request that fits has numbers
  numbered_by_kind : (goal : GoalKind) → HasFittingRequest q goal → HasNumberedRequest q goal
  numbered_by_kind (Exp group) fits = tt
  numbered_by_kind (ExpE e) fits = tt
  numbered_by_kind (Xf e rule) fits = tt
  numbered_by_kind (Imp group) fits = tt
  numbered_by_kind (ImpE e) fits = tt
  numbered_by_kind (Opt group wanted) fits = fitting_request q group wanted fits
  numbered_by_kind (OptE e wanted) fits = fitting_request q e.group wanted fits

  pub goal_over : (goal : GoalKind) → IsOfCandidate q goal → HasFittingRequest q goal → IsGoalOver q goal
  goal_over goal known fits = record { of_candidate = known; numbered = numbered_by_kind goal fits }

  -- ---- members and their words

  module _ (candidates : (e : ExprParts) → IsMember q e → IsCandidate q e) where
    -- a member is a candidate whose word is listed
    pub closure_listed : (words : List ℕ) → IsClosureOf q words → (e : ExprParts) → IsMember q e → IsListedIn q words e
    closure_listed words closure e member = record {
      candidate = candidates e member;
      listed = closure.complete e member;
    }

  -- and the other way round, since a word is that of one candidate
  pub listed_member : ((e : ExprParts) → IsCandidate q e → IsPacked e)
      → ((e : ExprParts) → IsMember q e → IsCandidate q e)
      → ((e f : ExprParts) → IsPacked e → IsPacked f → word_of e ≡ word_of f → e ≡ f) → (words : List ℕ)
      → IsClosureOf q words → (e : ExprParts) → IsListedIn q words e → IsMember q e
  listed_member packed candidates one words closure e listed =
      let (member, is_member, number) = All-contains (IsMemberWord q) words (word_of e) closure.sound listed.listed in
      subst (IsMember q) (one member e (packed member (candidates member is_member)) (packed e listed.candidate) number)
      is_member

  -- ---- children over other members

  module _ (M N : ExprParts → Type 0) (given : (e : ExprParts) → M e → N e) where
    pub children_as : (goal child : GoalKind) → IsChildGoal M q goal child → IsChildGoal N q goal child
    children_as (Exp group) child (e, is_in, is) =
        (e, record { member = given e is_in.member; of_group = is_in.of_group; logical = is_in.logical }, is)
    children_as (ExpE e) child is = is
    children_as (Xf e rule) child is = is
    children_as (Imp group) child (inl is) = inl is
    children_as (Imp group) child (inr (e, is_in, is)) =
        inr (e, record { member = given e is_in.member; of_group = is_in.of_group; logical = is_in.logical }, is)
    children_as (ImpE e) child is = is
    children_as (Opt group wanted) child (inl is) = inl is
    children_as (Opt group wanted) child (inr (inl (e, can, is))) =
        inr (inl (
          e,
          record {
            member = given _ can.member;
            of_group = can.of_group;
            mode = can.mode;
            serves = can.serves;
          },
          is,
        ))
    children_as (Opt group wanted) child (inr (inr enforced)) = inr (inr enforced)
    children_as (OptE e wanted) child is = is
