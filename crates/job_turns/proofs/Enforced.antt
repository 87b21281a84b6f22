-- The enforcers for a request: at most two, each of which lies in a group that the request fits.
use Rattle.std.proofs.Common.{◌≡◌, ◌⊎◌, ℕ, Option, None, Some, refl, sym, ap, subst, ◌∙◌, inl, inr, ⊎_elim}
use Rattle.std.specs.Prelude.{slice_get}
use Rattle.query_core.specs.declared.query.Query.{Query}
use Rattle.query_core.specs.declared.words.KeyParts.{KeyParts}
use Rattle.request_props.specs.Fitting.{Fits}
use Rattle.request_props.specs.declared.request.Request.{Request}
use Rattle.plan_space.specs.Enforcers.{EnforcedBy, enforcers_of, Among}
use Rattle.plan_space.specs.declared.nodes.NodeKind.TheVariants as nodes
use Rattle.plan_space.proofs.Enforcers.{among_at, first_or_second}
use Rattle.plan_tree.specs.Enforcers.{IsEnforced}
use Rattle.plan_tree.specs.declared.enforcers.Enforced.{Enforced}
use Rattle.plan_tree.proofs.FoundEnforcers.{some_enforced, none_enforced}
use Rattle.best_answers.specs.Nodes.{IsIn}
use Rattle.best_answers.specs.Best.{IsEnforcedBy}
use Rattle.goal_space.specs.Children.{CanEnforce}
use Rattle.goal_space.specs.declared.goals.GoalKind.{GoalKind}
use Rattle.goal_space.specs.declared.goals.GoalKind.TheVariants.{Opt}
use Rattle.goal_space.proofs.Enforced.{can_enforce}
use Rattle.job_turns.specs.Requests.{enforcer_alone, first_enforcers, IsEnforcerGoalAt, IsEnforcerGoal}

-- the enforcer at a place is alone there
alone_at : (found : Option EnforcedBy) (e : EnforcedBy) → found ≡ Some e
    → IsIn (enforcer_alone found) (nodes.Enforcer e.node)
alone_at found e is = subst (λ (x : Option EnforcedBy). IsIn (enforcer_alone x) (nodes.Enforcer e.node)) (sym is) refl

module _ (wanted : Request) where
  -- each enforcer for the request is one of the first two
  pub first_has : (e : EnforcedBy) → Among e (enforcers_of wanted)
      → IsIn (first_enforcers wanted) (nodes.Enforcer e.node)
  first_has e among =
      ⊎_elim (λ (first : slice_get (enforcers_of wanted) 0 ≡ Some e).
      inl (alone_at (slice_get (enforcers_of wanted) 0) e first))
      (λ (second : slice_get (enforcers_of wanted) 1 ≡ Some e).
      inr (alone_at (slice_get (enforcers_of wanted) 1) e second))
      (first_or_second wanted e among)

  -- and so is its goal
  pub goal_of_first : (q : Query) (group : KeyParts) (child : GoalKind) → IsEnforcerGoal q group wanted child
      → IsEnforcerGoalAt group wanted 0 child ⊎ IsEnforcerGoalAt group wanted 1 child
  goal_of_first q group child (e, can, is) =
      ⊎_elim (λ (first : slice_get (enforcers_of wanted) 0 ≡ Some e). inl (e, first, is))
      (λ (second : slice_get (enforcers_of wanted) 1 ≡ Some e). inr (e, second, is))
      (first_or_second wanted e can.among)

-- the enforcer that was found at a place
pub record IsFoundAt (q : Query) (group : KeyParts) (wanted : Request) (place : ℕ) (found : Enforced) : Type 0 where
  pub e : EnforcedBy
  pub is_there : slice_get (enforcers_of wanted) place ≡ Some e
  pub can : CanEnforce q group wanted e
  pub is : IsEnforcedBy wanted found e

module _ (q : Query) (group : KeyParts) (wanted : Request) (place : ℕ) where
  pub found_at : Fits q group wanted → (found : Enforced)
      → IsEnforced (Some found) (slice_get (enforcers_of wanted) place) → IsFoundAt q group wanted place found
  found_at fits found is =
      let there = some_enforced found (slice_get (enforcers_of wanted) place) is in
      let among = among_at (enforcers_of wanted) place there.0 there.1 in
      record {
        e = there.0;
        is_there = there.1;
        can = can_enforce q group wanted there.0 fits among;
        is = record { among = among; is = there.2 };
      }

  -- its goal is the one that is asked for at that place
  pub goal_found : (found : Enforced) → IsFoundAt q group wanted place found → (child : GoalKind)
      → IsEnforcerGoalAt group wanted place child → child ≡ Opt group found.below
  goal_found found t child (other, is_there, is) =
      let both : Some other ≡ Some t.e = sym is_there ∙ t.is_there in
      let same : other ≡ t.e = cc in
      is ∙ ap (λ (e : EnforcedBy). Opt group e.below) same ∙ ap (λ (r : Request). Opt group r) (sym t.is.is.1)

  -- no enforcer is there
  pub no_goal : IsEnforced None (slice_get (enforcers_of wanted) place) → (child : GoalKind)
      → IsEnforcerGoalAt group wanted place child → ⊥
  no_goal is child (e, is_there, same) = let never : None ≡ Some e =
      sym (none_enforced (slice_get (enforcers_of wanted) place) is) ∙ is_there in cc

  pub no_node : IsEnforced None (slice_get (enforcers_of wanted) place) → slice_get (enforcers_of wanted) place ≡ None
  no_node is = none_enforced (slice_get (enforcers_of wanted) place) is
