-- The first goal of several rules.
use Rattle.std.proofs.Common.{◌≡◌, ℕ, List, [], ◌∷◌, ◌++◌, Option, None, inl, inr, ◌⊎◌, sym, subst, arith}
use Rattle.std.specs.List.{Contains}
use Rattle.query_core.specs.declared.query.Query.{Query}
use Rattle.query_core.specs.declared.expressions.ExprParts.{ExprParts}
use Rattle.xform_rules.specs.declared.rules.Rule.{Rule}
use Rattle.goal_space.specs.declared.goals.GoalKind.{GoalKind}
use Rattle.goal_space.specs.Phases.{IsOfRule, IsRuleAt}
use Rattle.goal_space.specs.declared.phase.Phase.{Phase}
use Rattle.goal_children.specs.Finding.{FindsFrom, InsertsGoals, sooner_of}
use Rattle.goal_children.proofs.Finds.{finds_as, sooner_is}
use Rattle.goal_children.proofs.Inserting.{inserts_as, inserts_more, inserts_nothing}
use Rattle.std.proofs.lemmas.List.Elements.{Contains-append_left, Contains-push, Contains-push_cases}

-- the goal of one of the rules
abbrev pub IsOfRules : Query → Phase → ExprParts → List Rule → GoalKind → Type 0
IsOfRules q phase e rules goal = (rule : Rule) × Contains rules rule × IsOfRule q phase e rule goal

module _ (q : Query) (phase : Phase) (e : ExprParts) (rules : List Rule) (rule : Rule) where
  -- or of one more
  rules_as : (k : GoalKind) → IsOfRules q phase e rules k ⊎ IsOfRule q phase e rule k
      → IsOfRules q phase e (rules ++ rule ∷ []) k
  rules_as k (inl (other, there, of_rule)) = (other, Contains-append_left rules (rule ∷ []) other there, of_rule)
  rules_as k (inr of_rule) = (rule, Contains-push rules rule, of_rule)

  as_rules : (k : GoalKind) → IsOfRules q phase e (rules ++ rule ∷ []) k → IsOfRules q phase e rules k
      ⊎ IsOfRule q phase e rule k
  as_rules k (other, there, of_rule) = elim (Contains-push_cases rules rule other there) [
    | inl earlier ↦ inl (other, earlier, of_rule)
    | inr same ↦ inr (subst (λ (r : Rule). IsOfRule q phase e r k) (sym same) of_rule)
  ]

  pub rule_more : (bound : ℕ) (before this found : Option GoalKind) → found ≡ sooner_of before this
      → FindsFrom (IsOfRules q phase e rules) bound before
      → FindsFrom (IsOfRule q phase e rule) bound this
      → FindsFrom (IsOfRules q phase e (rules ++ rule ∷ [])) bound found
  rule_more bound before this found is first second =
      finds_as (λ k. IsOfRules q phase e rules k ⊎ IsOfRule q phase e rule k) (IsOfRules q phase e (rules ++ rule ∷ []))
      bound found rules_as as_rules
      (sooner_is (IsOfRules q phase e rules) (IsOfRule q phase e rule) bound before this found is first second)

  pub rule_inserted : (old middle new : List GoalKind) → InsertsGoals (IsOfRules q phase e rules) old middle
      → InsertsGoals (IsOfRule q phase e rule) middle new
      → InsertsGoals (IsOfRules q phase e (rules ++ rule ∷ [])) old new
  rule_inserted old middle new first second =
      inserts_more (IsOfRules q phase e rules) (IsOfRule q phase e rule) (IsOfRules q phase e (rules ++ rule ∷ [])) old
      middle new rules_as as_rules first second

-- of no rules there is none
pub no_rules : (q : Query) (phase : Phase) (e : ExprParts) (bound : ℕ) → FindsFrom (IsOfRules q phase e []) bound None
no_rules q phase e bound goal (rule, (k, within, is), of_rule) above = omega (arith, within)

-- of all rules it is the first of those that are of the phase and apply
pub each_rule : (q : Query) (phase : Phase) (e : ExprParts) (rules : List Rule) (bound : ℕ) (found : Option GoalKind)
    → ((rule : Rule) → Contains rules rule)
    → FindsFrom (IsOfRules q phase e rules) bound found → FindsFrom (IsRuleAt q phase e) bound found
each_rule q phase e rules bound found every finds =
    finds_as (IsOfRules q phase e rules) (IsRuleAt q phase e) bound found
    (λ k (rule, there, of_rule). (rule, of_rule)) (λ k (rule, of_rule). (rule, every rule, of_rule)) finds

-- goals that come to a list: of no rules none
pub no_rules_inserted : (q : Query) (phase : Phase) (e : ExprParts) (goals : List GoalKind)
    → InsertsGoals (IsOfRules q phase e []) goals goals
no_rules_inserted q phase e goals = inserts_nothing (IsOfRules q phase e []) goals
    (λ k (rule, (i, within, is), of_rule). absurd (omega (arith, within)))

-- and of all rules those of the phase that apply
pub each_rule_inserted : (q : Query) (phase : Phase) (e : ExprParts) (rules : List Rule) (old new : List GoalKind)
    → ((rule : Rule) → Contains rules rule)
    → InsertsGoals (IsOfRules q phase e rules) old new → InsertsGoals (IsRuleAt q phase e) old new
each_rule_inserted q phase e rules old new every inserts =
    inserts_as (IsOfRules q phase e rules) (IsRuleAt q phase e) old new
    (λ k (rule, there, of_rule). (rule, of_rule)) (λ k (rule, of_rule). (rule, every rule, of_rule)) inserts
