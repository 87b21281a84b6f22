-- Goals that were awaited, one after the other.
use Rattle.std.proofs.Common.{◌≡◌, ◌≢◌, ◌⊎◌, ℕ, ◌+◌, ◌<◌, ◌≤◌, Bool, true, false, Option, None, Some, List, length}
use Rattle.std.proofs.Common.{get_or, sym, subst, ◌∙◌, inl, inr, ⊎_elim, arith}
use Rattle.std.specs.List.{Contains}
use Rattle.std.proofs.lemmas.Bool.{cases_lt}
use Rattle.std.proofs.lemmas.List.{get_or_default}
use Rattle.query_core.specs.declared.query.Query.{Query}
use Rattle.query_core.specs.declared.expressions.ExprParts.{ExprParts}
use Rattle.xform_rules.specs.declared.rules.Rule.{Rule}
use Rattle.xform_rules.specs.declared.rules.Rule.TheVariants.{ExpandNAry}
use Rattle.board_rule.specs.Looks.{ShowsFinished}
use Rattle.board_rule.specs.declared.hands.Hands.{Hands}
use Rattle.goal_board.specs.declared.board.Right.{Right}
use Rattle.board_moves.specs.declared.progress.Progress.{Progress}
use Rattle.board_moves.specs.declared.progress.Progress.TheVariants as progress
use Rattle.board_moves.specs.Moves.{Proceeds, RunsOut, Awaits}
use Rattle.board_moves.proofs.Shown.{still_finished}
use Rattle.board_moves.proofs.MovesLemmas.{proceeds_none, proceeds_then, later_proceeded, runs_out_then}
use Rattle.board_moves.proofs.Children.{awaited}
use Rattle.goal_space.specs.Words.{goal_word}
use Rattle.goal_space.specs.Phases.{IsTried, IsOfRule, IsRuleAt}
use Rattle.goal_space.specs.declared.phase.Phase.{Phase}
use Rattle.goal_space.specs.Entries.{IsChildWord}
use Rattle.goal_space.specs.declared.goals.GoalKind.{GoalKind}
use Rattle.goal_rules.specs.Meaning.{meaning_of}
use Rattle.goal_rules.specs.declared.rules.Rules.{Rules}
use Rattle.job_turns.specs.Works.{HasAwaited, AwaitsGoals}

module _ (q : Query) (capacity : ℕ) where
  -- nothing was to be awaited
  pub has_none : (v : Hands Rules) (before : Right) (Wanted : GoalKind → Type 0)
      → ((child : GoalKind) → Wanted child → ⊥) → HasAwaited q capacity v before Wanted v before
  has_none v before Wanted none = record {
    proceeds = proceeds_none (IsChildWord q before.goal) v before;
    finished = λ no_wait child is. absurd (none child is);
  }

  -- one goal was
  pub has_one : (v : Hands Rules) (before : Right) (child : GoalKind) (answer : Progress) (w : Hands Rules)
      (after : Right) → answer ≢ progress.Full → Awaits (meaning_of q) capacity v before (goal_word child) answer w
      after
      → HasAwaited q capacity v before (λ other. other ≡ child) w after
  has_one v before child answer w after fits t =
      let one = awaited (meaning_of q) capacity v before (goal_word child) answer w after fits t in
      record {
        proceeds = one.0;
        finished = λ none other is.
            subst (λ k. ShowsFinished (meaning_of q) capacity w.looks (goal_word k)) (sym is) (one.1 none);
      }

  -- others are wanted, all of which were awaited
  pub has_others : (v : Hands Rules) (before : Right) (Wanted Others : GoalKind → Type 0)
      → ((child : GoalKind) → Others child → Wanted child) → (w : Hands Rules) (after : Right)
      → HasAwaited q capacity v before Wanted w after
      → HasAwaited q capacity v before Others w after
  has_others v before Wanted Others within w after t =
      record { proceeds = t.proceeds; finished = λ none child is. t.finished none child (within child is) }

  -- some goals, and then others
  pub has_both : (v : Hands Rules) (before : Right) (First Others : GoalKind → Type 0) (u : Hands Rules)
      (middle : Right) (w : Hands Rules) (after : Right) → HasAwaited q capacity v before First u middle
      → HasAwaited q capacity u middle Others w after
      → HasAwaited q capacity v before (λ child. First child ⊎ Others child) w after
  has_both v before First Others u middle w after first second =
      let on = subst (λ k. Proceeds (IsChildWord q k) u middle w after) first.proceeds.same_goal second.proceeds in
      record {
        proceeds = proceeds_then (IsChildWord q before.goal) v before u middle w after first.proceeds on;
        finished = λ none child is. ⊎_elim
            (λ (old : First child). let more = on.more_waits in
            still_finished (meaning_of q) capacity u.looks w.looks
            (later_proceeded (IsChildWord q before.goal) u middle w after on) (goal_word child)
            (first.finished (omega arith) child old))
            (λ (new : Others child). second.finished none child new) is;
      }

  -- some goals, and then one found no cell
  pub runs_out_after : (v : Hands Rules) (before : Right) (First : GoalKind → Type 0) (u : Hands Rules) (middle : Right)
      (w : Hands Rules) (after : Right) → HasAwaited q capacity v before First u middle
      → RunsOut (IsChildWord q middle.goal) u middle capacity w after
      → RunsOut (IsChildWord q before.goal) v before capacity w after
  runs_out_after v before First u middle w after first t =
      runs_out_then (IsChildWord q before.goal) capacity v before u middle w after first.proceeds
      (subst (λ k. RunsOut (IsChildWord q k) u middle capacity w after) first.proceeds.same_goal t)

-- some goals, and then others or one of them that found no cell
pub awaits_then : (q : Query) (capacity : ℕ) (v : Hands Rules) (before : Right) (First Others : GoalKind → Type 0)
    (u : Hands Rules) (middle : Right) (fits : Bool) (w : Hands Rules) (after : Right)
    → HasAwaited q capacity v before First u middle
    → AwaitsGoals q capacity u middle Others fits w after
    → AwaitsGoals q capacity v before (λ child. First child ⊎ Others child) fits w after
awaits_then q capacity v before First Others u middle true w after first t =
    has_both q capacity v before First Others u middle w after first t
awaits_then q capacity v before First Others u middle false w after first t =
    runs_out_after q capacity v before First u middle w after first t

-- what is some goal is that one, and none is no goal
pub some_is : (goal other : GoalKind) → Some goal ≡ Some other → other ≡ goal
some_is goal other is = let same : goal ≡ other = cc in sym same

pub none_is : (other : GoalKind) (found : Option GoalKind) → found ≡ None → found ≡ Some other → ⊥
none_is other found is also = let bad : ⊥ = cc in bad

-- the goal of a rule that stands before a place in the list
abbrev pub IsRuleBefore : Query → Phase → ExprParts → List Rule → ℕ → GoalKind → Type 0
IsRuleBefore q phase e rules place child = (k : ℕ) × (k < place) × IsOfRule q phase e (get_or rules k ExpandNAry) child

-- one rule more
pub rule_more : (q : Query) (phase : Phase) (e : ExprParts) (rules : List Rule) (place : ℕ) (child : GoalKind)
    → IsRuleBefore q phase e rules (place + 1) child
    → IsRuleBefore q phase e rules place child ⊎ IsOfRule q phase e (get_or rules place ExpandNAry) child
rule_more q phase e rules place child (k, below, is) =
    ⊎_elim (λ (less : k < place). inl (k, less, is))
    (λ (most : place ≤ k). let same : k ≡ place = omega arith in
    inr (subst (λ i. IsOfRule q phase e (get_or rules i ExpandNAry) child) same is)) (cases_lt k place)

-- each rule that is tried is one of the list
pub each_rule : (q : Query) (phase : Phase) (e : ExprParts) (rules : List Rule) (place : ℕ) (child : GoalKind)
    → ((rule : Rule) → IsTried q phase e rule → Contains rules rule) → length rules ≤ place → IsRuleAt q phase e child
    → IsRuleBefore q phase e rules place child
each_rule q phase e rules place child every past (rule, of_rule) =
    let at = every rule of_rule.0 in (
      at.0,
      omega (arith, at.1),
      subst (λ r. IsOfRule q phase e r child)
          (sym (get_or_default rules at.0 ExpandNAry rule at.1 ∙ at.2)) of_rule,
    )
