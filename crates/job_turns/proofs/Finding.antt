-- Choices that were found, one after the other.
use Rattle.std.proofs.Common.{◌≡◌, ◌⊎◌, inr, ℕ, ◌≤◌, Bool, true, false, Option, None, Some, [], refl, subst, arith}
use Rattle.query_core.specs.declared.query.Query.{Query}
use Rattle.board_rule.specs.declared.hands.Hands.{Hands}
use Rattle.goal_board.specs.declared.board.Right.{Right}
use Rattle.best_answers.specs.Answers.{lesser}
use Rattle.best_answers.specs.declared.best.Best.{Best}
use Rattle.board_moves.specs.Moves.{OnlyLooks, Proceeds, RunsOut}
use Rattle.board_moves.proofs.Shown.{still_finished, later_looked}
use Rattle.board_moves.proofs.CallMoves.{moves_looks}
use Rattle.board_moves.proofs.MovesLemmas.{proceeds_moved, proceeds_then, runs_out_then}
use Rattle.goal_space.specs.Words.{goal_word}
use Rattle.goal_space.specs.Entries.{IsChildWord}
use Rattle.goal_space.specs.declared.goals.GoalKind.{GoalKind}
use Rattle.goal_rules.specs.Meaning.{meaning_of}
use Rattle.goal_rules.specs.declared.rules.Rules.{Rules}
use Rattle.job_turns.specs.Works.{HasAwaited}
use Rattle.job_turns.specs.Choices.{best_of_both, IsKnownBest, FindsBest, Chooses, PutsChildren}
use Rattle.job_turns.specs.declared.known_best.KnownBest.{KnownBest}
use Rattle.job_turns.specs.declared.known_best.KnownBest.TheVariants.{Known, Open}
use Rattle.job_turns.proofs.Awaited.{has_none, has_others, has_both, runs_out_after}

-- what is known of one answer and then of another is known of both
both_known : (IsFirst IsOther IsBoth : Option Best → Type 0)
    → ((first second : Option Best) → IsFirst first → IsOther second → IsBoth (lesser first second))
    → (middle after : Right) → middle.waits ≤ after.waits → (one other : KnownBest) → IsKnownBest IsFirst middle one
    → IsKnownBest IsOther after other → IsKnownBest IsBoth after (best_of_both one other)
both_known IsFirst IsOther IsBoth joins middle after more (Known first) (Known second) is also =
    joins first second is also
both_known IsFirst IsOther IsBoth joins middle after more (Known first) Open is also = also
both_known IsFirst IsOther IsBoth joins middle after more Open other is also = omega arith

-- what is known of an answer is known by another word
other_known : (Is IsOther : Option Best → Type 0) → ((best : Option Best) → Is best → IsOther best)
    → (right : Right) (known_best : KnownBest) → IsKnownBest Is right known_best → IsKnownBest IsOther right known_best
other_known Is IsOther others right (Known best) is = others best is
other_known Is IsOther others right Open is = is

module _ (q : Query) (capacity : ℕ) (v : Hands Rules) (before : Right) where
  -- nothing was to be awaited
  pub finds_none : (Wanted : GoalKind → Type 0) (Is : Option Best → Type 0) → ((child : GoalKind) → Wanted child → ⊥)
      → (best : Option Best) → Is best → FindsBest q capacity v before Wanted Is (Known best) v before
  finds_none Wanted Is none best is = record { awaited = has_none q capacity v before Wanted none; is = is }

  -- others are wanted, all of which were awaited, and the answer is told otherwise
  pub finds_others : (Wanted Others : GoalKind → Type 0) (Is IsOther : Option Best → Type 0)
      → ((child : GoalKind) → Others child → Wanted child) → ((best : Option Best) → Is best → IsOther best)
      → (known_best : KnownBest) (w : Hands Rules) (after : Right)
      → FindsBest q capacity v before Wanted Is known_best w after
      → FindsBest q capacity v before Others IsOther known_best w after
  finds_others Wanted Others Is IsOther within others known_best w after t = record {
    awaited = has_others q capacity v before Wanted Others within w after t.awaited;
    is = other_known Is IsOther others after known_best t.is;
  }

  pub chooses_others : (Wanted Others : GoalKind → Type 0) (Is IsOther : Option Best → Type 0)
      → ((child : GoalKind) → Others child → Wanted child) → ((best : Option Best) → Is best → IsOther best)
      → (found : Option KnownBest) (w : Hands Rules) (after : Right)
      → Chooses q capacity v before Wanted Is found w after
      → Chooses q capacity v before Others IsOther found w after
  chooses_others Wanted Others Is IsOther within others (Some known_best) w after t =
      finds_others Wanted Others Is IsOther within others known_best w after t
  chooses_others Wanted Others Is IsOther within others None w after t = t

  -- a choice, and then another
  pub finds_both : (First Others : GoalKind → Type 0) (IsFirst IsOther IsBoth : Option Best → Type 0)
      → ((first second : Option Best) → IsFirst first → IsOther second → IsBoth (lesser first second))
      → (one other : KnownBest) (u : Hands Rules) (middle : Right) (w : Hands Rules) (after : Right)
      → FindsBest q capacity v before First IsFirst one u middle
      → FindsBest q capacity u middle Others IsOther other w after
      → FindsBest q capacity v before (λ child. First child ⊎ Others child) IsBoth (best_of_both one other) w after
  finds_both First Others IsFirst IsOther IsBoth joins one other u middle w after a b = record {
    awaited = has_both q capacity v before First Others u middle w after a.awaited b.awaited;
    is = both_known IsFirst IsOther IsBoth joins middle after (let more = b.awaited.proceeds.more_waits in omega arith)
        one other a.is b.is;
  }

  -- a choice, and then looks alone
  pub finds_looked : (Wanted : GoalKind → Type 0) (Is : Option Best → Type 0) (known_best : KnownBest) (u : Hands Rules)
      (middle : Right) (w : Hands Rules) → FindsBest q capacity v before Wanted Is known_best u middle → OnlyLooks u w
      → FindsBest q capacity v before Wanted Is known_best w middle
  finds_looked Wanted Is known_best u middle w t looks =
      let Adds = IsChildWord q before.goal in
      let on : Proceeds Adds u middle w middle =
      proceeds_moved Adds u middle w [] tt (moves_looks middle.place u w looks) in
      record {
        awaited = record {
          proceeds = proceeds_then Adds v before u middle w middle t.awaited.proceeds on;
          finished = λ none child is. still_finished (meaning_of q) capacity u.looks w.looks (later_looked u w looks)
              (goal_word child) (t.awaited.finished none child is);
        };
        is = t.is;
      }

  -- a choice, and then a goal found no cell
  pub chooses_none : (First : GoalKind → Type 0) (Is : Option Best → Type 0) (known_best : KnownBest) (u : Hands Rules)
      (middle : Right) (w : Hands Rules) (after : Right) → FindsBest q capacity v before First Is known_best u middle
      → RunsOut (IsChildWord q middle.goal) u middle capacity w after
      → RunsOut (IsChildWord q before.goal) v before capacity w after
  chooses_none First Is known_best u middle w after t out =
      runs_out_after q capacity v before First u middle w after t.awaited out

  -- two choices, from which a third is made
  pub finds_two : (First Others Wanted : GoalKind → Type 0) (IsFirst IsOther Is : Option Best → Type 0)
      → ((child : GoalKind) → Wanted child → First child ⊎ Others child)
      → (one other : KnownBest) (u : Hands Rules) (middle : Right) (w : Hands Rules) (after : Right)
      → FindsBest q capacity v before First IsFirst one u middle
      → FindsBest q capacity u middle Others IsOther other w after → (known_best : KnownBest)
      → IsKnownBest Is after known_best
      → FindsBest q capacity v before Wanted Is known_best w after
  finds_two First Others Wanted IsFirst IsOther Is within one other u middle w after a b known_best is = record {
    awaited = has_others q capacity v before (λ child. First child ⊎ Others child) Wanted within w after
        (has_both q capacity v before First Others u middle w after a.awaited b.awaited);
    is = is;
  }

  -- goals that were awaited, and then a choice
  pub chooses_after : (First Others : GoalKind → Type 0) (Is : Option Best → Type 0) (u : Hands Rules) (middle : Right)
      (found : Option KnownBest) (w : Hands Rules) (after : Right) → HasAwaited q capacity v before First u middle
      → Chooses q capacity u middle Others Is found w after
      → Chooses q capacity v before (λ child. First child ⊎ Others child) Is found w after
  chooses_after First Others Is u middle (Some known_best) w after first t =
      record { awaited = has_both q capacity v before First Others u middle w after first t.awaited; is = t.is }
  chooses_after First Others Is u middle None w after first t =
      runs_out_after q capacity v before First u middle w after first t

  -- looks alone, and then a choice
  pub looks_choose : (Wanted : GoalKind → Type 0) (Is : Option Best → Type 0) (u : Hands Rules) → OnlyLooks v u
      → (found : Option KnownBest) (w : Hands Rules) (after : Right)
      → Chooses q capacity u before Wanted Is found w after
      → Chooses q capacity v before Wanted Is found w after
  looks_choose Wanted Is u looks found w after t =
      let looked = finds_looked (λ (child : GoalKind). ⊥) (λ (best : Option Best). best ≡ None) (Known None) v before u
      (finds_none (λ (child : GoalKind). ⊥) (λ (best : Option Best). best ≡ None) (λ child none. none) None refl)
      looks in
      chooses_others (λ (child : GoalKind). ⊥ ⊎ Wanted child) Wanted Is Is (λ child is. inr is) (λ best is. is) found w
      after (chooses_after (λ (child : GoalKind). ⊥) Wanted Is u before found w after looked.awaited t)

  -- a choice, from which another is made
  pub finds_told : (Wanted Others : GoalKind → Type 0) (Is IsOther : Option Best → Type 0)
      → ((child : GoalKind) → Others child → Wanted child) → (one : KnownBest) (w : Hands Rules) (after : Right)
      → FindsBest q capacity v before Wanted Is one w after → (known_best : KnownBest)
      → IsKnownBest IsOther after known_best
      → FindsBest q capacity v before Others IsOther known_best w after
  finds_told Wanted Others Is IsOther within one w after t known_best is =
      record { awaited = has_others q capacity v before Wanted Others within w after t.awaited; is = is }

  -- children that were put in, and then others or one of them that found no cell
  pub puts_children_then : (u : Hands Rules) (fits : Bool) (w : Hands Rules) → PutsChildren q capacity v before true u
      → PutsChildren q capacity u before fits w → PutsChildren q capacity v before fits w
  puts_children_then u true w first t = proceeds_then (IsChildWord q before.goal) v before u before w before first t
  puts_children_then u false w first t = runs_out_then (IsChildWord q before.goal) capacity v before u before w before
      first
      t

  -- a child was awaited, and then children were put in, or one of them found no cell
  pub children_put : (u : Hands Rules) (middle : Right) (w : Hands Rules)
      → Proceeds (IsChildWord q before.goal) v before u middle → PutsChildren q capacity u middle true w
      → Proceeds (IsChildWord q before.goal) v before w middle
  children_put u middle w first t = proceeds_then (IsChildWord q before.goal) v before u middle w middle first
      (subst (λ word. Proceeds (IsChildWord q word) u middle w middle) first.same_goal t)

  pub children_full : (u : Hands Rules) (middle : Right) (w : Hands Rules)
      → Proceeds (IsChildWord q before.goal) v before u middle → PutsChildren q capacity u middle false w
      → RunsOut (IsChildWord q before.goal) v before capacity w middle
  children_full u middle w first t = runs_out_then (IsChildWord q before.goal) capacity v before u middle w middle first
      (subst (λ word. RunsOut (IsChildWord q word) u middle capacity w middle) first.same_goal t)
