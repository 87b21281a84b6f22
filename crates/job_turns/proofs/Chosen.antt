-- A goal that chooses a plan is done once all of its children are, with the best answer.
use Rattle.std.proofs.Common.{◌≡◌, ℕ, ◌<◌, ◌≤◌, Option, None, Some, sym, subst, ◌∙◌, arith}
use Rattle.std.specs.Prelude.{IfSome}
use Rattle.query_core.specs.declared.query.Query.{Query}
use Rattle.query_core.specs.declared.expressions.ExprParts.{ExprParts}
use Rattle.xform_rules.specs.Closure.{IsMember}
use Rattle.request_props.specs.Numbered.{IsWithinLimits}
use Rattle.board_rule.specs.Looks.{ShowsPromise}
use Rattle.board_rule.specs.declared.hands.Hands.{Hands}
use Rattle.goal_board.specs.declared.board.Right.{Right}
use Rattle.goal_board.specs.declared.answers.Answer.{Answer}
use Rattle.best_answers.specs.Nodes.{all_nodes, modes_of}
use Rattle.best_answers.specs.Laws.{BestsFit}
use Rattle.best_answers.specs.declared.best.Best.{Best}
use Rattle.board_moves.specs.declared.progress.Progress.{Progress}
use Rattle.board_moves.specs.declared.progress.Progress.TheVariants as progress
use Rattle.board_moves.specs.Moves.{Proceeds, RunsOut}
use Rattle.goal_space.specs.Children.{IsChildGoal}
use Rattle.goal_space.specs.Asked.{AsksFor}
use Rattle.goal_space.specs.Answers.{IsAnswerTo}
use Rattle.goal_space.specs.Entries.{NamesGoal, IsChildWord}
use Rattle.goal_space.specs.Laws.{GoalsHaveWords, GoalRequestsFit, HasFittingRequest}
use Rattle.goal_space.specs.declared.goals.GoalKind.{GoalKind}
use Rattle.goal_space.specs.declared.goals.GoalKind.TheVariants.{Exp, ExpE, Xf, Imp, ImpE, Opt, OptE}
use Rattle.goal_rules.specs.Meaning.{meaning_of}
use Rattle.goal_rules.specs.Answers.{AreWordsOf, IsAnswerWord}
use Rattle.goal_rules.specs.declared.rules.Rules.{Rules}
use Rattle.job_turns.specs.Laws.{ChildrenAreKnown, AskedAreKnown}
use Rattle.job_turns.specs.Works.{WorksOn}
use Rattle.job_turns.specs.Choices.{most_word, AnswersAreKnown, FindsBest, Chooses, IsProgressOf}
use Rattle.job_turns.specs.declared.known_best.KnownBest.{KnownBest}
use Rattle.job_turns.specs.declared.known_best.KnownBest.TheVariants.{Known, Open}
use Rattle.job_turns.proofs.Naming.{WordsAreOne}
use Rattle.job_turns.proofs.Promises.{goes_on, runs_out, promise_shown}

-- the best of a set of nodes costs less than the word for none
best_small : (q : Query) → BestsFit q → (goal : GoalKind) (best : Option Best) → HasFittingRequest q goal
    → IsAnswerTo q goal best → IfSome best (λ b. b.cost < most_word)
best_small q fit goal None fits is = tt
best_small q fit (Exp group) (Some best) fits is = let cost : 0 ≡ best.cost = cc in omega arith
best_small q fit (ExpE e) (Some best) fits is = let cost : 0 ≡ best.cost = cc in omega arith
best_small q fit (Xf e rule) (Some best) fits is = let cost : 0 ≡ best.cost = cc in omega arith
best_small q fit (Imp group) (Some best) fits is = let cost : 0 ≡ best.cost = cc in omega arith
best_small q fit (ImpE e) (Some best) fits is = let cost : 0 ≡ best.cost = cc in omega arith
best_small q fit (Opt group wanted) (Some best) fits is = let most = fit group wanted all_nodes best fits is in
    omega arith
best_small q fit (OptE e wanted) (Some best) fits is = let most = fit e.group wanted (modes_of e) best fits is in
    omega arith

-- a word is that of one goal, so the words of an answer are those of that goal's
pub answers_known : (q : Query) → WordsAreOne → GoalsHaveWords q → GoalRequestsFit q → BestsFit q → AnswersAreKnown q
answers_known q one words requests fit small goal word cost node names is =
    let same : is.goal ≡ goal = one is.goal goal (words small.few_lists small.few_orders is.goal is.names.is_goal)
    (words small.few_lists small.few_orders goal names.is_goal) (is.names.number ∙ sym names.number) in
    let answer = subst (λ k. IsAnswerTo q k is.answer) same is.is_answer in
    record {
      best = is.answer;
      is_answer = answer;
      words = is.words;
      small = best_small q fit goal is.answer (requests goal names.is_goal) answer;
    }

module _ (q : Query) (capacity : ℕ) (small : IsWithinLimits q) (children : ChildrenAreKnown q) (asked : AskedAreKnown q)
    (goal : GoalKind) (asks_none : (e : ExprParts) → AsksFor q goal e → ⊥)
    (v : Hands Rules) (before : Right) (names : NamesGoal q before.goal goal) where
  -- the work waits, or found no cell
  pub works_waiting : (w : Hands Rules) (after : Right) → Proceeds (IsChildWord q before.goal) v before w after
      → 1 ≤ after.waits → WorksOn q capacity v before goal progress.Waiting w after
  works_waiting w after t waits = (goes_on q children small goal v before w after names t, waits)

  pub works_full : (w : Hands Rules) (after : Right) → RunsOut (IsChildWord q before.goal) v before capacity w after
      → WorksOn q capacity v before goal progress.Full w after
  works_full w after t = runs_out q children small goal capacity v before w after names t

  -- it is done where the answer is known and the right has no wait
  works_known : (best : Option Best) (answer : Answer) (w : Hands Rules) (after : Right)
      → FindsBest q capacity v before (IsChildGoal (IsMember q) q goal) (IsAnswerTo q goal) (Known best) w after
      → after.waits ≡ 0 → AreWordsOf best answer.cost answer.node
      → WorksOn q capacity v before goal (progress.Complete answer) w after
  works_known best answer w after t none words =
      let same = t.awaited.proceeds.same_goal in
      let promise = promise_shown q children small goal asked capacity w.looks before.goal names
      (t.awaited.finished none)
      (λ e asks. absurd (asks_none e asks)) in (
        goes_on q children small goal v before w after names t.awaited.proceeds,
        (
          none,
          subst (ShowsPromise (meaning_of q) capacity w.looks) (sym same) promise,
          subst (λ word. IsAnswerWord q word answer.cost answer.node) (sym same)
              (record { goal = goal; names = names; answer = best; is_answer = t.is; words = words }),
        ),
      )

  pub works_chosen : (found : Option KnownBest) (w : Hands Rules) (after : Right) (result : Progress)
      → Chooses q capacity v before (IsChildGoal (IsMember q) q goal) (IsAnswerTo q goal) found w after
      → IsProgressOf after found result
      → WorksOn q capacity v before goal result w after
  works_chosen (Some (Known best)) w after (progress.Complete answer) t is = works_known best answer w after t is.0 is.1
  works_chosen (Some (Known best)) w after progress.Waiting t is = works_waiting w after t.awaited.proceeds is
  works_chosen (Some (Known best)) w after progress.Full t is = absurd is
  works_chosen (Some Open) w after result t is =
      subst (λ (p : Progress). WorksOn q capacity v before goal p w after) (sym is)
      (works_waiting w after t.awaited.proceeds t.is)
  works_chosen None w after result t is = subst (λ (p : Progress). WorksOn q capacity v before goal p w after) (sym is)
      (works_full w after t)
