-- What rules bring at an expression, with a bound member or without one.
use Rattle.std.proofs.Common.{◌≡◌, ◌⊎◌, ℕ, ◌+◌, ◌<◌, ◌≤◌, IsTrue, Option, None, Some, IfSome, refl, sym, ap, subst, ◌∙◌}
use Rattle.std.proofs.Common.{inl, inr, ⊎_elim, arith}
use Rattle.std.specs.Prelude.{is_some}
use Rattle.std.proofs.lemmas.Bool.{cases_lt, false≢true}
use Rattle.query_core.specs.Expressions.{children_of, is_logical, IsCandidate, IsPacked}
use Rattle.query_core.specs.declared.query.Query.{Query}
use Rattle.query_core.specs.declared.words.KeyParts.{KeyParts}
use Rattle.query_core.specs.declared.expressions.ExprParts.{ExprParts}
use Rattle.query_core.specs.declared.expressions.Children.{Children}
use Rattle.query_core.specs.declared.expressions.Children.TheVariants as arities
use Rattle.query_core.specs.declared.expressions.Operator.{Operator}
use Rattle.query_core.specs.declared.expressions.Operator.TheVariants as operators
use Rattle.xform_rules.specs.Closure.{IsMember}
use Rattle.xform_rules.specs.Forms.{IsLogical, IsLeftSide}
use Rattle.xform_rules.specs.Rules.{binds}
use Rattle.xform_rules.specs.Results.{GivesWith, HasResult}
use Rattle.xform_rules.specs.declared.rules.Rule.{Rule}
use Rattle.request_props.specs.Numbered.{IsWithinLimits}
use Rattle.board_rule.specs.Looks.{ShowsFinished}
use Rattle.board_rule.specs.declared.hands.Hands.{Hands}
use Rattle.goal_board.specs.declared.board.Right.{Right}
use Rattle.board_moves.specs.declared.progress.Progress.{Progress}
use Rattle.board_moves.specs.Moves.{Proceeds, RunsOut, IsDoneUnlessWaiting}
use Rattle.board_moves.proofs.Shown.{still_finished}
use Rattle.board_moves.proofs.MovesLemmas.{proceeds_wider, runs_out_wider, proceeds_then, later_proceeded}
use Rattle.board_moves.proofs.Working.{works_end}
use Rattle.goal_space.specs.Words.{goal_word}
use Rattle.goal_space.specs.Children.{IsLeft, IsChildGoal}
use Rattle.goal_space.specs.Asked.{AsksFor}
use Rattle.goal_space.specs.Answers.{no_choice}
use Rattle.goal_space.specs.Entries.{NamesGoal, IsAskedWord}
use Rattle.goal_space.specs.declared.goals.GoalKind.{GoalKind}
use Rattle.goal_space.specs.declared.goals.GoalKind.TheVariants.{Exp, Xf}
use Rattle.goal_rules.specs.Meaning.{meaning_of}
use Rattle.goal_rules.specs.declared.rules.Rules.{Rules}
use Rattle.job_turns.specs.Laws.{ChildrenAreKnown, AskedAreKnown}
use Rattle.job_turns.specs.Results.{IsBroughtAt, IsBroughtWith, IsBroughtBelow, IsBroughtFrom, IsLeftOf}
use Rattle.job_turns.specs.Works.{AddsWord, HasPut, WorksOn}
use Rattle.job_turns.proofs.Promises.{promise_shown}

-- a bound member that fits has a word
pub bound_packed : (q : Query) → ((e : ExprParts) → IsCandidate q e → IsPacked e) → (bound : Option ExprParts)
    → IfSome bound (IsCandidate q) → IfSome bound IsPacked
bound_packed q packed None candidate = candidate
bound_packed q packed (Some e) candidate = packed e candidate

-- the results below one more
pub below_more : (q : Query) (rule : Rule) (e : ExprParts) (bound : Option ExprParts) (n : ℕ) (other : ExprParts)
    → IsBroughtBelow q rule e bound (n + 1) other → IsBroughtBelow q rule e bound n other
    ⊎ IsBroughtAt q rule e bound n other
below_more q rule e bound n other (k, below, brought) =
    ⊎_elim (λ (less : k < n). inl (k, less, brought)) (λ (most : n ≤ k). let same : k ≡ n = omega arith in
    inr (subst (λ i. IsBroughtAt q rule e bound i other) same brought)) (cases_lt k n)

-- a rule with a bound member binds one, which is of the left child's group
binding_rule : (q : Query) (rule : Rule) (group : KeyParts) (bound : ExprParts) (n : ℕ) (to operator : Operator)
    → IsLogical (GivesWith q rule group (Some bound) n to) operator → IsTrue (binds rule)
binding_rule q rule group bound n to (operators.Logical from) gives = ap binds gives.0
binding_rule q rule group bound n to (operators.Physical from) gives = absurd gives

pub left_of : (q : Query) (rule : Rule) (e bound : ExprParts) (n : ℕ) (x : ExprParts)
    → HasResult q rule e (Some bound) n x → IsLeftSide e bound.group → IsLeftOf e rule bound.group
left_of q rule e bound n x has (right, is) = (
  binding_rule q rule e.group bound n x.operator e.operator has.gives,
  subst (λ o. IsLeft (children_of o) bound.group) (sym is) refl,
)

pub left_one : (children : Children) (group other : KeyParts) → IsLeft children group → IsLeft children other
    → group ≡ other
left_one arities.Zero group other left also = absurd left
left_one (arities.One child) group other left also = left ∙ sym also
left_one (arities.Two first second) group other left also = left ∙ sym also

module _ (q : Query) (children : ChildrenAreKnown q) (asked : AskedAreKnown q) (small : IsWithinLimits q)
    (e : ExprParts)
    (rule : Rule) where
  asked_adds : (word : ℕ) → NamesGoal q word (Xf e rule) → (other : ℕ) → IsAskedWord q word other
      → AddsWord q (Xf e rule) other
  asked_adds word names other is = inr (asked small (Xf e rule) word other names is)

  pub results_run_out : (capacity : ℕ) (v : Hands Rules) (before : Right) (w : Hands Rules) (after : Right)
      → NamesGoal q before.goal (Xf e rule) → RunsOut (IsAskedWord q before.goal) v before capacity w after
      → RunsOut (AddsWord q (Xf e rule)) v before capacity w after
  results_run_out capacity v before w after names t =
      runs_out_wider (IsAskedWord q before.goal) (AddsWord q (Xf e rule)) (asked_adds before.goal names) capacity v
      before w
      after t

  -- the end of the work, once what the rule brings is put in
  pub rule_works : (capacity : ℕ) (v u w : Hands Rules) (start middle : Right) (Wanted : ExprParts → Type 0)
      (came : Progress) → NamesGoal q start.goal (Xf e rule) → Proceeds (AddsWord q (Xf e rule)) v start u middle
      → HasPut q capacity u middle Wanted w → (middle.waits ≡ 0 → (child : GoalKind)
      → IsChildGoal (IsMember q) q (Xf e rule) child → ShowsFinished (meaning_of q) capacity u.looks (goal_word child))
      → ((x : ExprParts) → AsksFor q (Xf e rule) x → Wanted x)
      → IsDoneUnlessWaiting middle (record { cost = 0; node = 0 }) came
      → WorksOn q capacity v start (Xf e rule) came w middle
  rule_works capacity v u w start middle Wanted came names first put finished wanted done =
      let named : NamesGoal q middle.goal (Xf e rule) =
      subst (λ k. NamesGoal q k (Xf e rule)) (sym first.same_goal) names in
      let then =
      proceeds_wider (IsAskedWord q middle.goal) (AddsWord q (Xf e rule)) (asked_adds middle.goal named) u middle
      w middle put.proceeds in
      works_end (meaning_of q) capacity (AddsWord q (Xf e rule)) v start w middle (record { cost = 0; node = 0 }) came
      (proceeds_then (AddsWord q (Xf e rule)) v start u middle w middle first then)
      (λ none. promise_shown q children small (Xf e rule) asked capacity w.looks start.goal names
      (λ child is. still_finished (meaning_of q) capacity u.looks w.looks
      (later_proceeded (AddsWord q (Xf e rule)) u middle w middle then) (goal_word child) (finished none child is))
      (λ x asks. put.shown x (wanted x asks)))
      (record { goal = Xf e rule; names = names; answer = no_choice; is_answer = refl; words = (refl, refl) }) done

-- what a rule that binds a member is asked for, by that member
pub bound_wanted : (q : Query) (e : ExprParts) (rule : Rule) (left : KeyParts) → IsLeftOf e rule left
    → ((bound : Option ExprParts) (n : ℕ) (x : ExprParts) → HasResult q rule e bound n x → is_some bound ≡ binds rule)
    → ((bound : ExprParts) (n : ℕ) (x : ExprParts) → HasResult q rule e (Some bound) n x → IsLeftSide e bound.group)
    → ((bound : ExprParts) (n : ℕ) (x : ExprParts) → HasResult q rule e (Some bound) n x
    → IsTrue (is_logical bound.operator))
    → (x : ExprParts) → AsksFor q (Xf e rule) x → IsBroughtFrom q rule e left x
bound_wanted q e rule left is_left binding side logical x (other, inl (n, has), brought) =
    absurd (false≢true (binding None n other has ∙ is_left.0))
bound_wanted q e rule left is_left binding side logical x (other, inr (bound, n, member, has), brought) = (
  bound,
  record {
    member = member;
    of_group =
        left_one (children_of e.operator) bound.group left
        (left_of q rule e bound n other has (side bound n other has)).1 is_left.1;
    logical = logical bound n other has;
  },
  (n, (other, has, brought)),
)

pub no_left : (group : KeyParts) (found : Option KeyParts) → found ≡ None → found ≡ Some group → ⊥
no_left group found is also = let bad : ⊥ = cc in bad

-- and what a rule without a left group is asked for
pub unbound_wanted : (q : Query) (e : ExprParts) (rule : Rule) → ((group : KeyParts) → IsLeftOf e rule group → ⊥)
    → ((bound : ExprParts) (n : ℕ) (x : ExprParts) → HasResult q rule e (Some bound) n x → IsLeftSide e bound.group)
    → (x : ExprParts) → AsksFor q (Xf e rule) x → IsBroughtWith q rule e None x
unbound_wanted q e rule none side x (other, inl (n, has), brought) = (n, (other, has, brought))
unbound_wanted q e rule none side x (other, inr (bound, n, member, has), brought) =
    absurd (none bound.group (left_of q rule e bound n other has (side bound n other has)))

-- the exploration of the left group is the rule's child
pub left_child : (q : Query) (e : ExprParts) (rule : Rule) (left : KeyParts) → IsLeftOf e rule left
    → IsChildGoal (IsMember q) q (Xf e rule) (Exp left)
left_child q e rule left is = (left, is.0, is.1, refl)
