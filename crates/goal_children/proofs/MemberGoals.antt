-- The goals of words, and those of a group's members.
use Rattle.std.proofs.Common.{◌≡◌, ℕ, ◌+◌, ◌<◌, ◌↔◌, List, [], ◌∷◌, ◌++◌, Option, None, Some, get_or, length, take}
use Rattle.std.proofs.Common.{refl, sym, subst, ap, ◌∙◌, inl, inr, arith}
use Rattle.std.specs.Prelude.{IfSome, MatchOption}
use Rattle.std.specs.List.{Contains}
use Rattle.std.specs.List.Sorted.{IsStrictlyIncreasing}
use Rattle.std.proofs.lemmas.List.{get_or_default, get_or-take, length-take, take_more}
use Rattle.std.proofs.lemmas.List.Kept.{AllPairs-from_increasing}
use Rattle.std.proofs.lemmas.List.Elements.{Contains-append_left, Contains-push, Contains-push_cases}
use Rattle.query_core.specs.Expressions.{word_of, HasWord, IsCandidate, IsCandidateWord, IsPacked}
use Rattle.query_core.specs.declared.query.Query.{Query}
use Rattle.query_core.specs.declared.words.KeyParts.{KeyParts}
use Rattle.query_core.specs.declared.expressions.ExprParts.{ExprParts}
use Rattle.query_core.specs.declared.expressions.PhysicalExpr.{PhysicalExpr}
use Rattle.query_core.proofs.ExpressionLemmas.{expr_of_one}
use Rattle.goal_space.specs.Words.{goal_word, IsGoalInRange}
use Rattle.goal_space.specs.declared.goals.GoalKind.{GoalKind}
use Rattle.goal_space.specs.declared.goals.GoalKind.TheVariants.{OptE}
use Rattle.goal_children.specs.declared.jobs.MemberJob.{MemberJob}
use Rattle.goal_children.specs.declared.jobs.MemberJob.TheVariants.{Transform, Serve}
use Rattle.goal_children.specs.Finding.{AppendsGoals, IsOfMembers}
use Rattle.goal_children.specs.MemberJobs.{IsGoalAmong, IsGoalOf, IsGoalOfWord, IsJobInRange}
use Rattle.goal_children.proofs.Appending.{appends_as, appends_more, appends_nothing}
use Rattle.goal_children.proofs.OfMembers.{goal_at, goal_in_range, has_member, of_member, word_less}

-- an expression has one goal for a job
goal_one : (q : Query) (job : MemberJob) (e : ExprParts) (k l : GoalKind) → IsGoalOf q job e k → IsGoalOf q job e l
    → k ≡ l
goal_one q (Transform phase) e k l is also = is.1 ∙ sym also.1
goal_one q (Serve wanted) e k l is also =
    let same : is.physical ≡ also.physical = expr_of_one is.physical also.physical (sym is.is ∙ also.is) in
    is.number ∙ ap (λ (p : PhysicalExpr). OptE p wanted) same ∙ sym also.number

module _ (q : Query) (packed : (e : ExprParts) → IsCandidate q e → IsPacked e) where
  -- a goal of a word is that of the expression which is known to have it
  pub goal_of_known : (job : MemberJob) (word : ℕ) (known : ExprParts) → ((e : ExprParts) → HasWord word e → e ≡ known)
      → (goal : GoalKind) → IsGoalOfWord q job word goal
      → IsGoalOf q job known goal
  goal_of_known job word known only goal (e, candidate, number, is) =
      subst (λ (x : ExprParts). IsGoalOf q job x goal)
      (only e (record { packed = packed e candidate; number = number })) is

  -- so there is one
  pub one_goal : (job : MemberJob) (word : ℕ) (known : ExprParts) → ((e : ExprParts) → HasWord word e → e ≡ known)
      → IsCandidateWord q word → (goal : GoalKind)
      → IsGoalOf q job known goal → (k : GoalKind) → IsGoalOfWord q job word k ↔ (k ≡ goal)
  one_goal job word known only (e, candidate, number) goal is k =
      let same : e ≡ known = only e (record { packed = packed e candidate; number = number }) in (
        λ of_word. goal_one q job known k goal (goal_of_known job word known only k of_word) is,
        λ also. (
          e,
          candidate,
          number,
          subst (λ (x : ExprParts). IsGoalOf q job x k) (sym same)
              (subst (IsGoalOf q job known) (sym also) is),
        ),
      )

  -- ---- what was found of an expression

  module _ (one : (e f : ExprParts) → IsPacked e → IsPacked f → word_of e ≡ word_of f → e ≡ f) (job : MemberJob)
      (e : ExprParts) (candidate : IsCandidate q e) where
    only : (f : ExprParts) → HasWord (word_of e) f → f ≡ e
    only f has = one f e has.packed (packed e candidate) has.number

    -- is the goal of its word
    pub found_of_word : (found : Option GoalKind)
        → MatchOption found ((goal : GoalKind) → IsGoalOf q job e goal → ⊥) (IsGoalOf q job e)
        → (old new : List GoalKind)
        → AppendsGoals (λ k. found ≡ Some k) old new → AppendsGoals (IsGoalOfWord q job (word_of e)) old new
    found_of_word None none old new = appends_as (λ k. None ≡ Some k) (IsGoalOfWord q job (word_of e)) old new
        (λ k same. absurd (cc)) (λ k is. absurd (none k (goal_of_known job (word_of e) e only k is)))
    found_of_word (Some goal) is old new = appends_as (λ k. Some goal ≡ Some k) (IsGoalOfWord q job (word_of e)) old new
        (λ k same. (one_goal job (word_of e) e only (e, candidate, refl) goal is k).1 (let at : goal ≡ k = cc in
        sym at))
        (λ k of_word. ap Some (sym ((one_goal job (word_of e) e only (e, candidate, refl) goal is k).0 of_word)))

    -- which fits
    pub found_fits : IsJobInRange job → (found : Option GoalKind)
        → MatchOption found ((goal : GoalKind) → IsGoalOf q job e goal → ⊥) (IsGoalOf q job e)
        → IfSome found IsGoalInRange
    found_fits in_range None none = tt
    found_fits in_range (Some goal) is = goal_in_range q job e goal in_range (packed e candidate) is

  module _ (words own : List ℕ) (group : KeyParts) (job : MemberJob) where
    -- the goals of the group's words are those of its members
    pub among_members : ((e : ExprParts) → IsPacked e → Contains own (word_of e) → e.group ≡ group)
        → ((word : ℕ) → Contains own word → Contains words word)
        → (goal : GoalKind) → IsGoalAmong q job own goal → IsOfMembers q words group job goal
    among_members only part goal (word, within, (e, candidate, number, is)) =
        let there : Contains own (word_of e) = subst (Contains own) (sym number) within in
        of_member q words group job goal (record {
          expr = e;
          listed = record { candidate = candidate; listed = part (word_of e) there };
          of_group = only e (packed e candidate) there;
          is_goal = is;
        })

    pub members_among : ((e : ExprParts) → IsPacked e → e.group ≡ group → Contains words (word_of e)
        → Contains own (word_of e))
        → (goal : GoalKind) → IsOfMembers q words group job goal → IsGoalAmong q job own goal
    members_among own_words goal is =
        let has = has_member q words group job goal is in (
          word_of has.expr,
          own_words has.expr (packed has.expr has.listed.candidate) has.of_group has.listed.listed,
          (has.expr, has.listed.candidate, refl, has.is_goal),
        )

-- ---- one word after the other

-- a word before another
word_before : (words : List ℕ) (i word : ℕ) → IsStrictlyIncreasing words → i < length words
    → Contains (take i words) word → word < get_or words i 0
word_before words i word rises within (k, inside, at) =
    let short : k < i = omega (arith, inside, length-take i words) in
    let this : get_or words k word ≡ word = sym (get_or-take i words k word short) ∙ at in
    let that : get_or words i word ≡ get_or words i 0 = get_or_default words i word 0 within in
    omega (arith, AllPairs-from_increasing words rises k i word short within, this, that)

module _ (q : Query) (job : MemberJob) where
  -- of no word
  pub none_among : (goals : List GoalKind) → AppendsGoals (IsGoalAmong q job []) goals goals
  none_among goals = appends_nothing (IsGoalAmong q job []) goals
      (λ k (word, (place, within, at), of_word). absurd (omega (arith, within)))

  -- a lesser word has a goal that comes before
  among_less : (words : List ℕ) (i : ℕ) → IsStrictlyIncreasing words → i < length words → (k l : GoalKind)
      → IsGoalAmong q job (take i words) k → IsGoalOfWord q job (get_or words i 0) l
      → goal_word k < goal_word l
  among_less words i rises within k l (word, there, (e, candidate, number, is)) (f, also, at, has) =
      let less : word_of e < word_of f = omega (arith, word_before words i word rises within there, number, at) in
      omega (arith, goal_at q job e k is, goal_at q job f l has, word_less job (word_of e) (word_of f) less)

  -- of one more
  pub more_among : (words : List ℕ) (i : ℕ) (old middle new : List GoalKind) → IsStrictlyIncreasing words
      → i < length words → AppendsGoals (IsGoalAmong q job (take i words)) old middle
      → AppendsGoals (IsGoalOfWord q job (get_or words i 0)) middle new
      → AppendsGoals (IsGoalAmong q job (take (i + 1) words)) old new
  more_among words i old middle new rises within first second =
      let word = get_or words i 0 in
      subst (λ ws. AppendsGoals (IsGoalAmong q job ws) old new) (sym (take_more words i 0 within))
      (appends_more (IsGoalAmong q job (take i words)) (IsGoalOfWord q job word)
      (IsGoalAmong q job (take i words ++ word ∷ [])) old middle new (among_less words i rises within)
      (λ k cases. elim cases [
        | inl (other, there, of_word) ↦ (other, Contains-append_left (take i words) (word ∷ []) other there, of_word)
        | inr of_word ↦ (word, Contains-push (take i words) word, of_word)
      ])
      (λ k (other, there, of_word). elim (Contains-push_cases (take i words) word other there) [
        | inl earlier ↦ inl (other, earlier, of_word)
        | inr same ↦ inr (subst (λ w. IsGoalOfWord q job w k) (sym same) of_word)
      ])
      first second)
