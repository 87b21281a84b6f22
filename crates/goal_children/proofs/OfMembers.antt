-- The goals of a group's members, which stand in the order of the members' words.
use Rattle.std.proofs.Common.{◌≡◌, ℕ, ◌+◌, ◌-◌, ◌<◌, ◌≤◌, List, Option, None, Some, All, length, get_or, drop, take}
use Rattle.std.proofs.Common.{refl, sym, subst, ap, ◌∙◌, inl, inr, arith}
use Rattle.std.specs.Prelude.{MatchOption}
use Rattle.std.specs.List.{Contains}
use Rattle.std.specs.List.Sorted.{IsStrictlyIncreasing}
use Rattle.std.proofs.lemmas.Bool.{cases_eq, cases_lt}
use Rattle.std.proofs.lemmas.List.{get_or_default, get_or-drop, get_or-take, length-drop, length-take}
use Rattle.std.proofs.lemmas.List.Elements.{All-contains, Contains-get_or}
use Rattle.std.proofs.lemmas.List.Kept.{AllPairs-from_increasing}
use Rattle.query_core.specs.Expressions.{expr_of, word_of, IsCandidate, IsCandidateWord, IsPacked}
use Rattle.query_core.specs.Goals.{FitsExpr}
use Rattle.query_core.specs.declared.query.Query.{Query}
use Rattle.query_core.specs.declared.words.KeyParts.{KeyParts}
use Rattle.query_core.specs.declared.expressions.ExprParts.{ExprParts}
use Rattle.request_props.specs.Numbered.{lists_of, orders_of}
use Rattle.goal_space.specs.Words.{goal_word, IsGoalInRange}
use Rattle.goal_space.specs.declared.goals.GoalKind.{GoalKind}
use Rattle.goal_space.specs.declared.phase.Phase.{Phase}
use Rattle.goal_space.specs.declared.phase.Phase.TheVariants.{Exploration, Implementation}
use Rattle.goal_children.specs.declared.jobs.MemberJob.{MemberJob}
use Rattle.goal_children.specs.declared.jobs.MemberJob.TheVariants.{Transform, Serve}
use Rattle.goal_space.specs.Children.{IsListedIn}
use Rattle.goal_space.specs.Phases.{phase_goal_of_expr}
use Rattle.goal_children.specs.Finding.{IsOfMembers, FindsFrom, IsLeastFrom}
use Rattle.goal_children.proofs.OverChildren.{request_in_range}
use Rattle.goal_children.specs.MemberJobs.{word_at, HasNumberedJob, HaveNoGoals, IsFirstGoal, IsGoalOf, IsJobInRange}

-- ---- words

-- a lesser word has a lesser goal
pub word_rises : (job : MemberJob) (first second : ℕ) → first ≤ second → word_at job first ≤ word_at job second
word_rises (Transform Exploration) first second order = omega arith
word_rises (Transform Implementation) first second order = omega arith
word_rises (Serve wanted) first second order = omega arith

pub word_less : (job : MemberJob) (first second : ℕ) → first < second → word_at job first < word_at job second
word_less (Transform Exploration) first second less = omega (arith, less)
word_less (Transform Implementation) first second less = omega (arith, less)
word_less (Serve wanted) first second less = omega (arith, less)

-- ascending words do not fall
pub words_rise : (words : List ℕ) → IsStrictlyIncreasing words → (i j : ℕ) → i ≤ j → j < length words
    → get_or words i 0 ≤ get_or words j 0
words_rise words ascending i j order within = elim (cases_eq i j) [
  | inl same ↦ subst (λ k. get_or words i 0 ≤ get_or words k 0) same (omega arith)
  | inr apart ↦ omega (arith, AllPairs-from_increasing words ascending i j 0 (omega (arith, order, apart)) within)
]

expr_goal_word : (phase : Phase) (e : ExprParts)
    → goal_word (phase_goal_of_expr phase e) ≡ word_at (Transform phase) (word_of e)
expr_goal_word Exploration e = refl
expr_goal_word Implementation e = refl

expr_goal_in_range : (phase : Phase) (e : ExprParts) → IsPacked e → IsGoalInRange (phase_goal_of_expr phase e)
expr_goal_in_range Exploration e packed = packed
expr_goal_in_range Implementation e packed = packed

-- what holds of each word holds of each that is among them
pub all_among : (P : ℕ → Type 0) (words own : List ℕ) → All P words
    → ((word : ℕ) → Contains own word → Contains words word) → All P own
all_among P words own all part k d within =
    All-contains P words (get_or own k d) all (part (get_or own k d) (Contains-get_or own k d within))

-- and of each behind some
pub all_behind : (P : ℕ → Type 0) (words : List ℕ) (n : ℕ) → All P words → All P (drop n words)
all_behind P words n all k d within = subst P (sym (get_or-drop n words k d))
    (all (n + k) d (omega (arith, within, length-drop n words)))

module _ (q : Query) where
  -- words that are among those of candidates are those of candidates
  pub own_candidates : (words own : List ℕ) → All (IsCandidateWord q) words
      → ((word : ℕ) → Contains own word → Contains words word) → All (IsCandidateWord q) own
  own_candidates words own = all_among (IsCandidateWord q) words own

  -- and fit
  pub small_words : ((e : ExprParts) → IsCandidate q e → IsPacked e)
      → ((e : ExprParts) → IsPacked e → FitsExpr (word_of e)) → (words : List ℕ)
      → All (IsCandidateWord q) words → All FitsExpr words
  small_words packed small words candidates k d within =
      let (e, candidate, number) = candidates k d within in
      subst FitsExpr number (small e (packed e candidate))

  -- a job's request that has numbers has a code
  pub job_in_range : length (lists_of q) ≤ 60 → length (orders_of q) ≤ 60 → (job : MemberJob) → HasNumberedJob q job
      → IsJobInRange job
  job_in_range few_lists few_orders (Transform phase) numbered = tt
  job_in_range few_lists few_orders (Serve wanted) numbered = request_in_range q few_lists few_orders wanted numbered

  -- the goal's word goes with that of the expression
  pub goal_at : (job : MemberJob) (e : ExprParts) (goal : GoalKind) → IsGoalOf q job e goal
      → goal_word goal ≡ word_at job (word_of e)
  goal_at (Transform phase) e goal is = ap goal_word is.1 ∙ expr_goal_word phase e
  goal_at (Serve wanted) e goal is = ap goal_word is.number ∙ ap (λ x. word_at (Serve wanted) (word_of x)) (sym is.is)

  -- and it fits
  pub goal_in_range : (job : MemberJob) (e : ExprParts) (goal : GoalKind) → IsJobInRange job → IsPacked e
      → IsGoalOf q job e goal → IsGoalInRange goal
  goal_in_range (Transform phase) e goal of_job packed is =
      subst IsGoalInRange (sym is.1) (expr_goal_in_range phase e packed)
  goal_in_range (Serve wanted) e goal of_job packed is =
      subst IsGoalInRange (sym is.number) (subst IsPacked is.is packed, of_job)

  -- ---- members

  -- a member of the group that has the goal
  pub record HasMember (words : List ℕ) (group : KeyParts) (job : MemberJob) (goal : GoalKind) : Type 0 where
    pub expr : ExprParts
    pub listed : IsListedIn q words expr
    pub of_group : expr.group ≡ group
    pub is_goal : IsGoalOf q job expr goal

  pub of_member : (words : List ℕ) (group : KeyParts) (job : MemberJob) (goal : GoalKind)
      → HasMember words group job goal → IsOfMembers q words group job goal
  of_member words group (Transform phase) goal has =
      (has.expr, record { member = has.listed; of_group = has.of_group; logical = has.is_goal.0 }, has.is_goal.1)
  of_member words group (Serve wanted) goal has =
      let served = has.is_goal in (
        served.physical,
        record {
          member = subst (IsListedIn q words) served.is has.listed;
          of_group = ap (λ (e : ExprParts). e.group) (sym served.is) ∙ has.of_group;
          mode = served.mode;
          serves = served.serves;
        },
        served.number,
      )

  pub has_member : (words : List ℕ) (group : KeyParts) (job : MemberJob) (goal : GoalKind)
      → IsOfMembers q words group job goal → HasMember words group job goal
  has_member words group (Transform phase) goal (e, is_in, is) =
      record { expr = e; listed = is_in.member; of_group = is_in.of_group; is_goal = (is_in.logical, is) }
  has_member words group (Serve wanted) goal (e, can, is) = record {
    expr = expr_of e;
    listed = can.member;
    of_group = can.of_group;
    is_goal = record { physical = e; is = refl; mode = can.mode; serves = can.serves; number = is };
  }

  -- ---- the first of them from the bound on

  module _ (words own : List ℕ) (group : KeyParts) (job : MemberJob) (bound first : ℕ)
      (own_words : (e : ExprParts) → IsPacked e → e.group ≡ group → Contains words (word_of e)
      → Contains own (word_of e))
      (only : (e : ExprParts) → IsPacked e → Contains own (word_of e) → e.group ≡ group)
      (part : (word : ℕ) → Contains own word → Contains words word)
      (rises : IsStrictlyIncreasing own)
      (before : (k : ℕ) → k < first → word_at job (get_or own k 0) < bound)
      (after : (k : ℕ) → first ≤ k → k < length own → bound ≤ word_at job (get_or own k 0))
      (packed : (e : ExprParts) → IsCandidate q e → IsPacked e) where
    -- a goal from the bound on is that of a word from the first place on
    pub record StandsAt (goal : GoalKind) : Type 0 where
      pub has : HasMember words group job goal
      pub place : ℕ
      pub within : place < length (drop first own)
      pub word : word_of has.expr ≡ get_or (drop first own) place 0

    stands_from : (goal : GoalKind) (has : HasMember words group job goal) → bound ≤ goal_word goal → (k : ℕ)
        → k < length own → get_or own k 0 ≡ word_of has.expr
        → StandsAt goal
    stands_from goal has above k within at =
        let word : goal_word goal ≡ word_at job (get_or own k 0) = goal_at job has.expr goal has.is_goal
        ∙ ap (word_at job) (sym at) in
        elim (cases_lt k first) [
          | inl less ↦ absurd (omega (arith, before k less, word, above))
          | inr more ↦
              let so_far : first + (k - first) ≡ k = omega arith in record {
                has = has;
                place = k - first;
                within = omega (arith, length-drop first own);
                word = sym at ∙ ap (λ j. get_or own j 0) (sym so_far) ∙ sym (get_or-drop first own (k - first) 0);
              }
        ]

    stands_at : (goal : GoalKind) → IsOfMembers q words group job goal → bound ≤ goal_word goal → StandsAt goal
    stands_at goal is above =
        let has = has_member words group job goal is in
        let there = own_words has.expr (packed has.expr has.listed.candidate) has.of_group has.listed.listed in
        stands_from goal has above there.0 there.1 (get_or_default own there.0 0 (word_of has.expr) there.1 ∙ there.2)

    pub found_none : HaveNoGoals q job (drop first own) → FindsFrom (IsOfMembers q words group job) bound None
    found_none none goal is above =
        let at = stands_at goal is above in
        let e = at.has.expr in
        let there : Contains (drop first own) (word_of e) = (
          at.place,
          at.within,
          sym (get_or_default (drop first own) at.place 0 (word_of e) at.within)
              ∙ sym at.word,
        ) in
        none goal (word_of e, there, (e, at.has.listed.candidate, refl, at.has.is_goal))

    pub found_some : IsJobInRange job → (goal : GoalKind) → IsFirstGoal q job (drop first own) goal
        → IsLeastFrom (IsOfMembers q words group job) bound goal
    found_some in_range goal is =
        let place = first + is.place in
        let within : place < length own = omega (arith, is.within, length-drop first own) in
        let at : word_of is.expr ≡ get_or own place 0 = is.word ∙ get_or-drop first own is.place 0 in
        let there : Contains own (word_of is.expr) =
        (place, within, sym (get_or_default own place 0 (word_of is.expr) within) ∙ sym at) in
        let fits = packed is.expr is.candidate in
        let number : goal_word goal ≡ word_at job (get_or own place 0) = goal_at job is.expr goal is.is_goal
        ∙ ap (word_at job) at in
        record {
          is = of_member words group job goal (record {
            expr = is.expr;
            listed = record { candidate = is.candidate; listed = part (word_of is.expr) there };
            of_group = only is.expr fits there;
            is_goal = is.is_goal;
          });
          in_range = goal_in_range job is.expr goal in_range fits is.is_goal;
          from = omega (arith, after place (omega arith) within, number);
          least = λ other is_other above.
              let at_other = stands_at other is_other above in
              elim (cases_lt at_other.place is.place) [
                | inl less ↦
                    let e = at_other.has.expr in
                    let inside : at_other.place < length (take is.place (drop first own)) =
                    omega (arith, less, at_other.within, length-take is.place (drop first own)) in
                    let there : Contains (take is.place (drop first own)) (word_of e) = (
                      at_other.place,
                      inside,
                      get_or-take is.place (drop first own) at_other.place (word_of e) less
                          ∙ sym (get_or_default (drop first own) at_other.place 0 (word_of e) at_other.within)
                          ∙ sym at_other.word,
                    ) in
                    absurd (is.before other (
                      word_of e,
                      there,
                      (e, at_other.has.listed.candidate, refl, at_other.has.is_goal),
                    ))
                | inr more ↦
                    let within_other : first + at_other.place < length own =
                    omega (arith, at_other.within, length-drop first own) in
                    let other_at : word_of at_other.has.expr ≡ get_or own (first + at_other.place) 0 = at_other.word
                    ∙ get_or-drop first own at_other.place 0 in
                    let other_number : goal_word other ≡ word_at job (get_or own (first + at_other.place) 0) =
                    goal_at job at_other.has.expr other at_other.has.is_goal ∙ ap (word_at job) other_at in
                    let order = words_rise own rises place (first + at_other.place) (omega (arith, more))
                    within_other in
                    omega (arith, number, other_number, word_rises job _ _ order)
              ];
        }

    -- what is found of the words from the first place on is found of the members
    pub own_found : IsJobInRange job → (found : Option GoalKind)
        → MatchOption found (HaveNoGoals q job (drop first own)) (IsFirstGoal q job (drop first own))
        → FindsFrom (IsOfMembers q words group job) bound found
    own_found in_range None none = found_none none
    own_found in_range (Some goal) is = found_some in_range goal is
