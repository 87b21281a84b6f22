-- Goals that come to their places in a list whose words rise.
use Rattle.std.proofs.Common.{◌≡◌, ◌≢◌, ℕ, zero, suc, ◌+◌, ◌<◌, ◌≤◌, List, [], ◌∷◌, Option, None, Some, ◌⊎◌, inl, inr}
use Rattle.std.proofs.Common.{map, length, get_or, refl, sym, subst, ap, ◌∙◌, arith}
use Rattle.std.specs.List.{Contains, insert}
use Rattle.std.specs.List.Sorted.{IsPermutation, IsStrictlyIncreasing}
use Rattle.std.proofs.lemmas.Bool.{cases_eq, cases_lt}
use Rattle.std.proofs.lemmas.List.{length-map}
use Rattle.std.proofs.lemmas.List.Edits.{get_or-insert_above, get_or-insert_at, get_or-insert_below, length-insert}
use Rattle.std.proofs.lemmas.List.Elements.{All-cons}
use Rattle.std.proofs.lemmas.List.Sorted.{All-permutation, Contains-permutation, IsPermutation-insert}
use Rattle.std.proofs.lemmas.List.Sorted.{IsPermutation-sym}
use Rattle.query_core.specs.declared.words.KeyParts.{KeyParts}
use Rattle.query_core.specs.declared.expressions.Children.{Children}
use Rattle.query_core.specs.declared.expressions.Children.TheVariants as arities
use Rattle.request_props.specs.declared.request.Request.{Request}
use Rattle.goal_space.specs.Words.{goal_word, IsGoalInRange}
use Rattle.goal_space.specs.declared.goals.GoalKind.TheVariants.{Opt}
use Rattle.goal_space.specs.declared.goals.GoalKind.{GoalKind}
use Rattle.goal_children.specs.Choices.{IsOfAsked, IsOfRequest}
use Rattle.goal_children.specs.Finding.{InsertsGoals}
use Rattle.goal_children.specs.GoalLists.{IsPlaceFor}
use Rattle.goal_children.proofs.Collecting.{collects_as, collects_both, collects_nothing}

-- ---- one goal

-- a head or one of the rest
cons_cases : (x : GoalKind) (xs : List GoalKind) (k : GoalKind) → Contains (x ∷ xs) k → Contains xs k ⊎ (k ≡ x)
cons_cases x xs k (zero, within, at) = inr (sym at)
cons_cases x xs k (suc i, within, at) = inl (i, omega (arith, within), at)

cons_later : (x : GoalKind) (xs : List GoalKind) (k : GoalKind) → Contains xs k → Contains (x ∷ xs) k
cons_later x xs k (i, within, at) = (suc i, omega (arith, within), at)

-- a word at a place where it is greater than all before and less than all behind
rises_insert : (words : List ℕ) (place word : ℕ) → IsStrictlyIncreasing words → place ≤ length words
    → ((k : ℕ) → k < place → get_or words k 0 < word)
    → ((k : ℕ) → place ≤ k → k < length words → word < get_or words k 0)
    → IsStrictlyIncreasing (insert words place word)
rises_insert words place word rises fits before after k within =
    let long : length (insert words place word) ≡ length words + 1 = length-insert words place word fits in
    elim (cases_lt (k + 1) place) [
      | inl early ↦
          rw (
            get_or-insert_below words place word 0 k (omega (arith, early)) fits,
            get_or-insert_below words place word 0 (k + 1) early fits,
          )
          (rises k (omega (arith, early, fits)))
      | inr not_early ↦ elim (cases_lt k place) [
        | inl last ↦
            let here : k + 1 ≡ place = omega (arith, not_early, last) in
            let at : get_or (insert words place word) (k + 1) 0 ≡ word =
            ap (λ j. get_or (insert words place word) j 0) here ∙ get_or-insert_at words place word 0 fits in
            rw (get_or-insert_below words place word 0 k last fits, at) (before k last)
        | inr behind ↦
            let next : get_or (insert words place word) (k + 1) 0 ≡ get_or words k 0 =
            get_or-insert_above words place word 0 k behind fits in
            elim (cases_eq k place) [
              | inl here ↦
                  let at : get_or (insert words place word) k 0 ≡ word =
                  ap (λ j. get_or (insert words place word) j 0) here ∙ get_or-insert_at words place word 0 fits in
                  rw (at, next) (after k behind (omega (arith, within, long)))
              | inr apart ↦ later words place word rises fits k within apart behind next
            ]
      ]
    ]
  where
    later : (words : List ℕ) (place word : ℕ) → IsStrictlyIncreasing words → place ≤ length words → (k : ℕ)
        → k + 1 < length (insert words place word) → k ≢ place → place ≤ k
        → get_or (insert words place word) (k + 1) 0 ≡ get_or words k 0
        → get_or (insert words place word) k 0 < get_or (insert words place word) (k + 1) 0
    later words place word rises fits zero within apart behind next = absurd (omega (arith, apart, behind))
    later words place word rises fits (suc j) within apart behind next =
        let long : length (insert words place word) ≡ length words + 1 = length-insert words place word fits in
        let step : suc j ≡ j + 1 = omega arith in
        let this : get_or (insert words place word) (suc j) 0 ≡ get_or words j 0 =
        ap (λ i. get_or (insert words place word) i 0) step
        ∙ get_or-insert_above words place word 0 j (omega (arith, apart, behind)) fits in
        let that : get_or words (suc j) 0 ≡ get_or words (j + 1) 0 = ap (λ i. get_or words i 0) step in
        rw (this, next, that) (rises j (omega (arith, within, long)))

-- the words of goals, with one more at a place
words_insert : (goals : List GoalKind) (place : ℕ) (goal : GoalKind)
    → map goal_word (insert goals place goal) ≡ insert (map goal_word goals) place (goal_word goal)
words_insert goals zero goal = refl
words_insert [] (suc place) goal = refl
words_insert (g ∷ goals) (suc place) goal = ap (λ ws. goal_word g ∷ ws) (words_insert goals place goal)

module _ (goals : List GoalKind) (goal : GoalKind) where
  -- the goal is there already
  pub inserted_before : Contains goals goal → InsertsGoals (λ k. k ≡ goal) goals goals
  inserted_before there = record {
    collects = record {
      exact = λ k. (
        λ within. inl within,
        λ cases.
            elim cases [ inl within ↦ within | inr same ↦ subst (Contains goals) (sym same) there ],
      );
      in_range = λ all. all;
    };
    rises = λ rises. rises;
  }

  -- it comes to its place
  pub inserted_at : (place : ℕ) (new : List GoalKind) → new ≡ insert goals place goal → IsGoalInRange goal
      → IsPlaceFor goals (goal_word goal) place → InsertsGoals (λ k. k ≡ goal) goals new
  inserted_at place new comes in_range is =
      let moved : IsPermutation (goal ∷ goals) (insert goals place goal) = IsPermutation-insert goals place goal in
      let back : IsPermutation (insert goals place goal) (goal ∷ goals) =
      IsPermutation-sym (goal ∷ goals) (insert goals place goal) moved in
      let long : length (map goal_word goals) ≡ length goals = length-map goals goal_word in
      subst (InsertsGoals (λ k. k ≡ goal) goals) (sym comes) (record {
        collects = record {
          exact = λ k. (
            λ there. cons_cases goal goals k (Contains-permutation (insert goals place goal) (goal ∷ goals) k back
                there),
            λ cases. Contains-permutation (goal ∷ goals) (insert goals place goal) k moved
                (elim cases as (λ _. Contains (goal ∷ goals) k) [
                  | inl within ↦ cons_later goal goals k within
                  | inr same ↦ (0, omega arith, sym same)
                ]),
          );
          in_range = λ all. All-permutation IsGoalInRange (goal ∷ goals) (insert goals place goal) moved
              (All-cons IsGoalInRange goal goals in_range all);
        };
        rises = λ rises. subst IsStrictlyIncreasing (sym (words_insert goals place goal))
            (rises_insert (map goal_word goals) place (goal_word goal) rises (omega (arith, is.within, long))
            (is.before rises)
            (λ k behind within. is.after k behind (omega (arith, within, long))));
      })

-- ---- kinds of goals

-- nothing comes, of a kind that has nothing
pub inserts_nothing : (Kind : GoalKind → Type 0) (goals : List GoalKind) → ((k : GoalKind) → Kind k → ⊥)
    → InsertsGoals Kind goals goals
inserts_nothing Kind goals none = record { collects = collects_nothing Kind goals none; rises = λ rises. rises }

-- the same kind in other words
pub inserts_as : (S T : GoalKind → Type 0) (old new : List GoalKind) → ((k : GoalKind) → S k → T k)
    → ((k : GoalKind) → T k → S k) → InsertsGoals S old new → InsertsGoals T old new
inserts_as S T old new to from inserts =
    record { collects = collects_as S T old new to from inserts.collects; rises = inserts.rises }

-- two kinds come, one after the other
pub inserts_both : (S T : GoalKind → Type 0) (old middle new : List GoalKind) → InsertsGoals S old middle
    → InsertsGoals T middle new → InsertsGoals (λ k. S k ⊎ T k) old new
inserts_both S T old middle new first second =
    record {
      collects = collects_both S T old middle new first.collects second.collects;
      rises = λ rises. second.rises (first.rises rises);
    }

-- and are one kind
pub inserts_more : (S T U : GoalKind → Type 0) (old middle new : List GoalKind) → ((k : GoalKind) → (S k ⊎ T k) → U k)
    → ((k : GoalKind) → U k → S k ⊎ T k)
    → InsertsGoals S old middle → InsertsGoals T middle new → InsertsGoals U old new
inserts_more S T U old middle new to from first second =
    inserts_as (λ k. S k ⊎ T k) U old new to from (inserts_both S T old middle new first second)

-- ---- what is asked of children

module _ (children : Children) (first second : Option Request) where
  -- of two
  pub two_inserted : (left right : KeyParts) (old middle new : List GoalKind) → children ≡ arities.Two left right
      → InsertsGoals (IsOfRequest left first) old middle
      → InsertsGoals (IsOfRequest right second) middle new → InsertsGoals (IsOfAsked children first second) old new
  two_inserted left right old middle new are of_left of_right =
      subst (λ (x : Children). InsertsGoals (IsOfAsked x first second) old new) (sym are)
      (inserts_both (IsOfRequest left first) (IsOfRequest right second) old middle new of_left of_right)

  -- of one
  pub one_inserted : (child : KeyParts) (old new : List GoalKind) → children ≡ arities.One child
      → InsertsGoals (IsOfRequest child first) old new
      → InsertsGoals (IsOfAsked children first second) old new
  one_inserted child old new are inserts =
      subst (λ (x : Children). InsertsGoals (IsOfAsked x first second) old new) (sym are) inserts

  -- of no child nothing
  pub none_inserted : (goals : List GoalKind) → children ≡ arities.Zero
      → InsertsGoals (IsOfAsked children first second) goals goals
  none_inserted goals are =
      subst (λ (x : Children). InsertsGoals (IsOfAsked x first second) goals goals) (sym are)
      (inserts_nothing (IsOfAsked arities.Zero first second) goals (λ k is. is))

-- the goal for what is asked
pub request_inserted : (group : KeyParts) (asked : Option Request) (wanted : Request) (old new : List GoalKind)
    → asked ≡ Some wanted
    → InsertsGoals (λ k. k ≡ Opt group wanted) old new → InsertsGoals (IsOfRequest group asked) old new
request_inserted group asked wanted old new is inserts =
    subst (λ (r : Option Request). InsertsGoals (IsOfRequest group r) old new) (sym is)
    (inserts_as (λ k. k ≡ Opt group wanted) (IsOfRequest group (Some wanted)) old new
    (λ k number. (wanted, refl, number))
    (λ k (below, same, number). (let at : wanted ≡ below = cc in number ∙ ap (Opt group) (sym at))) inserts)

-- nothing where nothing is
pub nothing_inserted : (group : KeyParts) (asked : Option Request) (goals : List GoalKind) → asked ≡ None
    → InsertsGoals (IsOfRequest group asked) goals goals
nothing_inserted group asked goals is =
    subst (λ (r : Option Request). InsertsGoals (IsOfRequest group r) goals goals) (sym is)
    (inserts_nothing (IsOfRequest group None) goals (λ k (below, same, number). cc))
