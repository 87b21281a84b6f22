-- Where the root's goal is finished, the lists in the order of words are those of all members, goals, answers and
-- workers.
use Rattle.std.proofs.Common.{◌≡◌, ℕ, ◌+◌, ◌-◌, ◌^◌, ◌<◌, ◌≤◌, nat_eq, List, [], ◌∷◌, map, length, All, Contains}
use Rattle.std.proofs.Common.{filter, refl, sym, subst, ap, ◌∙◌, arith, IsPermutation, leb-false, not}
use Rattle.std.proofs.lemmas.Bool.{lt-leb, not-true}
use Rattle.std.specs.List.{AllZip, IsDistinct}
use Rattle.std.specs.List.Sorted.{IsNonDecreasing, IsNonDecreasingBy, IsStrictlyIncreasing}
use Rattle.std.proofs.lemmas.List.{get_or-map, length-map}
use Rattle.std.proofs.lemmas.List.Elements.{All-filter, All-map, filter_passes, recursion_from_All}
use Rattle.std.proofs.lemmas.List.Sorted.{All-permutation, Contains-permutation, IsNonDecreasingBy-from_default}
use Rattle.std.proofs.lemmas.List.Sorted.{IsPermutation-map, length_permutation}
use Rattle.std.proofs.lemmas.Map.Keys.{IsDistinct-IsPermutation, IsStrictlyIncreasing-from_distinct}
use Rattle.std.proofs.lemmas.Cmp.{nat_eq_equiv}
use Rattle.query_core.specs.Expressions.{word_of}
use Rattle.query_core.specs.Goals.{goal_bit, FitsExpr}
use Rattle.query_core.specs.declared.query.Query.{Query}
use Rattle.query_core.specs.declared.expressions.ExprParts.{ExprParts}
use Rattle.xform_rules.specs.Closure.{IsMember, IsMemberWord, IsClosureOf}
use Rattle.best_answers.specs.Laws.{BestsFit}
use Rattle.goal_space.specs.Words.{goal_word}
use Rattle.goal_space.specs.Entries.{IsEntry, IsGoalWord}
use Rattle.goal_space.specs.Laws.{GoalRequestsFit, MembersAreAsked}
use Rattle.goal_space.specs.Answers.{AreAnswers, TellsAnswer, words_told}
use Rattle.plan_report.specs.Sources.{HasAnswers}
use Rattle.goal_children.specs.Listed.{AreGoalsOf}
use Rattle.board_rule.specs.Records.{Ended}
use Rattle.board_rule.specs.Words.{Mem}
use Rattle.goal_board.specs.Closed.{cells_below, finished_at, finished_below}
use Rattle.goal_board.specs.Closing.{mem_of, cells_of, finished_of}
use Rattle.job_outcome.specs.Outcomes.{HasFinishedRoot, IsFinisher, AreDone, IsDone}
use Rattle.job_outcome.specs.Searched.{is_member_word, told_of, answers_of, AreListsOf}
use Rattle.job_outcome.specs.declared.searched.Lists.{Lists}
use Rattle.job_outcome.specs.declared.searched.Searched.{Searched}
use Rattle.goal_board.specs.declared.answers.Finished.{Finished}
use Rattle.job_outcome.proofs.ListLemmas.{all_zip_maps, contains_filter, contains_map, distinct_filter}
use Rattle.job_outcome.proofs.Places.{all_below, all_cells, cells_differ, contains_below, contains_cell, goal_in}
use Rattle.job_outcome.proofs.Places.{goals_differ}
use Rattle.job_outcome.proofs.Finishing.{all_finished, all_stand, goal_at, high_at, member_entry, taken_at}
use Rattle.job_outcome.proofs.Told.{tells}
use Rattle.job_outcome.proofs.Counting.{few_below}
use Rattle.job_outcome.proofs.Reading.{ReadsSearch, root_finished}
use Rattle.job_outcome.proofs.Listed.{some_lists}

-- some goal, for where a list ends
nothing : Finished
nothing = record { goal = 0; answer = record { cost = 0; node = 0 }; who = 0 }

-- goals that don't fall are words that don't fall
rising_words : (finished : List Finished) → IsNonDecreasingBy goal_in finished → IsNonDecreasing (map goal_in finished)
rising_words finished rise =
    IsNonDecreasingBy-from_default (λ (x : ℕ). x) (map goal_in finished) 0 (λ i j ordered within.
    let first = get_or-map goal_in finished i nothing 0 (omega (arith, ordered, within, length-map finished goal_in)) in
    let second = get_or-map goal_in finished j nothing 0 (omega (arith, within, length-map finished goal_in)) in
    let up = rise i j nothing ordered (omega (arith, within, length-map finished goal_in)) in
    omega (arith, first, second, up))

pub words_of_told : (finished : List Finished) → words_told (map told_of finished) ≡ map goal_in finished
words_of_told [] = refl
words_of_told (f ∷ finished) = ap (λ l. f.goal ∷ l) (words_of_told finished)

-- different words in an order that doesn't fall ascend
ascending : (xs ys : List ℕ) → IsPermutation xs ys → IsDistinct nat_eq xs → IsNonDecreasing ys → IsStrictlyIncreasing ys
ascending xs ys same differ rise = IsStrictlyIncreasing-from_distinct ys rise
    (IsDistinct-IsPermutation nat_eq nat_eq_equiv.symm xs ys same differ)

module _ (q : Query) (capacity place : ℕ) (done : List Ended) (searched : Searched)
    (its : ReadsSearch q capacity place done searched.board) (has : HasFinishedRoot q searched.board) where
  abbrev m : Mem
  m = mem_of searched.board

  -- what was read of all places
  cells_here : cells_of searched.board ≡ cells_below m capacity
  cells_here = ap (cells_below m) its.same_capacity

  finished_here : finished_of searched.board ≡ finished_below m capacity
  finished_here = ap (finished_below m) its.same_capacity

  -- ---- the goals

  module _ (finished : List Finished) (same : IsPermutation (finished_of searched.board) finished) where
    moved : IsPermutation (finished_below m capacity) finished
    moved = subst (λ (l : List Finished). IsPermutation l finished) finished_here same

    -- what holds of each goal with a closed head holds of each in the list
    each_goal : (Fact : Finished → Type 0) → ((p : ℕ) → p < capacity → 2 ^ 63 ≤ m.head p → Fact (finished_at m p))
        → All Fact finished
    each_goal Fact each = All-permutation Fact (finished_below m capacity) finished moved
        (all_below m Fact capacity each)

    goals_of_query : IsNonDecreasingBy goal_in finished → AreGoalsOf q (map goal_in finished)
    goals_of_query rise = record {
      ascending = ascending (map goal_in (finished_below m capacity)) (map goal_in finished)
          (IsPermutation-map goal_in (finished_below m capacity) finished moved)
          (goals_differ m capacity its.searched.cells.are_set (taken_at q capacity m its.searched) capacity
          (omega arith))
          (rising_words finished rise);
      sound = All-map (IsGoalWord q) goal_in finished
          (each_goal (λ f. IsGoalWord q f.goal) (goal_at q capacity m its.searched));
      complete = λ goal is_goal.
          let (p, near, some, at, head) = all_finished q capacity m its.searched
          (root_finished q capacity place done searched.board its has) goal is_goal in
          subst (Contains (map goal_in finished)) at
          (contains_map goal_in (finished_at m p) finished
          (Contains-permutation (finished_below m capacity) finished (finished_at m p) moved
          (contains_below m capacity p near head)));
    }

    answers_of_query : BestsFit q → GoalRequestsFit q → AreGoalsOf q (map goal_in finished)
        → AreAnswers q (map told_of finished)
    answers_of_query fit requests goals = record {
      ascending = subst IsStrictlyIncreasing (sym (words_of_told finished)) goals.ascending;
      sound = All-map (TellsAnswer q) told_of finished
          (each_goal (λ f. TellsAnswer q (told_of f))
          (λ p near head. tells q fit requests (finished_at m p) (its.searched.promises.answer p near head)));
      complete = λ goal is_goal. subst (λ (l : List ℕ). Contains l (goal_word goal)) (sym (words_of_told finished))
          (goals.complete goal is_goal);
    }

    -- the worker of a goal is that of the seat's record of it
    finisher_at : (p : ℕ) → p < capacity → 2 ^ 63 ≤ m.head p → IsFinisher m.cell done (m.cell p) (m.who p - 1)
    finisher_at p near head =
        let (e, among, at, recorded) = its.finished_by p near head in
        let stored : m.who p ≡ e.worker + 1 = ap m.who (sym at) ∙ recorded.who_is in
        record {
          ended = e;
          among = among;
          its_goal = ap m.cell at;
          its_worker = omega (arith, stored);
          few = omega (arith, stored, recorded.few);
        }

    finishers : AllZip (IsFinisher m.cell done) (map goal_in finished) (map (λ (f : Finished). f.who) finished)
    finishers = all_zip_maps (IsFinisher m.cell done) goal_in (λ f. f.who) finished
        (recursion_from_All (λ (f : Finished). IsFinisher m.cell done f.goal f.who) finished
        (each_goal (λ f. IsFinisher m.cell done f.goal f.who) finisher_at))

  -- ---- the members

  module _ (small : (e : ExprParts) → IsMember q e → FitsExpr (word_of e)) (members : List ℕ)
      (same : IsPermutation (filter is_member_word (cells_of searched.board)) members) where
    sorted : IsPermutation (filter is_member_word (cells_below m capacity)) members
    sorted = subst (λ (l : List ℕ). IsPermutation (filter is_member_word l) members) cells_here same

    members_sound : All (IsMemberWord q) (filter is_member_word (cells_below m capacity))
    members_sound k d within =
        let enters = All-filter is_member_word (IsEntry q) (cells_below m capacity)
        (all_cells m (IsEntry q) capacity its.searched.cells.enter) k d within in
        member_entry q _ enters (leb-false goal_bit _
        (not-true _ (filter_passes is_member_word (cells_below m capacity) k d within)))

    closure : MembersAreAsked q → IsNonDecreasing members → IsClosureOf q members
    closure asked rise = record {
      ascending = ascending (filter is_member_word (cells_below m capacity)) members sorted
          (distinct_filter is_member_word (cells_below m capacity)
          (cells_differ m capacity its.searched.cells.are_set capacity (omega arith))) rise;
      sound = All-permutation (IsMemberWord q) (filter is_member_word (cells_below m capacity)) members sorted
          members_sound;
      complete = λ e member.
          let (p, near, some, at) = all_stand q capacity m its.searched
          (root_finished q capacity place done searched.board its has)
          asked e member in
          let low = small e member in
          let there = subst (Contains (cells_below m capacity)) at
          (contains_cell m capacity p near (λ empty. some (sym at ∙ empty))) in
          Contains-permutation (filter is_member_word (cells_below m capacity)) members (word_of e) sorted
          (contains_filter is_member_word (word_of e) (cells_below m capacity)
          (ap not (lt-leb goal_bit (word_of e) (omega (arith, low)))) there);
    }

  -- ---- the answers, in whatever order

  has_answers : BestsFit q → GoalRequestsFit q → HasAnswers q (answers_of searched)
  has_answers fit requests =
      subst (λ (l : List Finished). HasAnswers q (map told_of l)) (sym finished_here) (record {
        sound = All-map (TellsAnswer q) told_of (finished_below m capacity)
            (all_below m (λ f. TellsAnswer q (told_of f)) capacity
            (λ p near head. tells q fit requests (finished_at m p) (its.searched.promises.answer p near head)));
        complete = λ goal is_goal.
            let (p, near, some, at, head) = all_finished q capacity m its.searched
            (root_finished q capacity place done searched.board its has) goal is_goal in
            subst (λ (l : List ℕ). Contains l (goal_word goal)) (sym (words_of_told (finished_below m capacity)))
            (subst (Contains (map goal_in (finished_below m capacity))) at
            (contains_map goal_in (finished_at m p) (finished_below m capacity)
            (contains_below m capacity p near head)));
      })

  -- ---- all of it

  are_done : BestsFit q → GoalRequestsFit q → MembersAreAsked q
      → ((e : ExprParts) → IsMember q e → FitsExpr (word_of e))
      → (lists : Lists) → AreListsOf searched lists → AreDone q capacity m.cell done lists
  are_done fit requests asked small lists ordered =
      let finished = ordered.finished in
      let members = lists.members in
      let all_goals = goals_of_query finished ordered.same ordered.ascending in
      let all_answers = answers_of_query finished ordered.same fit requests all_goals in
      let few = few_below m capacity (high_at q capacity m its.searched) capacity (omega arith) in
      let as_many = length_permutation (finished_below m capacity) finished (moved finished ordered.same) in
      let as_many_members = length_permutation (filter is_member_word (cells_below m capacity)) members
      (sorted small members ordered.same_members) in
      let as_many_goals = ap length ordered.goals_are ∙ length-map finished goal_in in
      record {
        fits = record {
          closure = closure small members ordered.same_members asked ordered.rising;
          all_goals = subst (AreGoalsOf q) (sym ordered.goals_are) all_goals;
          few = omega (arith, few, as_many, as_many_members, as_many_goals);
        };
        are_answers = subst (AreAnswers q) (sym ordered.answers_are) all_answers;
        in_order = ap words_told ordered.answers_are ∙ words_of_told finished ∙ sym ordered.goals_are;
        finishers = (λ (goals_are : map goal_in finished ≡ lists.goals)
            (who_are : map (λ (f : Finished). f.who) finished ≡ lists.who).
            subst (λ (l : List ℕ). AllZip (IsFinisher m.cell done) l lists.who) goals_are
            (subst (AllZip (IsFinisher m.cell done) (map goal_in finished)) who_are (finishers finished ordered.same)))
            (sym ordered.goals_are) (sym ordered.who_are);
      }

  pub is_done : BestsFit q → GoalRequestsFit q → MembersAreAsked q
      → ((e : ExprParts) → IsMember q e → FitsExpr (word_of e)) → IsDone q capacity done searched
  is_done fit requests asked small =
      let (lists, are) = some_lists searched in
      record {
        answers = has_answers fit requests;
        lists = record { lists = lists; are = are; each = are_done fit requests asked small };
        counted = λ lists are. ap length are.goals_are ∙ length-map are.finished goal_in
            ∙ length_permutation (finished_of searched.board) are.finished are.same;
      }
