-- Goals by their words, and the lines of goals with their children.
use Rattle.std.proofs.Common.{◌≡◌, ℕ, ◌+◌, ◌<◌, List, [], ◌∷◌, ◌++◌, All, append_assoc, flat_map, map, length, get_or}
use Rattle.std.proofs.Common.{take, refl, sym, subst, ap, ◌∙◌, arith}
use Rattle.std.specs.List.{concat}
use Rattle.std.proofs.lemmas.List.{append-nil, get_or-map, length-map, map-append, take_more}
use Rattle.std.proofs.lemmas.List.Concat.{flat_map-append}
use Rattle.std.proofs.lemmas.List.Folds.{concat-append}
use Rattle.std.proofs.lemmas.List.Elements.{All-push}
use Rattle.query_core.specs.declared.query.Query.{Query}
use Rattle.goal_space.specs.Words.{goal_word, IsGoalInRange}
use Rattle.goal_space.specs.declared.goals.GoalKind.{GoalKind}
use Rattle.goal_children.specs.Over.{AreGoalWords, IsGoalOver}
use Rattle.goal_children.specs.Children.{AreChildren}
use Rattle.goal_children.specs.GoalLists.{HaveGoalWords, IsWordOfGoal}
use Rattle.query_text.specs.Added.{AddsText}
use Rattle.job_trace.specs.Goals.{child_line, goal_line}
use Rattle.job_trace.specs.Trace.{AreGoals, Traced, traced_lines}
use Rattle.job_trace.specs.GoalLines.{AddsTraced}
use Rattle.job_trace.proofs.Adding.{adds_more}

-- goals over the query that have these words
pub have_words : (q : Query) (words : List ℕ) (goals : List GoalKind)
    → ((goal : GoalKind) → IsGoalOver q goal → IsGoalInRange goal) → AreGoals q words goals → HaveGoalWords words goals
have_words q words goals in_range are = record {
  numbers = are.numbers;
  in_range = λ k d within. in_range _ (are.over k d within);
}

module _ (q : Query) (words : List ℕ) (in_range : (goal : GoalKind) → IsGoalOver q goal → IsGoalInRange goal)
    (words_over : AreGoalWords q words) where
  -- words of goals over the query are words of goals
  pub words_of_goals : All IsWordOfGoal words
  words_of_goals k d within = let (goal, over, number) = words_over.over k d within in
      (goal, record { in_range = in_range goal over; number = number })

  -- where a word is that of one goal, the goals of such words are goals over the query
  pub are_goals : ((k l : GoalKind) → IsGoalInRange k → IsGoalInRange l → goal_word k ≡ goal_word l → k ≡ l)
      → (goals : List GoalKind) → HaveGoalWords words goals → AreGoals q words goals
  are_goals one goals have = record {
    numbers = have.numbers;
    over = λ k d within.
        let inside : k < length words = omega (
          arith,
          within,
          ap length (sym have.numbers),
          length-map goals goal_word,
        ) in
        let (goal, over, number) = words_over.over k 0 inside in
        let same : goal_word goal ≡ goal_word (get_or goals k d) = number ∙ ap (λ ws. get_or ws k 0) (sym have.numbers)
        ∙ get_or-map goal_word goals k d 0 within in
        subst (IsGoalOver q) (one goal (get_or goals k d) (in_range goal over) (have.in_range k d within) same) over;
    ascending = words_over.ascending;
  }

-- ---- lines

-- one more child
pub child_more : (q : Query) (children : List GoalKind) (i : ℕ) (d : GoalKind) → i < length children
    → (first before after : List ℕ)
    → AddsText first (concat (map (child_line q) (take i children))) before
    → AddsText before (child_line q (get_or children i d)) after
    → AddsText first (concat (map (child_line q) (take (i + 1) children))) after
child_more q children i d within first before after so_far line =
    let earlier : List ℕ = concat (map (child_line q) (take i children)) in
    let this : List ℕ = child_line q (get_or children i d) in
    let all : concat (map (child_line q) (take (i + 1) children)) ≡ earlier ++ this =
    ap (λ cs. concat (map (child_line q) cs)) (take_more children i d within)
    ∙ ap concat (map-append (child_line q) (take i children) (get_or children i d ∷ []))
    ∙ concat-append (map (child_line q) (take i children)) (this ∷ [])
    ∙ ap (λ l. earlier ++ l) (append-nil this) in
    adds_more first earlier before this after so_far line ∙ ap (λ l. first ++ l) (sym all)

module _ (q : Query) (members : List ℕ) where
  -- before the first goal
  pub traced_none : (text : List ℕ) → AddsTraced q members [] text text
  traced_none text = record {
    traced = [];
    are_goals = refl;
    children = λ k d within. absurd (omega (arith, within));
    adds = sym (append-nil text);
  }

  -- the lines of one more goal and of its children
  pub traced_more : (goals : List GoalKind) (goal : GoalKind) (children : List GoalKind)
      (before middle after last : List ℕ) → AreChildren q members goal children
      → AddsTraced q members goals before middle → AddsText middle (goal_line q goal) after
      → AddsText after (concat (map (child_line q) children)) last
      → AddsTraced q members (goals ++ goal ∷ []) before last
  traced_more goals goal children before middle after last are so_far line lines =
      let this : Traced = record { goal = goal; children = children } in
      let new : List ℕ = goal_line q goal ++ concat (map (child_line q) children) in
      let last_lines : flat_map (traced_lines q) (this ∷ []) ≡ traced_lines q this = append-nil (traced_lines q this) in
      let whole : concat (flat_map (traced_lines q) (so_far.traced ++ this ∷ [])) ≡ concat
      (flat_map (traced_lines q) so_far.traced) ++ new =
      ap concat (flat_map-append (traced_lines q) so_far.traced (this ∷ []))
      ∙ concat-append (flat_map (traced_lines q) so_far.traced) (flat_map (traced_lines q) (this ∷ []))
      ∙ ap (λ (ls : List (List ℕ)). concat (flat_map (traced_lines q) so_far.traced) ++ concat ls) last_lines in
      let lines_before : List ℕ = concat (flat_map (traced_lines q) so_far.traced) in
      record {
        traced = so_far.traced ++ this ∷ [];
        are_goals = map-append (λ t. t.goal) so_far.traced (this ∷ []) ∙ ap (λ gs. gs ++ goal ∷ []) so_far.are_goals;
        children = All-push (λ t. AreChildren q members t.goal t.children) so_far.traced this so_far.children are;
        adds =
            lines ∙ ap (λ t. t ++ concat (map (child_line q) children)) line
            ∙ append_assoc middle (goal_line q goal) (concat (map (child_line q) children))
            ∙ ap (λ t. t ++ new) so_far.adds ∙ append_assoc before lines_before new
            ∙ ap (λ t. before ++ t) (sym whole);
      }
