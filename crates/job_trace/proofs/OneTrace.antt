-- Words have one trace.
use Rattle.std.proofs.Common.{◌≡◌, ℕ, List, [], ◌∷◌, All, map, refl, sym, subst, ap, ◌∙◌}
use Rattle.std.specs.List.{concat}
use Rattle.std.proofs.lemmas.List.Elements.{All-head, All-tail}
use Rattle.query_core.specs.declared.query.Query.{Query}
use Rattle.goal_space.specs.Words.{goal_word, IsGoalInRange}
use Rattle.goal_space.specs.declared.goals.GoalKind.{GoalKind}
use Rattle.goal_children.specs.Over.{IsGoalOver}
use Rattle.goal_children.specs.Children.{AreChildren}
use Rattle.job_trace.specs.Trace.{Traced, IsTraceText, trace_section}

-- the same goal with the same children
same_parts : (t u : Traced) → t.goal ≡ u.goal → t.children ≡ u.children → t ≡ u
same_parts t u goal children = λ i. record { goal = goal i; children = children i }

-- the same first one, and the same others
same_list : (t u : Traced) (ts us : List Traced) → t ≡ u → ts ≡ us → t ∷ ts ≡ u ∷ us
same_list t u ts us head tail = λ i. head i ∷ tail i

-- no goals aren't some
none_some : (word : ℕ) (words : List ℕ) → [] ≡ word ∷ words → ⊥
none_some word words same = absurd (cc)

-- the parts of two lists of words that are one
cons_parts : (n m : ℕ) (ns ms : List ℕ) → n ∷ ns ≡ m ∷ ms → (n ≡ m) × (ns ≡ ms)
cons_parts n m ns ms same = (cc, cc)

-- the goals that are traced
abbrev goals_of : List Traced → List GoalKind
goals_of traced = map (λ t. t.goal) traced

module _ (q : Query) (members : List ℕ) (in_range : (goal : GoalKind) → IsGoalOver q goal → IsGoalInRange goal)
    (one : (k l : GoalKind) → IsGoalInRange k → IsGoalInRange l → goal_word k ≡ goal_word l → k ≡ l)
    (children_one : (goal : GoalKind) (children others : List GoalKind) → IsGoalOver q goal
    → AreChildren q members goal children → AreChildren q members goal others → children ≡ others) where
  -- each goal with its children
  abbrev HasChildren : Traced → Type 0
  HasChildren t = AreChildren q members t.goal t.children

  -- goals of the same words have the same children
  same_traced : (t u : Traced) → IsGoalOver q t.goal → IsGoalOver q u.goal → goal_word t.goal ≡ goal_word u.goal
      → HasChildren t → HasChildren u → t ≡ u
  same_traced t u over again same has too =
      let goal : t.goal ≡ u.goal = one t.goal u.goal (in_range t.goal over) (in_range u.goal again) same in
      let children : t.children ≡ u.children =
      children_one t.goal t.children u.children over has
      (subst (λ g. AreChildren q members g u.children) (sym goal) too) in
      same_parts t u goal children

  -- and so have lists of them
  one_traced : (traced others : List Traced) → All (IsGoalOver q) (goals_of traced)
      → All (IsGoalOver q) (goals_of others) → All HasChildren traced → All HasChildren others
      → map goal_word (goals_of traced) ≡ map goal_word (goals_of others) → traced ≡ others
  one_traced [] [] over again has too same = refl
  one_traced [] (u ∷ us) over again has too same = absurd (none_some _ _ same)
  one_traced (t ∷ ts) [] over again has too same = absurd (none_some _ _ (sym same))
  one_traced (t ∷ ts) (u ∷ us) over again has too same =
      let (number, numbers) = cons_parts _ _ _ _ same in
      let head : t ≡ u = same_traced t u (All-head (IsGoalOver q) t.goal (goals_of ts) over)
      (All-head (IsGoalOver q) u.goal (goals_of us) again) number (All-head HasChildren t ts has)
      (All-head HasChildren u us too) in
      let tail : ts ≡ us = one_traced ts us (All-tail (IsGoalOver q) t.goal (goals_of ts) over)
      (All-tail (IsGoalOver q) u.goal (goals_of us) again) (All-tail HasChildren t ts has)
      (All-tail HasChildren u us too) numbers in
      same_list t u ts us head tail

  -- so the texts are one
  pub one_text : (goals text other : List ℕ) → IsTraceText q members goals text → IsTraceText q members goals other
      → text ≡ other
  one_text goals text other is again =
      is.lines
      ∙ ap (λ traced. concat (trace_section q traced))
      (one_traced is.traced again.traced is.are.are_goals.over again.are.are_goals.over is.are.children
      again.are.children (is.are.are_goals.numbers ∙ sym again.are.are_goals.numbers))
      ∙ sym again.lines
