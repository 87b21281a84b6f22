-- The place of a goal among others, looked for from their end on.
use Rattle.std.proofs.Common.{◌≡◌, ◌≢◌, ℕ, ◌-◌, ◌<◌, ◌≤◌, List, get_or, inl, inr, length, map, sym, subst, ap, ◌∙◌}
use Rattle.std.proofs.Common.{arith}
use Rattle.std.proofs.lemmas.Bool.{cases_lt}
use Rattle.std.proofs.lemmas.List.{get_or-map, length-map}
use Rattle.std.proofs.lemmas.List.Elements.{Contains-get_or}
use Rattle.std.specs.List.{Contains}
use Rattle.goal_space.specs.Words.{goal_word}
use Rattle.goal_space.specs.declared.goals.GoalKind.{GoalKind}
use Rattle.goal_children.specs.GoalLists.{HaveWord, IsPlaceFor}
use Rattle.goal_children.proofs.OfMembers.{words_rise}

-- the goals from the place on have greater words
abbrev AreAfter : List GoalKind → ℕ → ℕ → Type 0
AreAfter goals word place = (k : ℕ) → place ≤ k → k < length goals → word < get_or (map goal_word goals) k 0

module _ (goals : List GoalKind) (word place before : ℕ) (d : GoalKind) (some : 0 < place)
    (within : place ≤ length goals) (is : before ≡ goal_word (get_or goals (place - 1) d)) where
  -- the word of the goal before the place
  last_word : before ≡ get_or (map goal_word goals) (place - 1) 0
  last_word = is ∙ sym (get_or-map goal_word goals (place - 1) d 0 (omega (arith, some, within)))

  -- it may be the one that is looked for
  pub word_there : before ≡ word → HaveWord goals word
  word_there same =
      let long : length (map goal_word goals) ≡ length goals = length-map goals goal_word in
      subst (Contains (map goal_word goals)) (sym last_word ∙ same)
      (Contains-get_or (map goal_word goals) (place - 1) 0 (omega (arith, some, within, long)))

  -- or less, so this is the place
  pub place_found : before < word → AreAfter goals word place → IsPlaceFor goals word place
  place_found less after =
      let long : length (map goal_word goals) ≡ length goals = length-map goals goal_word in
      record {
        within = within;
        before = λ rises k early.
            omega (
              arith,
              words_rise (map goal_word goals) rises k (place - 1) (omega (arith, early))
                  (omega (arith, some, within, long)),
              last_word,
              less,
            );
        after = after;
      }

  -- or greater
  pub place_earlier : before ≢ word → word ≤ before → AreAfter goals word place → AreAfter goals word (place - 1)
  place_earlier apart more after k from inside = elim (cases_lt k place) [
    | inl early ↦
        let here : place - 1 ≡ k = omega (arith, early, from) in
        let at : before ≡ get_or (map goal_word goals) k 0 = last_word
        ∙ ap (λ i. get_or (map goal_word goals) i 0) here in
        omega (arith, at, apart, more)
    | inr later ↦ after k later inside
  ]
