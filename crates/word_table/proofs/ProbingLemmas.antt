-- What a probe shows of a set of words, and that a word stored where it ends keeps the set.
use Rattle.std.proofs.Common.{◌≡◌, ℕ, ◌<◌, ◌≢◌, ◌∙◌, sym, ap, subst, arith}
use Rattle.word_table.specs.Probing.{home_of, steps_to, HasNoGap, PassesOthers, Lacks, IsWordSet, PutsAt}
use Rattle.std.proofs.Math.Logic.{⊎_elim}
use Rattle.std.proofs.lemmas.Bool.{cases_order, cases_eq}
use Rattle.word_table.proofs.Steps.{steps_to_same}

-- a word's home is below the capacity
pub home_of_below : (word capacity : ℕ) → 0 < capacity → home_of word capacity < capacity
unfolding home_of
home_of_below word capacity some = omega arith

-- cells that are all empty are a set of words
pub empty_is_set : (capacity : ℕ) (cell : ℕ → ℕ) → ((place : ℕ) → place < capacity → cell place ≡ 0)
    → IsWordSet capacity cell
empty_is_set capacity cell empty = record {
  once = λ p q in_range _ taken _. absurd (taken (empty p in_range));
  no_gap = λ p in_range taken. absurd (taken (empty p in_range));
}

-- a probe that comes to an empty cell shows the word in no cell
pub lacks_at_empty : (capacity : ℕ) (cell : ℕ → ℕ) (word place : ℕ) → IsWordSet capacity cell → word ≢ 0
    → place < capacity
    → cell place ≡ 0
    → PassesOthers capacity cell word (steps_to capacity (home_of word capacity) place) → Lacks capacity cell word
lacks_at_empty capacity cell word place set is_word p empty passes q in_range here =
    let home = home_of word capacity in
    let taken : cell q ≢ 0 = λ none. is_word (sym here ∙ none) in
    ⊎_elim
    (λ same. taken (subst (λ x. cell x ≡ 0) (steps_to_same capacity home place q
    (home_of_below word capacity (omega arith)) p
    in_range (sym same)) empty))
    (⊎_elim
    (λ before. (passes q in_range before).1 here)
    (λ behind. subst (λ w. HasNoGap capacity cell w q) here
    (set.no_gap q in_range taken) place p behind empty))
    (cases_order (steps_to capacity home q) (steps_to capacity home place))

-- a word stored in the empty cell to which its probe came leaves a set of words
pub put_keeps_set : (capacity : ℕ) (old new : ℕ → ℕ) (word place : ℕ) → IsWordSet capacity old → word ≢ 0
    → place < capacity
    → old place ≡ 0
    → PassesOthers capacity old word (steps_to capacity (home_of word capacity) place) → PutsAt old new place word
    → IsWordSet capacity new
put_keeps_set capacity old new word place set is_word p empty passes puts =
    let lacks = lacks_at_empty capacity old word place set is_word p empty passes in
    record { once = once lacks; no_gap = λ q in_q taken. no_gap q (was_gapless q in_q taken) }
  where
    once : Lacks capacity old word → (q r : ℕ) → q < capacity → r < capacity → new q ≢ 0 → new q ≡ new r → q ≡ r
    once lacks q r in_q in_r taken same =
        ⊎_elim
        (λ q_here. ⊎_elim
        (λ r_here. q_here ∙ sym r_here)
        (λ r_else. absurd (lacks r in_r (sym (puts.others r r_else) ∙ sym same ∙ ap new q_here ∙ puts.here)))
        (cases_eq r place))
        (λ q_else. ⊎_elim
        (λ r_here. absurd (lacks q in_q (sym (puts.others q q_else) ∙ same ∙ ap new r_here ∙ puts.here)))
        (λ r_else. set.once q r in_q in_r (λ none. taken (puts.others q q_else ∙ none)) (sym (puts.others q q_else)
        ∙ same ∙ puts.others r r_else))
        (cases_eq r place))
        (cases_eq q place)

    -- the old cells had no gap before any word of the new ones
    was_gapless : (q : ℕ) → q < capacity → new q ≢ 0 → HasNoGap capacity old (new q) q
    was_gapless q in_q taken =
        ⊎_elim
        (λ q_here. subst (λ x. HasNoGap capacity old (new x) x) (sym q_here)
        (subst (λ w. HasNoGap capacity old w place) (sym puts.here) (λ x in_x before. (passes x in_x before).0)))
        (λ q_else. subst (λ w. HasNoGap capacity old w q) (sym (puts.others q q_else))
        (set.no_gap q in_q (λ none. taken (puts.others q q_else ∙ none))))
        (cases_eq q place)

    no_gap : (q : ℕ) → HasNoGap capacity old (new q) q → HasNoGap capacity new (new q) q
    no_gap q gapless x in_x before none =
        ⊎_elim
        (λ x_here. is_word (sym puts.here ∙ ap new (sym x_here) ∙ none))
        (λ x_else. gapless x in_x before (sym (puts.others x x_else) ∙ none))
        (cases_eq x place)
