-- How the words that a seat keeps while it is alone go on, call by call, before the turn of a goal ends.
use Rattle.std.proofs.Common.{◌≡◌, ◌≢◌, ℕ, ◌+◌, ◌*◌, ◌<◌, ◌≤◌, ◌==◌, ◌^◌, nat_le, List, [], ◌∷◌, ◌++◌, length, ◌⊎◌}
use Rattle.std.proofs.Common.{length-set, set, get_or-set_other, get_or-set_same, Option, eq-eqb, ne_eqb, refl, sym, ap}
use Rattle.std.proofs.Common.{subst, ◌∙◌, ⊎_elim, inl, inr, arith}
use Rattle.std.proofs.lemmas.Bool.{cases_lt}
use Rattle.board_rule.specs.Words.{mem, cell_word, run_word, head_word}
use Rattle.board_rule.specs.Seats.{Each, changed, waits_at}
use Rattle.board_rule.specs.declared.hands.Hands.{Hands}
use Rattle.goal_board.specs.Alone.{StaysAlone, KeepsBoard, HasWait}
use Rattle.std.specs.Prelude.{bit_or}
use Rattle.goal_board.specs.Calls.{PutsFresh}
use Rattle.goal_board.specs.RightCalls.{Registers, FindsFinished}
use Rattle.board_moves.specs.Counts.{has_empty, empty_count, GoesOn, GoesOnAlone}
use Rattle.board_moves.proofs.CountLemmas.{one_if, number_same, one_changed}

-- a fact of each of two lists
pub each_first : {A : Type 0} → (P : A → Type 0) (l m : List A) → Each P (l ++ m) → Each P l
each_first P [] m h = tt
each_first P (x ∷ xs) m h = (h.0, each_first P xs m h.1)

pub each_second : {A : Type 0} → (P : A → Type 0) (l m : List A) → Each P (l ++ m) → Each P m
each_second P [] m h = h
each_second P (x ∷ xs) m h = each_second P xs m h.1

-- no wait more, or what is so
no_more : {A : Type 0} → ((1 ≤ 0) ⊎ A) → A
no_more either = ⊎_elim (λ e. absurd (omega arith)) (λ it. it) either

-- no more waits, and the words are as they were
pub goes_none : (place : ℕ) (words : Option (List ℕ)) → GoesOnAlone place 0 words words
goes_none place words capacity before is long = (
  before,
  is,
  record {
    same_length = refl;
    heads = λ p. refl;
    others = λ p apart. refl;
    cells = inl (λ p near. refl);
    waiting = no_more;
  },
)

-- cells that haven't changed are as empty as before
pub empties_same : (capacity : ℕ) (before after : List ℕ) → ((p : ℕ) → p < capacity
    → (mem after).cell p ≡ (mem before).cell p)
    → empty_count capacity after ≡ empty_count capacity before
empties_same capacity before after same = number_same (has_empty (mem before)) (has_empty (mem after)) capacity
    (λ k below. ap (λ c. c == 0) (same k below))

-- a cell that was empty holds a word
fewer_empty : (capacity at word : ℕ) (before : List ℕ) → at < capacity → length before ≡ 14 * capacity + 1 → word ≢ 0
    → (mem before).cell at ≡ 0 → empty_count capacity (set before (cell_word at) word) < empty_count capacity before
fewer_empty capacity at word before near long some was_empty =
    let after : List ℕ = set before (cell_word at) word in
    let here : (mem after).cell at ≡ word = get_or-set_same before (cell_word at) word 0 (omega (arith, near, long)) in
    let one = one_changed (has_empty (mem before)) (has_empty (mem after)) capacity at near
    (λ k below apart. ap (λ c. c == 0) (get_or-set_other before (cell_word at) (cell_word k) word 0
    (λ e. apart (omega arith)))) in
    let p_here : one_if (has_empty (mem before) at) ≡ 1 = ap one_if (eq-eqb ((mem before).cell at) 0 was_empty) in
    let q_here : one_if (has_empty (mem after) at) ≡ 0 =
    ap one_if (ne_eqb ((mem after).cell at) 0 (λ e. some (sym here ∙ e))) in
    omega (arith, one, p_here, q_here)

-- a word was put into a cell
goes_put : (place at word capacity : ℕ) (before : List ℕ) → length before ≡ 14 * capacity + 1 → word ≢ 0
    → (mem before).cell at ≡ 0 → GoesOn capacity place 0 before (set before (cell_word at) word)
goes_put place at word capacity before long some was_empty =
    let after : List ℕ = set before (cell_word at) word in
    let runs : (p : ℕ) → (mem after).run p ≡ (mem before).run p =
    λ p. get_or-set_other before (cell_word at) (run_word p) word 0 (λ e. omega arith) in record {
      same_length = length-set before (cell_word at) word;
      heads = λ p. ap (nat_le (2 ^ 63)) (get_or-set_other before (cell_word at) (head_word p) word 0
          (λ e. omega arith));
      others = λ p apart. runs p;
      cells = ⊎_elim (λ (near : at < capacity). inr (fewer_empty capacity at word before near long some was_empty))
          (λ (far : capacity ≤ at). inl (λ p near. get_or-set_other before (cell_word at) (cell_word p) word 0
          (λ e. omega (arith, far, near)))) (cases_lt at capacity);
      waiting = λ has. subst HasWait (sym (runs place)) (no_more has);
    }

module _ {R : Type 0} where
  pub goes_fresh : (place capacity : ℕ) (v : Hands R) (word at : ℕ) (w : Hands R) → PutsFresh capacity v word at w
      → word ≢ 0
      → GoesOnAlone place 0 v.alone (changed (cell_word at) word v.alone)
  goes_fresh place capacity v word at w t some n before is long = (
    set before (cell_word at) word,
    ap (changed (cell_word at) word) is,
    goes_put place at word n before long some (t.looks.alone before is (cell_word at) 0 (inl (refl, refl))),
  )

  -- a wait was registered
  pub goes_registered : (v : Hands R) (place at : ℕ) (cells : ℕ) (w : Hands R) (t : Registers cells v place at w)
      → GoesOnAlone place 1 v.alone t.words
  goes_registered v place at cells w t capacity before is long =
      let s = subst (λ o. StaysAlone (KeepsBoard place (λ run. bit_or run (2 ^ waits_at place v.rights))) o t.words) is
      t.lone.kept in (
        s.0,
        s.1,
        record {
          same_length = s.2.same_length;
          heads = s.2.heads;
          others = s.2.others;
          cells = inl (λ p near. s.2.cells p);
          waiting = λ has. t.lone.has_wait s.0 s.1;
        },
      )

  -- a child was found finished
  pub goes_finished : (v : Hands R) (place at : ℕ) (cells : ℕ) (w : Hands R) (t : FindsFinished cells v place at w)
      → GoesOnAlone place 0 v.alone t.words
  goes_finished v place at cells w t capacity before is long =
      let s = subst (λ o. StaysAlone (KeepsBoard place (λ run. run)) o t.words) is t.lone in (
        s.0,
        s.1,
        record {
          same_length = s.2.same_length;
          heads = s.2.heads;
          others = s.2.others;
          cells = inl (λ p near. s.2.cells p);
          waiting = λ has. subst HasWait (sym s.2.its_run) (no_more has);
        },
      )

-- words that went on, and then went on
goes_both : (capacity place first second : ℕ) (a b c : List ℕ) → GoesOn capacity place first a b
    → GoesOn capacity place second b c
    → GoesOn capacity place (first + second) a c
goes_both capacity place first second a b c f s = record {
  same_length = s.same_length ∙ f.same_length;
  heads = λ p. s.heads p ∙ f.heads p;
  others = λ p apart. s.others p apart ∙ f.others p apart;
  cells = ⊎_elim
      (λ (same : (p : ℕ) → p < capacity → (mem b).cell p ≡ (mem a).cell p). ⊎_elim
      (λ (again : (p : ℕ) → p < capacity → (mem c).cell p ≡ (mem b).cell p). inl (λ p near. again p near ∙ same p near))
      (λ (fewer : empty_count capacity c < empty_count capacity b).
      inr (let as_many = empties_same capacity a b same in omega (arith, fewer, as_many)))
      s.cells)
      (λ (fewer : empty_count capacity b < empty_count capacity a). ⊎_elim
      (λ (again : (p : ℕ) → p < capacity → (mem c).cell p ≡ (mem b).cell p).
      inr (let as_many = empties_same capacity b c again in omega (arith, fewer, as_many)))
      (λ (still : empty_count capacity c < empty_count capacity b). inr (omega (arith, fewer, still)))
      s.cells)
      f.cells;
  waiting = λ has. ⊎_elim
      (λ (e : 1 ≤ first + second). ⊎_elim
      (λ (none : first < 1). s.waiting (inl (omega (arith, e, none))))
      (λ (some : 1 ≤ first). s.waiting (inr (f.waiting (inl some))))
      (cases_lt first 1))
      (λ (h : HasWait ((mem a).run place)). s.waiting (inr (f.waiting (inr h))))
      has;
}

pub goes_then : (place first second : ℕ) (v a u b : Option (List ℕ)) → u ≡ a → GoesOnAlone place first v a
    → GoesOnAlone place second u b → GoesOnAlone place (first + second) v b
goes_then place first second v a u b same f s capacity before is long =
    let one = f capacity before is long in
    let two = s capacity one.0 (same ∙ one.1) (one.2.same_length ∙ long) in
    (two.0, two.1, goes_both capacity place first second before one.0 two.0 one.2 two.2)
