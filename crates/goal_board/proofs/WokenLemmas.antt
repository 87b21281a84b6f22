-- What a walk over a closed list has done so far, and at its end.
use Rattle.std.proofs.Common.{◌≡◌, ℕ, ◌+◌, ◌/◌, ◌%◌, ◌<◌, ◌≢◌, List, [], ◌∷◌, ◌++◌, length, set}
use Rattle.std.proofs.Common.{length-set, get_or-set_other, cond, eq-eqb, ne_eqb, Option, Some, None, refl, ap}
use Rattle.std.proofs.Common.{◌∙◌, inl, ⊎_elim, arith}
use Rattle.board_rule.specs.Words.{full_word, run_word, next_word}
use Rattle.board_rule.specs.Waiters.{rest_of, cleared}
use Rattle.board_rule.specs.Looks.{Looked}
use Rattle.board_rule.specs.Seats.{Among, Each, changed, woken_by, next_read, bit_cleared}
use Rattle.board_rule.specs.declared.hands.Hands.{Hands}
use Rattle.goal_board.specs.Alone.{StaysAlone, ChangesRuns, LoneWakes}
use Rattle.goal_board.proofs.Kept.{stays_changed, stays_then}

-- run words alone change where one does
pub runs_same : (o : Option (List ℕ)) → StaysAlone ChangesRuns o o
runs_same None = refl
runs_same (Some kept) = (kept, refl, record { same_length = refl; others = λ _ _. refl })

run_changed : (words : List ℕ) (place x : ℕ) → ChangesRuns words (set words (run_word place) x)
run_changed words place x = record {
  same_length = length-set words (run_word place) x;
  others = λ word apart. get_or-set_other words (run_word place) word x 0 (apart place);
}

runs_then : (a b c : List ℕ) → ChangesRuns a b → ChangesRuns b c → ChangesRuns a c
runs_then a b c first second = record {
  same_length = second.same_length ∙ first.same_length;
  others = λ word apart. second.others word apart ∙ first.others word apart;
}

pub runs_more : (o p : Option (List ℕ)) (place x : ℕ) → StaysAlone ChangesRuns o p
    → StaysAlone ChangesRuns o (changed (run_word place) x p)
runs_more o p place x old =
    stays_then ChangesRuns ChangesRuns ChangesRuns runs_then o p (changed (run_word place) x p) old
    (stays_changed ChangesRuns (run_word place) x p (λ kept _. run_changed kept place x))

-- what a walk has done so far
pub record HasWoken {R : Type 0} (capacity : ℕ) (v : Hands R) (number : ℕ) (one : Option ℕ) (w : Hands R) : Type 0 where
  pub more : List (ℕ × ℕ)
  pub words : Option (List ℕ)
  pub gained : List ℕ
  pub hands_are : w ≡ record v { alone = words; looks = more ++ v.looks; woken = gained ++ v.woken; walk = w.walk }
  pub lone : LoneWakes v.alone words
  pub quiet : (value : ℕ) → Looked more full_word value → ⊥
  pub near : Each (λ place. place < capacity) gained
  pub counted : number ≡ length gained
  pub none : one ≡ None → gained ≡ []
  pub some_one : (place : ℕ) → one ≡ Some place → Among gained place

pub woken_begins : {R : Type 0} (capacity : ℕ) (v : Hands R) → HasWoken capacity v 0 None v
woken_begins capacity v = record {
  more = [];
  words = v.alone;
  gained = [];
  hands_are = refl;
  lone = runs_same v.alone;
  quiet = λ value at. absurd at;
  near = tt;
  counted = refl;
  none = λ _. refl;
  some_one = λ place is. let no : ⊥ = cc in absurd no;
}

-- one turn of the walk: the next word was read, and the bit was cleared
pub woken_more : {R : Type 0} (capacity : ℕ) (v w : Hands R) (number : ℕ) (one : Option ℕ) (q name found : ℕ)
    → HasWoken capacity v number one w → q / 8 < capacity
    → (cleared found (q % 8) ≡ 0 → HasWoken capacity v (number + 1) (Some (q / 8))
    (bit_cleared (next_read w q name) q found))
    × (cleared found (q % 8) ≢ 0 → HasWoken capacity v number one (bit_cleared (next_read w q name) q found))
woken_more capacity v w number one q name found old near =
    let looks : List (ℕ × ℕ) = (run_word (q / 8), found) ∷ ((next_word q, name) ∷ old.more) in
    let words : Option (List ℕ) = changed (run_word (q / 8)) (cleared found (q % 8)) old.words in
    let runs = runs_more v.alone old.words (q / 8) (cleared found (q % 8)) old.lone in
    let quiet : (value : ℕ) → Looked looks full_word value → ⊥ =
    λ value at. ⊎_elim (λ t. omega (arith, t.0)) (⊎_elim (λ t. omega (arith, t.0)) (λ t. old.quiet value t)) at in
    let before : bit_cleared (next_read w q name) q found ≡ record v {
      alone = words;
      looks = looks ++ v.looks;
      woken = woken_by found q (old.gained ++ v.woken);
      walk = record { child = w.walk.child; waiters = rest_of w.walk.waiters; next = None };
    } = ap (λ (h : Hands _). record (bit_cleared (next_read h q name) q found) {
      walk = record { child = w.walk.child; waiters = rest_of w.walk.waiters; next = None };
    }) old.hands_are in (
      (λ gone. record {
        more = looks;
        words = words;
        gained = q / 8 ∷ old.gained;
        hands_are = before ∙ ap (λ b. record v {
          alone = words;
          looks = looks ++ v.looks;
          woken = cond b (q / 8 ∷ (old.gained ++ v.woken)) (old.gained ++ v.woken);
          walk = record { child = w.walk.child; waiters = rest_of w.walk.waiters; next = None };
        }) (eq-eqb (cleared found (q % 8)) 0 gone);
        lone = runs;
        quiet = quiet;
        near = (near, old.near);
        counted = omega (arith, old.counted);
        none = λ is. let no : ⊥ = cc in absurd no;
        some_one = λ place is. inl cc;
      }),
      (λ left. record {
        more = looks;
        words = words;
        gained = old.gained;
        hands_are = before ∙ ap (λ b. record v {
          alone = words;
          looks = looks ++ v.looks;
          woken = cond b (q / 8 ∷ (old.gained ++ v.woken)) (old.gained ++ v.woken);
          walk = record { child = w.walk.child; waiters = rest_of w.walk.waiters; next = None };
        }) (ne_eqb (cleared found (q % 8)) 0 left);
        lone = runs;
        quiet = quiet;
        near = old.near;
        counted = old.counted;
        none = old.none;
        some_one = old.some_one;
      }),
    )

-- it puts no wait in
pub woken_pending : {R : Type 0} {capacity : ℕ} {v w : Hands R} {number : ℕ} {one : Option ℕ}
    → HasWoken capacity v number one w
    → w.pending ≡ v.pending
woken_pending woken = ap (λ (h : Hands _). h.pending) woken.hands_are
