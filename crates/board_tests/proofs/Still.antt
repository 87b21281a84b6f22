-- What an insert leaves as it was.
use Rattle.std.proofs.Common.{◌≡◌, ℕ, ◌<◌, List, [], ◌∷◌, Option, Some, None, Bool, true, false, cond, ◌==◌, ◌+◌}
use Rattle.std.proofs.Common.{eq-eqb, sym, refl, ap, subst, ◌∙◌, inl, inr}
use Rattle.word_table.specs.declared.outcome.Inserted.{Inserted}
use Rattle.word_table.specs.declared.outcome.Inserted.TheVariants.{Fresh, Known, Full}
use Rattle.board_rule.specs.declared.hands.Hands.{Hands}
use Rattle.board_rule.specs.Meaning.{Meaning}
use Rattle.board_rule.specs.Words.{cell_word, head_word, cost_word, node_word}
use Rattle.board_rule.specs.Looks.{ShowsFinished, seen_closed, ShowsPromise}
use Rattle.board_rule.specs.Seats.{looked, fresh_right, without, with_wait}
use Rattle.board_rule.specs.Records.{Claimed}
use Rattle.board_tests.specs.Numbers.{numbers, HasOnly}
use Rattle.goal_board.specs.declared.answers.Awaited.{Awaited}
use Rattle.goal_board.specs.declared.answers.Awaited.TheVariants.{Registered, Finished}
use Rattle.goal_board.specs.declared.board.Right.{Right}
use Rattle.goal_board.specs.declared.answers.Answer.{Answer}
use Rattle.goal_board.specs.Calls.{Inserts, seen, ReadsCell, ReadsAnswer, Reads}
use Rattle.goal_board.specs.RightCalls.{IsRightOf, ClaimsGoal, WaitsFor}
use Rattle.goal_board.specs.RightCalls.{waited}
use Rattle.goal_board.proofs.Seen.{looked_earlier}

pub parts_stay : {R : Type 0} → (capacity : ℕ) (v : Hands R) (word : ℕ) (answer : Inserted) (w : Hands R)
    → Inserts capacity v word answer w → w.parts ≡ v.parts
parts_stay capacity v word (Fresh at) w t = ap (λ (h : Hands _). h.parts) t.hands_are
parts_stay capacity v word (Known at) w t = ap (λ (h : Hands _). h.parts) t.hands_are
parts_stay capacity v word Full w t = ap (λ (h : Hands _). h.parts) t.hands_are

pub rights_stay : {R : Type 0} → (capacity : ℕ) (v : Hands R) (word : ℕ) (answer : Inserted) (w : Hands R)
    → Inserts capacity v word answer w → w.rights ≡ v.rights
rights_stay capacity v word (Fresh at) w t = ap (λ (h : Hands _). h.rights) t.hands_are
rights_stay capacity v word (Known at) w t = ap (λ (h : Hands _). h.rights) t.hands_are
rights_stay capacity v word Full w t = ap (λ (h : Hands _). h.rights) t.hands_are

-- a right stays the seat's through further looks
pub right_seen : {R : Type 0} → (meaning : Meaning) (capacity : ℕ) (v w : Hands R) (more : List (ℕ × ℕ)) (right : Right)
    → w ≡ seen more v → IsRightOf meaning capacity v right → IsRightOf meaning capacity w right
right_seen meaning capacity v w more right is old =
    subst (λ (h : Hands _). IsRightOf meaning capacity h right) (sym is) (record {
      near = old.near;
      held = old.held;
      few = old.few;
      stands = looked_earlier more v.looks (cell_word right.place) right.goal old.stands;
      some_goal = old.some_goal;
      is_goal = old.is_goal;
      enters = old.enters;
    })

-- a goal that was found in a cell, and then with its head closed, is shown finished
pub answer_shows : {R : Type 0} → (meaning : Meaning) (capacity : ℕ) (v w x : Hands R) (at goal : ℕ) (answer : Answer)
    → at < capacity → ReadsCell v at (Some goal) w → ReadsAnswer meaning capacity w at answer x
    → ShowsFinished meaning capacity x.looks goal
answer_shows meaning capacity v w x at goal answer near cell read =
    let is : x ≡ seen ((node_word at, answer.node) ∷ ((cost_word at, answer.cost) ∷ ((head_word at, read.head) ∷ [])))
    (looked v (cell_word at) goal) =
    read.hands_are ∙ ap (λ h. seen ((
      node_word at,
      answer.node,
    ) ∷ ((cost_word at, answer.cost) ∷ ((head_word at, read.head) ∷ []))) h) cell.hands_are in
    subst (λ (h : Hands _). ShowsFinished meaning capacity h.looks goal) (sym is)
    (seen_closed goal at near (cell.some_word goal refl) (inr (inr (inr (inl (refl, refl)))))
    (read.head, inr (inr (inl (refl, refl))), read.closed))

-- a seat that spends its only right has none
pub none_left : (rights : List Claimed) (place : ℕ) → HasOnly rights place → without place rights ≡ []
none_left rights place only = ap (without place) only.2
    ∙ ap (λ b. cond b [] (only.0 ∷ [])) (eq-eqb only.0.place place only.1)

-- a claim is the only right of a seat that had none
pub only_claimed : {R : Type 0} → (meaning : Meaning) (capacity : ℕ) (v : Hands R) (at : ℕ) (right : Right)
    (w : Hands R)
    → ClaimsGoal meaning capacity v at right w → v.rights ≡ [] → HasOnly w.rights right.place
only_claimed meaning capacity v at right w t none_before =
    (fresh_right at, sym t.there, ap (λ (h : Hands _). h.rights) t.hands_are ∙ ap (λ l. fresh_right at ∷ l) none_before)

either_place : (b : Bool) (x y : Claimed) (place : ℕ) → x.place ≡ place → y.place ≡ place → (cond b x y).place ≡ place
either_place true x y place at_x at_y = at_x
either_place false x y place at_x at_y = at_y

-- a right that waits stays the only one
pub only_waited : {R : Type 0} → (capacity : ℕ) (v : Hands R) (place at : ℕ) (answer : Awaited) (w : Hands R)
    → WaitsFor capacity v place at answer w → HasOnly v.rights place → HasOnly w.rights place
only_waited capacity v place at Registered w t only =
    let f : Claimed → Claimed = λ r. cond (r.place == place) (record r { waits = r.waits + 1 }) r in (
      f only.0,
      either_place (only.0.place == place) (record only.0 { waits = only.0.waits + 1 }) only.0 place only.1 only.1,
      ap (λ (h : Hands _). h.rights) t.hands_are ∙ ap (with_wait place) only.2,
    )
only_waited capacity v place at Finished w t only = (
  only.0,
  only.1,
  ap (λ (h : Hands _). h.rights) t.hands_are
      ∙ only.2,
)

pub parts_waited : {R : Type 0} → (capacity : ℕ) (v : Hands R) (place at : ℕ) (answer : Awaited) (w : Hands R)
    → WaitsFor capacity v place at answer w → w.parts ≡ v.parts
parts_waited capacity v place at Registered w t = ap (λ (h : Hands _). h.parts) t.hands_are
parts_waited capacity v place at Finished w t = ap (λ (h : Hands _). h.parts) t.hands_are

pub place_waited : (answer : Awaited) (right : Right) → (waited answer right).place ≡ right.place
place_waited Registered right = refl
place_waited Finished right = refl

-- an answer changes neither rights nor parts
pub rights_read : {R : Type 0} → (meaning : Meaning) (capacity : ℕ) (v : Hands R) (at : ℕ) (answer : Option Answer)
    (w : Hands R) → Reads meaning capacity v at answer w → w.rights ≡ v.rights
rights_read meaning capacity v at (Some answer) w t = ap (λ (h : Hands _). h.rights) t.hands_are
rights_read meaning capacity v at None w t = ap (λ (h : Hands _). h.rights) t.hands_are

pub parts_read : {R : Type 0} → (meaning : Meaning) (capacity : ℕ) (v : Hands R) (at : ℕ) (answer : Option Answer)
    (w : Hands R) → Reads meaning capacity v at answer w → w.parts ≡ v.parts
parts_read meaning capacity v at (Some answer) w t = ap (λ (h : Hands _). h.parts) t.hands_are
parts_read meaning capacity v at None w t = ap (λ (h : Hands _). h.parts) t.hands_are

-- where 3 is shown finished, each goal's promise is shown
pub promise_shown : (limit capacity : ℕ) (looks : List (ℕ × ℕ)) (goal : ℕ)
    → ShowsFinished (numbers limit) capacity looks 3
    → ShowsPromise (numbers limit) capacity looks goal
promise_shown limit capacity looks goal three = record {
  children = λ child is. subst (ShowsFinished (numbers limit) capacity looks) (sym is.1) three;
  asked = λ word is. absurd is;
}
