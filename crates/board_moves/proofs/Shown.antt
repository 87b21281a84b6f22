-- What looks show stays shown by these and more.
use Rattle.std.proofs.Common.{◌≡◌, ℕ, List, [], ◌++◌, ◌∙◌, refl, sym, ap, subst, append_assoc, ⊎_elim}
use Rattle.board_rule.specs.Meaning.{Meaning}
use Rattle.board_rule.specs.Words.{full_word, cell_word}
use Rattle.board_rule.specs.Looks.{Looked, ShowsFinished, seen_closed, child_of, ShowsEntry, seen_there, asked_by}
use Rattle.board_rule.specs.Looks.{finished}
use Rattle.board_rule.specs.declared.hands.Hands.{Hands}
use Rattle.board_rule.proofs.SeenByTwo.{looked_append}
use Rattle.goal_board.specs.Calls.{seen, IsSeen}
use Rattle.goal_board.proofs.Seen.{looked_earlier, seen_none}
use Rattle.board_moves.specs.Moves.{OnlyLooks}
use Rattle.board_rule.specs.Records.{Claimed}
use Rattle.board_rule.specs.Seats.{Among}
use Rattle.goal_board.specs.declared.board.Right.{Right}
use Rattle.goal_board.specs.RightCalls.{waiting_right, IsRightOf}

-- each of the looks is one of the later ones too
abbrev pub Later : (looks later : List (ℕ × ℕ)) → Type 0
Later looks later = (word found : ℕ) → Looked looks word found → Looked later word found

pub still_finished : (meaning : Meaning) (capacity : ℕ) (looks later : List (ℕ × ℕ)) → Later looks later → (goal : ℕ)
    → ShowsFinished meaning capacity looks goal → ShowsFinished meaning capacity later goal
still_finished meaning capacity looks later on _ (seen_closed goal place near some_goal at closed) =
    seen_closed goal place near some_goal (on _ goal at) (closed.0, on _ closed.0 closed.1, closed.2)
still_finished meaning capacity looks later on _ (child_of goal child shows is) =
    child_of goal child (still_finished meaning capacity looks later on goal shows) is

pub still_shown : (meaning : Meaning) (capacity : ℕ) (looks later : List (ℕ × ℕ)) → Later looks later → (word : ℕ)
    → ShowsEntry meaning capacity looks word → ShowsEntry meaning capacity later word
still_shown meaning capacity looks later on _ (seen_there word place near some_word at) =
    seen_there word place near some_word (on _ word at)
still_shown meaning capacity looks later on _ (asked_by goal word shows is) =
    asked_by goal word (still_finished meaning capacity looks later on goal shows) is
still_shown meaning capacity looks later on _ (finished goal shows) =
    finished goal (still_finished meaning capacity looks later on goal shows)

module _ {R : Type 0} where
  -- the looks of hands that only looked further
  pub later_seen : (more : List (ℕ × ℕ)) (v w : Hands R) → w ≡ seen more v → Later v.looks w.looks
  later_seen more v w is word found at = subst (λ (h : Hands R). Looked h.looks word found) (sym is)
      (looked_earlier more v.looks word found at)

  -- the looks of two calls, one after the other
  pub seen_both : (v u : Hands R) (first second : List (ℕ × ℕ)) → u ≡ seen first v → IsSeen v first → IsSeen u second
      → IsSeen v (second ++ first)
  seen_both v u first second is before after = record {
    quiet = λ value at. ⊎_elim (λ (t : Looked second full_word value). after.quiet value t)
        (λ (t : Looked first full_word value). before.quiet value t)
        (looked_append second first full_word value at);
    alone = λ kept has word value at. ⊎_elim
        (λ (t : Looked second word value). after.alone kept (ap (λ (h : Hands R). h.alone) is ∙ has) word value t)
        (λ (t : Looked first word value). before.alone kept has word value t)
        (looked_append second first word value at);
    stays = λ place word value saw is_word at. ⊎_elim
        (λ (t : Looked second (cell_word place) value).
        after.stays place word value (later_seen first v u is (cell_word place) word saw) is_word t)
        (λ (t : Looked first (cell_word place) value). before.stays place word value saw is_word t)
        (looked_append second first (cell_word place) value at);
  }

  pub seen_twice : (v u w : Hands R) (first second : List (ℕ × ℕ)) → u ≡ seen first v → w ≡ seen second u
      → w ≡ seen (second ++ first) v
  seen_twice v u w first second is then =
      then ∙ ap (λ h. seen second h) is ∙ ap (λ (looks : List (ℕ × ℕ)). let h : Hands R = record v { looks = looks } in
      h) (sym (append_assoc second first v.looks))

  -- no call was made
  abbrev pub looks_none : (v : Hands R) → OnlyLooks v v
  looks_none v = record { more = []; looks = (seen_none v).looks; hands_are = refl }

  -- two calls, one after the other
  pub looks_then : (v u w : Hands R) → OnlyLooks v u → OnlyLooks u w → OnlyLooks v w
  looks_then v u w first second = record {
    more = second.more ++ first.more;
    looks = seen_both v u first.more second.more first.hands_are first.looks second.looks;
    hands_are = seen_twice v u w first.more second.more first.hands_are second.hands_are;
  }

  pub later_looked : (v w : Hands R) → OnlyLooks v w → Later v.looks w.looks
  later_looked v w t = later_seen t.more v w t.hands_are

-- a right that no call has changed, and whose goal stays seen
pub right_stays : {R : Type 0} → (meaning : Meaning) (capacity : ℕ) (v w : Hands R) (right : Right)
    → w.rights ≡ v.rights
    → Later v.looks w.looks → IsRightOf meaning capacity v right → IsRightOf meaning capacity w right
right_stays meaning capacity v w right same on old =
    let held = subst (λ (rights : List Claimed). Among rights (waiting_right right.place right.waits)) (sym same)
    old.held in
    let stands = on (cell_word right.place) right.goal old.stands in
    assumption (old, held, stands)
