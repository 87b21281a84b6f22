-- What a step leaves of a seat: bare and awake, and one of its board.
use Rattle.std.proofs.Common.{◌≡◌, ◌≢◌, ℕ, ◌<◌, [], ◌∷◌, List, None, sym, refl, ap, subst, ◌∙◌}
use Rattle.board_rule.specs.Meaning.{Meaning}
use Rattle.board_rule.specs.Words.{cell_word}
use Rattle.board_rule.specs.Records.{Claimed}
use Rattle.board_rule.specs.May.{HasRight}
use Rattle.board_rule.specs.declared.law.Setup.{Setup}
use Rattle.board_rule.specs.Seats.{changed}
use Rattle.board_rule.specs.Plays.{Sat, Tries}
use Rattle.board_rule.specs.declared.hands.Hands.{Hands}
use Rattle.goal_board.specs.Alone.{KeepsAll}
use Rattle.goal_board.specs.Seats.{AreHandsOver, IsFree, IsSeatOf, IsInCall, hands}
use Rattle.goal_board.specs.declared.board.Board.{Board}
use Rattle.goal_board.specs.declared.board.Seat.{Seat}
use Rattle.goal_board.proofs.Overs.{over_looked, over_beside, over_same, all_changed}
use Rattle.goal_board.proofs.Told.{either_way}

-- a seat has no slot, and a part of the board
pub record IsAwake {R : Type 0} (m : Sat R) : Type 0 where
  pub bare : m.1 ≡ []
  pub awake : 0 < m.0.parts

module _ {R : Type 0} (s : Seat R) where
  -- it is so after a step that left it these hands
  pub still_awake : {after : Sat R} {w : Hands R} → after.1 ≡ s.seat.me.1 → after.0 ≡ w → 0 < w.parts → IsAwake after
  still_awake slots hands_are awake = record {
    bare = slots ∙ s.bare;
    awake = subst (λ (h : Hands R). 0 < h.parts) (sym hands_are) awake;
  }

  -- and after one that left it one or other hands
  pub awake_either_way : {after : Sat R} {won lost : Hands R} {value head : ℕ}
      → after.1 ≡ s.seat.me.1 → (value ≡ head → after.0 ≡ won) → (value ≢ head → after.0 ≡ lost)
      → 0 < won.parts → 0 < lost.parts → IsAwake after
  awake_either_way slots hit miss if_won if_lost = record {
    bare = slots ∙ s.bare;
    awake = either_way (λ (h : Hands R). 0 < h.parts) hit miss if_won if_lost;
  }

-- a seat in its call is one of the board once it puts no wait in and has walked its list
pub seat_freed : {R : Type 0} {meaning_of : R → Meaning} {b : Board R} {t : Seat R} → IsInCall meaning_of b t
    → {left : Hands R} → hands t ≡ left → left.pending ≡ None → left.walk.waiters ≡ [] → IsSeatOf meaning_of b t
seat_freed call is no_wait no_walk = record {
  same_table = call.same_table;
  over = call.over;
  free = record {
    no_wait = ap (λ (h : Hands _). h.pending) is ∙ no_wait;
    no_walk = ap (λ (h : Hands _). h.walk.waiters) is ∙ no_walk;
  };
}

-- what holds of the board's rules and cells holds of those by its table's law
pub lawful : {R : Type 0} (b : Board R) (Fact : R → ℕ → Type 0) → Fact b.setup.rules b.setup.capacity
    → Fact b.table.shared.key.rules b.table.shared.key.capacity
lawful b Fact holds = subst (λ (k : Setup _). Fact k.rules k.capacity) (sym b.keyed) holds

-- as a right to a goal
pub lawful_right : {R : Type 0} (b : Board R) {rights : List Claimed} {place : ℕ}
    → HasRight b.setup.capacity rights place
    → HasRight b.table.shared.key.capacity rights place
lawful_right b {rights} {place} has = lawful b (λ _ capacity. HasRight capacity rights place) has

module _ {R : Type 0} {meaning_of : R → Meaning} {b : Board R} {t : Seat R}
    (same_table : t.seat.table_id ≡ b.table.shared.table_id) where
  -- hands with the same looks leave the seat in its call
  pub in_call_same : {v left : Hands R} → hands t ≡ left → left.rules ≡ v.rules → left.capacity ≡ v.capacity
      → left.looks ≡ v.looks → KeepsAll b.setup.capacity left
      → AreHandsOver meaning_of b.setup.rules b.setup.capacity v → IsInCall meaning_of b t
  in_call_same {v} {left} left_is rules_same capacity_same looks all over = record {
    same_table = same_table;
    over = subst (AreHandsOver meaning_of b.setup.rules b.setup.capacity) (sym left_is)
        (over_same meaning_of b.setup.rules b.setup.capacity v left rules_same capacity_same looks all over);
  }

  -- and so do hands whose only new look is at no cell
  pub in_call_beside : {v left : Hands R} {word value : ℕ} → hands t ≡ left → left.rules ≡ v.rules
      → left.capacity ≡ v.capacity
      → left.looks ≡ (word, value) ∷ v.looks → ((p : ℕ) → word ≢ cell_word p)
      → KeepsAll b.setup.capacity left → AreHandsOver meaning_of b.setup.rules b.setup.capacity v
      → IsInCall meaning_of b t
  in_call_beside {v} {left} {word} {value} left_is rules_same capacity_same looks apart all over = record {
    same_table = same_table;
    over = subst (AreHandsOver meaning_of b.setup.rules b.setup.capacity) (sym left_is)
        (over_beside meaning_of b.setup.rules b.setup.capacity v left word value rules_same capacity_same looks apart
        all over);
  }

  -- free hands of this kind leave a seat of the board
  pub seat_beside : {v left : Hands R} {word value : ℕ} → hands t ≡ left → left.rules ≡ v.rules
      → left.capacity ≡ v.capacity
      → left.looks ≡ (word, value) ∷ v.looks → ((p : ℕ) → word ≢ cell_word p)
      → KeepsAll b.setup.capacity left → IsFree left → AreHandsOver meaning_of b.setup.rules b.setup.capacity v
      → IsSeatOf meaning_of b t
  seat_beside left_is rules_same capacity_same looks apart all free over =
      let call : IsInCall meaning_of b t = in_call_beside left_is rules_same capacity_same looks apart all over in
      record { same_table = same_table; over = call.over; free = subst IsFree (sym left_is) free }

  -- a store by the holder of a right does so
  pub seat_stored : {v : Hands R} (word x : ℕ) {rights : List Claimed}
      → hands t ≡ record v { alone = changed word x v.alone; rights = rights }
      → AreHandsOver meaning_of b.setup.rules b.setup.capacity v → IsFree v → IsSeatOf meaning_of b t
  seat_stored {v} word x told over free =
      let call : IsInCall meaning_of b t = in_call_same told refl refl refl
      (all_changed b.setup.capacity word x v.alone over.all) over in
      record {
        same_table = same_table;
        over = call.over;
        free = subst IsFree (sym told) (assumption free);
      }

  -- and so does a compare-exchange from 0 that leaves such hands where it found 0
  pub seat_tried : {v won : Hands R} {word value : ℕ} → Tries meaning_of v word value won (hands t)
      → AreHandsOver meaning_of b.setup.rules b.setup.capacity won → IsFree won
      → AreHandsOver meaning_of b.setup.rules b.setup.capacity v → IsFree v → IsSeatOf meaning_of b t
  seat_tried {v} {won} {word} {value} told won_over won_free over free = record {
    same_table = same_table;
    over = either_way (AreHandsOver meaning_of b.setup.rules b.setup.capacity) told.hit told.miss won_over
        (over_looked meaning_of b.setup.rules b.setup.capacity v word value over told.moment);
    free = either_way IsFree told.hit told.miss won_free (assumption free);
  }
