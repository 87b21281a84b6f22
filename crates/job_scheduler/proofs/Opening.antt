-- The first insert puts the root goal into an empty cell.
use Rattle.std.proofs.Common.{◌≡◌, ◌≢◌, ℕ, ◌+◌, ◌*◌, ◌<◌, replicate, slice_index, arith, sym, ap, ◌∙◌}
use Rattle.std.proofs.lemmas.List.{get_or-replicate}
use Rattle.board_rule.specs.Words.{cell_word}
use Rattle.board_rule.specs.Seats.{opening_hands}
use Rattle.board_rule.specs.declared.hands.Hands.{Hands}
use Rattle.goal_board.specs.Calls.{FindsAt, FindsFull}

module _ {R : Type 0} (rules : R) (capacity : ℕ) (v : Hands R) (is : v ≡ opening_hands rules capacity) where
  kept_zero : (place : ℕ) → place < capacity → slice_index (replicate (14 * capacity + 1) 0) (cell_word place) ≡ 0
  kept_zero place near = get_or-replicate (14 * capacity + 1) (cell_word place) 0 0 (omega arith)

  -- no look finds the goal
  pub not_known : (goal at : ℕ) (w : Hands R) → goal ≢ 0 → FindsAt capacity v goal at w → ⊥
  not_known goal at w some t = some (sym (t.looks.alone (replicate (14 * capacity + 1) 0)
      (ap (λ (h : Hands R). h.alone) is)
      (cell_word at) goal t.stands) ∙ kept_zero at t.near)

  -- no look finds a cell taken
  pub not_full : (goal : ℕ) (w : Hands R) → 0 < capacity → FindsFull capacity v goal w → ⊥
  not_full goal w some t =
      let other = t.others 0 some in
      other.2 (sym (t.looks.alone (replicate (14 * capacity + 1) 0) (ap (λ (h : Hands R). h.alone) is) (cell_word 0)
      other.0
      other.1) ∙ kept_zero 0 some)
