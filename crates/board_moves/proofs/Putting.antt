-- An entry that is put in: looks, and then a look that finds it, or a step that puts it in, or none that can.
use Rattle.std.proofs.Common.{◌≡◌, ◌≢◌, ℕ, Bool, true, false, Option, None, Some, sym, subst}
use Rattle.std.specs.Prelude.{is_some}
use Rattle.board_rule.specs.Words.{cell_word}
use Rattle.board_rule.specs.Looks.{Looked}
use Rattle.board_rule.specs.declared.hands.Hands.{Hands}
use Rattle.board_rule.specs.Meaning.{Meaning}
use Rattle.goal_board.specs.Seats.{AreHandsOver}
use Rattle.goal_board.specs.Calls.{FindsAt, FindsNone, Finds}
use Rattle.goal_board.proofs.Seen.{looked_later}
use Rattle.board_moves.specs.Moves.{OnlyLooks}

module _ {R : Type 0} (capacity : ℕ) where
  pub only_looks_none : (v : Hands R) (word : ℕ) (w : Hands R) → FindsNone capacity v word w → OnlyLooks v w
  only_looks_none v word w t = record { more = t.more; looks = t.looks; hands_are = t.hands_are }

  pub only_looks_at : (v : Hands R) (word at : ℕ) (w : Hands R) → FindsAt capacity v word at w → OnlyLooks v w
  only_looks_at v word at w t = record { more = t.more; looks = t.looks; hands_are = t.hands_are }

  -- a word that is held was found in a cell
  pub held_at : (v : Hands R) (word : ℕ) (w : Hands R)
      → ((found : Option ℕ) × (true ≡ is_some found) × Finds capacity v word found w) → (at : ℕ)
      × FindsAt capacity v word at w
  held_at v word w (None, is, t) = let bad : ⊥ = cc in absurd bad
  held_at v word w (Some at, is, t) = (at, t)

  -- and one that isn't was found in none
  pub held_not : (v : Hands R) (word : ℕ) (w : Hands R)
      → ((found : Option ℕ) × (false ≡ is_some found) × Finds capacity v word found w) → FindsNone capacity v word w
  held_not v word w (None, is, t) = t
  held_not v word w (Some at, is, t) = let bad : ⊥ = cc in absurd bad

  pub only_looks_held : (v : Hands R) (word : ℕ) (held : Bool) (w : Hands R)
      → ((found : Option ℕ) × (held ≡ is_some found) × Finds capacity v word found w) → OnlyLooks v w
  only_looks_held v word held w (None, is, t) = only_looks_none v word w t
  only_looks_held v word held w (Some at, is, t) = only_looks_at v word at w t

  -- what a look found in a cell is an entry
  pub found_enters : (meaning_of : R → Meaning) (rules : R) (v : Hands R) (word at : ℕ) (w : Hands R)
      → AreHandsOver meaning_of rules capacity w → word ≢ 0 → FindsAt capacity v word at w
      → (meaning_of rules).entry word
  found_enters meaning_of rules v word at w over some_word t =
      over.entries at word t.near (subst (λ (h : Hands R). Looked h.looks (cell_word at) word) (sym t.hands_are)
      (looked_later t.more v.looks (cell_word at) word t.stands)) some_word
