-- What a call did to the hands, and what several calls together did.
use Rattle.std.proofs.Common.{◌≡◌, ◌≢◌, ℕ, ◌+◌, List, [], ◌∷◌, ◌++◌, ◌∙◌, sym, ap, subst, append_assoc, ⊎_elim, arith}
use Rattle.board_rule.specs.Records.{Claimed}
use Rattle.board_rule.specs.Words.{full_word, cell_word}
use Rattle.board_rule.specs.Looks.{Looked}
use Rattle.board_rule.specs.Seats.{placed}
use Rattle.board_rule.specs.declared.hands.Hands.{Hands}
use Rattle.board_rule.proofs.SeenByTwo.{looked_append}
use Rattle.goal_board.specs.Calls.{seen, IsSeen, PutsFresh}
use Rattle.goal_board.specs.RightCalls.{Registers, FindsFinished}
use Rattle.goal_board.proofs.Seen.{looked_earlier}
use Rattle.board_moves.proofs.Going.{goes_none, goes_fresh, goes_registered, goes_finished, goes_then, each_first}
use Rattle.board_moves.proofs.Going.{each_second}
use Rattle.board_moves.specs.Moves.{OnlyLooks, with_waits, Moves}
use Rattle.board_moves.proofs.Shown.{Later}
use Rattle.board_moves.proofs.WithWaits.{waits_none, waits_twice}

module _ {R : Type 0} where
  -- a call that only looked
  pub moves_seen : (place : ℕ) (v w : Hands R) (more : List (ℕ × ℕ)) → IsSeen v more → w ≡ seen more v
      → Moves place v [] 0 w
  moves_seen place v w more looks is = record {
    words = v.alone;
    more = more;
    quiet = looks.quiet;
    kept = λ some. goes_none place v.alone;
    hands_are = is ∙ ap (λ (rights : List Claimed). let h : Hands R =
        record v { looks = more ++ v.looks; rights = rights } in h) (sym (waits_none place v.rights));
  }

  pub moves_looks : (place : ℕ) (v w : Hands R) → OnlyLooks v w → Moves place v [] 0 w
  moves_looks place v w t = moves_seen place v w t.more t.looks t.hands_are

  -- a word was put into a cell
  pub moves_fresh : (place capacity : ℕ) (v : Hands R) (word at : ℕ) (w : Hands R) → PutsFresh capacity v word at w
      → Moves place v (word ∷ []) 0 w
  moves_fresh place capacity v word at w t =
      let put : Hands R = placed (seen t.more v) at word in
      record {
        words = put.alone;
        more = (cell_word at, word) ∷ ((cell_word at, 0) ∷ t.more);
        kept = λ some. goes_fresh place capacity v word at w t some.0;
        quiet = λ value saw. ⊎_elim (λ (e : (cell_word at ≡ full_word) × (word ≡ value)). let bad : ⊥ =
            omega (arith, e.0) in bad) (λ saw_before. t.looks.quiet value saw_before) saw;
        hands_are = t.hands_are ∙ ap (λ (rights : List Claimed). let h : Hands R = record put { rights = rights } in h)
            (sym (waits_none place v.rights));
      }

  -- a wait was registered, or the child was found finished
  pub moves_registered : (capacity : ℕ) (v : Hands R) (place at : ℕ) (w : Hands R) → Registers capacity v place at w
      → Moves place v [] 1 w
  moves_registered capacity v place at w t = record {
    words = t.words;
    more = t.more;
    quiet = t.looks.quiet;
    kept = λ some. goes_registered v place at capacity w t;
    hands_are = t.hands_are;
  }

  pub moves_finished : (capacity : ℕ) (v : Hands R) (place at : ℕ) (w : Hands R) → FindsFinished capacity v place at w
      → Moves place v [] 0 w
  moves_finished capacity v place at w t = record {
    words = t.words;
    more = t.more;
    quiet = t.looks.quiet;
    kept = λ some. goes_finished v place at capacity w t;
    hands_are = t.hands_are ∙ ap (λ (rights : List Claimed). let h : Hands R =
        record v { alone = t.words; looks = t.more ++ v.looks; rights = rights } in h)
        (sym (waits_none place v.rights));
  }

  -- looks stay through moves
  pub later_moved : (place : ℕ) (v : Hands R) (puts : List ℕ) (waits : ℕ) (w : Hands R) → Moves place v puts waits w
      → Later v.looks w.looks
  later_moved place v puts waits w t word found at =
      subst (λ (looks : List (ℕ × ℕ)). Looked looks word found) (sym (ap (λ (h : Hands R). h.looks) t.hands_are))
      (looked_earlier t.more v.looks word found at)

  -- moves, and then moves
  pub moves_then : (place : ℕ) (v : Hands R) (first : List ℕ) (waits : ℕ) (u : Hands R) (second : List ℕ) (others : ℕ)
      (w : Hands R) → Moves place v first waits u → Moves place u second others w
      → Moves place v (second ++ first) (waits + others) w
  moves_then place v first waits u second others w a b = record {
    words = b.words;
    more = b.more ++ a.more;
    kept = λ some. goes_then place waits others v.alone a.words u.alone b.words
        (ap (λ (h : Hands R). h.alone) a.hands_are)
        (a.kept (each_second (λ word. word ≢ 0) second first some))
        (b.kept (each_first (λ word. word ≢ 0) second first some));
    quiet = λ value at. ⊎_elim (λ (t : Looked b.more full_word value). b.quiet value t)
        (λ (t : Looked a.more full_word value). a.quiet value t) (looked_append b.more a.more full_word value at);
    hands_are = b.hands_are
        ∙ ap (λ (h : Hands R). let x : Hands R =
        record h {
          alone = b.words;
          looks = b.more ++ h.looks;
          puts = second ++ h.puts;
          rights = with_waits place others h.rights;
        } in x) a.hands_are
        ∙ (λ i. record v {
          alone = b.words;
          looks = sym (append_assoc b.more a.more v.looks) i;
          puts = sym (append_assoc second first v.puts) i;
          rights = waits_twice place waits others v.rights i;
        });
  }
