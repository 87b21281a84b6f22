-- What the turn of a goal leaves to do for a seat that is alone.
use Rattle.std.proofs.Common.{◌≡◌, ◌≢◌, ℕ, ◌+◌, ◌*◌, ◌<◌, ◌≤◌, ◌==◌, ◌^◌, nat_le, false, not, ◌&&◌, List, length}
use Rattle.std.proofs.Common.{length-set, set, get_or-set_other, get_or-set_same, Some, ne_eqb, refl, sym, ap, subst}
use Rattle.std.proofs.Common.{◌∙◌, ⊎_elim, inl, arith}
use Rattle.std.proofs.lemmas.Bool.{and_right, lt-leb}
use Rattle.board_rule.specs.Meaning.{Meaning}
use Rattle.board_rule.specs.Words.{mem, cell_word, run_word, head_word, cost_word, node_word, who_word}
use Rattle.board_rule.specs.Waiters.{cleared}
use Rattle.board_rule.specs.Seats.{changed}
use Rattle.board_rule.specs.declared.hands.Hands.{Hands}
use Rattle.board_rule.proofs.Lists.{each_as}
use Rattle.goal_board.specs.Alone.{KeepsAll, StaysAlone, ChangesRuns, HasWait}
use Rattle.goal_board.specs.declared.board.Right.{Right}
use Rattle.goal_board.specs.declared.answers.Woken.{Woken}
use Rattle.goal_board.specs.RightCalls.{ended_words}
use Rattle.board_moves.specs.Counts.{has_ready, has_open, empty_count, open_count, Advances, AdvancesAlone, GoesOn}
use Rattle.board_moves.specs.Counts.{finishes, fills, waits}
use Rattle.board_moves.specs.Turns.{TurnFinishes, TurnSuspends, Turns}
use Rattle.board_moves.specs.declared.progress.Turned.{Turned}
use Rattle.board_moves.specs.declared.progress.Turned.TheVariants as turned
use Rattle.board_moves.proofs.CountLemmas.{one_if, number_same, one_changed}
use Rattle.board_moves.proofs.Going.{empties_same}

-- heads that were neither closed nor opened are as open as before
opens_same : (capacity : ℕ) (before after : List ℕ)
    → ((p : ℕ) → nat_le (2 ^ 63) ((mem after).head p) ≡ nat_le (2 ^ 63) ((mem before).head p))
    → open_count capacity after ≡ open_count capacity before
opens_same capacity before after same = number_same (has_open (mem before)) (has_open (mem after)) capacity
    (λ k below. ap not (same k))

-- no cell is empty that wasn't
empties_after : (capacity place more_waits : ℕ) (before after : List ℕ) → GoesOn capacity place more_waits before after
    → empty_count capacity after ≤ empty_count capacity before
empties_after capacity place more_waits before after g = ⊎_elim
    (λ (same : (p : ℕ) → p < capacity → (mem after).cell p ≡ (mem before).cell p). let as_many =
    empties_same capacity before after same in omega (arith, as_many))
    (λ (fewer : empty_count capacity after < empty_count capacity before). omega (arith, fewer)) g.cells

module _ (meaning : Meaning) (capacity place more_waits : ℕ) (before middle : List ℕ) (near : place < capacity)
    (long : length before ≡ 14 * capacity + 1) (g : GoesOn capacity place more_waits before middle) where
  -- a goal that wasn't finished is finished
  finish_advances : (after : List ℕ) → ((p : ℕ) → (mem after).cell p ≡ (mem middle).cell p)
      → ((p : ℕ) → p ≢ place → (mem after).head p ≡ (mem middle).head p)
      → (mem middle).head place < 2 ^ 63 → (mem after).head place ≡ 2 ^ 63 → Advances meaning capacity before after
  finish_advances after cells heads was_open is_closed =
      let one = one_changed (has_open (mem middle)) (has_open (mem after)) capacity place near
      (λ k below apart. ap (λ h. not (nat_le (2 ^ 63) h)) (heads k apart)) in
      let p_here : one_if (has_open (mem middle) place) ≡ 1 =
      ap (λ b. one_if (not b)) (lt-leb (2 ^ 63) ((mem middle).head place) was_open) in
      let q_here : one_if (has_open (mem after) place) ≡ 0 = ap (λ h. one_if (not (nat_le (2 ^ 63) h))) is_closed in
      let opens = opens_same capacity before middle g.heads in
      let empties = empties_same capacity middle after (λ p below. cells p) in
      let at_most = empties_after capacity place more_waits before middle g in
      finishes (omega (arith, one, p_here, q_here, opens)) (omega (arith, empties, at_most))

  -- a goal with a wait was suspended
  suspend_advances : (x : ℕ) → x ≢ 0 → Advances meaning capacity before (set middle (run_word place) x)
  suspend_advances x some =
      let after : List ℕ = set middle (run_word place) x in
      let cells : (p : ℕ) → (mem after).cell p ≡ (mem middle).cell p =
      λ p. get_or-set_other middle (run_word place) (cell_word p) x 0 (λ e. omega arith) in
      let heads : (p : ℕ) → (mem after).head p ≡ (mem middle).head p =
      λ p. get_or-set_other middle (run_word place) (head_word p) x 0 (λ e. omega arith) in
      let runs : (p : ℕ) → p ≢ place → (mem after).run p ≡ (mem middle).run p =
      λ p apart. get_or-set_other middle (run_word place) (run_word p) x 0 (λ e. apart (omega arith)) in
      let opens_first = opens_same capacity before middle g.heads in
      let opens = opens_same capacity middle after (λ p. ap (nat_le (2 ^ 63)) (heads p)) in
      let empties = empties_same capacity middle after (λ p below. cells p) in
      ⊎_elim
      (λ (same : (p : ℕ) → p < capacity → (mem middle).cell p ≡ (mem before).cell p).
      let as_many = empties_same capacity before middle same in
      let others : (k : ℕ) → k < capacity → k ≢ place → has_ready meaning (mem after) k ≡ has_ready meaning
      (mem before) k =
      λ k below apart. let cell = cells k ∙ same k below in let run = runs k apart ∙ g.others k apart in
      ap (λ (t : ℕ × ℕ). (not (t.0 == 0) && meaning.goal t.0) && (t.1 == 0)) (λ i. (cell i, run i)) in
      let one = one_changed (has_ready meaning (mem before)) (has_ready meaning (mem after)) capacity place near
      others in
      let shorter = g.same_length in
      let here : (mem after).run place ≡ x = get_or-set_same middle (run_word place) x 0
      (omega (arith, near, long, shorter)) in
      let busy : has_ready meaning (mem after) place ≡ false =
      and_right (not ((mem after).cell place == 0) && meaning.goal ((mem after).cell place))
      ((mem after).run place == 0) (ne_eqb ((mem after).run place) 0 (λ e. some (sym here ∙ e))) in
      let q_here : one_if (has_ready meaning (mem after) place) ≡ 0 = ap one_if busy in
      waits (omega (arith, opens, opens_first)) (omega (arith, empties, as_many)) (omega (arith, one, q_here)))
      (λ (fewer : empty_count capacity middle < empty_count capacity before).
      fills (omega (arith, opens, opens_first)) (omega (arith, empties, fewer)))
      g.cells

-- the four words of a goal that was finished
abbrev finished_words : ℕ → ℕ → ℕ → ℕ → List ℕ → List ℕ
finished_words place worker cost node words =
    set (set (set (set words (cost_word place) cost) (node_word place) node) (who_word place) (worker + 1))
    (head_word place) (2 ^ 63)

module _ {R : Type 0} (meaning : Meaning) (capacity : ℕ) (Adds : ℕ → Type 0) (v : Hands R) (right : Right) (worker : ℕ)
    (near : right.place < capacity) (fresh : right.waits ≡ 0) (all : KeepsAll capacity v)
    (some : (word : ℕ) → Adds word → word ≢ 0) where
  turn_finishes : (woken : Woken) (w : Hands R) → TurnFinishes capacity Adds v right worker woken w
      → AdvancesAlone meaning capacity v w
  turn_finishes woken w t kept is =
      let place = right.place in
      let m = t.proceeds.moves in
      let g = m.kept (each_as Adds (λ word. word ≢ 0) some t.proceeds.puts t.proceeds.adds) capacity kept is
      (all kept is) in
      let alone : t.middle.alone ≡ Some g.0 = ap (λ (h : Hands R). h.alone) m.hands_are ∙ g.1 in
      let ended : ended_words place worker t.cost t.node t.middle.alone ≡ Some
      (finished_words place worker t.cost t.node g.0) = ap (ended_words place worker t.cost t.node) alone in
      let s = subst (λ o. StaysAlone ChangesRuns o t.finishes.wakes.words) ended t.finishes.wakes.lone in
      let long = all kept is in
      let same = g.2.same_length in
      let costed : List ℕ = set g.0 (cost_word place) t.cost in
      let noded : List ℕ = set costed (node_word place) t.node in
      let whoed : List ℕ = set noded (who_word place) (worker + 1) in
      let first = length-set g.0 (cost_word place) t.cost in
      let second = length-set costed (node_word place) t.node in
      let third = length-set noded (who_word place) (worker + 1) in (
        s.0,
        ap (λ (h : Hands R). h.alone) t.finishes.wakes.hands_are ∙ s.1,
        finish_advances meaning capacity place t.proceeds.waits kept g.0 near long g.2 s.0
            (λ p. s.2.others (cell_word p) (λ q e. omega arith)
            ∙ (get_or-set_other whoed (head_word place) (cell_word p) (2 ^ 63) 0 (λ e. omega arith)
            ∙ (get_or-set_other noded (who_word place) (cell_word p) (worker + 1) 0 (λ e. omega arith)
            ∙ (get_or-set_other costed (node_word place) (cell_word p) t.node 0 (λ e. omega arith)
            ∙ get_or-set_other g.0 (cost_word place) (cell_word p) t.cost 0 (λ e. omega arith)))))
            (λ p apart. s.2.others (head_word p) (λ q e. omega arith)
            ∙ (get_or-set_other whoed (head_word place) (head_word p) (2 ^ 63) 0 (λ e. apart (omega arith))
            ∙ (get_or-set_other noded (who_word place) (head_word p) (worker + 1) 0 (λ e. omega arith)
            ∙ (get_or-set_other costed (node_word place) (head_word p) t.node 0 (λ e. omega arith)
            ∙ get_or-set_other g.0 (cost_word place) (head_word p) t.cost 0 (λ e. omega arith)))))
            (t.finishes.lone g.0 alone)
            (s.2.others (head_word place) (λ q e. omega arith)
            ∙ get_or-set_same whoed (head_word place) (2 ^ 63) 0
            (omega (arith, near, long, same, first, second, third))),
      )

  turn_suspends : (w : Hands R) → TurnSuspends capacity Adds v right worker w → AdvancesAlone meaning capacity v w
  turn_suspends w t kept is =
      let place = right.place in
      let m = t.proceeds.moves in
      let g = m.kept (each_as Adds (λ word. word ≢ 0) some t.proceeds.puts t.proceeds.adds) capacity kept is
      (all kept is) in
      let alone : t.middle.alone ≡ Some g.0 = ap (λ (h : Hands R). h.alone) m.hands_are ∙ g.1 in
      let given = t.gives_up.1 in
      let wait = t.some_wait in
      let more = t.proceeds.more_waits in
      let has : HasWait ((mem g.0).run place) = g.2.waiting (inl (omega (arith, wait, more, fresh))) in
      let found : (mem g.0).run place ≡ given.found =
      given.looks.alone g.0 alone (run_word place) given.found (inl (refl, refl)) in (
        set g.0 (run_word place) (cleared given.found 8),
        ap (λ (h : Hands R). h.alone) given.hands_are ∙ ap (changed (run_word place) (cleared given.found 8)) alone,
        suspend_advances meaning capacity place t.proceeds.waits kept g.0 near (all kept is) g.2 (cleared given.found 8)
            (given.not_ready (subst HasWait found has)),
      )

  -- a turn that found a cell for all it put in leaves less to do
  pub turns_alone : (result : Turned) (w : Hands R) → Turns capacity Adds v right worker result w → result ≢ turned.Full
      → AdvancesAlone meaning capacity v w
  turns_alone (turned.Finished woken) w t ends = turn_finishes woken w t
  turns_alone turned.Suspended w t ends = turn_suspends w t
  turns_alone turned.Full w t ends = absurd (ends refl)
