-- What looks at a goal's head, at its answer words and at the full word tell.
use Rattle.std.proofs.Common.{◌≡◌, ℕ, ◌^◌, ◌<◌, ◌≤◌, ◌≢◌, Bool, true, false, IsTrue, List}
use Rattle.std.proofs.Common.{length, get_or, sym, refl, subst, ◌∙◌, inl, inr, ⊎_elim}
use Rattle.std.proofs.Common.{arith}
use mathlib.Core.Option.{some}
use lib.ListN.{get_elem?}
use Rattle.board_rule.specs.Meaning.{Meaning}
use Rattle.board_rule.specs.Words.{mem, full_word, cell_word, head_word, cost_word, node_word}
use Rattle.board_rule.specs.Looks.{Looked, ShowsFull, ShowsClosed}
use Rattle.board_rule.specs.Soundness.{HoldsGoal}
use Rattle.board_rule.proofs.Chains.{later_closed}
use Rattle.board_rule.proofs.WakeUps.{no_wake_up_lost, some_ready, total_only}
use Rattle.board_rule.specs.Seats.{total}
use Rattle.board_rule.specs.Plays.{Moment, LooksAt}
use Rattle.board_rule.specs.declared.hands.Hands.{Hands}
use Rattle.board_rule.proofs.Truths.{shown_finished, shown_stands}
use Rattle.goal_board.specs.Seats.{AreHandsOver, IsFree}
use Rattle.goal_board.specs.Alone.{IsReadyIn}
use Rattle.goal_board.specs.Calls.{LeavesOut, ReadsAnswer, FindsOpen, ReadsFull}
use Rattle.goal_board.proofs.Overs.{SoundWith, sound_at}
use Rattle.goal_board.proofs.Seen.{agrees_at, seen_none, sees, sound_after}
use Rattle.board_rule.proofs.Lists.{some_below}

-- the sum over one seat
only_seat : {R : Type 0} → (f : Hands R → ℕ) (views : List (Hands R)) (id : ℕ) (v : Hands R) → length views ≡ 1
    → get_elem? views id ≡ some v → total f views ≡ f v
only_seat f views id v one mine = total_only f views id v mine (λ k u ne there.
    absurd (ne (omega (arith, some_below views k u there, some_below views id v mine))))

module _ {R : Type 0} {meaning_of : R → Meaning} {rules : R} {capacity : ℕ} where
  -- where the looks show the full word set, some entry is in no cell
  pub leaves_out : (v : Hands R) → SoundWith meaning_of rules capacity v → LeavesOut (meaning_of rules) capacity v.looks
  leaves_out v s shows =
      let k = s.sound.by_kinds in
      let own = k.hands s.id v s.mine in
      let t = (k.full (own.stays.set_full shows.0 shows.1 shows.2)).left_out in (
        t.0,
        t.1,
        λ entry. let stands = shown_stands (meaning_of rules) capacity (mem s.words) k.promises v.looks own.stays
            t.0 entry in t.2 stands.0 stands.1 stands.3,
      )

  pub finds_open : ((goal child : ℕ) → (meaning_of rules).entry goal → (meaning_of rules).child goal child
      → IsTrue ((meaning_of rules).goal child))
      → (rank : ℕ → ℕ) → ((goal child : ℕ) → (meaning_of rules).child goal child → rank child < rank goal)
      → {v w : Hands R} {at value : ℕ} → at < capacity → AreHandsOver meaning_of rules capacity v → IsFree v
      → LooksAt meaning_of v (head_word at) value w → value < 2 ^ 63
      → FindsOpen (meaning_of rules) capacity v at w
  finds_open children rank falls {v} {at} {value} near over free told not_closed =
      let t = sound_at meaning_of rules capacity v (head_word at) value over told.moment in
      let s = t.0 in
      let k = s.sound.by_kinds in
      let own = k.hands s.id v s.mine in
      let is_open : (mem s.words).head at < 2 ^ 63 = subst (λ n. n < 2 ^ 63) t.1 not_closed in
      record {
        head = value;
        not_closed = not_closed;
        looks = (sees (seen_none v) over told (λ e. omega (arith, e))).looks;
        hands_are = told.hands_are;
        unfinished = λ goal some_goal stands shows.
            let f = shown_finished (meaning_of rules) capacity (mem s.words) k.promises v.looks own.stays goal shows in
            let there = own.stays.cells at goal stands some_goal in
            let same : f.0 ≡ at = k.cells.are_set.once f.0 at f.1 near (λ none. some_goal (sym f.3 ∙ none)) (f.3
            ∙ sym there) in
            let closed : 2 ^ 63 ≤ (mem s.words).head at = subst (λ q. 2 ^ 63 ≤ (mem s.words).head q) same f.4 in
            omega arith;
        lone = λ kept is none goal some_goal stands is_goal.
            let keeps = s.sound.alone s.id v s.mine in
            let same : kept ≡ s.words = keeps.every_word kept is in
            let there : get_or s.words (cell_word at) 0 ≡ goal = own.stays.cells at goal stands some_goal in
            let one : length s.views ≡ 1 = keeps.only kept is in
            let all : v.parts ≡ 64 = sym (only_seat (λ (u : Hands R). u.parts) s.views s.id v one s.mine) ∙ k.parts in
            let holds : HoldsGoal (meaning_of rules) capacity (mem s.words).cell at = (
              (λ empty. some_goal (sym there ∙ empty)),
              subst (λ g. IsTrue ((meaning_of rules).goal g)) (sym there) is_goal,
            ) in
            ⊎_elim
            (λ t. (
              t.0,
              subst (λ ws. IsReadyIn (meaning_of rules) capacity ws t.0) (sym same) (record {
                near = t.1;
                some_goal = t.2.0;
                is_goal = t.2.1;
                ready = t.3;
              }),
            ))
            (λ none_ready.
            let closed = no_wake_up_lost (meaning_of rules) rules capacity (mem s.words) s.views s.id v k s.mine all
            none
            free.no_wait free.no_walk children rank falls none_ready at near holds in
            absurd (omega arith))
            (some_ready (meaning_of rules) capacity (mem s.words).cell (mem s.words).run capacity);
      }

  -- a head that was seen closed is not found open
  pub seen_closed : (at : ℕ) {v w : Hands R} {value : ℕ} → AreHandsOver meaning_of rules capacity v
      → LooksAt meaning_of v (head_word at) value w → value < 2 ^ 63 → ShowsClosed v.looks at → ⊥
  seen_closed at {v} {value = value} over told not_closed shows =
      let t = sound_at meaning_of rules capacity v (head_word at) value over told.moment in
      let s = t.0 in
      let closed = later_closed shows.0 ((mem s.words).head at)
      ((s.sound.by_kinds.hands s.id v s.mine).stays.heads at shows.0 shows.1) shows.2 in
      let is : value ≡ (mem s.words).head at = t.1 in
      omega arith

  -- a full word that was seen set is set
  seen_full : (v : Hands R) (value : ℕ) (full : Bool) → AreHandsOver meaning_of rules capacity v
      → Moment meaning_of v full_word value → (full ≡ false → value ≡ 0) → ShowsFull v.looks → IsTrue full
  seen_full v value true over moment unset shows = refl
  seen_full v value false over moment unset shows =
      let t = sound_at meaning_of rules capacity v full_word value over moment in
      absurd ((t.0.sound.by_kinds.hands t.0.id v t.0.mine).stays.set_full shows.0 shows.1 shows.2 (sym t.1
      ∙ unset refl))

  pub reads_full : {v w : Hands R} {value : ℕ} {full : Bool} → AreHandsOver meaning_of rules capacity v → 0 < v.parts
      → LooksAt meaning_of v full_word value w
      → (IsTrue full → value ≢ 0) → (full ≡ false → value ≡ 0) → ReadsFull (meaning_of rules) capacity v full w
  reads_full {v} {w} {value} {full} over some_part told set unset = record {
    value = value;
    hands_are = told.hands_are;
    set = set;
    unset = unset;
    stays = λ shows. seen_full v value full over told.moment unset shows;
    alone = agrees_at meaning_of rules capacity v full_word value over told.moment;
    left_out = leaves_out w (sound_after over some_part told);
  }

  -- the answer words of a head that a look found closed
  answer_at : (v : Hands R) (word value at : ℕ) → at < capacity → AreHandsOver meaning_of rules capacity v
      → Moment meaning_of v word value → (head : ℕ) → Looked v.looks (head_word at) head → 2 ^ 63 ≤ head
      → (goal : ℕ) → goal ≢ 0 → Looked v.looks (cell_word at) goal
      → (s : SoundWith meaning_of rules capacity v) × (value ≡ get_or s.words word 0)
      × (meaning_of rules).answer goal ((mem s.words).cost at) ((mem s.words).node at)
  answer_at v word value at near over moment head seen_head closed goal some_goal stands =
      let t = sound_at meaning_of rules capacity v word value over moment in
      let s = t.0 in
      let k = s.sound.by_kinds in
      let own = k.hands s.id v s.mine in (
        s,
        t.1,
        subst (λ g. (meaning_of rules).answer g ((mem s.words).cost at) ((mem s.words).node at))
            (own.stays.cells at goal stands some_goal)
            (k.promises.answer at near (later_closed head ((mem s.words).head at) (own.stays.heads at head seen_head)
            closed)),
      )

  pub reads_answer : ((goal cost node other_cost other_node : ℕ) → (meaning_of rules).answer goal cost node
      → (meaning_of rules).answer goal other_cost other_node → (cost ≡ other_cost) × (node ≡ other_node))
      → {v w u x : Hands R} {at head cost node : ℕ} → at < capacity → AreHandsOver meaning_of rules capacity v
      → AreHandsOver meaning_of rules capacity w → AreHandsOver meaning_of rules capacity u → 0 < u.parts
      → LooksAt meaning_of v (head_word at) head w → LooksAt meaning_of w (cost_word at) cost u
      → LooksAt meaning_of u (node_word at) node x → 2 ^ 63 ≤ head
      → ReadsAnswer (meaning_of rules) capacity v at (record { cost = cost; node = node }) x
  reads_answer one {v} {w} {u} {x} {at} {head} {cost} {node} near over_v over_w over_u some_part at_head at_cost at_node
      closed =
      let before = sees (sees (seen_none v) over_v at_head (λ e. omega (arith, e))) over_w at_cost
      (λ e. omega (arith, e)) in
      let saw = sees before over_u at_node (λ e. omega (arith, e)) in
      let uw = before.hands_are in
      record {
        head = head;
        closed = closed;
        looks = saw.looks;
        hands_are = saw.hands_are;
        exact = λ goal some_goal stands.
            let a = answer_at w (cost_word at) cost at near over_w at_cost.moment head
            (subst (λ (h : Hands R). Looked h.looks (head_word at) head) (sym at_head.hands_are) (inl (refl, refl)))
            closed goal some_goal
            (subst (λ (h : Hands R). Looked h.looks (cell_word at) goal) (sym at_head.hands_are) (inr stands)) in
            let b = answer_at u (node_word at) node at near over_u at_node.moment head
            (subst (λ (h : Hands R). Looked h.looks (head_word at) head) (sym uw) (inr (inl (refl, refl)))) closed
            goal some_goal
            (subst (λ (h : Hands R). Looked h.looks (cell_word at) goal) (sym uw) (inr (inr stands))) in
            let same = one goal ((mem a.0.words).cost at) ((mem a.0.words).node at) ((mem b.0.words).cost at)
            ((mem b.0.words).node at) a.2 b.2 in
            subst (λ c. (meaning_of rules).answer goal c node) (sym same.0 ∙ sym a.1)
            (subst (λ n. (meaning_of rules).answer goal ((mem b.0.words).cost at) n) (sym b.1) b.2);
        left_out = leaves_out x (sound_after over_u some_part at_node);
      }
