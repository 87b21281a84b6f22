-- A board whose last seat has all parts.
use Rattle.std.proofs.Common.{◌≡◌, ℕ, ◌+◌, ◌^◌, ◌<◌, ◌≤◌, List, [], ◌∷◌, cond, eqb, ne_eqb, false}
use Rattle.std.proofs.Common.{not, IsTrue, refl, ap, subst, inl, inr, ⊎_elim, arith}
use Rattle.std.proofs.lemmas.Bool.{cases_eq}
use mathlib.Core.Option.{some}
use lib.ListN.{get_elem?}
use Rattle.board_rule.specs.Meaning.{Meaning}
use Rattle.board_rule.specs.Records.{Ended}
use Rattle.board_rule.specs.Words.{mem}
use Rattle.board_rule.specs.Seats.{Among, times}
use Rattle.board_rule.specs.Soundness.{HoldsGoal, IsRecorded, IsSound, ended}
use Rattle.board_rule.specs.declared.hands.Hands.{Hands}
use Rattle.board_rule.proofs.Lists.{among_counts, each_at}
use Rattle.board_rule.proofs.WakeUps.{no_wake_up_lost, only_seat, registered_not_ready}
use Rattle.goal_board.specs.Seats.{IsFree}
use Rattle.goal_board.specs.Closed.{HasWorkers, IsReadyAt}
use Rattle.goal_board.specs.Closing.{words_of, is_full, ClosesWith}
use Rattle.goal_board.specs.declared.closing.ClosedBoard.{ClosedBoard}

-- a place that stands in the list is that of one of it
counted_among : {A : Type 0} → (place_of : A → ℕ) (p : ℕ) (l : List A) → 1 ≤ times place_of p l → (a : A) × Among l a
    × (place_of a ≡ p)
counted_among place_of p [] some_one = absurd (omega arith)
counted_among place_of p (x ∷ xs) some_one =
    ⊎_elim
    (λ e. (x, inl refl, e))
    (λ ne. let none_here : cond {A = ℕ} (eqb (place_of x) p) 1 0 ≡ 0 =
    ap (λ b. cond b 1 0) (ne_eqb (place_of x) p ne) in
    let t = counted_among place_of p xs (omega arith) in (t.0, inr t.1, t.2))
    (cases_eq (place_of x) p)

module _ {R : Type 0} (meaning : Meaning) (rules : R) (capacity : ℕ) (words : List ℕ) (views : List (Hands R))
    (sound : IsSound meaning rules capacity words views)
    (id : ℕ) (v : Hands R) (mine : get_elem? views id ≡ some v) (all : v.parts ≡ 64) where
  -- what is finished was finished by the seat, or by one that it took in
  pub finished_by : (p : ℕ) → p < capacity → 2 ^ 63 ≤ (mem words).head p
      → (e : Ended) × Among v.done e × (e.place ≡ p)
      × IsRecorded capacity (mem words).head (mem words).cost (mem words).node (mem words).who e
  finished_by p near closed =
      let some_one : 1 ≤ times (λ (e : Ended). e.place) p v.done =
      let was = sound.by_kinds.rights p near in
      ⊎_elim (λ none_ended. let is_open = was.is_open none_ended in absurd (omega arith))
      (λ some_end. omega (
        arith,
        only_seat meaning rules capacity (mem words) views id v sound.by_kinds mine all
            (λ (h : Hands R). times (λ (e : Ended). e.place) p h.done) refl,
      ))
      (cases_eq (ended views p) 0) in
      let t = counted_among (λ (e : Ended). e.place) p v.done some_one in (
        t.0,
        t.1,
        t.2,
        each_at (IsRecorded capacity (mem words).head (mem words).cost (mem words).node (mem words).who)
            v.done t.0 (sound.by_kinds.hands id v mine).recorded t.1,
      )

  pub has_workers : HasWorkers (mem words) capacity
  has_workers p near closed =
      let t = finished_by p near closed in
      let e : (mem words).who p ≡ t.0.worker + 1 = subst (λ q. (mem words).who q ≡ t.0.worker + 1) t.2 t.3.who_is in
      let few = t.3.few in (omega arith, omega arith)

  -- where no goal is ready and the seat holds no right, every goal is finished
  pub all_finished : v.rights ≡ [] → IsFree v
      → ((goal child : ℕ) → meaning.entry goal → meaning.child goal child → IsTrue (meaning.goal child))
      → (rank : ℕ → ℕ) → ((goal child : ℕ) → meaning.child goal child → rank child < rank goal)
      → ((p : ℕ) → p < capacity → IsReadyAt meaning (mem words) p → ⊥) → (p : ℕ) → p < capacity
      → HoldsGoal meaning capacity (mem words).cell p → 2 ^ 63 ≤ (mem words).head p
  all_finished no_right free children rank falls none_ready =
      no_wake_up_lost meaning rules capacity (mem words) views id v sound.by_kinds mine all no_right free.no_wait
      free.no_walk children rank falls
      (λ p near holds ready. none_ready p near (record { some_goal = holds.0; is_goal = holds.1; ready = ready }))

-- what is said of a board that was closed
pub closes_with : {R : Type 0} → (meaning_of : R → Meaning) (rules : R) (capacity : ℕ) (board : ClosedBoard)
    (views : List (Hands R)) (same : board.capacity ≡ capacity)
    (sound : IsSound (meaning_of rules) rules capacity (words_of board) views)
    (id : ℕ) (v : Hands R) (mine : get_elem? views id ≡ some v) (all : v.parts ≡ 64) → v.rights ≡ [] → IsFree v
    → ((goal child : ℕ) → (meaning_of rules).entry goal → (meaning_of rules).child goal child
    → IsTrue ((meaning_of rules).goal child))
    → (rank : ℕ → ℕ) → ((goal child : ℕ) → (meaning_of rules).child goal child → rank child < rank goal)
    → ClosesWith meaning_of rules capacity v board
closes_with meaning_of rules capacity board views same sound id v mine all no_right free children rank falls =
    let words : List ℕ = words_of board in
    record {
      same_capacity = same;
      views = views;
      id = id;
      sound = sound;
      mine = mine;
      none_ready = all_finished (meaning_of rules) rules capacity words views sound id v mine all no_right free children
          rank falls;
      finished_by = finished_by (meaning_of rules) rules capacity words views sound id v mine all;
      registered = λ c q near at. registered_not_ready (meaning_of rules) capacity
          (mem words) views sound.by_kinds.waits c q
          near (among_counts (λ (p : ℕ). p) (sound.by_kinds.waits.lists c) q at);
      filled = λ shows. ap not (ne_eqb (mem words).full 0
          ((sound.by_kinds.hands id v mine).stays.set_full shows.0 shows.1 shows.2));
      left_out = λ set. sound.by_kinds.full (λ none. let unset : is_full board ≡ false =
          ap (λ x. not (eqb x 0)) none in let no_way : ⊥ = cc in no_way);
    }
