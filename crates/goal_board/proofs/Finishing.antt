-- A right whose answer words are stored one after the other.
use Rattle.std.proofs.Common.{◌≡◌, ℕ, ◌+◌, ◌^◌, ◌<◌, ◌≤◌, ◌≢◌, List, [], ◌∷◌, map, get_or, set, get_or-set_other, cond}
use Rattle.std.proofs.Common.{eq-eqb, Some, sym, refl, ap, subst, ◌∙◌, ◌==◌, arith}
use Rattle.board_rule.specs.Meaning.{Meaning}
use Rattle.board_rule.specs.Records.{Claimed}
use Rattle.board_rule.specs.Words.{mem, head_word, cost_word, node_word, who_word}
use Rattle.board_rule.specs.Seats.{Among, changed, fresh_right}
use Rattle.board_rule.specs.Seats.{answered_right, without, with_cost, with_node, with_who}
use Rattle.board_rule.specs.Seats.{cost_stored, node_stored, who_stored}
use Rattle.board_rule.specs.May.{HasRight}
use Rattle.board_rule.specs.Plays.{Moment}
use Rattle.board_rule.specs.declared.hands.Hands.{Hands}
use Rattle.board_rule.proofs.Lists.{among_map, among_counts, term_le, counts_one, cond_cases}
use Rattle.board_rule.proofs.Rights.{rights_at, held_by, without_cases}
use Rattle.goal_board.specs.Seats.{AreHandsOver}
use Rattle.goal_board.specs.RightCalls.{waiting_right}
use Rattle.goal_board.proofs.Overs.{sound_at}
use Rattle.board_rule.proofs.AnswerWords.{times_map}

-- the rights, changed at one place
abbrev pub changed_at : ℕ → (Claimed → Claimed) → List Claimed → List Claimed
changed_at place change rights = map (λ r. cond (r.place == place) (change r) r) rights

module _ (place : ℕ) (change : Claimed → Claimed) (same_place : (r : Claimed) → (change r).place ≡ r.place) where
  -- a right is changed where it is of the place, and else stays
  change_cases : (Fact : Claimed → Type 0) (r : Claimed) → (r.place ≡ place → Fact (change r))
      → (r.place ≢ place → Fact r) → Fact (cond (r.place == place) (change r) r)
  change_cases Fact r = cond_cases r.place place (change r) r Fact

  -- the changed right is among the changed rights
  pub among_changed : (rights : List Claimed) (r : Claimed) → r.place ≡ place → Among rights r
      → Among (changed_at place change rights) (change r)
  among_changed rights r here at =
      subst (λ b. Among (changed_at place change rights) (cond b (change r) r)) (eq-eqb r.place place here)
      (among_map (λ (q : Claimed). cond (q.place == place) (change q) q) rights r at)

  -- each place stands as often in them
  pub times_changed : (p : ℕ) (rights : List Claimed)
      → rights_at p (changed_at place change rights) ≡ rights_at p rights
  times_changed = times_map (λ r. cond (r.place == place) (change r) r)
      (λ r. change_cases (λ q. q.place ≡ r.place) r (λ _. same_place r) (λ _. refl))

  -- rights that are all of other places stay
  unchanged : (rights : List Claimed) → rights_at place rights ≡ 0 → changed_at place change rights ≡ rights
  unchanged [] none = refl
  unchanged (r ∷ rs) none =
      change_cases (λ q. q ∷ changed_at place change rs ≡ r ∷ rs) r
      (λ e. absurd (omega (arith, counts_one r.place place e)))
      (λ _. ap (λ l. r ∷ l) (unchanged rs (omega arith)))

  -- without the one of the place, the rights are as they were
  pub without_changed : (rights : List Claimed) → rights_at place rights ≤ 1
      → without place (changed_at place change rights) ≡ without place rights
  without_changed [] few = refl
  without_changed (r ∷ rs) few =
      change_cases (λ q. without place (q ∷ changed_at place change rs) ≡ without place (r ∷ rs)) r
      (λ e. without_cases (λ l. l ≡ without place (r ∷ rs)) place (change r) (changed_at place change rs)
      (λ _. without_cases (λ l. changed_at place change rs ≡ l) place r rs
      (λ _. unchanged rs (omega (arith, counts_one r.place place e))) (λ ne. absurd (ne e)))
      (λ ne. absurd (ne (same_place r ∙ e))))
      (λ ne. without_cases (λ l. l ≡ without place (r ∷ rs)) place r (changed_at place change rs)
      (λ e. absurd (ne e))
      (λ _. without_cases (λ l. r ∷ without place (changed_at place change rs) ≡ l) place r rs
      (λ e. absurd (ne e)) (λ _. ap (λ l. r ∷ l) (without_changed rs (omega arith)))))

-- a right without waits is as it was claimed
pub held_fresh : (rights : List Claimed) (place waits : ℕ) → waits ≡ 0 → Among rights (waiting_right place waits)
    → Among rights (fresh_right place)
held_fresh rights place waits none held = subst (λ n. Among rights (waiting_right place n)) none held

-- a right with the cost, then with the node, then with the worker
abbrev pub with_first : ℕ → ℕ → Claimed
with_first place cost = record (fresh_right place) { cost = Some cost }

abbrev pub with_second : ℕ → ℕ → ℕ → Claimed
with_second place cost node = record (with_first place cost) { node = Some node }

pub cost_among : (rights : List Claimed) (place cost : ℕ) → Among rights (fresh_right place)
    → Among (with_cost place cost rights) (with_first place cost)
cost_among rights place cost at = among_changed place (λ r. record r { cost = Some cost }) (λ _. refl) rights
    (fresh_right place) refl at

pub node_among : (rights : List Claimed) (place cost node : ℕ) → Among rights (with_first place cost)
    → Among (with_node place node rights) (with_second place cost node)
node_among rights place cost node at = among_changed place (λ r. record r { node = Some node }) (λ _. refl) rights
    (with_first place cost) refl at

pub who_among : (rights : List Claimed) (place worker cost node : ℕ) → Among rights (with_second place cost node)
    → Among (with_who place (worker + 1) rights) (answered_right place worker cost node)
who_among rights place worker cost node at =
    among_changed place (λ r. record r { who = Some (worker + 1) }) (λ _. refl) rights (with_second place cost node)
    refl at

-- a right that is among a seat's is one that it has
pub has_right : (capacity : ℕ) (rights : List Claimed) (r : Claimed) → r.place < capacity → Among rights r
    → HasRight capacity rights r.place
has_right capacity rights r near at = record { near = near; held = among_counts (λ (q : Claimed). q.place) rights r at }

-- the rights that are left once the answer was stored and the right was spent
pub left_over : (rights : List Claimed) (place worker cost node : ℕ)
    → rights_at place (with_who place (worker + 1) (with_node place node (with_cost place cost rights))) ≤ 1
    → without place (with_who place (worker + 1) (with_node place node (with_cost place cost rights))) ≡ without place
    rights
left_over rights place worker cost node few =
    let first : List Claimed = with_cost place cost rights in
    let second : List Claimed = with_node place node first in
    let a = times_changed place (λ r. record r { who = Some (worker + 1) }) (λ _. refl) place second in
    let b = times_changed place (λ r. record r { node = Some node }) (λ _. refl) place first in
    let c = times_changed place (λ r. record r { cost = Some cost }) (λ _. refl) place rights in
    without_changed place (λ r. record r { who = Some (worker + 1) }) (λ _. refl) second (omega arith)
    ∙ without_changed place (λ r. record r { node = Some node }) (λ _. refl) first (omega arith)
    ∙ without_changed place (λ r. record r { cost = Some cost }) (λ _. refl) rights (omega arith)

-- the hands once the three words of an answer were stored, one after the other
pub answer_stored : {R : Type 0} (v : Hands R) {a b w : Hands R} (place worker cost node : ℕ) → a ≡ cost_stored v place cost
    → b ≡ node_stored a place node → w ≡ who_stored b place (worker + 1)
    → w ≡ who_stored (node_stored (cost_stored v place cost) place node) place (worker + 1)
answer_stored v place worker cost node first second third =
    third ∙ ap (λ h. who_stored h place (worker + 1)) (second ∙ ap (λ h. node_stored h place node) first)

-- a seat has the right to a goal once
pub once_held : {R : Type 0} (meaning_of : R → Meaning) (rules : R) (capacity : ℕ) (v : Hands R) (word value place : ℕ)
    → AreHandsOver meaning_of rules capacity v → Moment meaning_of v word value
    → place < capacity → rights_at place v.rights ≤ 1
once_held meaning_of rules capacity v word value place over moment near =
    let s = (sound_at meaning_of rules capacity v word value over moment).0 in
    omega (
      arith,
      term_le (λ (u : Hands _). rights_at place u.rights) s.views s.id v s.mine,
      (s.sound.by_kinds.rights place near).once,
    )

-- the goal whose right is spent was not finished, by the words that are kept before its answer was stored
pub open_before : {R : Type 0} (meaning_of : R → Meaning) (rules : R) (capacity : ℕ) (v u : Hands R)
    (place worker cost node found : ℕ) → AreHandsOver meaning_of rules capacity u
    → u ≡ who_stored (node_stored (cost_stored v place cost) place node) place (worker + 1)
    → Moment meaning_of u (head_word place) found → place < capacity → Among v.rights (fresh_right place)
    → (kept : List ℕ) → v.alone ≡ Some kept → (mem kept).head place < 2 ^ 63
open_before meaning_of rules capacity v u place worker cost node found over stored moment near held kept is =
    let s = (sound_at meaning_of rules capacity u (head_word place) found over moment).0 in
    let m = mem s.words in
    let first : List Claimed = with_cost place cost v.rights in
    let second : List Claimed = with_node place node first in
    let has : HasRight capacity u.rights place = subst (λ (h : Hands _). HasRight capacity h.rights place) (sym stored)
    (has_right capacity (with_who place (worker + 1) second) (answered_right place worker cost node) near
    (who_among second place worker cost node
    (node_among first place cost node (cost_among v.rights place cost held)))) in
    let is_open = (held_by capacity m.run m.head s.views s.id u place s.mine has s.sound.by_kinds.rights).is_open in
    let with_first_word : List ℕ = set kept (cost_word place) cost in
    let with_both : List ℕ = set with_first_word (node_word place) node in
    let alone : u.alone ≡ Some (set with_both (who_word place) (worker + 1)) =
    ap (λ (h : Hands _). h.alone) stored ∙ ap
    (λ o. changed (who_word place) (worker + 1) (changed (node_word place) node (changed (cost_word place) cost o)))
    is in
    let same = (s.sound.alone s.id u s.mine).every_word (set with_both (who_word place) (worker + 1)) alone in
    subst (λ n. n < 2 ^ 63)
    (sym (ap (λ ws. get_or ws (head_word place) 0) same)
    ∙ get_or-set_other with_both (who_word place) (head_word place) (worker + 1) 0 (λ e. omega arith)
    ∙ get_or-set_other with_first_word (node_word place) (head_word place) node 0 (λ e. omega arith)
    ∙ get_or-set_other kept (cost_word place) (head_word place) cost 0 (λ e. omega arith))
    is_open
