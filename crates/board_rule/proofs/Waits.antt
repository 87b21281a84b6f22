-- What a step that changes no list of waiters leaves of the waits.
use Rattle.std.proofs.Common.{◌≡◌, ℕ, ◌+◌, ◌*◌, ◌/◌, ◌%◌, ◌^◌, ◌<◌, ◌≤◌, ◌≢◌, List, [], ◌∷◌, ◌++◌, Option, None, Some}
use Rattle.std.proofs.Common.{set, sym, refl, ap, subst, ◌∙◌, inr, ⊎_elim, arith}
use mathlib.Core.Option.{some}
use lib.ListN.{get_elem?}
use Rattle.std.specs.Int.{bit_at}
use Rattle.board_rule.specs.Meaning.{Meaning}
use Rattle.board_rule.specs.Records.{Claimed, Pending, Walk}
use Rattle.board_rule.specs.Words.{Mem, put}
use Rattle.board_rule.specs.Waiters.{wait_bit, waiting, head_of, below}
use Rattle.board_rule.specs.Seats.{Among, Each, total, in_hand}
use Rattle.board_rule.specs.Soundness.{KeepsBlank, IsRaised, IsPending, ArePending, KeepsWaits}
use Rattle.board_rule.specs.declared.hands.Hands.{Hands}
use Rattle.board_rule.proofs.Lists.{put_cases, each_as, among_counts, total_same, term_le, counts_none, terms_le}
use Rattle.board_rule.proofs.Chains.{count, below_term}
use Rattle.board_rule.proofs.Rights.{rights_at, held_stands, bit_runs}
use Rattle.std.proofs.lemmas.Bool.{cases_lt}
use Rattle.std.proofs.lemmas.Nat.Bits.{bit_at-lt}

-- run words whose wait bits are as they were
abbrev pub SameBits : (run new_run : ℕ → ℕ) → Type 0
SameBits run new_run = (p b : ℕ) → b < 8 → bit_at (new_run p) b ≡ bit_at (run p) b

-- how often a waiter stands in the hands of all seats
abbrev pub handed : {R : Type 0} → List (Hands R) → ℕ → ℕ
handed views q = total (λ v. count q (in_hand v.pending v.walk)) views

-- the hands of all seats have the same waiters where one seat has other hands with the same waiters
pub handed_same : {R : Type 0} (views : List (Hands R)) (id : ℕ) (v w : Hands R) → get_elem? views id ≡ some v
    → in_hand w.pending w.walk ≡ in_hand v.pending v.walk
    → (q : ℕ) → handed (set views id w) q ≡ handed views q
handed_same views id v w mine same q = total_same (λ (u : Hands _). count q (in_hand u.pending u.walk)) views id v w
    mine (ap (count q) same)

module _ {R : Type 0} (meaning : Meaning) (capacity : ℕ) (cell head next : ℕ → ℕ) where
  pub waits_as : (run new_run : ℕ → ℕ) (old_views new_views : List (Hands R)) → SameBits run new_run
      → ((q : ℕ) → handed new_views q ≡ handed old_views q)
      → KeepsWaits meaning capacity cell run head next old_views
      → KeepsWaits meaning capacity cell new_run head next new_views
  waits_as run new_run old_views new_views same hands old = record {
    lists = old.lists;
    none_left = old.none_left;
    heads = old.heads;
    chains = old.chains;
    joined = old.joined;
    once = λ q. let few : q % 8 < 8 = omega arith in ap (λ n. below (λ c. count q (old.lists c)) capacity + n) (hands q)
        ∙ old.once q ∙ sym (same (q / 8) (q % 8) few);
    near = λ q set_bit. let few : q % 8 < 8 = omega arith in
        old.near q (subst (λ n. 1 ≤ n) (same (q / 8) (q % 8) few) set_bit);
  }

  -- the waits stay where one seat has other hands, with the same waiters
  pub waits_stay : (run : ℕ → ℕ) (views : List (Hands R)) (id : ℕ) (v w : Hands R) → get_elem? views id ≡ some v
      → in_hand w.pending w.walk ≡ in_hand v.pending v.walk
      → KeepsWaits meaning capacity cell run head next views
      → KeepsWaits meaning capacity cell run head next (set views id w)
  waits_stay run views id v w mine same =
      waits_as run run views (set views id w) (λ p b few. refl) (handed_same views id v w mine same)

  -- a waiter in a list has its bit set
  pub listed_waits : (run : ℕ → ℕ) (views : List (Hands R)) (old : KeepsWaits meaning capacity cell run head next views)
      (c q : ℕ) → c < capacity → 1 ≤ count q (old.lists c) → 1 ≤ wait_bit run q
  listed_waits run views old c q near at =
      let term = below_term (λ c. count q (old.lists c)) capacity c near in let once = old.once q in omega arith

  -- and so has one in a seat's hands
  pub handed_waits : (run : ℕ → ℕ) (views : List (Hands R)) (id : ℕ) (v : Hands R) → get_elem? views id ≡ some v
      → KeepsWaits meaning capacity cell run head next views
      → (q : ℕ) → 1 ≤ count q (in_hand v.pending v.walk) → 1 ≤ wait_bit run q
  handed_waits run views id v mine old q at =
      let term = term_le (λ (u : Hands R). count q (in_hand u.pending u.walk)) views id v mine in let once =
      old.once q in omega arith

-- a waiter in the hands of a seat stands there once, and nowhere else, and its bit is set
pub record IsInHand {R : Type 0} (capacity : ℕ) (run : ℕ → ℕ) (lists : ℕ → List ℕ) (views : List (Hands R)) (id : ℕ)
    (v : Hands R) (q : ℕ) : Type 0 where
  pub is_set : wait_bit run q ≡ 1
  pub once : count q (in_hand v.pending v.walk) ≡ 1
  pub unlisted : (c : ℕ) → c < capacity → count q (lists c) ≡ 0
  pub in_no_other : (other : ℕ) (u : Hands R) → other ≢ id → get_elem? views other ≡ some u
      → count q (in_hand u.pending u.walk) ≡ 0

pub in_hand_once : {R : Type 0} (meaning : Meaning) (capacity : ℕ) (m : Mem) (views : List (Hands R)) (id : ℕ)
    (v : Hands R) (q : ℕ) (waits : KeepsWaits meaning capacity m.cell m.run m.head m.next views)
    → get_elem? views id ≡ some v → 1 ≤ count q (in_hand v.pending v.walk)
    → IsInHand capacity m.run waits.lists views id v q
in_hand_once {R = R} meaning capacity m views id v q waits mine at =
    let hand : Hands R → ℕ = λ u. count q (in_hand u.pending u.walk) in
    let sums = waits.once q in
    let few = bit_at-lt (m.run (q / 8)) (q % 8) in
    let own = term_le hand views id v mine in
    record {
      is_set = omega arith;
      once = omega arith;
      unlisted = λ c near. omega (arith, below_term (λ p. count q (waits.lists p)) capacity c near);
      in_no_other = λ other u ne there. omega (arith, terms_le hand views id other v u ne mine there);
    }

-- a right is raised as before where the wait bits are
pub raised_as : (run new_run : ℕ → ℕ) (pending : Option Pending) (rights : List Claimed) → SameBits run new_run
    → Each (IsRaised run pending) rights → Each (IsRaised new_run pending) rights
raised_as run new_run pending rights same =
    each_as (IsRaised run pending) (IsRaised new_run pending)
    (λ r old. record { few = old.few; others = λ b more few. same r.place b few ∙ old.others b more few }) rights

-- a wait that is being put in, once something else has changed
pub pending_as : (meaning : Meaning) (capacity : ℕ) (cell next new_cell new_next : ℕ → ℕ)
    (looks new_looks : List (ℕ × ℕ))
    (rights new_rights : List Claimed) (pending : Option Pending)
    → ((x : Pending) → pending ≡ Some x → IsPending meaning capacity cell next looks rights x
    → IsPending meaning capacity new_cell new_next new_looks new_rights x)
    → ArePending meaning capacity cell next looks rights pending
    → ArePending meaning capacity new_cell new_next new_looks new_rights pending
pending_as meaning capacity cell next new_cell new_next looks new_looks rights new_rights None follows old = tt
pending_as meaning capacity cell next new_cell new_next looks new_looks rights new_rights (Some x) follows old =
    follows x refl old

-- a wait that is being put in, after one look more
pub pending_looked : (meaning : Meaning) (capacity : ℕ) (cell next : ℕ → ℕ) (look : ℕ × ℕ) (looks : List (ℕ × ℕ))
    (rights : List Claimed) (pending : Option Pending)
    → ArePending meaning capacity cell next looks rights pending
    → ArePending meaning capacity cell next (look ∷ looks) rights pending
pending_looked meaning capacity cell next look looks rights pending =
    pending_as meaning capacity cell next cell next looks (look ∷ looks) rights rights pending
    (λ x is old. record {
      has = old.has;
      its_wait = old.its_wait;
      seen = old.seen;
      looked = λ head at. inr (old.looked head at);
    })

-- the wait that is being put in
pub pending_at : (meaning : Meaning) (capacity : ℕ) (cell next : ℕ → ℕ) (looks : List (ℕ × ℕ)) (rights : List Claimed)
    (pending : Option Pending) (x : Pending)
    → pending ≡ Some x → ArePending meaning capacity cell next looks rights pending
    → IsPending meaning capacity cell next looks rights x
pending_at meaning capacity cell next looks rights pending x is old =
    subst (ArePending meaning capacity cell next looks rights) is old

-- a new run word at one place, with the wait bits of the old one
pub same_bits_put : (run : ℕ → ℕ) (place x : ℕ) → ((b : ℕ) → b < 8 → bit_at x b ≡ bit_at (run place) b)
    → SameBits run (put run place x)
same_bits_put run place x same p b few =
    put_cases run place x p (λ n. bit_at n b ≡ bit_at (run p) b) (λ here. same b few
    ∙ ap (λ q. bit_at (run q) b) (sym here)) (λ _. refl)

-- a seat puts no wait in for a goal to which it has no right
pub none_pending : (meaning : Meaning) (capacity : ℕ) (cell next : ℕ → ℕ) (looks : List (ℕ × ℕ)) (rights : List Claimed)
    (pending : Option Pending) (place b : ℕ)
    → b < 8 → rights_at place rights ≡ 0 → ArePending meaning capacity cell next looks rights pending
    → count (8 * place + b) (waiting pending) ≡ 0
none_pending meaning capacity cell next looks rights None place b few none_of old = refl
none_pending meaning capacity cell next looks rights (Some x) place b few none_of old =
    let ne : x.waiter ≢ 8 * place + b = λ e.
    let at : x.waiter / 8 ≡ place = omega arith in
    let held = subst (λ p. 1 ≤ rights_at p rights) at old.has.held in
    absurd (omega arith) in
    omega (arith, counts_none x.waiter (8 * place + b) ne)

-- how often a waiter stands in a seat's hands
pub hand_parts : (q : ℕ) (o : Option Pending) (walk : Walk)
    → count q (in_hand o walk) ≡ count q (waiting o) + count q walk.waiters
hand_parts q None walk = omega arith
hand_parts q (Some x) walk = omega arith

-- one of the second list is one of both
pub among_right : {A : Type 0} (l m : List A) (a : A) → Among m a → Among (l ++ m) a
among_right [] m a at = at
among_right (x ∷ xs) m a at = inr (among_right xs m a at)

-- a list with a waiter has a head other than 0
head_some : (l : List ℕ) (q : ℕ) → Among l q → 1 ≤ head_of l
head_some [] q at = absurd at
head_some (p ∷ ps) q at = omega arith

module _ {R : Type 0} (meaning : Meaning) (capacity : ℕ) (m : Mem) (views : List (Hands R))
    (blank : KeepsBlank meaning capacity m)
    (waits : KeepsWaits meaning capacity m.cell m.run m.head m.next views) where
  -- a goal whose wait bit is set stands in its cell
  pub waiter_stands : (q : ℕ) → 1 ≤ wait_bit m.run q → m.cell (q / 8) ≢ 0
  waiter_stands q set_bit = held_stands meaning capacity m (q / 8) blank (waits.near q set_bit)
      (bit_runs (m.run (q / 8)) (q % 8) set_bit)

  -- a goal with a waiter stands in its cell, and is not finished
  pub waited_open : (c q : ℕ) → c < capacity → Among (waits.lists c) q → m.head c < 2 ^ 63
  waited_open c q near at =
      ⊎_elim (λ lt. lt) (λ closed. absurd (subst (λ l. Among l q) (waits.none_left c near closed) at))
      (cases_lt (m.head c) (2 ^ 63))

  pub waited_stands : (c q : ℕ) → c < capacity → Among (waits.lists c) q → m.cell c ≢ 0
  waited_stands c q near at none =
      let is = waits.heads c near (waited_open c q near at) in
      let zero_head = (blank c near (λ holds. holds.0 none)).head in
      let some_head = head_some (waits.lists c) q at in
      absurd (omega arith)

  -- a waiter of a list stands in its cell
  pub listed_stands : (c q : ℕ) → c < capacity → Among (waits.lists c) q → m.cell (q / 8) ≢ 0
  listed_stands c q near at = waiter_stands q
      (listed_waits meaning capacity m.cell m.head m.next m.run views waits c q near
      (among_counts (λ (p : ℕ). p) (waits.lists c) q at))

  -- so does one in a seat's hands
  pub handed_stands : (id : ℕ) (v : Hands R) → get_elem? views id ≡ some v → (q : ℕ)
      → Among (in_hand v.pending v.walk) q → m.cell (q / 8) ≢ 0
  handed_stands id v mine q at =
      waiter_stands q (handed_waits meaning capacity m.cell m.head m.next m.run views id v mine waits q
      (among_counts (λ (p : ℕ). p) (in_hand v.pending v.walk) q at))
