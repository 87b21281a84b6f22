-- What a head that is closed leaves of each topic.
use Rattle.std.proofs.Common.{ℕ, ◌^◌, ◌≤◌, List, ◌∷◌, sym, subst, ◌∙◌, inl, ⊎_elim, arith, ◌≡◌, ◌+◌}
use Rattle.std.proofs.Common.{◌<◌, set, cond, eqb, refl, ap, None}
use Rattle.std.proofs.Common.{[], ◌/◌}
use Rattle.board_rule.specs.Meaning.{Meaning}
use Rattle.board_rule.specs.Records.{Claimed}
use Rattle.board_rule.specs.Words.{Mem, put, head_word}
use Rattle.board_rule.specs.Waiters.{IsLater, head_of, IsChain}
use Rattle.board_rule.specs.Soundness.{IsPromised, KeepsPromises, Stays}
use Rattle.board_rule.specs.Soundness.{KeepsRights, IsRaised, KeepsWaits, EndsClaims}
use Rattle.board_rule.specs.Soundness.{held, ended}
use Rattle.board_rule.proofs.Lists.{put_else, put_cases, put_here, counts_one, counts_none}
use Rattle.board_rule.proofs.Lists.{total-set}
use mathlib.Core.Option.{some}
use lib.ListN.{get_elem?}
use Rattle.std.proofs.lemmas.Bool.{cases_eq, cases_lt}
use Rattle.std.specs.Int.{bit_at}
use Rattle.std.proofs.lemmas.Nat.Bits.{same_from_bits}
use Rattle.board_rule.specs.Seats.{Each, in_hand, without, finished}
use Rattle.board_rule.specs.May.{HasRight}
use Rattle.board_rule.specs.declared.hands.Hands.{Hands}
use Rattle.board_rule.proofs.Rights.{held_by, held-set, ended-set, rights_moved, rights_at}
use Rattle.board_rule.proofs.Rights.{without_here, without_else}
use Rattle.board_rule.proofs.Chains.{count, put_list, put_list_cases, below_put_list}
use Rattle.board_rule.proofs.Claiming.{held_alone}
use Rattle.board_rule.proofs.HeadTopics.{promised_still}
use Rattle.board_rule.proofs.Truths.{stays_looked}
use Rattle.board_rule.specs.Looks.{Looked}

module _ (meaning : Meaning) (capacity : ℕ) (m : Mem) (place : ℕ) where
  -- a closed head stays closed
  pub closed_stays : (p : ℕ) → 2 ^ 63 ≤ m.head p → 2 ^ 63 ≤ put m.head place (2 ^ 63) p
  closed_stays p closed = put_cases m.head place (2 ^ 63) p (λ x. 2 ^ 63 ≤ x) (λ _. omega arith) (λ _. closed)

  pub stays_close : (looks : List (ℕ × ℕ)) → Stays m.cell m.head m.full looks
      → Stays m.cell (put m.head place (2 ^ 63)) m.full looks
  stays_close looks old =
      let heads : (p found : ℕ) → Looked looks (head_word p) found → IsLater found (put m.head place (2 ^ 63) p) =
      λ p found at. put_cases m.head place (2 ^ 63) p (IsLater found) (λ _. inl (omega arith))
      (λ _. old.heads p found at) in
      assumption (old, heads)

  -- the seat's own look found the head open
  pub own_stays_close : (seen : ℕ) (looks : List (ℕ × ℕ)) → Stays m.cell m.head m.full looks
      → Stays m.cell (put m.head place (2 ^ 63)) m.full ((head_word place, seen) ∷ looks)
  own_stays_close seen looks old =
      stays_looked m.cell (put m.head place (2 ^ 63)) m.full looks (head_word place) seen
      (λ p e. absurd (omega (arith, e)))
      (λ p e. put_cases m.head place (2 ^ 63) p (IsLater seen) (λ _. inl (omega arith))
      (λ ne. absurd (ne (omega (arith, e)))))
      (λ e. absurd (omega (arith, e))) (stays_close looks old)

  -- the closed goal keeps its promise and has its answer, as those before
  pub promises_close : IsPromised meaning capacity m.cell m.head (m.cell place)
      → meaning.answer (m.cell place) (m.cost place) (m.node place)
      → KeepsPromises meaning capacity m.cell m.head m.cost m.node
      → KeepsPromises meaning capacity m.cell (put m.head place (2 ^ 63)) m.cost m.node
  promises_close promise answer old = record {
    promise = λ p near. put_cases m.head place (2 ^ 63) p (λ x. 2 ^ 63 ≤ x
        → IsPromised meaning capacity m.cell (put m.head place (2 ^ 63)) (m.cell p))
        (λ here _. subst (λ q. IsPromised meaning capacity m.cell (put m.head place (2 ^ 63)) (m.cell q)) (sym here)
        (promised_still meaning capacity m (put m.head place (2 ^ 63)) closed_stays (m.cell place) promise))
        (λ _ closed. promised_still meaning capacity m (put m.head place (2 ^ 63)) closed_stays (m.cell p)
        (old.promise p near closed));
    answer = λ p near. put_cases m.head place (2 ^ 63) p (λ x. 2 ^ 63 ≤ x
        → meaning.answer (m.cell p) (m.cost p) (m.node p))
        (λ here _. subst (λ q. meaning.answer (m.cell q) (m.cost q) (m.node q)) (sym here) answer)
        (λ _ closed. old.answer p near closed);
  }

-- a held goal without waits has the held bit alone in its run word
pub runs_alone : (run : ℕ → ℕ) (place : ℕ) (r : Claimed) → r.place ≡ place → r.waits ≡ 0 → bit_at (run place) 8 ≡ 1
    → ((i : ℕ) → 9 ≤ i → bit_at (run place) i ≡ 0)
    → IsRaised run None r → run place ≡ 256
runs_alone run place r at waits runs small raised = same_from_bits (run place) 256 (λ i.
    ⊎_elim
    (λ low. ap (λ p. bit_at (run p) i) (sym at) ∙ raised.others i (omega arith) low
    ∙ sym (held_alone i (λ e. omega arith)))
    (λ high. ⊎_elim (λ e. ap (bit_at (run place)) e ∙ runs ∙ sym (ap (bit_at 256) e))
    (λ ne. small i (omega arith) ∙ sym (held_alone i ne)) (cases_eq i 8))
    (cases_lt i 8))

-- the right goes to what the seat finished
pub rights_close : {R : Type 0} (capacity : ℕ) (run head : ℕ → ℕ) (views : List (Hands R)) (id : ℕ) (v : Hands R)
    (place worker cost node : ℕ)
    (waiters : List ℕ) → get_elem? views id ≡ some v
    → HasRight capacity v.rights place → run place ≡ 256 → KeepsRights capacity run head views
    → KeepsRights capacity run (put head place (2 ^ 63)) (set views id (finished v place worker cost node waiters))
rights_close {R = R} capacity run head views id v place worker cost node waiters mine has settled old =
    let w : Hands R = finished v place worker cost node waiters in
    let was = old place has.near in
    let is = held_by capacity run head views id v place mine has old in
    let gone = without_here place v.rights has.held in
    let one : cond {A = ℕ} (eqb place place) 1 0 ≡ 1 = counts_one place place refl in
    let h : held (set views id w) place ≡ 0 =
    omega (arith, held-set views id v w mine place, is.held_once, is.right_once) in
    let d : ended (set views id w) place ≡ 1 = omega (arith, ended-set views id v w mine place, is.not_ended) in
    rights_moved views id v w mine capacity run head run (put head place (2 ^ 63)) place
    (λ p ne. without_else place p v.rights ne) (λ p ne. omega (arith, counts_none place p (λ e. ne (sym e))))
    (λ _ _. refl) (λ p ne. put_else head place (2 ^ 63) p ne)
    (record {
      once = omega (arith, h, d);
      running = is.runs ∙ omega (arith, h, d);
      small = was.small;
      closed = λ _. put_here head place (2 ^ 63);
      run_ended = λ _. settled;
      is_open = λ none_done. absurd (omega arith);
    })
    old

-- the waiters of the goal go from its list to the seat's hands
pub waits_close : {R : Type 0} (meaning : Meaning) (capacity : ℕ) (m : Mem) (views : List (Hands R)) (id : ℕ)
    (v w : Hands R) (place : ℕ)
    (old : KeepsWaits meaning capacity m.cell m.run m.head m.next views) → get_elem? views id ≡ some v
    → place < capacity → in_hand v.pending v.walk ≡ [] → in_hand w.pending w.walk ≡ old.lists place
    → KeepsWaits meaning capacity m.cell m.run (put m.head place (2 ^ 63)) m.next (set views id w)
waits_close {R = R} meaning capacity m views id v w place old mine near free walks = record {
  lists = put_list old.lists place [];
  none_left = λ c in_range. put_cases m.head place (2 ^ 63) c (λ x. 2 ^ 63 ≤ x → put_list old.lists place [] c ≡ [])
      (λ here _. put_list_cases old.lists place [] c (λ l. l ≡ []) (λ _. refl) (λ ne. absurd (ne here)))
      (λ _ closed. put_list_cases old.lists place [] c (λ l. l ≡ []) (λ _. refl)
      (λ _. old.none_left c in_range closed));
  heads = λ c in_range. put_cases m.head place (2 ^ 63) c (λ x. x < 2 ^ 63
      → x ≡ head_of (put_list old.lists place [] c))
      (λ _ is_open. absurd (omega arith))
      (λ ne is_open. put_list_cases old.lists place [] c (λ l. m.head c ≡ head_of l) (λ here. absurd (ne here))
      (λ _. old.heads c in_range is_open));
  chains = λ c in_range. put_list_cases old.lists place [] c (IsChain m.next) (λ _. tt) (λ _. old.chains c in_range);
  joined = λ c in_range. put_list_cases old.lists place [] c
      (Each (λ q. meaning.child (m.cell (q / 8)) (m.cell c))) (λ _. tt) (λ _. old.joined c in_range);
  once = λ q.
      let lists = below_put_list old.lists capacity place [] q near in
      let hands = total-set (λ (u : Hands R). count q (in_hand u.pending u.walk)) views id v w mine in
      let were : count q (in_hand v.pending v.walk) ≡ 0 = ap (count q) free in
      let are : count q (in_hand w.pending w.walk) ≡ count q (old.lists place) = ap (count q) walks in
      let once = old.once q in
      omega arith;
  near = old.near;
}

pub ends_close : {R : Type 0} (v : Hands R) (place worker cost node : ℕ) (waiters : List ℕ)
    → 1 ≤ rights_at place v.rights
    → EndsClaims v → EndsClaims (finished v place worker cost node waiters)
ends_close v place worker cost node waiters has old p = ⊎_elim
    (λ here. let less : rights_at p (without place v.rights) + 1 ≡ rights_at p v.rights =
    subst (λ q. rights_at q (without place v.rights) + 1 ≡ rights_at q v.rights) (sym here)
    (without_here place v.rights has) in
    omega (arith, old p, counts_one place p (sym here)))
    (λ else. omega (arith, old p, without_else place p v.rights else, counts_none place p (λ e. else (sym e))))
    (cases_eq p place)
