-- A fetch-or that sets the bit of a right's next wait keeps soundness.
use Rattle.std.proofs.Common.{◌≡◌, ℕ, ◌+◌, ◌*◌, ◌/◌, ◌%◌, ◌^◌, ◌<◌, ◌≤◌, ◌≢◌, false, List, [], ◌∷◌, None}
use Rattle.std.proofs.Common.{Some, bit_or, get_or, set, sym, refl, ap, subst, ◌∙◌, ⊎_elim, arith}
use mathlib.Core.Option.{some, none}
use lib.ListN.{get_elem?}
use Rattle.std.specs.Int.{bit_at}
use Rattle.std.proofs.lemmas.Bool.{cases_eq}
use Rattle.atomic_table.specs.Table.{keeps, step, Allows}
use Rattle.board_rule.specs.Meaning.{Meaning}
use Rattle.board_rule.specs.Records.{Claimed}
use Rattle.board_rule.specs.Words.{Mem, mem, put, run_word}
use Rattle.board_rule.specs.Waiters.{wait_bit}
use Rattle.board_rule.specs.Seats.{Each, waits_at, in_hand, wait_begun}
use Rattle.board_rule.specs.Soundness.{IsRaised, KeepsRights, KeepsWaits, IsSound}
use Rattle.board_rule.specs.May.{HasPart, HasRight, MayBegin}
use Rattle.board_rule.specs.Plays.{Sat, TellsBeginWait}
use Rattle.board_rule.specs.declared.hands.Hands.{Hands}
use Rattle.board_rule.proofs.Lists.{among_counts, put_here, put_else, put_cases, each_as, total-set}
use Rattle.board_rule.proofs.Lists.{terms_le}
use Rattle.board_rule.proofs.Frames.{told_left}
use Rattle.board_rule.proofs.Rights.{rights_at, bit_runs, held_by, rights_at_run}
use Rattle.board_rule.proofs.Chains.{count, set_same, set_other}
use Rattle.board_rule.proofs.RunWords.{blank_running, run_step_keeps}
use Rattle.board_rule.proofs.Raised.{count_one, count_none, raised_at, raised_else, waits_known}
use Rattle.board_rule.proofs.Looking.{Holds}

-- the seat has the right to the goal, with fewer than eight waits, and puts no other wait in
record MayWait {R : Type 0} (capacity : ℕ) (v : Hands R) (place : ℕ) : Type 0 where
  pub has : HasRight capacity v.rights place
  pub fewer : waits_at place v.rights < 8
  pub free : v.pending ≡ None

-- a goal of which a wait bit was set is held as before
rights_begun : {R : Type 0} (capacity : ℕ) (m : Mem) (views : List (Hands R)) (id : ℕ) (v : Hands R) (place : ℕ)
    → get_elem? views id ≡ some v → MayWait capacity v place
    → KeepsRights capacity m.run m.head views
    → KeepsRights capacity (put m.run place (bit_or (m.run place) (2 ^ waits_at place v.rights))) m.head
    (set views id (wait_begun v place (m.run place)))
rights_begun capacity m views id v place mine may old =
    let b : ℕ = waits_at place v.rights in
    let few = may.fewer in
    let is = held_by capacity m.run m.head views id v place mine may.has old in
    rights_at_run views id v (wait_begun v place (m.run place)) mine capacity m.run m.head place
    (bit_or (m.run place) (2 ^ b)) may.has.near is.not_ended (set_other (m.run place) b 8 (λ e. omega arith))
    (λ i high none. set_other (m.run place) b i (λ e. omega arith) ∙ none) refl refl old

-- the waiter stands in the seat's hands, and its bit is set
waits_begun : {R : Type 0} (meaning : Meaning) (capacity : ℕ) (m : Mem) (views : List (Hands R)) (id : ℕ)
    (v w : Hands R)
    (place b : ℕ) → get_elem? views id ≡ some v → place < capacity → b < 8
    → bit_at (m.run place) b ≡ 0 → in_hand w.pending w.walk ≡ (8 * place + b) ∷ in_hand v.pending v.walk
    → KeepsWaits meaning capacity m.cell m.run m.head m.next views
    → KeepsWaits meaning capacity m.cell (put m.run place (bit_or (m.run place) (2 ^ b))) m.head m.next (set views id w)
waits_begun meaning capacity m views id v w place b mine near few unset one_more old = record {
  lists = old.lists;
  none_left = old.none_left;
  heads = old.heads;
  chains = old.chains;
  joined = old.joined;
  once = λ q.
      let hands = total-set (λ (u : Hands _). count q (in_hand u.pending u.walk)) views id v w mine in
      let more : count q (in_hand w.pending w.walk) ≡ count q ((8 * place + b) ∷ []) + count q
      (in_hand v.pending v.walk) = ap (count q) one_more ∙ omega arith in
      let once = old.once q in
      ⊎_elim
      (λ (e : q ≡ 8 * place + b). omega (arith, bits_here q e, zero_here q e, count_one q (8 * place + b) e))
      (λ (ne : q ≢ 8 * place + b). omega (arith, bits_else q ne, count_none q (8 * place + b) ne))
      (cases_eq q (8 * place + b));
  near = λ q set_bit.
      ⊎_elim
      (λ (e : q ≡ 8 * place + b). omega arith)
      (λ (ne : q ≢ 8 * place + b). old.near q (subst (λ n. 1 ≤ n) (bits_else q ne) set_bit))
      (cases_eq q (8 * place + b));
}
  where
    bits_here : (q : ℕ) → q ≡ 8 * place + b → wait_bit (put m.run place (bit_or (m.run place) (2 ^ b))) q ≡ 1
    bits_here q e =
        let at : q / 8 ≡ place = omega arith in
        let bit : q % 8 ≡ b = omega arith in
        (λ i. bit_at (put m.run place (bit_or (m.run place) (2 ^ b)) (at i)) (bit i))
        ∙ ap (λ n. bit_at n b) (put_here m.run place (bit_or (m.run place) (2 ^ b))) ∙ set_same (m.run place) b

    zero_here : (q : ℕ) → q ≡ 8 * place + b → wait_bit m.run q ≡ 0
    zero_here q e =
        let at : q / 8 ≡ place = omega arith in
        let bit : q % 8 ≡ b = omega arith in
        (λ i. bit_at (m.run (at i)) (bit i)) ∙ unset

    bits_else : (q : ℕ) → q ≢ 8 * place + b → wait_bit (put m.run place (bit_or (m.run place) (2 ^ b))) q ≡ wait_bit
        m.run q
    bits_else q ne =
        put_cases m.run place (bit_or (m.run place) (2 ^ b)) (q / 8) (λ n. bit_at n (q % 8) ≡ wait_bit m.run q)
        (λ at. set_other (m.run place) b (q % 8) (λ bit. ne (omega arith))
        ∙ ap (λ p. bit_at (m.run p) (q % 8)) (sym at))
        (λ _. refl)

-- the rights of the seat, once the bit of a wait of one was set
raised_begun : (run : ℕ → ℕ) (place b : ℕ) (rights : List Claimed) → b < 8 → Each (IsRaised run None) rights
    → Each (IsRaised (put run place (bit_or (run place) (2 ^ b)))
    (Some (record { waiter = 8 * place + b; child = 0; seen = None; linked = false }))) rights
raised_begun run place b rights within =
    each_as (IsRaised run None) (IsRaised (put run place x)
    (Some (record { waiter = 8 * place + b; child = 0; seen = None; linked = false })))
    (λ r old. record {
      few = old.few;
      others = λ c more few. put_cases run place x r.place
          (λ n. bit_at n c ≡ count (8 * r.place + c) ((8 * place + b) ∷ []))
          (λ at. ⊎_elim
          (λ same. ap (bit_at x) same ∙ set_same (run place) b
          ∙ sym (count_one (8 * r.place + c) (8 * place + b) (omega arith)))
          (λ else. set_other (run place) b c else ∙ ap (λ p. bit_at (run p) c) (sym at) ∙ old.others c more few
          ∙ sym (count_none (8 * r.place + c) (8 * place + b) (λ e. else (omega arith))))
          (cases_eq c b))
          (λ ne. old.others c more few ∙ sym (count_none (8 * r.place + c) (8 * place + b) (λ e. ne (omega arith))));
    }) rights
  where
    x : ℕ
    x = bit_or (run place) (2 ^ b)

module _ {R : Type 0} (meaning_of : R → Meaning) (rules : R) (capacity : ℕ) where
  -- a board is sound once a seat has set the bit of its right's next wait
  begin_keeps : (words : List ℕ) (views : List (Hands R)) (id : ℕ) (v : Hands R) (place : ℕ)
      → IsSound (meaning_of rules) rules capacity words views → get_elem? views id ≡ some v
      → 0 < v.parts → MayWait capacity v place
      → let found = get_or words (run_word place) 0 in
      IsSound (meaning_of rules) rules capacity (set words (run_word place)
      (bit_or found (2 ^ waits_at place v.rights)))
      (set views id (wait_begun v place found))
  begin_keeps words views id v place sound mine some_part may =
      let meaning : Meaning = meaning_of rules in
      let m : Mem = mem words in
      let b : ℕ = waits_at place v.rights in
      let x : ℕ = bit_or (m.run place) (2 ^ b) in
      let run : ℕ → ℕ = put m.run place x in
      let w : Hands R = wait_begun v place (m.run place) in
      let k = sound.by_kinds in
      let own = k.hands id v mine in
      let near = may.has.near in
      let within = may.fewer in
      let is = held_by capacity m.run m.head views id v place mine may.has k.rights in
      let raised : Each (IsRaised m.run None) v.rights =
      subst (λ o. Each (IsRaised m.run o) v.rights) may.free own.raised in
      let unset : bit_at (m.run place) b ≡ 0 =
      (raised_at m.run None place v.rights may.has.held raised).1 b (omega arith) within in
      let at : (8 * place + b) / 8 ≡ place = omega arith in
      let bit : (8 * place + b) % 8 ≡ b = omega arith in
      run_step_keeps meaning_of rules capacity words views id v w place (m.run place) x sound mine some_part near
      (record {
        blank = blank_running meaning capacity m place x (bit_runs (m.run place) 8 (omega (arith, is.runs))) k.blank;
        rights = rights_begun capacity m views id v place mine may k.rights;
        waits = waits_begun meaning capacity m views id v w place b mine near within unset
            (ap (λ o. (8 * place + b) ∷ in_hand o v.walk) (sym may.free)) k.waits;
        others = λ other u ne there h.
            let both = terms_le (λ (y : Hands R). rights_at place y.rights) views id other v u ne mine there in
            raised_else m.run run place u.pending u.rights (λ p apart. put_else m.run place x p apart)
            (omega (arith, both, is.held_once, is.right_once)) h.raised;
        stored = own.stored;
        ends = own.ends;
        raised = raised_begun m.run place b v.rights within raised;
        pends = record {
          has = subst (HasRight capacity v.rights) (sym at) may.has;
          its_wait = ap (λ p. waits_at p v.rights) at ∙ sym bit;
          seen = λ head e. let no : ⊥ = cc in absurd no;
          looked = λ head e. let no : ⊥ = cc in absurd no;
        };
        walked = own.walked;
      })

  -- the holder of a right sets the bit of its next wait
  pub begin_allowed : (slots id : ℕ) (me : Sat R) (i : ℕ) (r : Claimed) (mask : ℕ) → i ≡ run_word r.place
      → mask ≡ 2 ^ r.waits → HasPart me.0 → MayBegin capacity me.0 r
      → Allows (Holds meaning_of rules capacity) slots id me i (λ n. bit_or n mask)
      (TellsBeginWait meaning_of (step slots i mask 0 none) me)
  begin_allowed slots id me i r mask is is_mask some_part may =
      rw is (λ s sound homes mine fits.
      let found : ℕ = get_or s.words (run_word r.place) 0 in
      let left : Hands R = wait_begun me.0 r.place found in
      let has : HasRight capacity me.0.rights r.place =
      record { near = may.near; held = among_counts (λ (q : Claimed). q.place) me.0.rights r may.held } in
      let held = held_by capacity (mem s.words).run (mem s.words).head s.views id me.0 r.place mine has
      sound.by_kinds.rights in
      let waits : waits_at r.place me.0.rights ≡ r.waits =
      waits_known me.0.rights r (omega (arith, held.right_once)) may.held in
      let full_may : MayWait capacity me.0 r.place =
      record { has = has; fewer = subst (λ n. n < 8) (sym waits) may.fewer; free = may.free } in (
        left,
        keeps,
        tt,
        subst (λ k. IsSound (meaning_of rules) rules capacity (set s.words (run_word r.place) (bit_or found k))
            (set s.views id left)) (ap (λ n. 2 ^ n) waits ∙ sym is_mask)
            (begin_keeps s.words s.views id me.0 r.place sound mine some_part full_may),
        λ p same.
            let p_is : p ≡ r.place = omega (arith, same) in
            rw p_is
            (told_left meaning_of rules capacity s.words s.views id me.0 (run_word r.place) sound mine some_part left
            me.1),
      ))
