-- A board is sound at the start.
use Rattle.std.proofs.Common.{◌/◌, ◌≡◌, ℕ, zero, suc, ◌+◌, ◌*◌, ◌%◌, List, [], ◌∷◌, get_or, replicate, sym, refl, ap}
use Rattle.std.proofs.Common.{None, subst, ◌∙◌, inr, arith}
use Rattle.std.proofs.lemmas.List.{length-replicate}
use mathlib.Core.Option.{some, some-injective, some-ne-none}
use lib.ListN.{get_elem?}
use Rattle.atomic_table.specs.Table.{opening}
use Rattle.word_table.proofs.ProbingLemmas.{empty_is_set}
use Rattle.std.specs.Int.{bit_at}
use Rattle.std.proofs.lemmas.Nat.Bits.{bit_at-zero}
use Rattle.board_rule.specs.Meaning.{Meaning}
use Rattle.board_rule.specs.Words.{Mem, mem, full_word, cell_word, run_word, head_word}
use Rattle.board_rule.specs.Waiters.{wait_bit, no_walk}
use Rattle.board_rule.specs.Seats.{opening_hands}
use Rattle.board_rule.specs.Soundness.{IsWalked, IsAwake, AreHands, KeepsAlone}
use Rattle.board_rule.specs.declared.hands.Hands.{Hands}
use Rattle.board_rule.proofs.Chains.{count, below_none}
use Rattle.board_rule.proofs.Looking.{Holds}

-- every word is 0 at the start
zeros : (n i : ℕ) → get_or {A = ℕ} (replicate n 0) i 0 ≡ 0
zeros zero i = refl
zeros (suc n) zero = refl
zeros (suc n) (suc i) = zeros n i

-- the one of a list of one
only_of : {A : Type 0} → (a b : A) (j : ℕ) → get_elem? (a ∷ []) j ≡ some b → a ≡ b
only_of a b zero e = some-injective a b e
only_of a b (suc j) e = absurd (some-ne-none b (sym e))

-- a seat that walks no list
pub walks_none : (meaning : Meaning) (capacity : ℕ) (cell head next : ℕ → ℕ)
    → IsWalked meaning capacity cell head next no_walk
walks_none meaning capacity cell head next =
    record { chained = tt; read = λ found is. let no : ⊥ = cc in absurd no; waited = tt }

module _ {R : Type 0} where
  -- a seat that has looked at nothing, and neither did anything nor holds anything
  abbrev pub with_nothing : Hands R → Hands R
  with_nothing v = record v {
    looks = [];
    claims = [];
    suspensions = [];
    done = [];
    rights = [];
    pending = None;
    walk = no_walk;
  }

  pub hands_of_nothing : (meaning : Meaning) (rules : R) (capacity : ℕ) (m : Mem) (v : Hands R)
      → IsAwake rules capacity (with_nothing v) → AreHands meaning rules capacity m (with_nothing v)
  hands_of_nothing meaning rules capacity m v awake = record {
    stays = record {
      cells = λ p found at. absurd at;
      heads = λ p found at. absurd at;
      set_full = λ found at. absurd at;
    };
    absence = tt;
    recorded = tt;
    stored = tt;
    ends = λ p. refl;
    raised = tt;
    pends = tt;
    walked = walks_none meaning capacity m.cell m.head m.next;
    awake = awake;
  }

module _ {R : Type 0} (meaning_of : R → Meaning) (rules : R) (capacity : ℕ) where
  -- at the start all words are 0, and one seat has all parts
  pub start_sound : Holds meaning_of rules capacity (opening (replicate (14 * capacity + 1) 0) []
      (opening_hands rules capacity))
  start_sound =
      let words : List ℕ = replicate (14 * capacity + 1) 0 in
      let v : Hands R = opening_hands rules capacity in
      let z : (i : ℕ) → get_or words i 0 ≡ 0 = zeros (14 * capacity + 1) in
      record {
        count = length-replicate (14 * capacity + 1) 0;
        by_kinds = record {
          cells = record {
            enter = λ p near taken. absurd (taken (z (cell_word p)));
            are_set = empty_is_set capacity (mem words).cell (λ p _. z (cell_word p));
          };
          blank = λ p near _. record { run = z _; head = z _; cost = z _; node = z _; who = z _; next = λ b _. z _ };
          rights = λ p near. record {
            once = omega arith;
            running = ap (λ n. bit_at n 8) (z (run_word p)) ∙ bit_at-zero 8;
            small = λ i _. ap (λ n. bit_at n i) (z (run_word p)) ∙ bit_at-zero i;
            closed = λ one. absurd (omega arith);
            run_ended = λ one. absurd (omega arith);
            is_open = λ _. let e : (mem words).head p ≡ 0 = z (head_word p) in omega arith;
          };
          waits = record {
            lists = λ _. [];
            none_left = λ c near closed. refl;
            heads = λ c near is_open. z (head_word c);
            chains = λ c near. tt;
            joined = λ c near. tt;
            once = λ q. let none_listed = below_none (λ c. count q []) capacity (λ p near. refl) in
                omega (arith, none_listed) ∙ sym (ap (λ n. bit_at n (q % 8)) (z (run_word (q / 8)))
                ∙ bit_at-zero (q % 8));
            near = λ q set_bit. let e : wait_bit (mem words).run q ≡ 0 =
                ap (λ n. bit_at n (q % 8)) (z (run_word (q / 8))) ∙ bit_at-zero (q % 8) in absurd (omega arith);
          };
          promises = record {
            promise = λ p near closed. let e : (mem words).head p ≡ 0 = z _ in absurd (omega arith);
            answer = λ p near closed. let e : (mem words).head p ≡ 0 = z _ in absurd (omega arith);
          };
          full = λ set_full. absurd (set_full (z full_word));
          hands = λ id u there. subst (AreHands (meaning_of rules) rules capacity (mem words)) (only_of v u id there)
              (hands_of_nothing (meaning_of rules) rules capacity (mem words) v (inr (omega arith, refl, refl)));
          parts = refl;
        };
        alone = λ id u there. subst (KeepsAlone words (v ∷ [])) (only_of v u id there)
            (record { every_word = λ kept is. let e : words ≡ kept = cc in sym e; only = λ kept is. refl });
      }
