-- A store in one word of a board changes one kind of word, at one place.
use Rattle.std.proofs.Common.{◌≡◌, ℕ, ◌+◌, ◌*◌, ◌%◌, ◌<◌, ◌≤◌, ◌≢◌, Bool, List, length, get_or, set, cond, eqb}
use Rattle.std.proofs.Common.{sym, refl, ap, ◌∙◌, arith, get_or-set_other, get_or-set_same}
use Rattle.board_rule.specs.Words.{Mem, mem, put, full_word, cell_word, run_word, head_word, cost_word, node_word}
use Rattle.board_rule.specs.Words.{who_word, next_word}
use Rattle.board_rule.proofs.Lists.{cond_cases}

-- boards that agree in all their words are one
agree : (m n : Mem) → m.full ≡ n.full → ((p : ℕ) → m.cell p ≡ n.cell p) → ((p : ℕ) → m.run p ≡ n.run p)
    → ((p : ℕ) → m.head p ≡ n.head p)
    → ((p : ℕ) → m.cost p ≡ n.cost p) → ((p : ℕ) → m.node p ≡ n.node p) → ((p : ℕ) → m.who p ≡ n.who p)
    → ((p : ℕ) → m.next p ≡ n.next p) → m ≡ n
agree m n full cell run head cost node who next =
    λ i. record {
      full = full i;
      cell = λ p. cell p i;
      run = λ p. run p i;
      head = λ p. head p i;
      cost = λ p. cost p i;
      node = λ p. node p i;
      who = λ p. who p i;
      next = λ p. next p i;
    }

module _ (words : List ℕ) (word x : ℕ) (within : word < length words) where
  -- words of another number stay
  other : (of : ℕ → ℕ) → ((p : ℕ) → of p ≢ word) → (p : ℕ) → get_or (set words word x) (of p) 0 ≡ get_or words (of p) 0
  other of apart p = get_or-set_other words word (of p) x 0 (apart p)

  -- words of the kind of that number change at its place
  same : (of : ℕ → ℕ) (at : ℕ) → word ≡ of at → ((p : ℕ) → of p ≡ of at → p ≡ at) → (p : ℕ)
      → get_or (set words word x) (of p) 0 ≡ put (λ q. get_or words (of q) 0) at x p
  same of at is one p = cond_cases p at x (get_or words (of p) 0) (λ y. get_or (set words word x) (of p) 0 ≡ y)
      (λ e. ap (λ k. get_or (set words word x) k 0) (ap of e ∙ sym is) ∙ get_or-set_same words word x 0 within)
      (λ ne. get_or-set_other words word (of p) x 0 (λ e. ne (one p (e ∙ is))))

-- the function, but for its value at one place where the two kinds are one
abbrev put_if : Bool → (ℕ → ℕ) → ℕ → ℕ → ℕ → ℕ
put_if is_kind f at x p = cond is_kind (put f at x p) (f p)

-- of the six kinds with one word at each place, a store in a word of one kind changes words of this kind alone
module _ (words : List ℕ) (kind at x : ℕ) (some_kind : 1 ≤ kind) (few_kinds : kind ≤ 6)
    (within : 14 * at + kind < length words) where
  kind_put : (other_kind : ℕ) → other_kind ≤ 6 → (p : ℕ) → get_or (set words (14 * at + kind) x) (14 * p + other_kind) 0
      ≡ put_if (eqb kind other_kind) (λ q. get_or words (14 * q + other_kind) 0) at x p
  kind_put other_kind few p =
      let f : ℕ → ℕ = λ q. get_or words (14 * q + other_kind) 0 in
      cond_cases kind other_kind (put f at x p) (f p)
      (λ y. get_or (set words (14 * at + kind) x) (14 * p + other_kind) 0 ≡ y)
      (λ e. same words (14 * at + kind) x within (λ q. 14 * q + other_kind) at (ap (λ k. 14 * at + k) e)
      (λ q same_word. omega arith) p)
      (λ ne. other words (14 * at + kind) x within (λ q. 14 * q + other_kind) (λ q same_word. omega arith) p)

  put_kind : mem (set words (14 * at + kind) x) ≡ record {
    full = (mem words).full;
    cell = put_if (eqb kind 1) (mem words).cell at x;
    run = put_if (eqb kind 2) (mem words).run at x;
    head = put_if (eqb kind 3) (mem words).head at x;
    cost = put_if (eqb kind 4) (mem words).cost at x;
    node = put_if (eqb kind 5) (mem words).node at x;
    who = put_if (eqb kind 6) (mem words).who at x;
    next = (mem words).next;
  }
  put_kind = agree _ _ (get_or-set_other words (14 * at + kind) full_word x 0 (λ e. omega arith))
      (kind_put 1 (omega arith)) (kind_put 2 (omega arith)) (kind_put 3 (omega arith)) (kind_put 4 (omega arith))
      (kind_put 5 (omega arith)) (kind_put 6 (omega arith))
      (other words (14 * at + kind) x within next_word (λ q e. let b : q % 8 < 8 = omega arith in omega arith))

pub put_cell : (words : List ℕ) (at x : ℕ) → cell_word at < length words
    → mem (set words (cell_word at) x) ≡ record (mem words) { cell = put (mem words).cell at x }
put_cell words at x = put_kind words 1 at x (omega arith) (omega arith)

pub put_run : (words : List ℕ) (at x : ℕ) → run_word at < length words
    → mem (set words (run_word at) x) ≡ record (mem words) { run = put (mem words).run at x }
put_run words at x = put_kind words 2 at x (omega arith) (omega arith)

pub put_head : (words : List ℕ) (at x : ℕ) → head_word at < length words
    → mem (set words (head_word at) x) ≡ record (mem words) { head = put (mem words).head at x }
put_head words at x = put_kind words 3 at x (omega arith) (omega arith)

pub put_cost : (words : List ℕ) (at x : ℕ) → cost_word at < length words
    → mem (set words (cost_word at) x) ≡ record (mem words) { cost = put (mem words).cost at x }
put_cost words at x = put_kind words 4 at x (omega arith) (omega arith)

pub put_node : (words : List ℕ) (at x : ℕ) → node_word at < length words
    → mem (set words (node_word at) x) ≡ record (mem words) { node = put (mem words).node at x }
put_node words at x = put_kind words 5 at x (omega arith) (omega arith)

pub put_who : (words : List ℕ) (at x : ℕ) → who_word at < length words
    → mem (set words (who_word at) x) ≡ record (mem words) { who = put (mem words).who at x }
put_who words at x = put_kind words 6 at x (omega arith) (omega arith)

pub put_next : (words : List ℕ) (at x : ℕ) → next_word at < length words
    → mem (set words (next_word at) x) ≡ record (mem words) { next = put (mem words).next at x }
put_next words at x within =
    let few : at % 8 < 8 = omega arith in
    agree _ _ (get_or-set_other words (next_word at) full_word x 0 (λ e. omega arith))
    (other words (next_word at) x within cell_word (λ p e. omega arith))
    (other words (next_word at) x within run_word (λ p e. omega arith))
    (other words (next_word at) x within head_word (λ p e. omega arith))
    (other words (next_word at) x within cost_word (λ p e. omega arith))
    (other words (next_word at) x within node_word (λ p e. omega arith))
    (other words (next_word at) x within who_word (λ p e. omega arith))
    (same words (next_word at) x within next_word at refl (λ q e. let b : q % 8 < 8 = omega arith in omega arith))

pub put_full : (words : List ℕ) (x : ℕ) → full_word < length words
    → mem (set words full_word x) ≡ record (mem words) { full = x }
put_full words x within = agree _ _ (get_or-set_same words full_word x 0 within)
    (other words full_word x within cell_word (λ p e. omega arith))
    (other words full_word x within run_word (λ p e. omega arith))
    (other words full_word x within head_word (λ p e. omega arith))
    (other words full_word x within cost_word (λ p e. omega arith))
    (other words full_word x within node_word (λ p e. omega arith))
    (other words full_word x within who_word (λ p e. omega arith))
    (other words full_word x within next_word (λ q e. omega arith))
