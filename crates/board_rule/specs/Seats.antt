-- What each kind of step does to the hands of the seat that makes it.
use Rattle.std.specs.Prelude.{◌≡◌, ◌==◌, ℕ, ◌+◌, ◌-◌, ◌*◌, ◌/◌, ◌%◌, ◌^◌, Bool, false, true, not, ◌&&◌, ◌||◌, bit_or}
use Rattle.std.specs.Prelude.{List, [], ◌∷◌, ◌++◌, map, cond, Option, None, Some, slice_set, replicate, ◌⊎◌}
use Rattle.board_rule.specs.Records.{Claimed, Pending, Walk}
use Rattle.board_rule.specs.Words.{full_word, cell_word, run_word, head_word, cost_word, node_word, who_word, next_word}
use Rattle.board_rule.specs.Waiters.{waiting, rest_of, no_walk, head_of, pushed, cleared}
use Rattle.board_rule.specs.declared.hands.Hands.{Hands}

-- one of the list
abbrev pub Among : {A : Type 0} → List A → A → Type 0
Among [] x = ⊥
Among (y ∷ ys) x = (y ≡ x) ⊎ Among ys x

-- the fact holds of each
abbrev pub Each : {A : Type 0} → (A → Type 0) → List A → Type 0
Each Fact [] = Unit {0}
Each Fact (x ∷ xs) = Fact x × Each Fact xs

-- how often the place stands in the list
abbrev pub times : {A : Type 0} → (A → ℕ) → ℕ → List A → ℕ
times place_of place [] = 0
times place_of place (x ∷ xs) = cond (place_of x == place) 1 0 + times place_of place xs

-- a number of each, added up
abbrev pub total : {A : Type 0} → (A → ℕ) → List A → ℕ
total f [] = 0
total f (x ∷ xs) = f x + total f xs

-- a right that was just claimed
abbrev pub fresh_right : ℕ → Claimed
fresh_right place = record { place = place; waits = 0; cost = None; node = None; who = None }

-- a right without waits whose answer words are stored
abbrev pub answered_right : ℕ → ℕ → ℕ → ℕ → Claimed
answered_right place worker cost node = record {
  place = place;
  waits = 0;
  cost = Some cost;
  node = Some node;
  who = Some (worker + 1);
}

abbrev pub without : ℕ → List Claimed → List Claimed
without place [] = []
without place (right ∷ rights) = cond (right.place == place) rights (right ∷ without place rights)

abbrev pub with_cost : ℕ → ℕ → List Claimed → List Claimed
with_cost place x rights = map (λ r. cond (r.place == place) (record r { cost = Some x }) r) rights

abbrev pub with_node : ℕ → ℕ → List Claimed → List Claimed
with_node place x rights = map (λ r. cond (r.place == place) (record r { node = Some x }) r) rights

abbrev pub with_who : ℕ → ℕ → List Claimed → List Claimed
with_who place x rights = map (λ r. cond (r.place == place) (record r { who = Some x }) r) rights

-- the words that a seat keeps while it is alone, once one of them has changed
abbrev pub changed : ℕ → ℕ → Option (List ℕ) → Option (List ℕ)
changed word x None = None
changed word x (Some words) = Some (slice_set words word x)

-- the number of waits that the right to the goal has
abbrev pub waits_at : ℕ → List Claimed → ℕ
waits_at place [] = 0
waits_at place (right ∷ rights) = cond (right.place == place) right.waits (waits_at place rights)

-- the rights once that to the goal has one wait more
abbrev pub with_wait : ℕ → List Claimed → List Claimed
with_wait place rights = map (λ r. cond (r.place == place) (record r { waits = r.waits + 1 }) r) rights

-- the waiters whose bits a seat answers for
abbrev pub in_hand : Option Pending → Walk → List ℕ
in_hand pending walk = waiting pending ++ walk.waiters

-- a look that stays true: a taken cell, a head, the set full word
abbrev pub lasts : ℕ × ℕ → Bool
lasts look = ((look.0 == full_word) && not (look.1 == 0))
    || (((look.0 % 14 == 1) && not (look.1 == 0)) || (look.0 % 14 == 3))

abbrev pub lasting : List (ℕ × ℕ) → List (ℕ × ℕ)
lasting [] = []
lasting (look ∷ looks) = cond (lasts look) (look ∷ lasting looks) (lasting looks)

-- the goal is ready where nothing is left of its run word
abbrev pub woken_by : ℕ → ℕ → List ℕ → List ℕ
woken_by found waiter woken = cond (cleared found (waiter % 8) == 0) (waiter / 8 ∷ woken) woken

module _ {R : Type 0} where
  -- the first seat's hands at the start
  abbrev pub opening_hands : R → ℕ → Hands R
  opening_hands rules capacity = record {
    marker = record {};
    rules = Some rules;
    capacity = capacity;
    parts = 64;
    alone = Some (replicate (14 * capacity + 1) 0);
    looks = [];
    puts = [];
    claims = [];
    suspensions = [];
    done = [];
    woken = [];
    rights = [];
    pending = None;
    walk = no_walk;
  }

  -- the hands of a seat that was taken in by another
  abbrev pub spent : Hands R
  spent = record {
    marker = record {};
    rules = None;
    capacity = 0;
    parts = 0;
    alone = None;
    looks = [];
    puts = [];
    claims = [];
    suspensions = [];
    done = [];
    woken = [];
    rights = [];
    pending = None;
    walk = no_walk;
  }

  abbrev pub looked : Hands R → ℕ → ℕ → Hands R
  looked v word found = record v { looks = (word, found) ∷ v.looks }

  -- a word entered an empty cell
  abbrev pub placed : Hands R → ℕ → ℕ → Hands R
  placed v place word = record v {
    alone = changed (cell_word place) word v.alone;
    looks = (cell_word place, word) ∷ ((cell_word place, 0) ∷ v.looks);
    puts = word ∷ v.puts;
  }

  -- a ready goal was claimed
  abbrev pub claimed : Hands R → ℕ → Hands R
  claimed v place = record v {
    alone = changed (run_word place) 256 v.alone;
    looks = (run_word place, 0) ∷ v.looks;
    claims = place ∷ v.claims;
    rights = fresh_right place ∷ v.rights;
  }

  -- a goal was suspended: its held bit was cleared
  abbrev pub suspended : Hands R → ℕ → ℕ → Hands R
  suspended v place found = record v {
    alone = changed (run_word place) (cleared found 8) v.alone;
    looks = (run_word place, found) ∷ v.looks;
    suspensions = record { place = place; waits = waits_at place v.rights } ∷ v.suspensions;
    rights = without place v.rights;
  }

  -- a goal was finished: its head was closed, and the seat walks the list of its waiters
  abbrev pub finished : Hands R → ℕ → ℕ → ℕ → ℕ → List ℕ → Hands R
  finished v place worker cost node waiters = record v {
    alone = changed (head_word place) (2 ^ 63) v.alone;
    looks = (head_word place, head_of waiters) ∷ v.looks;
    done = record { place = place; worker = worker; cost = cost; node = node } ∷ v.done;
    rights = without place v.rights;
    walk = record { child = place; waiters = waiters; next = None };
  }

  -- the bit of the right's next wait was set
  abbrev pub wait_begun : Hands R → ℕ → ℕ → Hands R
  wait_begun v place found = record v {
    alone = changed (run_word place) (bit_or found (2 ^ waits_at place v.rights)) v.alone;
    looks = (run_word place, found) ∷ v.looks;
    pending = Some (record { waiter = 8 * place + waits_at place v.rights; child = 0; seen = None; linked = false });
  }

  -- a child's head was seen, for the wait that is being put in
  abbrev pub head_seen : Hands R → Pending → ℕ → ℕ → Hands R
  head_seen v x child found = record v {
    looks = (head_word child, found) ∷ v.looks;
    pending = Some (record { waiter = x.waiter; child = child; seen = Some found; linked = false });
  }

  -- the next word of the waiter was stored, for the head last seen
  abbrev pub next_stored : Hands R → Pending → ℕ → Hands R
  next_stored v x head = record v {
    alone = changed (next_word x.waiter) (head % 2 ^ 24) v.alone;
    pending = Some (record x { linked = true });
  }

  -- the waiter went in first, and its wait is the right's
  abbrev pub wait_put : Hands R → Pending → ℕ → Hands R
  wait_put v x head = record v {
    alone = changed (head_word x.child) (pushed head x.waiter) v.alone;
    looks = (head_word x.child, head) ∷ v.looks;
    rights = with_wait (x.waiter / 8) v.rights;
    pending = None;
  }

  -- the next word of the first waiter was read
  abbrev pub next_read : Hands R → ℕ → ℕ → Hands R
  next_read v waiter found = record v {
    looks = (next_word waiter, found) ∷ v.looks;
    walk = record { child = v.walk.child; waiters = v.walk.waiters; next = Some found };
  }

  -- the bit of the first waiter was cleared
  abbrev pub bit_cleared : Hands R → ℕ → ℕ → Hands R
  bit_cleared v waiter found = record v {
    alone = changed (run_word (waiter / 8)) (cleared found (waiter % 8)) v.alone;
    looks = (run_word (waiter / 8), found) ∷ v.looks;
    woken = woken_by found waiter v.woken;
    walk = record { child = v.walk.child; waiters = rest_of v.walk.waiters; next = None };
  }

  -- the bit of the wait that was being put in was cleared
  abbrev pub wait_dropped : Hands R → Pending → ℕ → Hands R
  wait_dropped v x found = record v {
    alone = changed (run_word (x.waiter / 8)) (cleared found (x.waiter % 8)) v.alone;
    looks = (run_word (x.waiter / 8), found) ∷ v.looks;
    woken = woken_by found x.waiter v.woken;
    pending = None;
  }

  abbrev pub cost_stored : Hands R → ℕ → ℕ → Hands R
  cost_stored v place x = record v { alone = changed (cost_word place) x v.alone; rights = with_cost place x v.rights }

  abbrev pub node_stored : Hands R → ℕ → ℕ → Hands R
  node_stored v place x = record v { alone = changed (node_word place) x v.alone; rights = with_node place x v.rights }

  abbrev pub who_stored : Hands R → ℕ → ℕ → Hands R
  who_stored v place x = record v { alone = changed (who_word place) x v.alone; rights = with_who place x v.rights }

  -- the full word was set
  abbrev pub filled : Hands R → Hands R
  filled v = record v { alone = changed full_word 1 v.alone; looks = (full_word, 1) ∷ v.looks }

  -- a new seat was made of this one
  abbrev pub parted : Hands R → Hands R
  parted v = record v { parts = v.parts - 1; alone = None }

  -- the new seat: it has the looks of the one that made it, and one part
  abbrev pub part : Hands R → Hands R
  part v = record v {
    parts = 1;
    alone = None;
    puts = [];
    claims = [];
    suspensions = [];
    done = [];
    woken = [];
    rights = [];
    pending = None;
    walk = no_walk;
  }

  -- the hands of a seat that took in another
  abbrev pub joined : Hands R → Hands R → Hands R
  joined v other = record v {
    parts = v.parts + other.parts;
    looks = lasting other.looks ++ v.looks;
    puts = other.puts ++ v.puts;
    claims = other.claims ++ v.claims;
    suspensions = other.suspensions ++ v.suspensions;
    done = other.done ++ v.done;
    woken = other.woken ++ v.woken;
  }
