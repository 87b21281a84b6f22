-- The words of a board by their kinds. Word 0 is the full word, and each place has 14 words from then on.
use Rattle.std.specs.Prelude.{◌==◌, ℕ, ◌+◌, ◌*◌, ◌/◌, ◌%◌, List, slice_index, cond}

abbrev pub full_word : ℕ
full_word = 0

-- which word may have entered here; 0 is an empty cell
abbrev pub cell_word : ℕ → ℕ
cell_word place = 14 * place + 1

-- 256 where the goal is held or finished
abbrev pub run_word : ℕ → ℕ
run_word place = 14 * place + 2

-- 2 ^ 63 where the goal is finished
abbrev pub head_word : ℕ → ℕ
head_word place = 14 * place + 3

abbrev pub cost_word : ℕ → ℕ
cost_word place = 14 * place + 4

abbrev pub node_word : ℕ → ℕ
node_word place = 14 * place + 5

-- the worker plus 1
abbrev pub who_word : ℕ → ℕ
who_word place = 14 * place + 6

-- the words of waiter lists, eight at each place: a waiter is 8 times a place, plus a number below 8
abbrev pub next_word : ℕ → ℕ
next_word waiter = 14 * (waiter / 8) + 7 + waiter % 8

-- the words of a board, each kind as a function of the place
pub record Mem : Type 0 where
  pub full : ℕ
  pub cell : ℕ → ℕ
  pub run : ℕ → ℕ
  pub head : ℕ → ℕ
  pub cost : ℕ → ℕ
  pub node : ℕ → ℕ
  pub who : ℕ → ℕ
  pub next : ℕ → ℕ

abbrev pub mem : List ℕ → Mem
mem words = record {
  full = slice_index words full_word;
  cell = λ p. slice_index words (cell_word p);
  run = λ p. slice_index words (run_word p);
  head = λ p. slice_index words (head_word p);
  cost = λ p. slice_index words (cost_word p);
  node = λ p. slice_index words (node_word p);
  who = λ p. slice_index words (who_word p);
  next = λ q. slice_index words (next_word q);
}

-- the function, but for its value at one place
abbrev pub put : (ℕ → ℕ) → ℕ → ℕ → ℕ → ℕ
put f at x p = cond (p == at) x (f p)
