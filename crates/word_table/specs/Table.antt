-- A table of words: its cells in order, of which 0 is an empty one.
use Rattle.std.specs.Prelude.{◌≡◌, ◌≢◌, ◌≤◌, ◌<◌, ◌^◌, ℕ, List, length, slice_index, slice_set, EachIndex}
use Rattle.word_table.specs.declared.outcome.Inserted.{Inserted}
use Rattle.word_table.specs.declared.outcome.Inserted.TheVariants.{Fresh, Known, Full}
use Rattle.word_table.specs.declared.probing.Probe.{Probe}
use Rattle.word_table.specs.declared.probing.Probe.TheVariants.{At, Gap, Round}
use Rattle.word_table.specs.Probing.{home_of, steps_to, PassesOthers, IsWordSet}

-- the cells are a set of words, in 1 to 2^20 cells
pub record IsTable (cells : List ℕ) : Type 0 where
  pub some : 1 ≤ length cells
  pub few : length cells ≤ 2 ^ 20
  pub words : IsWordSet (length cells) (λ place. slice_index cells place)

-- the word stands in the cell at the place
pub record StandsAt (cells : List ℕ) (word at : ℕ) : Type 0 where
  pub in_range : at < length cells
  pub is : slice_index cells at ≡ word
  pub is_word : word ≢ 0

-- the word stands in no cell
abbrev pub StandsNowhere : List ℕ → ℕ → Type 0
StandsNowhere cells word = (at : ℕ) → ¬ (StandsAt cells word at)

-- the word stood nowhere, was put into the empty cell at the place, and every other cell is as it was
pub record PutsWord (old new : List ℕ) (word at : ℕ) : Type 0 where
  pub absent : StandsNowhere old word
  pub empty : slice_index old at ≡ 0
  pub in_range : at < length old
  pub changed : new ≡ slice_set old at word

-- every cell is taken, none by the word
pub record IsFullWithout (cells : List ℕ) (word : ℕ) : Type 0 where
  pub absent : StandsNowhere cells word
  pub taken : EachIndex cells (λ at. slice_index cells at ≢ 0)

-- what an answer says of the cells before and after
abbrev pub Inserts : List ℕ → ℕ → Inserted → List ℕ → Type 0
Inserts old word (Fresh at) new = PutsWord old new word at
Inserts old word (Known at) new = StandsAt old word at × (new ≡ old)
Inserts old word Full new = IsFullWithout old word × (new ≡ old)

-- the cell at the place is empty, and the word's probe came to it over other words alone
pub record IsGapFor (cells : List ℕ) (word at : ℕ) : Type 0 where
  pub in_range : at < length cells
  pub empty : slice_index cells at ≡ 0
  pub passed : let capacity = length cells in
      PassesOthers capacity (λ place. slice_index cells place) word (steps_to capacity (home_of word capacity) at)

-- where a probe for the word ended
abbrev pub EndsProbe : List ℕ → ℕ → Probe → Type 0
EndsProbe cells word (At at) = StandsAt cells word at
EndsProbe cells word (Gap at) = IsGapFor cells word at
EndsProbe cells word Round = PassesOthers (length cells) (λ place. slice_index cells place) word (length cells)
