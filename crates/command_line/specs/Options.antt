-- The options: which task takes them, how each is spelled, and what it chooses.
use Rattle.std.specs.Prelude.{ℕ, ◌*◌, List, [], ◌∷◌, ◌≡◌, Bool, true, false, codes, IsTrue, nat_eq, nat_le, bytes_eq, Option}
use Rattle.std.specs.Prelude.{None, Some}
use Rattle.std.specs.List.{list_any, position_or_len}
use Rattle.query_core.specs.declared.options.RootDist.{RootDist}
use Rattle.query_core.specs.declared.options.RootDist.TheVariants.{One, Spread}
use Rattle.query_core.specs.Results.{AreOptions}
use Rattle.xform_rules.specs.declared.rules.Rule.{Rule}
use Rattle.command_line.specs.Numbers.{IsWithin, IsNumber}
use Rattle.command_line.specs.Rules.{may_be_off, off_set, rules_word}
use Rattle.command_line.specs.declared.settings.Settings.{Settings}
use Rattle.command_line.specs.declared.options.TaskName.{TaskName}
use Rattle.command_line.specs.declared.options.TaskName.TheVariants as tasks
use Rattle.command_line.specs.declared.options.OptionName.{OptionName}
use Rattle.command_line.specs.declared.options.OptionName.TheVariants as names

-- ---- the tables: of an option its word, and what it chooses; of a task its options

-- the word of an option
abbrev pub option_word : OptionName → List ℕ
option_word names.Workers = codes "--workers"
option_word names.Capacity = codes "--capacity"
option_word names.Root = codes "--root"
option_word names.Off = codes "--off"
option_word names.Memo = codes "--memo"
option_word names.Trace = codes "--trace"
option_word names.ByWorker = codes "--by-worker"

-- what stands behind an option's word, and what is chosen by it: a number within bounds, a distribution of the root,
-- rules that are off, or nothing
pub data Setting : Type 0 where
  a_number : (low high : ℕ) → (ℕ → Settings → Settings) → Setting
  a_root : (RootDist → Settings → Settings) → Setting
  some_rules : (ℕ → Settings → Settings) → Setting
  alone : (Settings → Settings) → Setting

-- that of each option
abbrev pub setting_of : OptionName → Setting
setting_of names.Workers = a_number 1 64 (λ workers c. record c { workers = workers })
setting_of names.Capacity = a_number 64 1048576 (λ capacity c. record c { capacity = capacity })
setting_of names.Root = a_root (λ dist c. record c { options = record c.options { root = dist } })
setting_of names.Off = some_rules (λ set c. record c { options = record c.options { off = set } })
setting_of names.Memo = alone (λ c. record c { memo = true })
setting_of names.Trace = alone (λ c. record c { trace = true })
setting_of names.ByWorker = alone (λ c. record c { by_worker = true })

-- all options
abbrev pub all_options : List OptionName
all_options = names.Workers ∷ names.Capacity ∷ names.Root ∷ names.Off ∷ names.Memo ∷ names.Trace ∷ names.ByWorker ∷ []

-- those that the task takes
abbrev pub options_of : TaskName → List OptionName
options_of tasks.Plan =
    names.Workers ∷ names.Capacity ∷ names.Root ∷ names.Off ∷ names.Memo ∷ names.Trace ∷ names.ByWorker ∷ []
options_of tasks.Gen = names.Workers ∷ names.Capacity ∷ []
options_of tasks.Stages = names.Workers ∷ names.Capacity ∷ names.Root ∷ []
options_of tasks.Check = names.Root ∷ names.Off ∷ []
options_of tasks.Dump = names.Capacity ∷ names.Root ∷ names.Off ∷ names.Memo ∷ names.Trace ∷ []
options_of tasks.Replay = names.Workers ∷ []
options_of tasks.Batch =
    names.Workers ∷ names.Capacity ∷ names.Root ∷ names.Off ∷ names.Memo ∷ names.Trace ∷ []

-- the task allows what is chosen for it: in a batch each worker has a board of its own, and all boards together have at
-- most 8388608 cells
abbrev pub allows : TaskName → Settings → Bool
allows tasks.Plan settings = true
allows tasks.Gen settings = true
allows tasks.Stages settings = true
allows tasks.Check settings = true
allows tasks.Dump settings = true
allows tasks.Replay settings = true
allows tasks.Batch settings = nat_le (settings.workers * settings.capacity) 8388608

-- ---- what follows from the tables

-- the number of an option: its place among all
abbrev pub option_number : OptionName → ℕ
option_number option = position_or_len (λ other. bytes_eq (option_word other) (option_word option)) all_options

-- the task takes the option
abbrev pub takes_option : TaskName → OptionName → Bool
takes_option task option = list_any (λ taken. nat_eq (option_number taken) (option_number option)) (options_of task)

-- something stands behind the option's word
abbrev pub has_value : Setting → Bool
has_value (a_number low high set) = true
has_value (a_root set) = true
has_value (some_rules set) = true
has_value (alone set) = false

abbrev pub takes_value : OptionName → Bool
takes_value option = has_value (setting_of option)

-- ---- values

-- the word for a distribution of the root
abbrev pub root_word : RootDist → List ℕ
root_word One = codes "one"
root_word Spread = codes "spread"

-- the word names rules that are this set
pub record AreRules (set : ℕ) (words : List (List ℕ)) : Type 0 where
  pub some : List Rule
  pub may : IsTrue (may_be_off some)
  pub is_set : set ≡ off_set some
  pub word : words ≡ rules_word some ∷ []

-- the words of a value, if there is one
abbrev pub value_words : Option (List ℕ) → List (List ℕ)
value_words None = []
value_words (Some word) = word ∷ []

-- with this value behind it the option takes the settings before to those after
abbrev pub Chooses : Setting → Option (List ℕ) → Settings → Settings → Type 0
Chooses (a_number low high set) value before after =
    (n : ℕ) × IsNumber low high n (value_words value) × (after ≡ set n before)
Chooses (a_root set) value before after =
    (dist : RootDist) × (value_words value ≡ root_word dist ∷ []) × (after ≡ set dist before)
Chooses (some_rules set) value before after = (off : ℕ) × AreRules off (value_words value) × (after ≡ set off before)
Chooses (alone set) value before after = after ≡ set before

-- ---- what a command chooses

-- one worker, room for 131072 members and goals, the result at one place, no rule off, and nothing behind the plan
abbrev pub usual : Settings
usual = record {
  workers = 1;
  capacity = 131072;
  options = record { root = One; off = 0 };
  memo = false;
  trace = false;
  by_worker = false;
}

-- the numbers lie within their bounds, and the rules may be off
pub record AreSettings (c : Settings) : Type 0 where
  pub workers : IsWithin 1 64 c.workers
  pub capacity : IsWithin 64 1048576 c.capacity
  pub options : AreOptions c.options
