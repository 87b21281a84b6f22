-- What the options that are given choose is read as it is spelled.
use Rattle.std.proofs.Common.{◌≡◌, ℕ, ◌<◌, ◌^◌, List, [], ◌∷◌, Option, None, Some, option_map, decimal, refl, sym, ap}
use Rattle.std.proofs.Common.{◌∙◌, arith}
use Rattle.std.specs.Bool.{⊤}
use Rattle.std.specs.List.{fold}
use Rattle.std.specs.Option.{option_and_then}
use Rattle.command_line.specs.Numbers.{number_within}
use Rattle.command_line.specs.Rules.{rules_word}
use Rattle.command_line.specs.Options.{Setting, a_number, a_root, some_rules, alone, setting_of, value_words, root_word}
use Rattle.command_line.specs.Options.{Chooses}
use Rattle.command_line.specs.Command.{Given, AreChosen}
use Rattle.command_line.specs.Reading.{root_of, off_of, chosen_by, chosen}
use Rattle.command_line.specs.declared.settings.Settings.{Settings}
use Rattle.command_line.specs.declared.options.OptionName.{OptionName}
use Rattle.command_line.specs.declared.options.OptionName.TheVariants as names
use Rattle.command_line.proofs.WrittenNumbers.{number_read, number_spelled}
use Rattle.command_line.proofs.Values.{root_read, root_spelled, off_read, off_spelled}

-- ---- one option

-- a value whose words are one is that word
one_value : (value : Option (List ℕ)) (word : List ℕ) → value_words value ≡ word ∷ [] → value ≡ Some word
one_value None word is = cc
one_value (Some other) word is = let same : other ≡ word = cc in ap Some same

-- a number of the option has 64 bits
abbrev HasWords : Setting → Type 0
HasWords (a_number low high set) = high < 2 ^ 64
HasWords (a_root set) = ⊤
HasWords (some_rules set) = ⊤
HasWords (alone set) = ⊤

has_words : (option : OptionName) → HasWords (setting_of option)
has_words names.Workers = omega arith
has_words names.Capacity = omega arith
has_words names.Root = tt
has_words names.Off = tt
has_words names.Memo = tt
has_words names.Trace = tt
has_words names.ByWorker = tt

-- what is chosen is read
chosen_read : (setting : Setting) (value : Option (List ℕ)) (before after : Settings) → HasWords setting
    → Chooses setting value before after → chosen_by setting value before ≡ Some after
chosen_read (a_number low high set) value before after small (n, is, same) =
    let read : number_within low high (decimal n) ≡ Some n =
    number_read low high n is.within (omega (arith, small, is.within.to)) in
    rw (one_value value (decimal n) is.word) (ap (option_map (λ k. set k before)) read ∙ ap Some (sym same))
chosen_read (a_root set) value before after small (dist, is, same) =
    rw (one_value value (root_word dist) is) (ap (option_map (λ d. set d before)) (root_read dist) ∙ ap Some (sym same))
chosen_read (some_rules set) value before after small (off, is, same) =
    rw (one_value value (rules_word is.some) is.word)
    (ap (option_map (λ o. set o before)) (off_read is.some is.may ∙ ap Some (sym is.is_set)) ∙ ap Some (sym same))
chosen_read (alone set) value before after small same = ap Some (sym same)

-- a value that is read
record IsRead {V : Type 0} (read : List ℕ → Option V) (set : V → Settings) (value : Option (List ℕ))
    (after : Settings) :
    Type 0 where
  found : V
  word : List ℕ
  there : value ≡ Some word
  is_read : read word ≡ Some found
  same : after ≡ set found

read_parts : {V : Type 0} (read : List ℕ → Option V) (set : V → Settings) (value : Option (List ℕ)) (after : Settings)
    → option_map set (option_and_then read value) ≡ Some after → IsRead read set value after
read_parts read set None after is = cc
read_parts {V} read set (Some word) after is = of_found (read word) refl is
  where
    of_found : (found : Option V) → read word ≡ found → option_map set found ≡ Some after
        → IsRead read set (Some word) after
    of_found None was made = cc
    of_found (Some v) was made =
        let same : set v ≡ after = cc in
        record { found = v; word = word; there = refl; is_read = was; same = sym same }

-- what is read is chosen so
read_chosen : (setting : Setting) (value : Option (List ℕ)) (before after : Settings)
    → chosen_by setting value before ≡ Some after → Chooses setting value before after
read_chosen (a_number low high set) value before after is =
    let parts = read_parts (number_within low high) (λ n. set n before) value after is in
    rw parts.there (parts.found, number_spelled low high parts.word parts.found parts.is_read, parts.same)
read_chosen (a_root set) value before after is =
    let parts = read_parts root_of (λ d. set d before) value after is in
    rw parts.there (parts.found, ap (λ w. w ∷ []) (root_spelled parts.word parts.found parts.is_read), parts.same)
read_chosen (some_rules set) value before after is =
    let parts = read_parts off_of (λ o. set o before) value after is in
    rw parts.there (parts.found, off_spelled parts.word parts.found parts.is_read, parts.same)
read_chosen (alone set) value before after is = let same : set before ≡ after = cc in sym same

-- ---- options, one behind the other

-- where one has no value of its own, nothing is chosen by all
pub none_chosen : (some : List Given) → fold chosen None some ≡ None
none_chosen [] = refl
none_chosen (one ∷ more) = none_chosen more

-- what they choose is read
pub all_chosen : (before : Settings) (some : List Given) (after : Settings) → AreChosen before some after
    → fold chosen (Some before) some ≡ Some after
all_chosen before [] after same = ap Some (sym same)
all_chosen before (one ∷ more) after (middle, chooses, rest) =
    ap (λ c. fold chosen c more) (chosen_read (setting_of one.option) one.value before middle
    (has_words one.option) chooses)
    ∙ all_chosen middle more after rest

-- what is read is chosen so
pub chosen_spelled : (before : Settings) (some : List Given) (after : Settings)
    → fold chosen (Some before) some ≡ Some after → AreChosen before some after
chosen_spelled before [] after is = let same : before ≡ after = cc in sym same
chosen_spelled before (one ∷ more) after is =
    of_first (λ middle rest. chosen_spelled middle more after rest) (chosen_by (setting_of one.option) one.value before)
    refl is
  where
    of_first : ((middle : Settings) → fold chosen (Some middle) more ≡ Some after → AreChosen middle more after)
        → (c : Option Settings) → chosen_by (setting_of one.option) one.value before ≡ c
        → fold chosen c more ≡ Some after → AreChosen before (one ∷ more) after
    of_first others None was made = let none : fold chosen None more ≡ None = none_chosen more in cc
    of_first others (Some middle) was made =
        (middle, read_chosen (setting_of one.option) one.value before middle was, others middle made)
