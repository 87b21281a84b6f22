-- An option is found by its word.
use Rattle.std.proofs.Common.{◌≡◌, ℕ, List, Option, None, Some, IfSome, bytes_eq, refl, sym, ap, ◌∙◌}
use Rattle.std.proofs.lemmas.Slice.Eq.{bytes_eq-Decides}
use Rattle.command_line.specs.Options.{option_word, all_options}
use Rattle.command_line.specs.Reading.{option_named}
use Rattle.command_line.specs.declared.options.OptionName.{OptionName}
use Rattle.command_line.specs.declared.options.OptionName.TheVariants as names
use Rattle.command_line.proofs.RuleNames.{found_passes}

-- an option's word is the word of that option
pub option_of_own_word : (option : OptionName) → option_named (option_word option) ≡ Some option
option_of_own_word names.Workers = refl
option_of_own_word names.Capacity = refl
option_of_own_word names.Root = refl
option_of_own_word names.Off = refl
option_of_own_word names.Memo = refl
option_of_own_word names.Trace = refl
option_of_own_word names.ByWorker = refl

-- an option that is found has this word
pub word_of_found : (word : List ℕ) (option : OptionName) → option_named word ≡ Some option → option_word option ≡ word
word_of_found word option is = sym ((bytes_eq-Decides word (option_word option)).0
    (found_passes (λ o. bytes_eq word (option_word o)) all_options option is))

-- what is found is what has the word
pub named_by : (word : List ℕ) (read : Option OptionName) → IfSome read (λ option. option_word option ≡ word)
    → ((option : OptionName) → option_word option ≡ word → read ≡ Some option) → option_named word ≡ read
named_by word None found only = of_found (option_named word) refl
  where
    of_found : (o : Option OptionName) → option_named word ≡ o → option_named word ≡ None
    of_found None is = is
    of_found (Some option) is = cc (only option (word_of_found word option is))
named_by word (Some option) found only = ap option_named (sym found) ∙ option_of_own_word option
