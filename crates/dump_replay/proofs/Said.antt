-- What the lines of a text say.
use Rattle.std.proofs.Common.{◌≡◌, ◌≢◌, ℕ, ◌<◌, ◌^◌, Bool, true, false, List, [], ◌++◌, Option, None, Some, codes, decimal}
use Rattle.std.proofs.Common.{refl, sym, ap, subst, ◌∙◌, arith}
use Rattle.std.specs.Prelude.{MatchOption}
use Rattle.std.specs.Borrow.{Bor}
use Rattle.std.specs.Str.{IsUtf8}
use Rattle.std.proofs.lemmas.Fmt.{IsAscii-decimal}
use Rattle.std.proofs.lemmas.List.{append_cancel_left}
use Rattle.std.proofs.lemmas.Str.{IsUtf8-from_ascii}
use Rattle.query_core.specs.declared.options.RootDist.{RootDist}
use Rattle.query_core.specs.declared.options.RootDist.TheVariants.{One, Spread}
use Rattle.command_line.specs.Numbers.{number_within}
use Rattle.command_line.specs.Options.{root_word}
use Rattle.command_line.specs.Reading.{off_of}
use Rattle.command_line.proofs.WrittenNumbers.{number_read}
use Rattle.dump_replay.specs.Lines.{DumpLine, Ends, HasForm, Lacks, IsCut, capacity, sections_word}
use Rattle.dump_replay.proofs.Cuts.{IsOneLine, same_cut}
use Rattle.dump_replay.proofs.OffLines.{SaysOff, none, some, ascii_from, off_alone}

-- ---- words

-- what is behind a name is a word where it is text
pub word_found : (line name word : List ℕ) (r : Option (Bor (List ℕ))) → line ≡ name ++ word
    → MatchOption r (IsUtf8 word → ⊥) (λ w. w.now ≡ word)
    → MatchOption r ((w : List ℕ) → IsUtf8 w → line ≢ name ++ w) (λ w. line ≡ name ++ w.now)
word_found line name word None whole none_there = λ w utf8 is.
    none_there (subst IsUtf8 (append_cancel_left name w word (sym is ∙ whole)) utf8)
word_found line name word (Some w) whole same = whole ∙ ap (λ (t : List ℕ). name ++ t) (sym same)

pub decimal_utf8 : (n : ℕ) → n < 2 ^ 64 → IsUtf8 (decimal n)
decimal_utf8 n small = IsUtf8-from_ascii (decimal n) (IsAscii-decimal n small)

pub root_utf8 : (root : RootDist) → IsUtf8 (root_word root)
root_utf8 One = IsUtf8-from_ascii (codes "one") (ascii_from (codes "one") refl)
root_utf8 Spread = IsUtf8-from_ascii (codes "spread") (ascii_from (codes "spread") refl)

pub sections_utf8 : (memo trace : Bool) → IsUtf8 (sections_word memo trace)
sections_utf8 false false = IsUtf8-from_ascii [] (ascii_from [] refl)
sections_utf8 true false = IsUtf8-from_ascii (codes " memo") (ascii_from (codes " memo") refl)
sections_utf8 false true = IsUtf8-from_ascii (codes " trace") (ascii_from (codes " trace") refl)
sections_utf8 true true = IsUtf8-from_ascii (codes " memo trace") (ascii_from (codes " memo trace") refl)

-- a word that is read as no capacity is none
pub no_capacity : (line word : List ℕ) → line ≡ codes "capacity " ++ word → number_within 64 1048576 word ≡ None
    → HasForm capacity line → ⊥
no_capacity line word is none_read (n, within, written) =
    let same : word ≡ decimal n = append_cancel_left (codes "capacity ") word (decimal n) (sym is ∙ written) in
    let read : number_within 64 1048576 (decimal n) ≡ Some n = number_read 64 1048576 n within (omega (arith, within.to)) in
    let both : None ≡ Some n = sym none_read ∙ ap (number_within 64 1048576) same ∙ read in
    cc

-- ---- rules that are off

-- the line is the one without rules
pub off_is_none : (line : List ℕ) (set : ℕ) → SaysOff line set → line ≡ codes "off" → set ≡ 0
off_is_none line set (none is zero) alone = zero
off_is_none line set (some word is utf8 read) alone = absurd (off_alone (sym alone ∙ is))

-- the line isn't the one without rules, and no word is behind its name
pub no_rules_said : (line : List ℕ) (set : ℕ) → SaysOff line set → line ≢ codes "off"
    → ((word : List ℕ) → IsUtf8 word → line ≢ codes "off " ++ word) → ⊥
no_rules_said line set (none is zero) other no_word = other is
no_rules_said line set (some word is utf8 read) other no_word = no_word word utf8 is

-- the word behind the name is read as the set
pub rules_said : (line word : List ℕ) (set : ℕ) → SaysOff line set → line ≢ codes "off"
    → line ≡ codes "off " ++ word → off_of word ≡ Some set
rules_said line word set (none is zero) other written = absurd (other is)
rules_said line word set (some again is utf8 read) other written =
    let same : word ≡ again = append_cancel_left (codes "off ") word again (sym written ∙ is) in
    ap off_of same ∙ read

-- ---- lines of a text

-- a text whose first line hasn't the form doesn't begin with a line of that form
pub lacks_form : (line : DumpLine) → ((bytes more : List ℕ) → Ends line bytes more → IsOneLine bytes)
    → (text first rest : List ℕ) → IsCut text first rest → (HasForm line first → ⊥) → Lacks line text
lacks_form line ends text first rest cut no_form bytes more begins =
    let same = same_cut text first bytes rest more cut
    (record { one_line = ends bytes more begins.ends; whole = begins.begins }) in
    no_form (subst (HasForm line) (sym same.0) begins.form)
