-- The line of the rules that are off.
use Rattle.std.proofs.Common.{◌≡◌, ◌≢◌, ℕ, ◌+◌, ◌*◌, ◌<◌, ◌≤◌, Bool, false, cond, get_or, subst, List, [], ◌∷◌, ◌++◌, map, codes, Some, refl, sym, ap, ◌∙◌}
use Rattle.std.proofs.Common.{append_assoc, filter, nat_eq, nat_le, nat_lt, drop, take, length, true, arith}
use Rattle.std.specs.Str.{IsAscii, IsUtf8}
use Rattle.std.proofs.lemmas.List.{append-nil, length-append, map_push}
use Rattle.std.proofs.lemmas.List.Elements.{filter_more}
use Rattle.std.proofs.lemmas.List.Sums.{count_by-le-length, length-filter}
use Rattle.std.proofs.lemmas.Bool.Decides.{nat_tests}
use Rattle.std.proofs.lemmas.Bool.{and_parts, leb-true, ltb-true}
use Rattle.std.proofs.lemmas.Str.{IsAscii-append, IsUtf8-from_ascii}
use Rattle.std.proofs.lemmas.Str.Ascii.{IsAscii-cons, IsAscii-nil}
use Rattle.std.specs.List.{join_with_byte, list_all}
use Rattle.query_core.specs.Sets.{bit}
use Rattle.xform_rules.specs.Rules.{all_rules, rule_name, rule_number}
use Rattle.xform_rules.specs.declared.rules.Rule.{Rule}
use Rattle.xform_rules.specs.declared.rules.Rule.TheVariants as rules
use Rattle.xform_rules.proofs.EveryRule.{every_rule}
use Rattle.query_stage.specs.OffRules.{MayBeOff}
use Rattle.command_line.specs.Reading.{off_of}
use Rattle.command_line.specs.Rules.{rules_word}
use Rattle.dump_replay.specs.Lines.{is_one_line, off_line, rules_in, rules_line}
use Rattle.dump_replay.proofs.Cuts.{IsOneLine, both_one_line}
use Rattle.dump_replay.proofs.Rules.{set_read, set_of_none}

-- those among the first so many rules that the set has
abbrev pub rules_before : ℕ → ℕ → List Rule
rules_before set count = filter (λ rule. nat_eq (bit set (rule_number rule)) 1) (take count all_rules)

-- what stands before one name more
abbrev pub sign : List Rule → List ℕ
sign [] = codes " "
sign (rule ∷ more) = codes "+"

-- a name more, behind others
join_more : (first : List ℕ) (others : List (List ℕ)) (last : List ℕ)
    → join_with_byte 43 (first ∷ (others ++ last ∷ [])) ≡ join_with_byte 43 (first ∷ others) ++ (43 ∷ last)
join_more first [] last = refl
join_more first (second ∷ others) last =
    ap (λ (text : List ℕ). first ++ (43 ∷ text)) (join_more second others last)
    ∙ sym (append_assoc first (43 ∷ join_with_byte 43 (second ∷ others)) (43 ∷ last))

-- a rule more in the line
pub one_more_rule : (some : List Rule) (rule : Rule)
    → rules_line (some ++ rule ∷ []) ≡ (rules_line some ++ sign some) ++ rule_name rule
one_more_rule [] rule = refl
one_more_rule (first ∷ others) rule =
    ap (λ (text : List ℕ). codes "off " ++ text)
    (ap (λ (names : List (List ℕ)). join_with_byte 43 (rule_name first ∷ names)) (map_push rule_name others rule)
    ∙ join_more (rule_name first) (map rule_name others) (rule_name rule))
    ∙ sym (append_assoc (codes "off " ++ rules_word (first ∷ others)) (43 ∷ []) (rule_name rule))

-- the line without rules isn't one with some
pub off_alone : {word : List ℕ} → codes "off" ≡ codes "off " ++ word → ⊥
off_alone {word} is = absurd (omega (arith, ap length is))

-- ---- a line that is being written

-- bytes below 128 are ASCII
pub ascii_from : (text : List ℕ) → list_all (λ byte. nat_lt byte 128) text ≡ true → IsAscii text
ascii_from [] low = IsAscii-nil
ascii_from (byte ∷ text) low =
    let parts = and_parts (nat_lt byte 128) (list_all (λ b. nat_lt b 128) text) low in
    IsAscii-cons byte text (ltb-true byte 128 parts.0) (ascii_from text parts.1)

-- the line of those of the first so many rules that the set has, and what stands before one name more
pub record IsSpelled (set count : ℕ) (line before : List ℕ) : Type 0 where
  pub spelled : line ≡ rules_line (rules_before set count)
  pub next : before ≡ sign (rules_before set count)
  pub text : IsUtf8 before

plus_next : (some : List Rule) (rule : Rule) → sign (some ++ rule ∷ []) ≡ codes "+"
plus_next [] rule = refl
plus_next (first ∷ others) rule = refl

-- a rule that the set has is added
pub rule_added : (set count : ℕ) (rule : Rule) (line before new next : List ℕ) → IsSpelled set count line before
    → count < length all_rules → rule ≡ get_or all_rules count rules.ExpandNAry → bit set (rule_number rule) ≡ 1
    → new ≡ (line ++ before) ++ rule_name rule → next ≡ codes "+" → IsSpelled set (count + 1) new next
rule_added set count rule line before new next so_far within here has added plus =
    let test : Rule → Bool = λ r. nat_eq (bit set (rule_number r)) 1 in
    let passes : test (get_or all_rules count rules.ExpandNAry) ≡ true = rw (← here, has) refl in
    let more : rules_before set (count + 1) ≡ rules_before set count ++ rule ∷ [] =
    filter_more test all_rules count rules.ExpandNAry within
    ∙ ap (λ (b : Bool). rules_before set count ++ cond b (get_or all_rules count rules.ExpandNAry ∷ []) []) passes
    ∙ ap (λ (r : Rule). rules_before set count ++ r ∷ []) (sym here) in
    record {
      spelled = added ∙ ap (λ (l : List ℕ). (l ++ before) ++ rule_name rule) so_far.spelled
          ∙ ap (λ (b : List ℕ). (rules_line (rules_before set count) ++ b) ++ rule_name rule) so_far.next
          ∙ sym (one_more_rule (rules_before set count) rule) ∙ ap rules_line (sym more);
      next = plus ∙ sym (plus_next (rules_before set count) rule) ∙ ap sign (sym more);
      text = subst IsUtf8 (sym plus) (IsUtf8-from_ascii (codes "+") (ascii_from (codes "+") refl));
    }

-- a rule that the set hasn't is left out
pub rule_left : (set count : ℕ) (rule : Rule) (line before : List ℕ) → IsSpelled set count line before
    → count < length all_rules → rule ≡ get_or all_rules count rules.ExpandNAry → (bit set (rule_number rule) ≡ 1 → ⊥)
    → IsSpelled set (count + 1) line before
rule_left set count rule line before so_far within here has_not =
    let test : Rule → Bool = λ r. nat_eq (bit set (rule_number r)) 1 in
    let other : bit set (rule_number rule) ≢ 1 = has_not in
    let no : nat_eq (bit set (rule_number rule)) 1 ≡ false = grind (arith, nat_tests) in
    let fails : test (get_or all_rules count rules.ExpandNAry) ≡ false = rw (← here) no in
    let same : rules_before set (count + 1) ≡ rules_before set count =
    filter_more test all_rules count rules.ExpandNAry within
    ∙ ap (λ (b : Bool). rules_before set count ++ cond b (get_or all_rules count rules.ExpandNAry ∷ []) []) fails
    ∙ append-nil (rules_before set count) in
    record {
      spelled = so_far.spelled ∙ ap rules_line (sym same);
      next = so_far.next ∙ ap sign (sym same);
      text = so_far.text;
    }

-- nothing is written but the line's name
pub none_spelled : (set : ℕ) → IsSpelled set 0 (codes "off") (codes " ")
none_spelled set = record {
  spelled = refl;
  next = refl;
  text = IsUtf8-from_ascii (codes " ") (ascii_from (codes " ") refl);
}

-- ---- one line

name_one_line : (rule : Rule) → IsOneLine (rule_name rule)
name_one_line = every_rule (λ rule. is_one_line (rule_name rule)) refl

word_one_line : (first : Rule) (others : List Rule) → IsOneLine (rules_word (first ∷ others))
word_one_line first [] = name_one_line first
word_one_line first (second ∷ others) =
    both_one_line (rule_name first) (43 ∷ rules_word (second ∷ others)) (name_one_line first) (word_one_line second others)

rules_one_line : (some : List Rule) → IsOneLine (rules_line some)
rules_one_line [] = refl
rules_one_line (rule ∷ more) = word_one_line rule more

pub off_one_line : (set : ℕ) → IsOneLine (off_line set)
off_one_line set = rules_one_line (rules_in set)

-- ---- what the line says

name_ascii : (rule : Rule) → IsAscii (rule_name rule)
name_ascii rule =
    ascii_from (rule_name rule) (every_rule (λ r. list_all (λ byte. nat_lt byte 128) (rule_name r)) refl rule)

word_ascii : (first : Rule) (others : List Rule) → IsAscii (rules_word (first ∷ others))
word_ascii first [] = name_ascii first
word_ascii first (second ∷ others) =
    IsAscii-append (rule_name first) (43 ∷ rules_word (second ∷ others)) (name_ascii first)
    (IsAscii-cons 43 (rules_word (second ∷ others)) (omega arith) (word_ascii second others))

-- the line says no rule, or rules that are read as the set
pub data SaysOff (line : List ℕ) (set : ℕ) : Type 0 where
  none : line ≡ codes "off" → set ≡ 0 → SaysOff line set
  some : (word : List ℕ) → line ≡ codes "off " ++ word → IsUtf8 word → off_of word ≡ Some set → SaysOff line set

pub line_says : (line : List ℕ) (set : ℕ) → MayBeOff set → line ≡ off_line set → SaysOff line set
line_says line set may is = by_rules (rules_in set) refl
  where
    by_rules : (some : List Rule) → rules_in set ≡ some → SaysOff line set
    by_rules [] are = none (is ∙ ap rules_line are) (set_of_none set may are)
    by_rules (first ∷ others) are =
        some (rules_word (first ∷ others)) (is ∙ ap rules_line are) (IsUtf8-from_ascii (rules_word (first ∷ others)) (word_ascii first others))
        (set_read set may first others are)

-- the line of a set is that of no other set
pub one_set : (line : List ℕ) (a b : ℕ) → SaysOff line a → SaysOff line b → a ≡ b
one_set line a b (none is zero_a) (none other zero_b) = zero_a ∙ sym zero_b
one_set line a b (none is zero_a) (some word other utf8 read) = absurd (off_alone (sym is ∙ other))
one_set line a b (some word is utf8 read) (none other zero_b) = absurd (off_alone (sym other ∙ is))
one_set line a b (some word is utf8 read) (some again other utf8_too read_too) =
    let same : word ≡ again = ap (drop 4) (sym is ∙ other) in
    let sets : Some a ≡ Some b = sym read ∙ ap off_of same ∙ read_too in
    cc

-- ---- how long the line is

-- there is room for names of 31 bytes
name_short : (rule : Rule) → length (rule_name rule) ≤ 31
name_short rule =
    leb-true (length (rule_name rule)) 31 (every_rule (λ r. nat_le (length (rule_name r)) 31) refl rule)

word_short : (some : List Rule) → length (rules_word some) ≤ 32 * length some
word_short [] = omega arith
word_short (rule ∷ []) = omega (arith, name_short rule)
word_short (rule ∷ next ∷ more) = omega (
  arith,
  name_short rule,
  word_short (next ∷ more),
  length-append (rule_name rule) (43 ∷ rules_word (next ∷ more)),
)

line_short : (some : List Rule) → length (rules_line some) ≤ 32 * length some + 4
line_short [] = omega arith
line_short (rule ∷ more) = omega (
  arith,
  word_short (rule ∷ more),
  length-append (codes "off ") (rules_word (rule ∷ more)),
)

-- and for as many rules as a set has bits
pub off_short : (set : ℕ) → length (off_line set) ≤ 32 * 32 + 4
off_short set =
    let test : Rule → Bool = λ rule. nat_eq (bit set (rule_number rule)) 1 in
    let few : length (rules_in set) ≤ length all_rules = omega (
      arith,
      length-filter test all_rules,
      count_by-le-length test all_rules,
    ) in
    omega (arith, line_short (rules_in set), few, leb-true (length all_rules) 32 refl)
