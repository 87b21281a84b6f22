-- Stages are read as they are spelled.
use Rattle.std.proofs.Common.{◌≡◌, ◌≢◌, ℕ, ◌<◌, ◌≤◌, ◌==◌, Bool, true, false, cond, List, [], ◌∷◌, ◌++◌, Option, None, Some}
use Rattle.std.proofs.Common.{option_map, codes, bytes_eq, decimal, length, nat_le, refl, sym, ap, ◌∙◌, subst, arith, inl, inr}
use Rattle.std.specs.Int.{IsInRange}
use Rattle.std.specs.List.{slice_split, join_with_byte, AllZip}
use Rattle.std.specs.Option.{option_and_then}
use Rattle.std.specs.Str.Parse.{AllDigits}
use Rattle.std.proofs.lemmas.Bool.Decides.{nat_tests}
use Rattle.std.proofs.lemmas.Fmt.{decimal_is_IsNumeral}
use Rattle.std.proofs.lemmas.List.Folds.{list_all-append}
use Rattle.std.proofs.lemmas.List.Splits.{join_with_byte-slice_split, length-slice_split}
use Rattle.std.proofs.lemmas.Slice.Zip.{AllZip-long}
use Rattle.std.proofs.lemmas.Str.Parse.{digit_at}
use Rattle.command_line.specs.Numbers.{IsWithin, number_within}
use Rattle.command_line.specs.Rules.{rules_word}
use Rattle.command_line.specs.Stages.{AnyStage, AreOffIn, HasThreshold, IsStageWord, IsStagesWord}
use Rattle.command_line.specs.Reading.{all_of, off_of, off_in, stage_with, stage_in, stage_of, few, stages_of}
use Rattle.command_line.proofs.Joined.{all_said, all_read}
use Rattle.command_line.proofs.Parts.{Lacks, AllLack, other_where_lacking, one_part, first_part, parts_joined}
use Rattle.command_line.proofs.Values.{is_text, rules_lack, off_read, off_spelled}
use Rattle.command_line.proofs.WrittenNumbers.{number_read, number_spelled}

-- ---- rules that are off

-- the word of rules that are off is read as them
off_in_read : (off : ℕ) (word : List ℕ) → AreOffIn off word → off_in word ≡ Some off
off_in_read off word (inl (none, all)) = rw (all, none) refl
off_in_read off word (inr are) = of_all (bytes_eq word (codes "all")) refl
  where
    read : off_of word ≡ Some off
    read = let same : word ≡ rules_word are.some = let w = are.word in cc in
        ap off_of same ∙ off_read are.some are.may ∙ ap Some (sym are.is_set)

    of_all : (b : Bool) → bytes_eq word (codes "all") ≡ b → cond b (Some 0) (off_of word) ≡ Some off
    of_all false other = read
    of_all true same =
        let none : off_of word ≡ None = ap off_of (is_text word (codes "all") same) in
        let there = read in
        cc

-- what is read as rules that are off is their word
off_in_spelled : (word : List ℕ) (off : ℕ) → off_in word ≡ Some off → AreOffIn off word
off_in_spelled word off is = of_all (bytes_eq word (codes "all")) refl is
  where
    of_all : (b : Bool) → bytes_eq word (codes "all") ≡ b → cond b (Some 0) (off_of word) ≡ Some off
        → AreOffIn off word
    of_all true same found = let none : off ≡ 0 = cc in inl (none, is_text word (codes "all") same)
    of_all false other found = inr (off_spelled word off found)

-- such a word has letters and `+`
off_lacks : (byte : ℕ) → byte < 65 → byte ≢ 43 → (off : ℕ) (word : List ℕ) → AreOffIn off word → Lacks byte word
off_lacks byte low other off word (inl (none, all)) = rw all (rules_lack_all byte low)
  where
    rules_lack_all : (n : ℕ) → n < 65 → Lacks n (codes "all")
    rules_lack_all n small =
        let first : (97 == n) ≡ false = grind (arith, nat_tests) in
        let second : (108 == n) ≡ false = grind (arith, nat_tests) in
        rw (first, second) refl
off_lacks byte low other off word (inr are) =
    let same : word ≡ rules_word are.some = let w = are.word in cc in
    rw same (rules_lack byte low other are.some)

-- ---- numbers

-- digits have no byte but those from 48 to 57
digits_lack : (byte : ℕ) → ((digit : ℕ) → IsInRange 48 57 digit → (digit == byte) ≡ false) → (digits : List ℕ)
    → AllDigits 10 digits → Lacks byte digits
digits_lack byte other [] are = refl
digits_lack byte other (digit ∷ more) are =
    rw (other digit (digit_at (digit ∷ more) 0 are (omega arith)), digits_lack byte other more are.1) refl

pub number_lacks : (byte : ℕ) → ((digit : ℕ) → IsInRange 48 57 digit → (digit == byte) ≡ false) → (number : ℕ)
    → IsWithin 1 100000000000000000 number → Lacks byte (decimal number)
number_lacks byte other number within =
    digits_lack byte other (decimal number) (decimal_is_IsNumeral number (omega (arith, within.to))).0.1

-- ---- a stage

-- the word of a stage is read as it
stage_read : (stage : AnyStage) (word : List ℕ) → IsStageWord stage word → stage_of word ≡ Some stage
stage_read stage word is = of_threshold stage.threshold is.behind
  where
    lacks : Lacks 64 is.rules
    lacks = off_lacks 64 (omega arith) (λ same. omega (arith, same)) stage.off is.rules is.are_off

    of_threshold : (threshold : Option ℕ) → HasThreshold threshold is.rules word
        → stage_of word ≡ Some (record { off = stage.off; threshold = threshold })
    of_threshold None same =
        rw (same, one_part 64 is.rules (other_where_lacking 64 is.rules lacks), off_in_read stage.off is.rules is.are_off)
        refl
    of_threshold (Some cost) (within, same) =
        let no_mark = number_lacks 64 (λ digit range. grind (arith, nat_tests, range)) cost within in
        rw (
          first_part 64 word is.rules (decimal cost) same (other_where_lacking 64 is.rules lacks),
          one_part 64 (decimal cost) (other_where_lacking 64 (decimal cost) no_mark),
          off_in_read stage.off is.rules is.are_off,
          number_read 1 100000000000000000 cost within (omega (arith, within.to)),
        ) refl

-- a stage with a threshold, in its parts
record HasBoth (off threshold : Option ℕ) (stage : AnyStage) : Type 0 where
  cost : ℕ
  its_off : off ≡ Some stage.off
  its_cost : threshold ≡ Some cost
  same : stage.threshold ≡ Some cost

both_parts : (off threshold : Option ℕ) (stage : AnyStage) → stage_with off threshold ≡ Some stage
    → HasBoth off threshold stage
both_parts None threshold stage is = cc
both_parts (Some set) None stage is = cc
both_parts (Some set) (Some n) stage is =
    let made : record { off = set; threshold = Some n } ≡ stage = cc in
    record {
      cost = n;
      its_off = ap (λ (s : AnyStage). Some s.off) made;
      its_cost = refl;
      same = sym (ap (λ (s : AnyStage). s.threshold) made);
    }

-- the word that is read as a stage is the stage's
stage_spelled : (word : List ℕ) (stage : AnyStage) → stage_of word ≡ Some stage → IsStageWord stage word
stage_spelled word stage is =
    of_parts (slice_split (λ other. other == 64) word) (join_with_byte-slice_split 64 word) is
  where
    of_off : (rules : List ℕ) (off : Option ℕ) → rules ≡ word → off_in rules ≡ off
        → option_map (λ set. record { off = set; threshold = None }) off ≡ Some stage → IsStageWord stage word
    of_off rules None joined read made = cc
    of_off rules (Some set) joined read made =
        let same : record { off = set; threshold = None } ≡ stage = cc in
        subst (λ s. IsStageWord s word) same
        (record { rules = rules; are_off = off_in_spelled rules set read; behind = sym joined })

    of_parts : (parts : List (List ℕ)) → join_with_byte 64 parts ≡ word → stage_in parts ≡ Some stage
        → IsStageWord stage word
    of_parts [] joined read = cc
    of_parts (rules ∷ []) joined read = of_off rules (off_in rules) joined refl read
    of_parts (rules ∷ threshold ∷ []) joined read =
        let both = both_parts (off_in rules) (number_within 1 100000000000000000 threshold) stage read in
        let number = number_spelled 1 100000000000000000 threshold both.cost both.its_cost in
        let written : threshold ≡ decimal both.cost = let w = number.word in cc in
        record {
          rules = rules;
          are_off = off_in_spelled rules stage.off both.its_off;
          behind = rw both.same (number.within, sym joined ∙ ap (λ n. rules ++ 64 ∷ n) written);
        }
    of_parts (rules ∷ threshold ∷ third ∷ more) joined read = cc

-- ---- stages

-- the word of a stage has no `,`
stage_lacks : (stage : AnyStage) (word : List ℕ) → IsStageWord stage word → Lacks 44 word
stage_lacks stage word is = of_threshold stage.threshold is.behind
  where
    lacks : Lacks 44 is.rules
    lacks = off_lacks 44 (omega arith) (λ same. omega (arith, same)) stage.off is.rules is.are_off

    of_threshold : (threshold : Option ℕ) → HasThreshold threshold is.rules word → Lacks 44 word
    of_threshold None same = rw same lacks
    of_threshold (Some cost) (within, same) =
        let none = number_lacks 44 (λ digit range. grind (arith, nat_tests, range)) cost within in
        rw (same, list_all-append, lacks, none) refl

words_lack : (stages : List AnyStage) (words : List (List ℕ)) → AllZip IsStageWord stages words → AllLack 44 words
words_lack [] [] each = tt
words_lack [] (word ∷ words) each = absurd each
words_lack (stage ∷ stages) [] each = absurd each
words_lack (stage ∷ stages) (word ∷ words) each = (stage_lacks stage word each.0, words_lack stages words each.1)

-- the word of stages is read as them
pub stages_read : (stages : List AnyStage) (word : List ℕ) → IsStagesWord stages word → stages_of word ≡ Some stages
stages_read stages word is = of_words stages is.words is.each is.joined is.number
  where
    of_words : (some : List AnyStage) (words : List (List ℕ)) → AllZip IsStageWord some words
        → word ≡ join_with_byte 44 words → IsWithin 1 8 (length some) → stages_of word ≡ Some some
    of_words [] words each joined number = absurd (omega (arith, number.from))
    of_words (first ∷ more) [] each joined number = absurd each
    of_words (first ∷ more) (one ∷ others) each joined number =
        let room : nat_le (length (first ∷ more)) 8 ≡ true = let n = number.to in grind (arith, nat_tests) in
        rw (
          joined,
          parts_joined 44 one others (words_lack (first ∷ more) (one ∷ others) each),
          all_said stage_of IsStageWord stage_read (first ∷ more) (one ∷ others) each,
          room,
        ) refl

-- a word that is read as stages is theirs
pub stages_spelled : (word : List ℕ) (stages : List AnyStage) → stages_of word ≡ Some stages → IsStagesWord stages word
stages_spelled word stages is = of_all (all_of stage_of parts) refl is
  where
    parts : List (List ℕ)
    parts = slice_split (λ other. other == 44) word

    of_few : (some : List AnyStage) (b : Bool) → all_of stage_of parts ≡ Some some → nat_le (length some) 8 ≡ b
        → cond b (Some some) None ≡ Some stages → IsStagesWord stages word
    of_few some false read room found = cc
    of_few some true read room found =
        let same : some ≡ stages = cc in
        let each : AllZip IsStageWord some parts = all_read stage_of IsStageWord stage_spelled parts some read in
        let long : length parts ≡ length some = AllZip-long IsStageWord some parts each in
        let cuts = length-slice_split (λ other. other == 44) word in
        let few_enough : length some ≤ 8 = grind (arith, nat_tests, room) in
        subst (λ s. IsStagesWord s word) same (record {
          number = record { from = omega (arith, long, cuts); to = few_enough };
          words = parts;
          each = each;
          joined = sym (join_with_byte-slice_split 44 word);
        })

    of_all : (read : Option (List AnyStage)) → all_of stage_of parts ≡ read
        → option_and_then few read ≡ Some stages → IsStagesWord stages word
    of_all None read found = cc
    of_all (Some some) read found = of_few some (nat_le (length some) 8) read refl found
