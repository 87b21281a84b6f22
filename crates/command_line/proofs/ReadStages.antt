-- The word of stages is read part by part.
use Rattle.std.proofs.Common.{◌≡◌, ℕ, ◌≤◌, ◌==◌, false, List, [], ◌∷◌, ◌++◌, Option, None, Some, option_map, decimal, length}
use Rattle.std.proofs.Common.{IfSome, nat_le, true, take, refl, sym, ap, ◌∙◌, arith}
use Rattle.std.specs.List.{slice_split, join_with_byte}
use Rattle.std.proofs.lemmas.Bool.Decides.{nat_tests}
use Rattle.std.proofs.lemmas.List.{length-append, length-map, length-take}
use Rattle.std.proofs.lemmas.List.Splits.{join_with_byte-slice_split, length-slice_split}
use Rattle.command_line.specs.Numbers.{number_within}
use Rattle.command_line.specs.Stages.{AnyStage}
use Rattle.command_line.specs.HeldStages.{stages_read}
use Rattle.command_line.specs.Reading.{off_in, stage_with, stage_in, stage_of, few}
use Rattle.command_line.specs.declared.stages.Stages.{Stages}
use Rattle.command_line.proofs.Parts.{AllOther, other_where_lacking, one_part, first_part}
use Rattle.command_line.proofs.StageWords.{number_lacks}
use Rattle.command_line.proofs.WrittenNumbers.{number_spelled}

-- ---- a stage

-- without `@` the word is that of the rules
pub unmarked : (word : List ℕ) → AllOther 64 word
    → stage_of word ≡ option_map (λ set. record { off = set; threshold = None }) (off_in word)
unmarked word others = rw (one_part 64 word others) refl

-- with one the threshold stands behind the first
pub marked : (word rules threshold : List ℕ) → word ≡ rules ++ 64 ∷ threshold → AllOther 64 rules
    → stage_of word ≡ stage_with (off_in rules) (number_within 1 100000000000000000 threshold)
marked word rules threshold parts others = rw (first_part 64 word rules threshold parts others)
    (of_more (slice_split (λ other. other == 64) threshold) refl (join_with_byte-slice_split 64 threshold)
    (omega (arith, length-slice_split (λ other. other == 64) threshold)))
  where
    -- a number has no `@`
    is_one : (cost : ℕ) → number_within 1 100000000000000000 threshold ≡ Some cost
        → slice_split (λ other. other == 64) threshold ≡ threshold ∷ []
    is_one cost read =
        let number = number_spelled 1 100000000000000000 threshold cost read in
        let written : threshold ≡ decimal cost = let w = number.word in cc in
        one_part 64 threshold (other_where_lacking 64 threshold (rw written (number_lacks 64
        (λ digit range. grind (arith, nat_tests, range)) cost number.within)))

    no_cost : (off : Option ℕ) → stage_with off None ≡ None
    no_cost None = refl
    no_cost (Some set) = refl

    several : (first second : List ℕ) (more : List (List ℕ)) (cost : Option ℕ)
        → slice_split (λ other. other == 64) threshold ≡ first ∷ second ∷ more
        → number_within 1 100000000000000000 threshold ≡ cost → None ≡ stage_with (off_in rules) cost
    several first second more None split read = sym (no_cost (off_in rules))
    several first second more (Some cost) split read = let one = is_one cost read in cc

    of_more : (more : List (List ℕ)) → slice_split (λ other. other == 64) threshold ≡ more
        → join_with_byte 64 more ≡ threshold → 1 ≤ length more
        → stage_in (rules ∷ more) ≡ stage_with (off_in rules) (number_within 1 100000000000000000 threshold)
    of_more [] split joined some = absurd (omega (arith, some))
    of_more (first ∷ []) split joined some =
        ap (λ text. stage_with (off_in rules) (number_within 1 100000000000000000 text)) joined
    of_more (first ∷ second ∷ others) split joined some =
        several first second others (number_within 1 100000000000000000 threshold) split refl

-- ---- stages

-- behind eight there is no room
pub no_room : (before after : List AnyStage) (stage : AnyStage) → length before ≡ 8
    → few (before ++ stage ∷ after) ≡ None
no_room before after stage eight =
    let more : nat_le (length (before ++ stage ∷ after)) 8 ≡ false =
    rw length-append (grind (arith, nat_tests, eight)) in
    rw more refl

-- what is held has room
held_few : (some : Stages) → few (stages_read some) ≡ Some (stages_read some)
held_few some =
    let taken = length-take some.count some.stages in
    let short : length (take some.count some.stages) ≤ 8 = grind (arith, nat_tests, some.few, taken) in
    let room : nat_le (length (stages_read some)) 8 ≡ true = rw length-map (grind (arith, nat_tests, short)) in
    rw room refl

-- the last stage has its place behind the others where there is room
pub last_more : (before : List AnyStage) (stage : AnyStage) (held : Option Stages)
    → IfSome held (λ some. stages_read some ≡ before ++ stage ∷ []) → (held ≡ None → length before ≡ 8)
    → option_map stages_read held ≡ few (before ++ stage ∷ [])
last_more before stage None more full = sym (no_room before [] stage (full refl))
last_more before stage (Some some) more full = sym (held_few some) ∙ ap few more
