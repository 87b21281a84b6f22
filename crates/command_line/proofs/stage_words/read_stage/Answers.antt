use Rattle.std.proofs.Common.{◌≡◌, None, Some, option_map, refl, sym, ap, ◌∙◌, arith}
use Rattle.std.proofs.lemmas.Str.Pattern.{split_parts}
use Rattle.command_line.specs.Numbers.{number_within}
use Rattle.command_line.specs.HeldStages.{stage_read}
use Rattle.command_line.specs.Reading.{off_in}
use Rattle.command_line.proofs.Parts.{all_other}
use Rattle.command_line.proofs.ReadStages.{unmarked, marked}
use Rattle.command_line.proofs.stage_words.read_stage.Goals as goal

-- the word in front of `@` names no rules that may be off
pub returns-in_err-read_rules-in-Some : goal.returns-in_err-read_rules-in-Some
returns-in_err-read_rules-in-Some c =
    let cut = rw c.in-Some.is at (split_parts 64 c.args.word.now c.split_once.result c.split_once.ensures.cases
    (omega arith)) in
    let none : off_in c.in-Some.rules.now ≡ None = sym c.read_rules.ensures
    ∙ ap (option_map (λ set. set.bits)) c.in_err-read_rules-in-Some.was in
    ap (option_map stage_read) c.from_residual.ensures
    ∙ sym (marked c.args.word.now c.in-Some.rules.now c.in-Some.threshold.now cut.0
    (all_other 64 c.in-Some.rules.now cut.1) ∙ rw none refl)

-- the word behind it is no threshold
pub returns-in_err-number_within-in-Some : goal.returns-in_err-number_within-in-Some
returns-in_err-number_within-in-Some c =
    let cut = rw c.in-Some.is at (split_parts 64 c.args.word.now c.split_once.result c.split_once.ensures.cases
    (omega arith)) in
    let some : off_in c.in-Some.rules.now ≡ Some c.in_ok-read_rules-in-Some.field-0.bits = sym c.read_rules.ensures
    ∙ ap (option_map (λ set. set.bits)) c.in_ok-read_rules-in-Some.was in
    let none : number_within 1 100000000000000000 c.in-Some.threshold.now ≡ None = sym c.number_within.ensures.number
    ∙ c.in_err-number_within-in-Some.was in
    ap (option_map stage_read) c.from_residual-in_err-number_within-in-Some.ensures
    ∙ sym (marked c.args.word.now c.in-Some.rules.now c.in-Some.threshold.now cut.0
    (all_other 64 c.in-Some.rules.now cut.1) ∙ rw (some, none) refl)

-- the word names no rules that may be off
pub returns-in_err-read_rules-in-None : goal.returns-in_err-read_rules-in-None
returns-in_err-read_rules-in-None c =
    let lacks = rw c.in-None.is at (split_parts 64 c.args.word.now c.split_once.result c.split_once.ensures.cases
    (omega arith)) in
    let none : off_in c.args.word.now ≡ None = sym c.read_rules-in-None.ensures
    ∙ ap (option_map (λ set. set.bits)) c.in_err-read_rules-in-None.was in
    ap (option_map stage_read) c.from_residual-in_err-read_rules-in-None.ensures
    ∙ sym (unmarked c.args.word.now (all_other 64 c.args.word.now lacks) ∙ rw none refl)

-- rules and a threshold
pub returns-in_ok-number_within-in-Some : goal.returns-in_ok-number_within-in-Some
returns-in_ok-number_within-in-Some c =
    let cut = rw c.in-Some.is at (split_parts 64 c.args.word.now c.split_once.result c.split_once.ensures.cases
    (omega arith)) in
    let off : off_in c.in-Some.rules.now ≡ Some c.in_ok-read_rules-in-Some.field-0.bits = sym c.read_rules.ensures
    ∙ ap (option_map (λ set. set.bits)) c.in_ok-read_rules-in-Some.was in
    let cost : number_within 1 100000000000000000 c.in-Some.threshold.now
    ≡ Some c.in_ok-number_within-in-Some.field-0 = sym c.number_within.ensures.number
    ∙ c.in_ok-number_within-in-Some.was in
    sym (marked c.args.word.now c.in-Some.rules.now c.in-Some.threshold.now cut.0
    (all_other 64 c.in-Some.rules.now cut.1) ∙ rw (off, cost) refl)

-- rules alone
pub returns-in_ok-read_rules-in-None : goal.returns-in_ok-read_rules-in-None
returns-in_ok-read_rules-in-None c =
    let lacks = rw c.in-None.is at (split_parts 64 c.args.word.now c.split_once.result c.split_once.ensures.cases
    (omega arith)) in
    let off : off_in c.args.word.now ≡ Some c.in_ok-read_rules-in-None.field-0.bits = sym c.read_rules-in-None.ensures
    ∙ ap (option_map (λ set. set.bits)) c.in_ok-read_rules-in-None.was in
    sym (unmarked c.args.word.now (all_other 64 c.args.word.now lacks) ∙ rw off refl)
