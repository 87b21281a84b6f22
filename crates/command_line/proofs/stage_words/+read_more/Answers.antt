use Rattle.std.proofs.Common.{◌≡◌, None, Some, option_map, sym, ap, ◌∙◌, arith, refl}
use Rattle.std.proofs.lemmas.Str.Pattern.{split_parts}
use Rattle.command_line.specs.HeldStages.{stage_read, stages_read, stages_before}
use Rattle.command_line.specs.Reading.{few, stage_of}
use Rattle.command_line.proofs.Joined.{behind, no_first, some_first, refused_first, no_last, some_last}
use Rattle.command_line.proofs.Parts.{all_other}
use Rattle.command_line.proofs.ReadStages.{no_room, last_more}
use Rattle.command_line.proofs.stage_words.+read_more.Goals as goal

-- the first part is no stage
pub returns-in_err-read_stage-in-Some : goal.returns-in_err-read_stage-in-Some
returns-in_err-read_stage-in-Some t c =
    let cut = rw c.in-Some.is at (split_parts 44 c.args.word.now c.split_once.result c.split_once.ensures.cases
    (omega arith)) in
    let none : stage_of c.in-Some.first.now ≡ None = sym c.read_stage.ensures
    ∙ ap (option_map stage_read) c.in_err-read_stage-in-Some.was in
    ap (option_map stages_read) c.from_residual.ensures
    ∙ sym (no_first 44 stage_of few (stages_before c.args.before) c.args.word.now c.in-Some.first.now
    c.in-Some.more.now cut.0 (all_other 44 c.in-Some.first.now cut.1) none)

-- there is no room for the first stage
pub returns-in_err-one_more-in-Some : goal.returns-in_err-one_more-in-Some
returns-in_err-one_more-in-Some t c =
    let cut = rw c.in-Some.is at (split_parts 44 c.args.word.now c.split_once.result c.split_once.ensures.cases
    (omega arith)) in
    let stage = stage_read c.in_ok-read_stage-in-Some.field-0 in
    let found : stage_of c.in-Some.first.now ≡ Some stage = sym c.read_stage.ensures
    ∙ ap (option_map stage_read) c.in_ok-read_stage-in-Some.was in
    ap (option_map stages_read) c.from_residual-in_err-one_more-in-Some.ensures
    ∙ sym (some_first 44 stage_of few (stages_before c.args.before) c.args.word.now c.in-Some.first.now
    c.in-Some.more.now stage cut.0 (all_other 44 c.in-Some.first.now cut.1) found
    ∙ refused_first 44 stage_of few (stages_before c.args.before) stage c.in-Some.more.now
    (λ after. no_room (stages_before c.args.before) after stage (c.in_err-one_more-in-Some.ensures.full refl)))

-- the last part is no stage
pub returns-in_err-read_stage-in-None : goal.returns-in_err-read_stage-in-None
returns-in_err-read_stage-in-None t c =
    let lacks = rw c.in-None.is at (split_parts 44 c.args.word.now c.split_once.result c.split_once.ensures.cases
    (omega arith)) in
    let none : stage_of c.args.word.now ≡ None = sym c.read_stage-in-None.ensures
    ∙ ap (option_map stage_read) c.in_err-read_stage-in-None.was in
    ap (option_map stages_read) c.from_residual-in_err-read_stage-in-None.ensures
    ∙ sym (no_last 44 stage_of few (stages_before c.args.before) c.args.word.now
    (all_other 44 c.args.word.now lacks) none)

-- there are more stages behind the first
pub returns-in_ok-one_more-in-Some : goal.returns-in_ok-one_more-in-Some
returns-in_ok-one_more-in-Some t c =
    let cut = rw c.in-Some.is at (split_parts 44 c.args.word.now c.split_once.result c.split_once.ensures.cases
    (omega arith)) in
    let stage = stage_read c.in_ok-read_stage-in-Some.field-0 in
    let found : stage_of c.in-Some.first.now ≡ Some stage = sym c.read_stage.ensures
    ∙ ap (option_map stage_read) c.in_ok-read_stage-in-Some.was in
    c.read_more.ensures
    ∙ ap (λ before. behind 44 stage_of few before c.in-Some.more.now) c.in_ok-one_more-in-Some.ensures.more
    ∙ sym (some_first 44 stage_of few (stages_before c.args.before) c.args.word.now c.in-Some.first.now
    c.in-Some.more.now stage cut.0 (all_other 44 c.in-Some.first.now cut.1) found)

-- the last stage
pub returns-in_ok-read_stage-in-None : goal.returns-in_ok-read_stage-in-None
returns-in_ok-read_stage-in-None t c =
    let lacks = rw c.in-None.is at (split_parts 44 c.args.word.now c.split_once.result c.split_once.ensures.cases
    (omega arith)) in
    let stage = stage_read c.in_ok-read_stage-in-None.field-0 in
    let found : stage_of c.args.word.now ≡ Some stage = sym c.read_stage-in-None.ensures
    ∙ ap (option_map stage_read) c.in_ok-read_stage-in-None.was in
    last_more (stages_before c.args.before) stage c.one_more-in-None.result c.one_more-in-None.ensures.more
    c.one_more-in-None.ensures.full
    ∙ sym (some_last 44 stage_of few (stages_before c.args.before) c.args.word.now stage
    (all_other 44 c.args.word.now lacks) found)
