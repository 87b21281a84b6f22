use Rattle.std.proofs.Common.{◌≡◌, None, Some, option_map, sym, ap, ◌∙◌, arith, refl}
use Rattle.std.proofs.lemmas.Str.Pattern.{split_parts}
use Rattle.command_line.specs.Reading.{rule_of_name, set_where_off}
use Rattle.command_line.proofs.RuleNames.{name_found, no_rule}
use Rattle.command_line.proofs.Joined.{refused_first, no_first, no_last, some_first}
use Rattle.command_line.proofs.Parts.{all_other}
use Rattle.command_line.proofs.off_rules.+read_more.Goals as goal

-- the first name is no rule's
pub returns-in_err-rule_named-in-Some : goal.returns-in_err-rule_named-in-Some
returns-in_err-rule_named-in-Some t c = λ before is.
    let cut = rw c.in-Some.is at (split_parts 43 c.args.word.now c.split_once.result c.split_once.ensures.cases
    (omega arith)) in
    let none : rule_of_name c.in-Some.name.now ≡ None =
    no_rule c.in-Some.name.now (λ rule same. let e = c.in_err-rule_named-in-Some.ensures.only rule same in cc) in
    ap (option_map (λ all. all.bits)) c.from_residual.ensures
    ∙ sym (no_first 43 rule_of_name set_where_off before c.args.word.now c.in-Some.name.now c.in-Some.more.now cut.0 (all_other 43 c.in-Some.name.now cut.1) none)

-- the first rule can't be off beside those before
pub returns-in_err-with-in-Some : goal.returns-in_err-with-in-Some
returns-in_err-with-in-Some t c = λ before is.
    let cut = rw c.in-Some.is at (split_parts 43 c.args.word.now c.split_once.result c.split_once.ensures.cases
    (omega arith)) in
    let rule = c.in_ok-rule_named-in-Some.field-0 in
    let found : rule_of_name c.in-Some.name.now ≡ Some rule =
    name_found c.in-Some.name.now rule c.in_ok-rule_named-in-Some.ensures.found in
    ap (option_map (λ all. all.bits)) c.from_residual-in_err-with-in-Some.ensures
    ∙ sym (some_first 43 rule_of_name set_where_off before c.args.word.now c.in-Some.name.now c.in-Some.more.now rule cut.0 (all_other 43 c.in-Some.name.now cut.1) found
    ∙ refused_first 43 rule_of_name set_where_off before rule c.in-Some.more.now
    (λ after. rw (c.in_err-with-in-Some.ensures.refused refl before after is) refl))

-- the last name is no rule's
pub returns-in_err-rule_named-in-None : goal.returns-in_err-rule_named-in-None
returns-in_err-rule_named-in-None t c = λ before is.
    let lacks = rw c.in-None.is at (split_parts 43 c.args.word.now c.split_once.result c.split_once.ensures.cases
    (omega arith)) in
    let none : rule_of_name c.args.word.now ≡ None =
    no_rule c.args.word.now (λ rule same. let e = c.in_err-rule_named-in-None.ensures.only rule same in cc) in
    ap (option_map (λ all. all.bits)) c.from_residual-in_err-rule_named-in-None.ensures
    ∙ sym (no_last 43 rule_of_name set_where_off before c.args.word.now (all_other 43 c.args.word.now lacks) none)

-- the names behind the first
pub returns-in_ok-with-in-Some : goal.returns-in_ok-with-in-Some
returns-in_ok-with-in-Some t c = λ before is.
    let cut = rw c.in-Some.is at (split_parts 43 c.args.word.now c.split_once.result c.split_once.ensures.cases
    (omega arith)) in
    let rule = c.in_ok-rule_named-in-Some.field-0 in
    let found : rule_of_name c.in-Some.name.now ≡ Some rule =
    name_found c.in-Some.name.now rule c.in_ok-rule_named-in-Some.ensures.found in
    c.read_more.ensures _ (c.in_ok-with-in-Some.ensures.added before is)
    ∙ sym (some_first 43 rule_of_name set_where_off before c.args.word.now c.in-Some.name.now c.in-Some.more.now rule cut.0 (all_other 43 c.in-Some.name.now cut.1) found)
