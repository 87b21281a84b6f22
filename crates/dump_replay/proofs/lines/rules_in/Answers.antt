-- The line of a set is `off`, or names rules that are read as the set.
use Rattle.std.proofs.Common.{◌≡◌, Some, None, option_map, sym, ap, ◌∙◌}
use Rattle.std.proofs.lemmas.Bool.{false≢true}
use Rattle.command_line.specs.Reading.{off_of}
use Rattle.dump_replay.proofs.OffLines.{line_says}
use Rattle.dump_replay.proofs.Said.{no_rules_said, off_is_none, rules_said}
use Rattle.dump_replay.proofs.lines.rules_in.Goals as goal

pub returns-then-is_same-clause-only : goal.returns-then-is_same-clause-only
returns-then-is_same-clause-only c = λ set may is.
    ap Some (sym (off_is_none c.args.line.now set (line_says c.args.line.now set may is)
    (c.is_same.ensures.0 c.if-is_same.true)))

pub returns-in_err-word-clause-only : goal.returns-in_err-word-clause-only
returns-in_err-word-clause-only c = λ set may is.
    absurd (no_rules_said c.args.line.now set (line_says c.args.line.now set may is)
    (λ same. absurd (false≢true (sym c.if-is_same.false ∙ c.is_same.ensures.1 same))) c.in_err-word.ensures)

pub returns-in_err-set-clause-only : goal.returns-in_err-set-clause-only
returns-in_err-set-clause-only c = λ set may is.
    let said : off_of c.in_ok-word.word.now ≡ Some set =
    rules_said c.args.line.now c.in_ok-word.word.now set (line_says c.args.line.now set may is)
    (λ same. absurd (false≢true (sym c.if-is_same.false ∙ c.is_same.ensures.1 same))) c.in_ok-word.ensures in
    let none : c.read_off.result ≡ None = c.in_err-set.was in
    let read : option_map (λ s. s.bits) c.read_off.result ≡ Some set = c.read_off.ensures ∙ said in
    let both : None ≡ Some set = sym (ap (option_map (λ s. s.bits)) none) ∙ read in
    cc

pub returns-clause-only : goal.returns-clause-only
returns-clause-only c = λ set may is.
    let said : off_of c.in_ok-word.word.now ≡ Some set =
    rules_said c.args.line.now c.in_ok-word.word.now set (line_says c.args.line.now set may is)
    (λ same. absurd (false≢true (sym c.if-is_same.false ∙ c.is_same.ensures.1 same))) c.in_ok-word.ensures in
    sym (ap (option_map (λ s. s.bits)) c.in_ok-set.was) ∙ c.read_off.ensures ∙ said
