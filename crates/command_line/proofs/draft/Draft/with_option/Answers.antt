use Rattle.std.proofs.Common.{◌≡◌, true, false, refl, sym, subst, ◌∙◌}
use Rattle.std.proofs.lemmas.Bool.{false≢true}
use Rattle.query_core.specs.Sets.{Has, Adds}
use Rattle.command_line.proofs.Drafts.{with_option, given_again, no_value, not_taken}
use Rattle.command_line.proofs.draft.Draft.with_option.Goals as goal

-- the task doesn't take the option
pub returns-then-not-takes-clause-refused : goal.returns-then-not-takes-clause-refused
returns-then-not-takes-clause-refused c = λ none task before after is.
    let other : c.takes.result ≡ false = c.if-not-takes.true in
    not_taken task before after c.args.self is _ (sym c.takes.ensures ∙ other)

-- the option was given before
pub returns-then-has-clause-refused : goal.returns-then-has-clause-refused
returns-then-has-clause-refused c = λ none task before after is.
    given_again task before after c.args.self is _
    (subst (Has c.args.self.given) c.number-number.ensures.number (c.has.ensures.0 c.if-has.true))

-- the word behind it is no value of it
pub returns-in_err-with-clause-refused : goal.returns-in_err-with-clause-refused
returns-in_err-with-clause-refused c = λ none task before after is.
    no_value task before after c.args.self is _ (sym c.with.ensures.chosen ∙ c.in_err-with.was)

-- the option is behind the others
pub returns-clause-added : goal.returns-clause-added
returns-clause-added c = λ task before is.
    let number = c.number-number.ensures.number in
    let takes : c.takes.result ≡ true = c.if-not-takes.false in
    with_option task before c.args.self is _ _ refl (sym c.takes.ensures ∙ takes) refl
    (sym c.with.ensures.chosen ∙ c.in_ok-with.was)
    (λ there. false≢true (sym c.if-has.false ∙ c.has.ensures.1 (subst (Has c.args.self.given) (sym number) there)))
    (subst (λ n. Adds c.args.self.given n c.with-2.result) number c.with-2.ensures.adds)
