-- The next candidate is logical, or no logical one comes any more.
use Rattle.std.proofs.Common.{Option, sym, subst, ◌∙◌}
use Rattle.std.proofs.lemmas.Bool.{false≢true}
use Rattle.query_core.specs.Candidates.{IsNext, IsLast}
use Rattle.query_core.specs.declared.words.Expr.{Expr}
use Rattle.job_turns.proofs.NextLogical.{next_is, none_after, none_left}
use Rattle.job_turns.proofs.group_members.next_logical.Goals as goal

pub logical-requires : goal.logical-requires
logical-requires c =
    let q = c.args.query.now in
    let (e, candidate, of_group, number) = c.in-Some.ensures.candidate in
    (e, record { packed = c.candidates_are_known.ensures.packed q e candidate; number = number })

pub returns-then-logical : goal.returns-then-logical
returns-then-logical c =
    let q = c.args.query.now in
    next_is q c.args.group c.args.before c.in-Some.next
    (subst (λ (after : Option Expr). IsNext q c.args.group after c.in-Some.next.0) c.expr_before-after.ensures
    c.in-Some.ensures)
    (λ e candidate number. sym (c.if-logical.ensures e
    (record { packed = c.candidates_are_known.ensures.packed q e candidate; number = number })))

pub returns-else-logical : goal.returns-else-logical
returns-else-logical c =
    let q = c.args.query.now in
    none_after q c.args.group c.args.before (c.candidates_are_in_order.ensures.logical_first q) c.in-Some.next
    (subst (λ (after : Option Expr). IsNext q c.args.group after c.in-Some.next.0) c.expr_before-after.ensures
    c.in-Some.ensures)
    (λ e candidate number is. false≢true (c.if-logical.ensures e
    (record { packed = c.candidates_are_known.ensures.packed q e candidate; number = number }) ∙ is))

pub returns-in-None : goal.returns-in-None
returns-in-None c =
    let q = c.args.query.now in
    none_left q c.args.group c.args.before (subst (λ (after : Option Expr). IsLast q c.args.group after)
    c.expr_before-after.ensures c.in-None.ensures)
