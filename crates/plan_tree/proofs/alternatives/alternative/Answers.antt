use Rattle.std.proofs.Common.{◌≡◌, ◌∙◌, sym, subst}
use Rattle.query_core.specs.declared.expressions.PhysicalExpr.{PhysicalExpr}
use Rattle.query_core.specs.Expressions.{expr_of, IsCandidate}
use Rattle.query_core.proofs.ExpressionLemmas.{expr_of_one}
use Rattle.plan_tree.specs.Alternatives.{IsAltAt}
use Rattle.plan_tree.proofs.There.{alt_is_there}
use Rattle.plan_tree.proofs.alternatives.alternative.Goals as goal

-- the word is that of a candidate
pub known_parts-requires : goal.known_parts-requires
known_parts-requires c =
    let found = c.requires.candidate in (
      found.0,
      record { packed = c.candidates_are_known.ensures.packed c.args.query.now found.0 found.1; number = found.2 },
    )

-- which is the expression
pub alternative_of-requires-clause-candidate : goal.alternative_of-requires-clause-candidate
alternative_of-requires-clause-candidate c =
    let q = c.args.query.now in
    let found = c.requires.candidate in
    let same = c.known_parts.ensures.only found.0
    (record { packed = c.candidates_are_known.ensures.packed q found.0 found.1; number = found.2 }) in
    subst (IsCandidate q) (same ∙ c.in-Some.ensures) found.1

-- and no other has the word
pub returns-in-Some-clause-physical : goal.returns-in-Some-clause-physical
returns-in-Some-clause-physical c = λ e has.
    let same : expr_of e ≡ expr_of c.in-Some.expr = c.known_parts.ensures.only (expr_of e) has ∙ c.in-Some.ensures in
    subst (λ (x : PhysicalExpr). IsAltAt c.args.query.now x c.args.request c.args.n c.alternative_of.result)
    (sym (expr_of_one e c.in-Some.expr same)) c.alternative_of.ensures

pub returns-in-None-clause-physical : goal.returns-in-None-clause-physical
returns-in-None-clause-physical c = λ e has.
    absurd (c.in-None.ensures e (sym (c.known_parts.ensures.only (expr_of e) has)))

pub returns-in-Some-clause-there : goal.returns-in-Some-clause-there
returns-in-Some-clause-there c =
    let q = c.args.query.now in
    let found = c.requires.candidate in
    let same = c.known_parts.ensures.only found.0
    (record { packed = c.candidates_are_known.ensures.packed q found.0 found.1; number = found.2 }) in
    alt_is_there q c.in-Some.expr c.args.request c.args.n c.alternative_of.result
    (subst (IsCandidate q) (same ∙ c.in-Some.ensures) found.1) c.alternative_of.ensures
