use Rattle.std.proofs.Common.{◌≡◌, refl, sym, subst, ◌∙◌}
use Rattle.query_core.specs.Expressions.{expr_of, word_of, IsPacked}
use Rattle.query_core.specs.declared.expressions.ExprParts.{ExprParts}
use Rattle.query_core.specs.declared.expressions.PhysicalExpr.{PhysicalExpr}
use Rattle.goal_space.proofs.Decoded.{none_of, no_expr, opt_parts, opt_e_parts}
use Rattle.goal_space.proofs.words.kind_of.Goals as goal

-- the word is that of no expression
pub returns-in_err-expr-in-OptE : goal.returns-in_err-expr-in-OptE
returns-in_err-expr-in-OptE c =
    rw c.from_residual-in_err-expr-in-OptE.ensures
    (none_of c.args.parts _ c.in-OptE.is (no_expr c.in-OptE.expr c.in-OptE.code
    (λ (e : PhysicalExpr). c.in_err-expr-in-OptE.ensures (expr_of e))))

-- the word is that of a logical expression
pub returns-in_err-as_physical-in-OptE : goal.returns-in_err-as_physical-in-OptE
returns-in_err-as_physical-in-OptE c =
    let found = c.in_ok-expr-in-OptE.ensures in
    let no_physical = c.in_err-as_physical-in-OptE.ensures in
    rw c.from_residual-in_err-as_physical-in-OptE.ensures
    (none_of c.args.parts _ c.in-OptE.is
    (no_expr c.in-OptE.expr c.in-OptE.code
    (λ (e : PhysicalExpr) (packed : IsPacked (expr_of e)) same. no_physical e
    (c.expressions_are_one.ensures.expressions c.in_ok-expr-in-OptE.expr (expr_of e) found.0 packed (found.1
    ∙ sym same)))))

pub returns-in_ok-request_of-in-Opt : goal.returns-in_ok-request_of-in-Opt
returns-in_ok-request_of-in-Opt c =
    let group = c.in_ok-parts-in-Opt.field-0 in
    let wanted = c.in_ok-request_of-in-Opt.field-0 in
    let group_is = c.in_ok-parts-in-Opt.ensures in
    let wanted_is = (c.in_ok-request_of-in-Opt.ensures.exact wanted).1 refl in (
      (group_is.0, wanted_is.in_range),
      opt_parts c.args.parts c.in-Opt.key c.in-Opt.code group wanted group_is.1
          wanted_is.is_code c.in-Opt.is,
    )

pub returns-in_ok-request_of-in-OptE : goal.returns-in_ok-request_of-in-OptE
returns-in_ok-request_of-in-OptE c =
    let e = c.in_ok-as_physical-in-OptE.field-0 in
    let wanted = c.in_ok-request_of-in-OptE.field-0 in
    let found = c.in_ok-expr-in-OptE.ensures in
    let same = c.in_ok-as_physical-in-OptE.ensures in
    let packed : IsPacked (expr_of e) = subst IsPacked same found.0 in
    let number : word_of (expr_of e) ≡ c.in-OptE.expr.0 =
    subst (λ (x : ExprParts). word_of x ≡ c.in-OptE.expr.0) same found.1 in
    let wanted_is = (c.in_ok-request_of-in-OptE.ensures.exact wanted).1 refl in (
      (packed, wanted_is.in_range),
      opt_e_parts c.args.parts c.in-OptE.expr c.in-OptE.code e wanted number
          wanted_is.is_code c.in-OptE.is,
    )
