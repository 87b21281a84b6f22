use Rattle.std.proofs.Common.{◌∙◌, ap, ◌∷◌, [], ◌++◌, refl, arith}
use Rattle.std.proofs.lemmas.List.{append_assoc}
use Rattle.plan_search.specs.declared.native.NativeNode.{NativeNode}
use Rattle.plan_search.proofs.ModesMade.{mode_pushed, modes_passed}
use Rattle.plan_search.proofs.native.push_modes.Goals as goal

-- the mode comes behind the others, and those between have no line
pub modes-preserved : goal.modes-preserved
modes-preserved c =
    let q = c.args.query.now in
    let e = c.args.expr in
    let mode = c.in-Some.mode in
    let modes = c.modes.invariant.1 in
    let step = c.in-Some.ensures in
    let p : NativeNode = record { expr = e; mode = mode; line = c.in-Some.line; rows = c.expr_rows-rows.result } in
    let passed = modes_passed q e c.modes.from mode modes step.0 step.2 c.modes.invariant.2 in (
      omega (arith, step.1),
      modes ++ p ∷ [],
      mode_pushed q e mode modes passed p refl refl step.3 c.expr_rows-rows.ensures,
      c.in_ok-push.ensures.items ∙ ap (λ l. l ++ p ∷ []) c.modes.invariant.3
          ∙ append_assoc c.args.list.now.items modes (p ∷ []),
    )

-- no mode is left
pub returns : goal.returns
returns c =
    let q = c.args.query.now in
    let e = c.args.expr in
    let modes = c.modes.invariant.1 in (
      modes,
      modes_passed q e c.modes.from 192 modes c.modes.invariant.0
          (λ mode from below. c.in_default.ensures mode from) c.modes.invariant.2,
      c.modes.invariant.3,
    )
