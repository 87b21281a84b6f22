use Rattle.std.proofs.Common.{arith}
use Rattle.query_core.specs.declared.words.KeyParts.TheVariants.{Get}
use Rattle.plan_space.specs.declared.nodes.NodeKind.TheVariants.{Native}
use Rattle.plan_reading.specs.Texts.{IsOfKind}
use Rattle.plan_reading.proofs.AllTexts.{adds_start, adds_next, adds_fewer}
use Rattle.plan_reading.proofs.texts.push_operator.Goals as goal

pub loop-mode-init : goal.loop-mode-init
loop-mode-init c = adds_start c.args.query.now
    (λ k node. IsOfKind (Native (record { group = Get c.args.table; operator = c.args.operator }) k) node) _

pub loop-mode-preserved : goal.loop-mode-preserved
loop-mode-preserved c = adds_next c.args.query.now
    (λ k node. IsOfKind (Native (record { group = Get c.args.table; operator = c.args.operator }) k) node)
    c.loop-mode.mode _ _ _ c.loop-mode.invariant c.in_ok-push_kind.ensures

pub returns : goal.returns
returns c = adds_fewer c.args.query.now
    (λ k node. IsOfKind (Native (record { group = Get c.args.table; operator = c.args.operator }) k) node)
    c.loop-mode.mode 192 _ _ (omega (arith, c.loop-mode-test.false)) c.loop-mode.invariant
