-- In an order that is as asked the modes are exact, and in another there are none.
use Rattle.std.proofs.Common.{◌↔◌, ◌∙◌, subst, sym}
use Rattle.std.proofs.lemmas.Bool.{false≢true}
use Rattle.query_core.specs.declared.expressions.Children.TheVariants.{One}
use Rattle.query_core.specs.declared.words.KeyParts.{KeyParts}
use Rattle.plan_space.specs.Lines.{agg_line}
use Rattle.plan_space.specs.Modes.{HasModeIn}
use Rattle.plan_space.specs.declared.modes.Mode.{Mode}
use Rattle.plan_space.specs.declared.modes.ModeSets.{ModeSets}
use Rattle.plan_tree.specs.ServingModes.{ServesBy}
use Rattle.plan_tree.proofs.ChildModes.{groups_none, groups_serve}
use Rattle.plan_tree.proofs.child_modes.group_modes.Goals as goal

pub returns-then-order_is_given : goal.returns-then-order_is_given
returns-then-order_is_given c =
    let q = c.args.query.now in
    let plain = c.one_for-plain in
    let hashed = c.grouped_for-hashed in
    let modes : ModeSets = record { plain = plain.result; copied = c.none.result; hashed = hashed.result } in
    subst (λ (sets : ModeSets). (child : KeyParts) (mode : Mode) → HasModeIn sets mode
    ↔ ServesBy q (agg_line q c.args.order mode) (One child) c.args.wanted) (sym c.tried.ensures)
    (λ child. groups_serve q child c.args.wanted c.args.order modes
    (c.order_is_given.ensures.0 c.if-order_is_given.true) plain.ensures c.none.ensures hashed.ensures)

pub returns-else-order_is_given : goal.returns-else-order_is_given
returns-else-order_is_given c = λ child.
    let none = c.none-else-order_is_given in
    groups_none c.args.query.now child c.args.wanted c.args.order none.result
    (λ begins. false≢true (sym c.if-order_is_given.false ∙ c.order_is_given.ensures.1 begins)) none.ensures
