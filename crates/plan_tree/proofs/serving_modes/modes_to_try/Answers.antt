-- The modes of each way of working are exact, and those of a join where a group can hold it.
use Rattle.std.proofs.Common.{◌↔◌, ◌∙◌, ℕ, subst, sym}
use Rattle.query_core.specs.declared.expressions.Children.TheVariants.{One, Zero}
use Rattle.query_core.specs.declared.words.KeyParts.{KeyParts}
use Rattle.request_props.specs.declared.given.GivenOrder.{GivenOrder}
use Rattle.plan_space.specs.Lines.{agg_line, table_line}
use Rattle.plan_space.specs.Modes.{HasModeIn}
use Rattle.plan_space.specs.declared.modes.Mode.{Mode}
use Rattle.plan_tree.specs.ServingModes.{ServesBy}
use Rattle.plan_tree.proofs.ModesTried.{join_to_try, to_try_by}
use Rattle.plan_tree.proofs.serving_modes.modes_to_try.Goals as goal

pub returns-in-Reads : goal.returns-in-Reads
returns-in-Reads c =
    let q = c.args.query.now in
    let e = c.args.expr in
    let w = c.args.wanted in
    to_try_by q e w _ (sym c.way_of.ensures ∙ c.in-Reads.is) c.read_modes.result
    (subst (λ (order : GivenOrder). (mode : Mode) → HasModeIn c.read_modes.result mode
    ↔ ServesBy q (table_line q e.group order mode) Zero w) c.order_read.ensures c.read_modes.ensures)

pub returns-in-Passes : goal.returns-in-Passes
returns-in-Passes c =
    to_try_by c.args.query.now c.args.expr c.args.wanted _ (sym c.way_of.ensures ∙ c.in-Passes.is)
    c.kept_modes.result (c.kept_modes.ensures _)

pub returns-in-Joins : goal.returns-in-Joins
returns-in-Joins c =
    join_to_try c.args.query.now c.args.expr c.args.wanted _ _ _ (sym c.way_of.ensures ∙ c.in-Joins.is)
    (c.what_is_asked_fits.ensures.crossings c.args.query.now) c.join_modes.result c.join_modes.ensures

pub returns-in-Groups : goal.returns-in-Groups
returns-in-Groups c =
    let q = c.args.query.now in
    let e = c.args.expr in
    let w = c.args.wanted in
    let exact = subst (λ (order : ℕ). (child : KeyParts) (mode : Mode) → HasModeIn c.group_modes.result mode
    ↔ ServesBy q (agg_line q order mode) (One child) w) c.grouped_order.ensures c.group_modes.ensures in
    to_try_by q e w _ (sym c.way_of.ensures ∙ c.in-Groups.is) c.group_modes.result (exact c.in-Groups.field-1)
