-- Rows in an order that is as asked are read in the distributions that are, and in another order in none.
use Rattle.std.proofs.Common.{◌↔◌, ◌∙◌, ℕ, subst, sym}
use Rattle.std.proofs.lemmas.Bool.{false≢true}
use Rattle.query_core.specs.declared.expressions.Children.TheVariants.{Zero}
use Rattle.request_props.specs.NumberSets.{IsInSet}
use Rattle.plan_space.specs.Lines.{dists_of_table, table_line}
use Rattle.plan_space.specs.Modes.{HasModeIn}
use Rattle.plan_space.specs.declared.modes.Mode.{Mode}
use Rattle.plan_space.specs.declared.modes.ModeSets.{ModeSets}
use Rattle.plan_tree.specs.ServingModes.{MeetsAt, ServesBy}
use Rattle.plan_tree.proofs.ReadModes.{reads_none, reads_serve}
use Rattle.plan_tree.proofs.read_modes.read_modes.Goals as goal

pub returns-then-order_is_given : goal.returns-then-order_is_given
returns-then-order_is_given c =
    let q = c.args.query.now in
    let plain = c.reads_for-plain in
    let nothing = c.none-nothing in
    let modes : ModeSets = record { plain = plain.result; copied = nothing.result; hashed = nothing.result } in
    let exact = subst (λ (t : ℕ). (n : ℕ) → IsInSet plain.result n ↔ MeetsAt (dists_of_table q t) n c.args.wanted.dist)
    c.table_in.ensures plain.ensures in
    subst (λ (sets : ModeSets). (mode : Mode) → HasModeIn sets mode
    ↔ ServesBy q (table_line q c.args.group c.args.order mode) Zero c.args.wanted) (sym c.tried.ensures)
    (reads_serve q c.args.group c.args.order c.args.wanted modes
    (c.order_is_given.ensures.0 c.if-order_is_given.true) exact nothing.ensures nothing.ensures)

pub returns-else-order_is_given : goal.returns-else-order_is_given
returns-else-order_is_given c =
    reads_none c.args.query.now c.args.group c.args.order c.args.wanted c.none.result
    (λ begins. false≢true (sym c.if-order_is_given.false ∙ c.order_is_given.ensures.1 begins)) c.none.ensures
