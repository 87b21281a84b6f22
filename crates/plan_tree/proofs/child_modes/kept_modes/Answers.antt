-- There is one mode, and it serves where the line does.
use Rattle.std.proofs.Common.{◌↔◌, subst, sym, arith}
use Rattle.query_core.specs.declared.expressions.Children.TheVariants.{One}
use Rattle.query_core.specs.declared.words.KeyParts.{KeyParts}
use Rattle.plan_space.specs.Lines.{kept_line, single_line}
use Rattle.plan_space.specs.Modes.{HasModeIn}
use Rattle.plan_space.specs.declared.modes.Mode.{Mode}
use Rattle.plan_space.specs.declared.modes.ModeSets.{ModeSets}
use Rattle.plan_tree.specs.ServingModes.{ServesBy}
use Rattle.plan_tree.proofs.ChildModes.{kept_serve}
use Rattle.plan_tree.proofs.child_modes.kept_modes.Goals as goal

pub returns-then-kept_serves : goal.returns-then-kept_serves
returns-then-kept_serves c =
    let q = c.args.query.now in
    let nothing = c.none-nothing in
    let modes : ModeSets = record { plain = c.below.result; copied = nothing.result; hashed = nothing.result } in
    subst (λ (sets : ModeSets). (child : KeyParts) (mode : Mode) → HasModeIn sets mode
    ↔ ServesBy q (single_line (kept_line c.args.kept) mode) (One child) c.args.wanted) (sym c.tried.ensures)
    (λ child. kept_serve q child c.args.wanted c.args.kept modes
    (λ n. (
      λ has. (c.below.ensures.only n has, (c.kept_serves.ensures child).0 c.if-kept_serves.true),
      λ both. c.below.ensures.all (omega arith) n both.0,
    )) nothing.ensures nothing.ensures)
