use Rattle.std.proofs.Common.{◌≡◌, Bool, true, false, sym, ◌∙◌}
use Rattle.std.proofs.Math.Bool.{beq}
use Rattle.plan_search.proofs.Growing.{grows_not}
use Rattle.plan_search.proofs.closure.add_results_by.Goals as goal

not_other : (a b : Bool) → a ≡ b → beq a b ≡ false → ⊥
not_other true true same other = cc
not_other true false same other = cc
not_other false true same other = cc
not_other false false same other = cc

-- a rule has results exactly with a bound member or exactly without one
pub returns-else-binds-is_some : goal.returns-else-binds-is_some
returns-else-binds-is_some c = record {
  grows = grows_not c.args.query.now c.args.found.now;
  holds = λ n other has.
      let binds = c.results_are_known.ensures.binds c.args.query.now c.args.rule c.args.e c.args.bound n other has in
      absurd (not_other c.binds.result c.is_some.result (c.binds.ensures ∙ sym binds ∙ sym c.is_some.ensures)
      c.if-binds-is_some.false);
}
