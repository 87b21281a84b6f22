use Rattle.std.proofs.Common.{arith, sym, ◌∙◌}
use Rattle.std.proofs.lemmas.Bool.{false≢true}
use Rattle.query_core.specs.Links.{StartsComponent}
use Rattle.query_core.proofs.Linking.{adds_none, adds_more, adds_same, adds_all}
use Rattle.query_core.proofs.links.with_true_links.Goals as goal
use Rattle.query_core.proofs.links.with_true_links.Goals.{then-starts_component+in_ok-push, else-starts_component}

-- none is wanted below table 1
pub loop-table-init : goal.loop-table-init
loop-table-init c = adds_none (StartsComponent c.args.count c.args.made.now) c.args.made.now _
    (λ t starts. starts.not_first) c.in_ok-links.ensures.items

-- the table gets its link exactly where it starts a component
pub loop-table-preserved : goal.loop-table-preserved
loop-table-preserved c =
    let made = c.args.made.now in
    let wanted = StartsComponent c.args.count made in
    let starts = c.starts_component.ensures in
    elim c.if-starts_component.branch [
      | then-starts_component+in_ok-push w ↦ rw w.links-is
          (adds_more wanted made _ c.loop-table.table _ (omega arith) (starts.0 w.if-starts_component.true)
          w.in_ok-push.ensures.items c.loop-table.invariant)
      | else-starts_component w ↦ rw w.links-is
          (adds_same wanted made _ c.loop-table.table (λ is. false≢true (sym w.if-starts_component.false ∙ starts.1 is))
          c.loop-table.invariant)
    ]

-- all that start a component are below the count
pub returns : goal.returns
returns c = adds_all (StartsComponent c.args.count c.args.made.now) c.args.made.now _ c.loop-table.table
    (λ t starts. omega (arith, starts.there)) c.loop-table.invariant
