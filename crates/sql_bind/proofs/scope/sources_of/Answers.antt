use Rattle.std.proofs.Common.{◌∙◌, ◌++◌, ◌∷◌, [], List, ℕ, sym, ap}
use Rattle.std.proofs.lemmas.Result.{err_from_is_err_and}
use Rattle.std.proofs.lemmas.List.{map_push}
use Rattle.sql_bind.specs.Scope.{from_table}
use Rattle.sql_bind.proofs.Each.{goes_on, stops, is_done}
use Rattle.sql_bind.proofs.scope.sources_of.Goals as goal

-- the table that was bound goes last, and its alias too
pub loop-item-preserved : goal.loop-item-preserved
loop-item-preserved c =
    let loop = c.loop-item in
    let source = c.in_ok-source.source in
    rw (c.in_ok-push.ensures.ok) (record {
      named = c.in_ok-source.ensures.added ∙ ap (λ (names : List (List ℕ)). names ++ source.alias ∷ [])
          loop.invariant.named ∙ sym (map_push _ loop.scope source);
      bound = goes_on (from_table c.args.catalog.now) c.args.from.now loop.scope loop.item-index c.item-item.result
          source c.loop-item-test.true c.item-item.is (rw (← c.as_slice.ensures) c.in_ok-source.ensures.bound)
          ∙ loop.invariant.bound;
    })

-- the first element with a fault ends the binding
pub returns-in_err-source : goal.returns-in_err-source
returns-in_err-source c =
    let loop = c.loop-item in
    let raised = err_from_is_err_and c.from_residual.result c.from_residual.ensures.1 in
    rw raised.1 (stops (from_table c.args.catalog.now) c.args.from.now loop.scope loop.item-index c.item-item.result _
    c.in_err-source.field-0.0 raised.0 c.loop-item-test.true c.item-item.is
    (rw (← c.as_slice.ensures) c.in_err-source.ensures.bound) loop.invariant.bound raised.2)

-- no element is left
pub returns : goal.returns
returns c = sym c.loop-item.invariant.bound
    ∙ is_done (from_table c.args.catalog.now) c.args.from.now c.loop-item.scope c.loop-item.item-index
    c.loop-item-test.false
