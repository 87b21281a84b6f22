use Rattle.std.proofs.Common.{[], ◌∷◌, arith}
use Rattle.std.proofs.lemmas.List.Elements.{All-append, All-cons}
use Rattle.request_props.specs.JoinSets.{AreFitting}
use Rattle.request_props.proofs.props.Props.fitting_tables.Goals as goal

-- what was found for one number more
pub loop-number-preserved : goal.loop-number-preserved
loop-number-preserved c =
    rw c.in_ok-push.ensures.items
    (All-append (AreFitting c.args.query.now) c.loop-number.found.items (c.fitting_at.result ∷ [])
    c.loop-number.invariant
    (All-cons (AreFitting c.args.query.now) c.fitting_at.result [] c.fitting_at.ensures
    (λ k d within. absurd (omega (arith, within)))))
