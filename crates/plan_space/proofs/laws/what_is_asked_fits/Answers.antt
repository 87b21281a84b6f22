use Rattle.plan_space.proofs.Candidates.{candidate_line_fits, crossings_fit}
use Rattle.plan_space.proofs.Splits.{asks_what_fits}
use Rattle.plan_space.proofs.Below.{enforcer_below}
use Rattle.plan_space.proofs.laws.what_is_asked_fits.Goals as goal

-- a filter asks for what is asked of it, an aggregation for lists and orders of GROUP BY columns, and a join for what
-- fits its children
pub returns-clause-children : goal.returns-clause-children
returns-clause-children c q e mode line wanted candidate fits alternative =
    asks_what_fits q e mode line wanted (λ found is.
    (candidate_line_fits c.listing_is_one.ensures q e mode found candidate is).asks) fits alternative

-- the columns are sides of joins, so they have numbers
pub returns-clause-crossings : goal.returns-clause-crossings
returns-clause-crossings c q = crossings_fit c.listing_is_one.ensures q

-- an enforcer asks for what is asked of it, or for less
pub returns-clause-enforcers : goal.returns-clause-enforcers
returns-clause-enforcers c q group wanted e fits among = (enforcer_below q group wanted e fits among).fits
