-- How a board stands, one way at a time.
use Rattle.std.proofs.Common.{◌≡◌, ◌⊎◌, inl, inr}
use Rattle.job_scheduler.specs.declared.sought.Standing.TheVariants as standing

pub not_open_then : (standing.Open ≡ standing.Full) ⊎ (standing.Open ≡ standing.Done) → ⊥
not_open_then (inl full) = cc full
not_open_then (inr done) = cc done
