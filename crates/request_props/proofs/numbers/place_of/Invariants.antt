use Rattle.std.proofs.Common.{◌≡◌, ℕ, ◌<◌, [], bytes_eq, slice_index_or, false}
use Rattle.request_props.proofs.numbers.place_of.Given as goal

-- no list before this place is the one
abbrev pub invariant-loop-place : goal.invariant-loop-place
invariant-loop-place l = (k : ℕ) → k < l.place → bytes_eq l.list (slice_index_or l.lists k []) ≡ false
