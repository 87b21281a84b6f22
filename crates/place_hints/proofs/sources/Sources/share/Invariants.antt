use Rattle.std.proofs.Common.{◌≡◌}
use Rattle.place_hints.proofs.sources.Sources.share.Given as goal

-- the others know the same capacity
abbrev pub invariant-loop-source : goal.invariant-loop-source
invariant-loop-source l = l.others ≡ l.initial.others
