use Rattle.place_hints.proofs.Moves.{admits}
use Rattle.place_hints.proofs.source.Source.of.Goals as goal

pub pass-pass-requires : goal.pass-pass-requires
pass-pass-requires c = admits
