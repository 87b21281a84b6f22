use Rattle.std.proofs.Common.{◌≡◌, ◌≤◌, ℕ, List, ◌++◌, length}
use Rattle.std.specs.Io.KnownBytes.{Appends}
use Rattle.orca_cli.proofs.text.put_lines.Given as goal

-- the lines before the rest were taken whole
abbrev pub invariant-loop-rest : goal.invariant-loop-rest
invariant-loop-rest g l = record {
  taken : (front : List ℕ) × (l.text ≡ front ++ l.rest)
      × Appends (g.K.Sink.taken l.initial.out) (g.K.Sink.taken l.out) front;
  later : g.K.Sink.faults l.initial.out ≤ g.K.Sink.faults l.out;
}

-- the rest is shorter
abbrev pub decreases-loop-rest : goal.decreases-loop-rest
decreases-loop-rest g l = length l.rest
