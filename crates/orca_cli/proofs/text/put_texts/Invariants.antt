use Rattle.std.proofs.Common.{◌≤◌, take}
use Rattle.std.specs.Io.KnownBytes.{Appends}
use Rattle.orca_cli.specs.Views.{bytes_of_texts}
use Rattle.orca_cli.proofs.text.put_texts.Given as goal

-- the texts before this one were taken whole
abbrev pub invariant-loop-text : goal.invariant-loop-text
invariant-loop-text g l = record {
  taken : Appends (g.K.Sink.taken l.initial.out) (g.K.Sink.taken l.out) (bytes_of_texts (take l.text-index l.texts));
  later : g.K.Sink.faults l.initial.out ≤ g.K.Sink.faults l.out;
}
