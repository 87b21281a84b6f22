use Rattle.std.proofs.Common.{◌≡◌, ◌++◌}
use Rattle.std.specs.Vec.Iter.{into_iter_items}
use Rattle.orca_cli.specs.Views.{bytes_of_texts}
use Rattle.orca_cli.proofs.batch_text.append.Given as goal

-- the texts before, and those so far
abbrev pub invariant-loop-text : goal.invariant-loop-text
invariant-loop-text l = record {
  split : l.fn.more.items ≡ l.yielded ++ into_iter_items l.text-iterator;
  joined : bytes_of_texts l.texts.items ≡ bytes_of_texts l.initial.texts.items ++ bytes_of_texts l.yielded;
}
