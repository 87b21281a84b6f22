use Rattle.std.proofs.Common.{◌≡◌, ◌++◌, length, map}
use Rattle.std.specs.Prelude.{vec_len}
use Rattle.std.specs.Vec.Iter.{into_iter_items}
use Rattle.orca_cli.specs.Batches.{batch_line, texts_from}
use Rattle.orca_cli.specs.Views.{bytes_of_texts, line_end}
use Rattle.orca_cli.proofs.batch_text.batch_ending.Given as goal

-- the first line, and the texts of the endings so far
abbrev pub invariant-loop-ending : goal.invariant-loop-ending
invariant-loop-ending l = record {
  split : l.fn.endings.items ≡ l.yielded ++ into_iter_items l.ending-iterator;
  counted : l.number ≡ length l.yielded;
  texts : bytes_of_texts l.texts.items ≡ batch_line (vec_len l.fn.endings) ++ texts_from 0 (map line_end l.yielded);
}
