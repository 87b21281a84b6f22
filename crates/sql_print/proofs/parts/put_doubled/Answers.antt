use Rattle.std.proofs.Common.{◌∷◌, [], get_or, take, append_assoc}
use Rattle.sql_reader.specs.Pieces.{doubled}
use Rattle.sql_print.proofs.Doubled.{doubled_next}
use Rattle.sql_print.proofs.parts.put_doubled.Goals as goal

-- one byte more is written
pub loop-byte-preserved : goal.loop-byte-preserved
loop-byte-preserved c =
    let text = c.args.text.now in
    let i = c.loop-byte.byte-index in
    let e = doubled_next text i c.loop-byte-test.true in
    rw (c.in_ok-put_inside.ensures, c.loop-byte.invariant, e)
    (append_assoc c.args.out.now.items (doubled (take i text)) (doubled (get_or text i 0 ∷ [])))
