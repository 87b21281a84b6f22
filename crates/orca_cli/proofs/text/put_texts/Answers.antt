use Rattle.std.proofs.Common.{◌≡◌, get_or, rules, subst}
use Rattle.orca_io.specs.Sink.{TakesPrefix}
use Rattle.orca_cli.specs.Views.{bytes_of_texts}
use Rattle.orca_cli.proofs.Put.{text_cut}
use Rattle.orca_cli.proofs.text.put_texts.Goals as goal

-- the texts before were taken whole, and of this one a prefix
pub returns-in_err-put_lines-clause-err : goal.returns-in_err-put_lines-clause-err
returns-in_err-put_lines-clause-err g c =
    let old = g.K.Sink.taken c.args.out.now in
    let mid = g.K.Sink.taken c.loop-text.out in
    let new = g.K.Sink.taken c.put_lines.new.out in
    let this : c.deref.result.now ≡ (get_or c.args.texts.now c.loop-text.text-index c.text-item.result).items =
    search (rules, c.deref.ensures.value, c.text-item.is) in
    let cut : TakesPrefix old new (bytes_of_texts c.args.texts.now) =
    text_cut old mid new c.args.texts.now c.loop-text.text-index c.text-item.result c.loop-text-test.true
    c.loop-text.invariant.taken
    (subst (TakesPrefix mid new) this c.in_err-put_lines.ensures.err) in
    search (rules, cut)
