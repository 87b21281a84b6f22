use Rattle.std.proofs.Common.{refl, rules}
use Rattle.std.specs.Io.KnownBytes.{Appends}
use Rattle.orca_base.specs.Causes.{Rose}
use Rattle.orca_io.specs.Sink.{TakesPrefix}
use Rattle.orca_cli.specs.Run.{whole, cut_short}
use Rattle.orca_cli.specs.Views.{text_of}
use Rattle.orca_cli.proofs.top.put_ending.Goals as goal

-- the text was taken whole
pub returns-in-Ok : goal.returns-in-Ok
returns-in-Ok g c =
    let ending = c.args.ending.now in
    let taken : Appends (g.K.Sink.taken c.args.out.now) (g.K.Sink.taken c.put_texts.new.out) (text_of ending) =
    search rules in
    whole (text_of ending) (record { status = refl; text = refl }) taken

-- the sink failed, and took a prefix
pub returns-in-Err : goal.returns-in-Err
returns-in-Err g c =
    let ending = c.args.ending.now in
    let rose : Rose (g.K.Sink.faults c.args.out.now) (g.K.Sink.faults c.put_texts.new.out) = search rules in
    let taken : TakesPrefix (g.K.Sink.taken c.args.out.now) (g.K.Sink.taken c.put_texts.new.out) (text_of ending) =
    search rules in
    cut_short refl rose ending.status (text_of ending) (record { status = refl; text = refl }) taken
