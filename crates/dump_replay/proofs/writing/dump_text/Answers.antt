use Rattle.std.proofs.Common.{ℕ, List, subst, sym, ap, ◌∙◌, arith}
use Rattle.dump_replay.specs.Dumps.{text_of}
use Rattle.query_core.specs.Catalog.{IsCatalog}
use Rattle.dump_replay.proofs.Dumped.{dumped}
use Rattle.dump_replay.proofs.Kept.{named_is_catalog}
use Rattle.dump_replay.proofs.writing.dump_text.Goals as goal

-- the tables that FROM names are a catalogue
pub write_catalog-requires-clause-kept : goal.write_catalog-requires-clause-kept
write_catalog-requires-clause-kept c = subst IsCatalog (sym c.in_ok-named.ensures)
    (named_is_catalog c.args.select.now c.args.catalog.now c.requires.catalogue)

pub returns : goal.returns
returns c =
    let read = (c.readings.ensures.read c.args.query.now c.args.select.now).0 c.requires.reading in
    dumped c.args.select.now c.args.catalog.now c.args.query.now c.args.options.now c.in_ok-named.named
    c.in_ok-text.text.items c.in_ok-text_of.field-0.items read.3 c.requires.options c.in_ok-named.ensures
    c.in_ok-text.ensures.text (omega arith) (c.in_ok-text.ensures.reads_back (omega arith))
    (c.in_ok-text_of.ensures ∙ ap (λ (m : List ℕ). text_of c.args.options.now m c.args.query.now) c.deref.ensures.value)
