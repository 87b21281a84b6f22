use Rattle.std.proofs.Common.{ap, sym, ◌∙◌}
use Rattle.sql_print.specs.Canonical.{canonical_text}
use Rattle.sql_print.specs.Unplaced.{unplaced}
use Rattle.sql_print.proofs.ReadsAgain as law
use Rattle.sql_print.proofs.printer.reads_again.Goals as goal

pub returns : goal.returns
returns c = record {
  again = λ s h. (let r = law.reads_again s h in (r.again, r.spells, r.same));
  only = λ s t h k. (let r = law.reads_again s h in
      let one = c.readings.ensures.one (canonical_text s) r.again t r.spells r.within k in
      sym (ap unplaced one) ∙ r.same);
  read = λ s h short. (let r = law.reads_again s h in
      (r.again, (c.readings.ensures.read (canonical_text s) r.again).1 (r.spells, r.within, r.plain, short), r.same));
}
