use Rattle.std.proofs.Common.{refl, sym, ap, Some}
use Rattle.command_line.proofs.GivenNumbers.{no_bits}
use Rattle.command_line.proofs.draft.Draft.new.Goals as goal

pub returns : goal.returns
returns c =
    record {
      task_is = refl;
      taken = refl;
      names = refl;
      settings = ap Some (sym c.usual.ensures.usual);
      given = no_bits;
    }
