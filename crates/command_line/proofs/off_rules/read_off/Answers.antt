use Rattle.std.proofs.Common.{subst, sym, []}
use Rattle.command_line.specs.Drafts.{IsOffSet}
use Rattle.command_line.proofs.OffSets.{no_rules}
use Rattle.command_line.proofs.off_rules.read_off.Goals as goal

-- no rule is off before the first name
pub returns : goal.returns
returns c = c.read_more.ensures [] (subst (IsOffSet []) (sym c.new.ensures) no_rules)
