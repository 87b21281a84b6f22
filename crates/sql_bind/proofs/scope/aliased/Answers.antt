use Rattle.std.proofs.Common.{ap}
use Rattle.std.specs.Option.{option_copied}
use Rattle.sql_bind.proofs.scope.aliased.Goals as goal

-- it is the table that was found
pub new-requires : goal.new-requires
new-requires c = c.requires c.in-Some.info.now (ap option_copied c.in-Some.is)
