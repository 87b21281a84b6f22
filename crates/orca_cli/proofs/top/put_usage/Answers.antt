use Rattle.std.proofs.Common.{◌≡◌, refl, rules}
use Rattle.orca_cli.specs.Run.{whole, cut_short}
use Rattle.orca_cli.specs.Texts.{usage_line}
use Rattle.orca_cli.specs.declared.status.Status.TheVariants.{Usage}
use Rattle.orca_cli.proofs.top.put_usage.Goals as goal

-- the line was taken whole
pub returns-in-Ok-clause-ends : goal.returns-in-Ok-clause-ends
returns-in-Ok-clause-ends g c =
    let line : c.as_bytes.result.now ≡ usage_line = search rules in
    whole c.as_bytes.result.now (refl, line) c.in-Ok.ensures.ok

-- the sink failed, and took a prefix
pub returns-in-Err-clause-ends : goal.returns-in-Err-clause-ends
returns-in-Err-clause-ends g c =
    let line : c.as_bytes.result.now ≡ usage_line = search rules in
    cut_short refl c.in-Err.ensures.failed Usage c.as_bytes.result.now (refl, line) c.in-Err.ensures.err
