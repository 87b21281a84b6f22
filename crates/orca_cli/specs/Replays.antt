-- Why bytes aren't replayed.
use Rattle.std.specs.Prelude.{◌≡◌, ◌≢◌, List, ℕ, Err}
use Rattle.dump_replay.specs.Dumps.{IsReadAs}
use Rattle.dump_replay.specs.declared.dump.DumpFault.{DumpFault}
use Rattle.dump_replay.specs.declared.dump.DumpFault.TheVariants.{Memory}
use Rattle.orca_cli.specs.Texts as texts
use Rattle.orca_cli.specs.declared.status.Status.{Status}
use Rattle.orca_cli.specs.declared.status.Status.TheVariants.{DumpRefused}

-- the bytes are no dump, and this is the cause
pub record IsNoDump (bytes cause : List ℕ) : Type 0 where
  pub fault : DumpFault
  pub read : IsReadAs bytes (Err fault)
  pub not_memory : fault ≢ Memory
  pub caused : cause ≡ texts.dump_cause fault

-- and the text says why
pub record IsDumpRefused (bytes : List ℕ) (status : Status) (text : List ℕ) : Type 0 where
  pub refused : status ≡ DumpRefused
  pub cause : List ℕ
  pub no_dump : IsNoDump bytes cause
  pub line : text ≡ texts.dump_refused cause
