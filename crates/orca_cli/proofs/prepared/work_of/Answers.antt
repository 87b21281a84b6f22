use Rattle.std.proofs.Common.{refl}
use Rattle.orca_cli.proofs.prepared.work_of.Goals as goal

-- the files of a plan stop it
pub returns-in-Err-clause-stops : goal.returns-in-Err-clause-stops
returns-in-Err-clause-stops g c = rw c.in-Plan.is c.in-Err.ensures.stops

-- or those of stages
pub returns-in-Err-staged_by_files-clause-stops : goal.returns-in-Err-staged_by_files-clause-stops
returns-in-Err-staged_by_files-clause-stops g c = rw c.in-Stages.is c.in-Err-staged_by_files.ensures.stops

-- or those of a check
pub returns-in-Err-checked_by_files-clause-stops : goal.returns-in-Err-checked_by_files-clause-stops
returns-in-Err-checked_by_files-clause-stops g c = rw c.in-Check.is c.in-Err-checked_by_files.ensures.stops

-- or those of a dump
pub returns-in-Err-dumped_by_files-clause-stops : goal.returns-in-Err-dumped_by_files-clause-stops
returns-in-Err-dumped_by_files-clause-stops g c = rw c.in-Dump.is c.in-Err-dumped_by_files.ensures.stops

-- or that of a replay
pub returns-in-Err-replayed_by_file-clause-stops : goal.returns-in-Err-replayed_by_file-clause-stops
returns-in-Err-replayed_by_file-clause-stops g c = rw c.in-Replay.is c.in-Err-replayed_by_file.ensures.stops

-- or those of a batch
pub returns-in-Err-listed_by_files-clause-stops : goal.returns-in-Err-listed_by_files-clause-stops
returns-in-Err-listed_by_files-clause-stops g c = rw c.in-Batch.is c.in-Err-listed_by_files.ensures.stops

-- the files of a command in stages ask for its query
pub returns-in-Ok-staged_by_files-clause-asks : goal.returns-in-Ok-staged_by_files-clause-asks
returns-in-Ok-staged_by_files-clause-asks g c = rw c.in-Stages.is (_, refl, c.in-Ok-staged_by_files.ensures.staged)

-- or those of a check
pub returns-in-Ok-checked_by_files-clause-asks : goal.returns-in-Ok-checked_by_files-clause-asks
returns-in-Ok-checked_by_files-clause-asks g c = rw c.in-Check.is (_, refl, c.in-Ok-checked_by_files.ensures.checked)

-- or those of a dump
pub returns-in-Ok-dumped_by_files-clause-asks : goal.returns-in-Ok-dumped_by_files-clause-asks
returns-in-Ok-dumped_by_files-clause-asks g c = rw c.in-Dump.is (_, refl, c.in-Ok-dumped_by_files.ensures.dumped)

-- or that of a replay
pub returns-in-Ok-replayed_by_file-clause-asks : goal.returns-in-Ok-replayed_by_file-clause-asks
returns-in-Ok-replayed_by_file-clause-asks g c = rw c.in-Replay.is (_, refl, c.in-Ok-replayed_by_file.ensures.replayed)

-- or those of a batch
pub returns-in-Ok-listed_by_files-clause-asks : goal.returns-in-Ok-listed_by_files-clause-asks
returns-in-Ok-listed_by_files-clause-asks g c = rw c.in-Batch.is (_, refl, c.in-Ok-listed_by_files.ensures.listed)
