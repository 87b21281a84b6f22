use Rattle.orca_cli.specs.Lists.{IsListRefused}
use Rattle.orca_cli.specs.Run.{IsRun}
use Rattle.orca_cli.proofs.DumpedEnds.{dump_run, replay_run}
use Rattle.orca_cli.proofs.Ended.{ends_then, query_run, staged_run, checked_run, refused_run}
use Rattle.orca_cli.proofs.work.done_by_crew.Goals as goal

-- the query was searched
pub returns-in-Ok : goal.returns-in-Ok
returns-in-Ok g c = λ named shelf is.
    query_run named shelf c.args.note.now c.searched_by_crew.new.note c.args.wanted.now c.in-Query.asked
    c.generated_in-generated.result _ _ c.in-Query.is is c.generated_in-generated.ensures c.in-Ok.ensures

-- the query was planned in stages
pub returns-in-Ok-stages_ending : goal.returns-in-Ok-stages_ending
returns-in-Ok-stages_ending g c = λ named shelf is.
    staged_run named shelf c.args.note.now c.args.wanted.now c.in-Stages.staged _ _ c.in-Stages.is is
    c.in-Ok-stages_ending.ensures

-- the text was checked
pub returns-in-Ok-check_ending : goal.returns-in-Ok-check_ending
returns-in-Ok-check_ending g c = λ named shelf is.
    checked_run named shelf c.args.note.now c.args.wanted.now c.in-Check.checked _ _ c.in-Check.is is
    c.in-Ok-check_ending.ensures

-- the query was dumped
pub returns-in-Ok-dump_ending : goal.returns-in-Ok-dump_ending
returns-in-Ok-dump_ending g c = λ named shelf is.
    dump_run named shelf c.args.wanted.now is _ _ c.args.note.now c.in-Dump.dumped c.in-Dump.is
    (rw c.dump_options.ensures.options at c.in-Ok-dump_ending.ensures)

-- the query of a dump was searched
pub returns-in-Ok-replayed_by_crew : goal.returns-in-Ok-replayed_by_crew
returns-in-Ok-replayed_by_crew g c = λ named shelf is.
    replay_run named shelf c.args.wanted.now is _ _ c.args.note.now c.replayed_by_crew.new.note c.in-Replay.replayed
    c.in-Replay.is c.in-Ok-replayed_by_crew.ensures

-- the list was refused
pub returns-in-Err-batch_by_crew : goal.returns-in-Err-batch_by_crew
returns-in-Err-batch_by_crew g c = λ named shelf is.
    ends_then (IsListRefused c.args.wanted.now.command.settings.capacity c.in-List.listed.list.items)
    (IsRun named shelf c.args.note.now c.args.note.now) c.in-Err-batch_by_crew.end
    (λ s t why. refused_run named shelf c.args.note.now c.args.wanted.now c.in-List.listed c.in-List.is is s t why)
    c.in-Err-batch_by_crew.ensures.stops
