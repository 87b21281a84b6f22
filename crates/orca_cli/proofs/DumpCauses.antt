-- What follows from how a dump or a replay ends: which causes its status has.
use Rattle.std.proofs.Common.{Option, None, refl, inl, inr}
use Rattle.command_line.specs.Command.{AnyCommand}
use Rattle.orca_cli.specs.Answers.{Note}
use Rattle.orca_cli.specs.DumpCauses.{HasDumpCauses, EndsHaveDumpCauses}
use Rattle.orca_cli.specs.Dumps.{dump_options, replay_settings}
use Rattle.orca_cli.specs.Prepared.{Reads}
use Rattle.orca_cli.specs.Run.{IsRun, Puts, Ends}
use Rattle.orca_cli.specs.Sections.{Tells}
use Rattle.orca_cli.specs.Status.{IsOneOf, concluded, overflowed, turned_down, served, undumped}
use Rattle.orca_cli.specs.declared.status.Status.{Status}
use Rattle.orca_cli.specs.declared.status.Status.TheVariants.{DumpRefused}
use Rattle.orca_cli.proofs.OneAnswer.{OneAnswer, settled_search, overflow_search}
use Rattle.orca_cli.proofs.Causes.{every, told_cause}
use Rattle.orca_cli.proofs.DumpAnswers.{OneDump}
use Rattle.orca_cli.proofs.DumpStatuses.{dumped_end, long_end, replayed_search, refused_replay, refused_dump}
use Rattle.orca_cli.proofs.HeldEnds.{dump_there, replay_there}

module _ (one : OneAnswer) (dumps_one : OneDump) (named : Option AnyCommand) (shelf : Reads) (empty note : Note)
    (sink : Puts) (status : Status) (ends : Ends (IsRun named shelf empty note) sink status) where
  causes : HasDumpCauses named shelf sink status
  causes = record {
    refused = λ is.
        told_cause named shelf empty note sink status DumpRefused is (λ u. cc) (λ w. cc) (λ m. cc) ends;
    dumps = λ command files select catalog is task held within none.
        every named shelf empty note sink status ends (IsOneOf served) command is none (inr (inl refl))
        (λ s t ending. dumped_end select catalog held.text (dump_options command.settings) s t within
        (dump_there one command shelf empty note none.reads s t ending files select catalog task held));
    refuses_long = λ command files select catalog is task held long none.
        every named shelf empty note sink status ends (IsOneOf undumped) command is none (inr (inl refl))
        (λ s t ending. long_end select catalog held.text (dump_options command.settings) s t long
        (dump_there one command shelf empty note none.reads s t ending files select catalog task held));
    replays = λ command file of_file query is task held asks room none.
        every named shelf empty note sink status ends (IsOneOf concluded) command is none (inr (inr (inl refl)))
        (λ s t ending. let chosen = replay_settings of_file.options command.settings.workers in
        settled_search one (Tells None chosen query) chosen query note s t room
        (replayed_search one dumps_one held.bytes of_file held.says command.settings.workers note s t query asks
        (replay_there one command shelf empty note none.reads s t ending file held.bytes task held.told)));
    overflows = λ command file of_file query is task held asks more none.
        every named shelf empty note sink status ends (IsOneOf overflowed) command is none (inr (inl refl))
        (λ s t ending. let chosen = replay_settings of_file.options command.settings.workers in
        overflow_search one (Tells None chosen query) chosen query note s t more
        (replayed_search one dumps_one held.bytes of_file held.says command.settings.workers note s t query asks
        (replay_there one command shelf empty note none.reads s t ending file held.bytes task held.told)));
    refuses_query = λ command file of_file is task held lacks none.
        every named shelf empty note sink status ends (IsOneOf turned_down) command is none (inr (inl refl))
        (λ s t ending. inl (refused_replay one dumps_one held.bytes of_file held.says command.settings.workers note s t
        lacks (replay_there one command shelf empty note none.reads s t ending file held.bytes task held.told)));
    refuses_bytes = λ command file is task held none.
        every named shelf empty note sink status ends (IsOneOf undumped) command is none (inr (inl refl))
        (λ s t ending. inl (refused_dump dumps_one held.bytes held.cause command.settings.workers note s t held.no_dump
        (replay_there one command shelf empty note none.reads s t ending file held.bytes task held.told)));
  }

-- what follows from how a run ends
pub dump_causes_of : OneAnswer → OneDump → EndsHaveDumpCauses
dump_causes_of one dumps_one named shelf empty note sink status ends =
    causes one dumps_one named shelf empty note sink status ends
