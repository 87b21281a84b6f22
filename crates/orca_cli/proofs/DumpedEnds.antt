-- Runs that write a dump, and runs that replay one.
use Rattle.std.proofs.Common.{◌≡◌, ℕ, List, Option, None, refl, subst}
use Rattle.query_core.specs.declared.catalog.Catalog.{Catalog}
use Rattle.dump_replay.specs.declared.dump.DumpOptions.{DumpOptions}
use Rattle.command_line.specs.Command.{AnyCommand, dump, replay}
use Rattle.orca_cli.specs.Answers.{Note, IsSearchEnd}
use Rattle.orca_cli.specs.Dumps.{IsDumpEnd, dump_options, replay_settings}
use Rattle.orca_cli.specs.Prepared.{Reads}
use Rattle.orca_cli.specs.Run.{from_dump, own_end, IsRun}
use Rattle.orca_cli.specs.Sections.{Tells}
use Rattle.orca_cli.specs.Views.{IsWanted}
use Rattle.orca_cli.specs.declared.asked.Dumped.{Dumped}
use Rattle.orca_cli.specs.declared.asked.Replayed.{Replayed}
use Rattle.orca_cli.specs.declared.asked.Wanted.{Wanted}
use Rattle.orca_cli.specs.declared.asked.Work.TheVariants as works
use Rattle.orca_cli.specs.declared.status.Status.{Status}
use Rattle.orca_cli.proofs.Ended.{asked_for, task_run}

module _ (named : Option AnyCommand) (shelf : Reads) (wanted : Wanted) (is : IsWanted named shelf.held wanted)
    (status : Status) (text : List ℕ) where
  -- a run that wrote the dump of a query, which leaves the note as it was
  pub dump_run : (note : Note) (dumped : Dumped) → wanted.work ≡ works.Dump dumped
      → IsDumpEnd dumped.select dumped.catalog dumped.query.items (dump_options wanted.command.settings) status text
      → IsRun named shelf note note status text
  dump_run note dumped work end =
      let (files, task, asks) = asked_for named shelf.held wanted (works.Dump dumped) work is in
      let over = asks.is_dumped in
      let one = over.is_dumped in
      task_run named shelf note note wanted status text is (dump files) task (own_end (record {
        catalog = asks.catalog;
        offers = asks.offers;
        asked = over.text;
        told = over.told;
        select = dumped.select;
        reading = one.reading;
        query = one.query;
        asks = one.asks;
        ends = subst (λ (c : Catalog). IsDumpEnd dumped.select c over.text (dump_options wanted.command.settings)
            status text) one.over
            (subst (λ (t : List ℕ). IsDumpEnd dumped.select dumped.catalog t
            (dump_options wanted.command.settings) status text) one.of_text end);
      }) refl)

  -- a run that searched the query of a dump
  pub replay_run : (empty note : Note) (again : Replayed) → wanted.work ≡ works.Replay again
      → IsSearchEnd (Tells None (replay_settings again.options wanted.command.settings.workers) again.asked.query)
      (replay_settings again.options wanted.command.settings.workers) again.asked.query note status text
      → IsRun named shelf empty note status text
  replay_run empty note again work found =
      let (file, task, asks) = asked_for named shelf.held wanted (works.Replay again) work is in
      let one = asks.is_replay in
      task_run named shelf empty note wanted status text is (replay file) task (from_dump file refl (record {
        dump = one.dump;
        offers = record { bytes = asks.bytes; told = asks.told; says = one.says };
        query = again.asked.query;
        asks = one.asks;
        ends = subst (λ (o : DumpOptions). IsSearchEnd
            (Tells None (replay_settings o wanted.command.settings.workers) again.asked.query)
            (replay_settings o wanted.command.settings.workers) again.asked.query note status text) one.chosen found;
      }))
