-- How a command ends over files that hold what it asks for, where no count of their faults rose.
use Rattle.std.proofs.Common.{◌≡◌, ◌⊎◌, List, ℕ, Option, None, Some, sym, ◌∙◌, subst, inl, inr}
use Rattle.query_core.specs.declared.catalog.Catalog.{Catalog}
use Rattle.query_core.specs.declared.query.Query.{Query}
use Rattle.sql_reader.specs.declared.syntax.Select.{Select}
use Rattle.command_line.specs.Command.{FileNames, StageNames, PlanNames, ListNames, AnyTask, AnyCommand}
use Rattle.command_line.specs.Command.{plan, gen, stages, check, dump, replay, batch}
use Rattle.command_line.specs.declared.settings.Settings.{Settings}
use Rattle.command_line.specs.declared.command.GenInput.{GenInput}
use Rattle.orca_cli.specs.Answers.{Note}
use Rattle.orca_cli.specs.Asked.{Asks}
use Rattle.orca_cli.specs.Batches.{IsBatch}
use Rattle.orca_cli.specs.Causes.{HoldsQuery, HoldsRefused, HoldsPlan, HoldsList, query_files, ReadRose}
use Rattle.orca_cli.specs.Checked.{IsCheckEnd}
use Rattle.orca_cli.specs.DumpCauses.{HoldsSelect}
use Rattle.orca_cli.specs.Dumps.{dump_options, IsDumpEnd}
use Rattle.orca_cli.specs.Lists.{IsListRefused}
use Rattle.orca_cli.specs.Prepared.{Reads, generated_in, IsQueryRefused, IsReplayRefused, TaskStops}
use Rattle.orca_cli.specs.Run.{IsOwnEnd, IsEnding, answered, from_dump, own_end, stopped}
use Rattle.orca_cli.specs.Sections.{Tells}
use Rattle.orca_cli.specs.Staged.{IsStagedEnd}
use Rattle.orca_cli.specs.Status.{IsOneOf, finished}
use Rattle.orca_cli.specs.declared.status.Status.{Status}
use Rattle.orca_cli.specs.declared.status.Status.TheVariants.{Planned, QueryRefused, BatchRefused}
use Rattle.orca_cli.proofs.OneAnswer.{OneAnswer, answer_of, staged_of, batch_of, refusal_of, told_one}
use Rattle.orca_cli.proofs.CheckedEnds.{IsCheckOf, checked_of}
use Rattle.orca_cli.proofs.DumpAnswers.{DumpHere, ReplayHere, dumped_of, replayed_of}
use Rattle.orca_cli.proofs.EndingStatuses.{search_status, of_search}
use Rattle.orca_cli.proofs.Refusals.{one_query, never_refused}

module _ (one : OneAnswer) (command : AnyCommand) (shelf : Reads) (empty note : Note)
    (no_read : ReadRose command.task shelf → ⊥) (status : Status) (text : List ℕ)
    (ending : IsEnding command shelf empty note status text) where
  -- no count rose of a file of its task
  none_rose : (task : AnyTask) → command.task ≡ task → ReadRose task shelf → ⊥
  none_rose task is = subst (λ k. ReadRose k shelf → ⊥) is no_read

  -- the ending is one of its task
  of_task : (task : AnyTask) → command.task ≡ task
      → IsEnding (record { task = task; settings = command.settings }) shelf empty note status text
  of_task task is =
      subst (λ k. IsEnding (record { task = k; settings = command.settings }) shelf empty note status text) is ending

  -- what is generated is searched
  pub generated_there : (input : GenInput) → command.task ≡ gen input → IsOneOf finished status
  generated_there input task = of_ending ending
    where
      of_ending : IsEnding command shelf empty note status text → IsOneOf finished status
      of_ending (answered query asks found) =
          of_search status (search_status (Tells (generated_in command.task) command.settings query) command.settings
          query
          note status text found)
      of_ending (from_dump file is end) = let other : gen input ≡ replay file = sym task ∙ is in cc
      of_ending (own_end own kept) = absurd (subst (λ k. IsOwnEnd k command.settings shelf.held status text) task own)
      of_ending (stopped stop kept) = absurd (subst (λ k. TaskStops k command.settings shelf status text) task stop)

  -- stages end with the end of the query for which the files ask
  pub stages_there : (named : StageNames) (query : Query) → command.task ≡ stages named
      → HoldsQuery named.files command.settings.options shelf.held query
      → IsStagedEnd query command.settings.capacity named.stages status text
  stages_there named query task held =
      of_either (staged_of named command.settings shelf held.catalog held.text held.holds note status text empty
      (none_rose (stages named) task) (of_task (stages named) task))
    where
      of_either : IsQueryRefused held.catalog command.settings.options held.text status text
          ⊎ ((q : Query) × Asks held.catalog command.settings.options held.text q
          × IsStagedEnd q command.settings.capacity named.stages status text)
          → IsStagedEnd query command.settings.capacity named.stages status text
      of_either (inl why) =
          absurd (never_refused one.reading held.catalog command.settings.options held.text query why.cause held.asks
          why.no_query)
      of_either (inr (q, asks, end)) =
          let same : q ≡ query = one_query one.reading held.catalog command.settings.options held.text one.links q query
          asks.bound held.asks.bound in
          subst (λ r. IsStagedEnd r command.settings.capacity named.stages status text) same end

  -- a check ends with the end of the check of the text that is held
  pub check_there : (files : PlanNames) (query : Query) (plan_text : List ℕ) → command.task ≡ check files
      → HoldsPlan files command.settings.options shelf.held query plan_text → IsCheckEnd query plan_text status text
  check_there files query plan_text task held =
      of_either (checked_of files command.settings shelf there.catalog there.text there.holds note status text empty
      (none_rose (check files) task) (of_task (check files) task))
    where
      there : HoldsQuery files.files command.settings.options shelf.held query
      there = held.holds_query

      of_either : IsQueryRefused there.catalog command.settings.options there.text status text
          ⊎ IsCheckOf files command.settings.options shelf.held there.catalog there.text status text
          → IsCheckEnd query plan_text status text
      of_either (inl why) =
          absurd (never_refused one.reading there.catalog command.settings.options there.text query why.cause there.asks
          why.no_query)
      of_either (inr checked) =
          let same : checked.query ≡ query = one_query one.reading there.catalog command.settings.options there.text
          one.links checked.query query checked.asks.bound there.asks.bound in
          let content : checked.plan ≡ plan_text = told_one (shelf.held files.plan) checked.plan plan_text checked.told
          held.plan_told in
          subst (λ q. IsCheckEnd q plan_text status text) same
          (subst (λ b. IsCheckEnd checked.query b status text) content checked.end)

  -- a dump ends with the dump of the text that is held
  pub dump_there : (files : FileNames) (select : Select) (catalog : Catalog) → command.task ≡ dump files
      → (held : HoldsSelect files command.settings.options shelf.held select catalog)
      → IsDumpEnd select catalog held.text (dump_options command.settings) status text
  dump_there files select catalog task held =
      of_either (dumped_of files command.settings shelf catalog held.text held.holds note status text empty
      (none_rose (dump files) task) (of_task (dump files) task))
    where
      of_either : IsQueryRefused catalog command.settings.options held.text status text
          ⊎ DumpHere catalog command.settings held.text status text
          → IsDumpEnd select catalog held.text (dump_options command.settings) status text
      of_either (inl why) =
          absurd (never_refused one.reading catalog command.settings.options held.text held.query why.cause held.asks
          why.no_query)
      of_either (inr here) =
          subst (λ r. IsDumpEnd r catalog held.text (dump_options command.settings) status text)
          (one.reading.reading held.text here.select select here.reading held.reading) here.ends

  -- a replay ends with the search of the query of the dump that is held, or the bytes are refused
  pub replay_there : (file bytes : List ℕ) → command.task ≡ replay file → shelf.held file ≡ Some bytes
      → IsReplayRefused bytes status text ⊎ ReplayHere bytes command.settings.workers note status text
  replay_there file bytes task told =
      replayed_of file command.settings shelf bytes told note status text empty (none_rose (replay file) task)
      (of_task (replay file) task)

  -- a batch ends with the answers to the lines of the list that is held, or the list is refused
  batch_there : (files : ListNames) (cause : Option (List ℕ)) → command.task ≡ batch files
      → (held : HoldsList files command.settings.capacity shelf.held cause)
      → IsListRefused command.settings.capacity held.list status text
      ⊎ IsBatch held.catalog command.settings held.list status text
  batch_there files cause task held =
      batch_of files command.settings shelf held.catalog held.list held.holds note status text empty
      (none_rose (batch files) task) (of_task (batch files) task)

  -- so one over a list that isn't refused is answered
  pub listed_there : (files : ListNames) → command.task ≡ batch files
      → HoldsList files command.settings.capacity shelf.held None → status ≡ Planned
  listed_there files task held = of_either (batch_there files None task held)
    where
      of_either : IsListRefused command.settings.capacity held.list status text
          ⊎ IsBatch held.catalog command.settings held.list status text → status ≡ Planned
      of_either (inl why) = let usable = held.is_cause in let caused = why.caused in cc
      of_either (inr answers) = answers.done

  -- and one over a list that is refused isn't
  pub unlisted_there : (files : ListNames) (cause : List ℕ) → command.task ≡ batch files
      → HoldsList files command.settings.capacity shelf.held (Some cause) → status ≡ BatchRefused
  unlisted_there files cause task held = of_either (batch_there files (Some cause) task held)
    where
      of_either : IsListRefused command.settings.capacity held.list status text
          ⊎ IsBatch held.catalog command.settings held.list status text → status ≡ BatchRefused
      of_either (inl why) = why.refused
      of_either (inr answers) = let caused = held.is_cause in let usable = answers.usable in cc

module _ (one : OneAnswer) (shelf : Reads) (empty note : Note) where
  -- a command of a query ends with its refusal, where the text that is held is refused
  pub refused_query_there : (task : AnyTask) (settings : Settings) (files : FileNames) → query_files task ≡ Some files
      → HoldsRefused files settings.options shelf.held → (ReadRose task shelf → ⊥) → (s : Status) (t : List ℕ)
      → IsEnding (record { task = task; settings = settings }) shelf empty note s t → s ≡ QueryRefused
  refused_query_there (plan own) settings files names held no_read s t ending =
      let same : files ≡ own = cc in
      let here = subst (λ f. HoldsRefused f settings.options shelf.held) same held in
      (refusal_of one here.catalog settings here.text note s t here.cause here.refused
      (answer_of own settings shelf here.catalog here.text here.holds note s t empty no_read ending)).refused
  refused_query_there (stages own) settings files names held no_read s t ending =
      let same : files ≡ own.files = cc in
      let here = subst (λ f. HoldsRefused f settings.options shelf.held) same held in
      elim (staged_of own settings shelf here.catalog here.text here.holds note s t empty no_read ending)
      as (λ _. s ≡ QueryRefused) [
        | inl why ↦ why.refused
        | inr end ↦
            absurd (never_refused one.reading here.catalog settings.options here.text end.0 here.cause end.1
            here.refused)
      ]
  refused_query_there (gen input) settings files names held no_read s t ending = cc
  refused_query_there (check own) settings files names held no_read s t ending =
      let same : files ≡ own.files = cc in
      let here = subst (λ f. HoldsRefused f settings.options shelf.held) same held in
      elim (checked_of own settings shelf here.catalog here.text here.holds note s t empty no_read ending)
      as (λ _. s ≡ QueryRefused) [
        | inl why ↦ why.refused
        | inr checked ↦
            absurd (never_refused one.reading here.catalog settings.options here.text checked.query here.cause
            checked.asks here.refused)
      ]
  refused_query_there (dump own) settings files names held no_read s t ending =
      let same : files ≡ own = cc in
      let here = subst (λ f. HoldsRefused f settings.options shelf.held) same held in
      elim (dumped_of own settings shelf here.catalog here.text here.holds note s t empty no_read ending)
      as (λ _. s ≡ QueryRefused) [
        | inl why ↦ why.refused
        | inr end ↦
            absurd (never_refused one.reading here.catalog settings.options here.text end.query here.cause end.asks
            here.refused)
      ]
  refused_query_there (replay own) settings files names held no_read s t ending = cc
  refused_query_there (batch own) settings files names held no_read s t ending = cc
