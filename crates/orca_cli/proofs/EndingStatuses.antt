-- With which statuses a run ends, and what each comes from.
use Rattle.std.proofs.Common.{◌≡◌, List, ℕ, None, refl, sym, subst, inl, inr}
use Rattle.std.specs.Prelude.{⊤}
use Rattle.orca_base.specs.Causes.{Rose}
use Rattle.query_core.specs.declared.catalog.Catalog.{Catalog}
use Rattle.query_core.specs.declared.options.Options.{Options}
use Rattle.query_core.specs.declared.query.Query.{Query}
use Rattle.command_line.specs.Command.{FileNames, PlanNames, ListNames, AnyTask, AnyCommand}
use Rattle.command_line.specs.Command.{plan, gen, stages, check, dump, replay, batch}
use Rattle.command_line.specs.declared.settings.Settings.{Settings}
use Rattle.orca_cli.specs.Answers.{Note, IsSearchEnd, planned, unplanned, too_many}
use Rattle.orca_cli.specs.Causes.{OneRose, ReadRose}
use Rattle.orca_cli.specs.DumpCauses.{IsOfDumps, writes_one, reads_one}
use Rattle.orca_cli.specs.Checked.{IsCheckEnd, priced, faulty}
use Rattle.orca_cli.specs.Dumps.{dump_options, replay_settings, IsDumpEnd, written, too_long}
use Rattle.orca_cli.specs.Lists.{IsListRefused}
use Rattle.orca_cli.specs.Prepared.{Reads, generated_in, FileStops, FilesStop, QueryStops, TaskStops}
use Rattle.orca_cli.specs.Prepared.{IsCatalogRefused, IsQueryRefused, IsReplayRefused, IsPlanTooLong}
use Rattle.orca_cli.specs.Prepared.{unread, unusable, by_catalog, by_file, by_query, by_plan}
use Rattle.orca_cli.specs.Prepared.{no_dump, no_query, over_none, over_catalog}
use Rattle.orca_cli.specs.Run.{IsOwnEnd, IsEnding, answered, from_dump, own_end, stopped}
use Rattle.orca_cli.specs.Sections.{Tells}
use Rattle.orca_cli.specs.Status.{IsOneOf, searched, finished}
use Rattle.orca_cli.specs.declared.status.Status.{Status}
use Rattle.orca_cli.specs.declared.status.Status.TheVariants.{Planned, NoPlan, Usage, QueryRefused, CatalogRefused}
use Rattle.orca_cli.specs.declared.status.Status.TheVariants.{TooManyEntries, ReadFault, WriteFault, Memory}
use Rattle.orca_cli.specs.declared.status.Status.TheVariants.{PlanRefused, DumpRefused, BatchRefused}
use Rattle.orca_cli.proofs.StagedEnds.{staged_status}

-- ---- the statuses of endings

-- a search ends with one of three statuses
pub search_status : (Tells : List ℕ → List ℕ → Type 0) (settings : Settings) (query : Query) (note : Note)
    (status : Status)
    (text : List ℕ) → IsSearchEnd Tells settings query note status text → IsOneOf searched status
search_status Tells settings query note status text (planned is room lines is_plan goes notes) = inl is
search_status Tells settings query note status text (unplanned is room impossible goes notes) = inr (inl is)
search_status Tells settings query note status text (too_many is more line count notes) = inr (inr (inl is))

-- a search that ended has finished
pub of_search : (status : Status) → IsOneOf searched status → IsOneOf finished status
of_search status (inl is) = inl is
of_search status (inr (inl is)) = inr (inl is)
of_search status (inr (inr (inl is))) = inr (inr (inl is))
of_search status (inr (inr (inr none))) = absurd none

-- ---- what each comes from

-- what a task tells where it ends with this status: never with that of other words, of a sink that failed, or of want
-- of memory
abbrev pub TaskCause : AnyTask → Reads → Status → Type 0
TaskCause task shelf Planned = ⊤
TaskCause task shelf NoPlan = ⊤
TaskCause task shelf Usage = ⊥
TaskCause task shelf QueryRefused = ⊤
TaskCause task shelf CatalogRefused = ⊤
TaskCause task shelf TooManyEntries = ⊤
TaskCause task shelf ReadFault = ReadRose task shelf
TaskCause task shelf WriteFault = ⊥
TaskCause task shelf Memory = ⊥
TaskCause task shelf PlanRefused = (named : PlanNames) × (task ≡ check named)
TaskCause task shelf DumpRefused = IsOfDumps task
TaskCause task shelf BatchRefused = (files : ListNames) × (task ≡ batch files)

module _ (shelf : Reads) (status : Status) (text : List ℕ) where
  caused : (task : AnyTask) (told : Status) → status ≡ told → TaskCause task shelf told → TaskCause task shelf status
  caused task told is cause = subst (TaskCause task shelf) (sym is) cause

  search_cause : (task : AnyTask) → IsOneOf searched status → TaskCause task shelf status
  search_cause task (inl is) = caused task Planned is tt
  search_cause task (inr (inl is)) = caused task NoPlan is tt
  search_cause task (inr (inr (inl is))) = caused task TooManyEntries is tt
  search_cause task (inr (inr (inr none))) = absurd none

  -- a file that couldn't be read, or whose bytes are refused
  file_cause : (task : AnyTask) (Refuses : List ℕ → Status → List ℕ → Type 0) (name : List ℕ)
      → (Rose (shelf.before name) (shelf.after name) → ReadRose task shelf)
      → ((bytes : List ℕ) → Refuses bytes status text → TaskCause task shelf status)
      → FileStops Refuses name shelf status text → TaskCause task shelf status
  file_cause task Refuses name rises refused (unread is) = caused task ReadFault is.fault (rises is.rose)
  file_cause task Refuses name rises refused (unusable bytes told why) = refused bytes why

  -- the file of a catalogue, or another one
  files_cause : (task : AnyTask) (Refuses : Catalog → List ℕ → Status → List ℕ → Type 0) (catalog_name name : List ℕ)
      → (OneRose shelf catalog_name name → ReadRose task shelf)
      → ((catalog : Catalog) (bytes : List ℕ) → Refuses catalog bytes status text → TaskCause task shelf status)
      → FilesStop Refuses catalog_name name shelf status text → TaskCause task shelf status
  files_cause task Refuses catalog_name name rises refused (by_catalog stop) =
      file_cause task IsCatalogRefused catalog_name (λ rose. rises (inl rose))
      (λ bytes none. caused task CatalogRefused none.refused tt) stop
  files_cause task Refuses catalog_name name rises refused (by_file catalog offers stop) =
      file_cause task (Refuses catalog) name (λ rose. rises (inr rose)) (refused catalog) stop

  -- the files of a catalogue and of a query
  query_cause : (task : AnyTask) (files : FileNames) (options : Options)
      → (OneRose shelf files.catalog files.query → ReadRose task shelf)
      → QueryStops files options shelf status text → TaskCause task shelf status
  query_cause task files options rises stop =
      files_cause task (λ catalog. IsQueryRefused catalog options) files.catalog files.query rises
      (λ catalog bytes why. caused task QueryRefused why.refused tt) stop

  -- bytes that are no dump, or one that asks for no query
  replay_cause : (file bytes : List ℕ) → IsReplayRefused bytes status text → TaskCause (replay file) shelf status
  replay_cause file bytes (no_dump is) = caused (replay file) DumpRefused is.refused (reads_one file refl)
  replay_cause file bytes (no_query of_bytes says (over_none none)) =
      caused (replay file) CatalogRefused none.refused tt
  replay_cause file bytes (no_query of_bytes says (over_catalog catalog read why)) =
      caused (replay file) QueryRefused why.refused tt

  stop_cause : (task : AnyTask) (settings : Settings) → TaskStops task settings shelf status text
      → TaskCause task shelf status
  stop_cause (plan files) settings stop = query_cause (plan files) files settings.options (λ rose. rose) stop
  stop_cause (gen input) settings stop = absurd stop
  stop_cause (stages named) settings stop =
      query_cause (stages named) named.files settings.options (λ rose. rose) stop
  stop_cause (check named) settings (by_query stop) =
      query_cause (check named) named.files settings.options (λ rose. inl rose) stop
  stop_cause (check named) settings (by_plan query asks stop) =
      file_cause (check named) IsPlanTooLong named.plan (λ rose. inr rose)
      (λ bytes why. caused (check named) PlanRefused why.refused (named, refl)) stop
  stop_cause (dump files) settings stop = query_cause (dump files) files settings.options (λ rose. rose) stop
  stop_cause (replay file) settings stop =
      file_cause (replay file) IsReplayRefused file (λ rose. rose) (replay_cause file) stop
  stop_cause (batch files) settings stop =
      files_cause (batch files) (λ catalog. IsListRefused settings.capacity) files.catalog files.list (λ rose. rose)
      (λ catalog bytes why. caused (batch files) BatchRefused why.refused (files, refl)) stop

  -- stages end as a search; a batch, a dump and the check of a valid plan as one that found a plan
  own_cause : (task : AnyTask) (settings : Settings) → IsOwnEnd task settings shelf.held status text
      → TaskCause task shelf status
  own_cause (plan files) settings own = absurd own
  own_cause (gen input) settings own = absurd own
  own_cause (stages named) settings own =
      search_cause (stages named) (staged_status own.query settings.capacity named.stages status text own.end)
  own_cause (check named) settings own = of_end own.end
    where
      of_end : IsCheckEnd own.query own.plan status text → TaskCause (check named) shelf status
      of_end (priced is cost good line) = caused (check named) Planned is tt
      of_end (faulty is fault lasts has line) = caused (check named) PlanRefused is (named, refl)
  own_cause (dump files) settings own = of_end own.ends
    where
      of_end : IsDumpEnd own.select own.catalog own.asked (dump_options settings) status text
          → TaskCause (dump files) shelf status
      of_end (written is within says) = caused (dump files) Planned is tt
      of_end (too_long is long line) = caused (dump files) DumpRefused is (writes_one files refl)
  own_cause (replay file) settings own = absurd own
  own_cause (batch files) settings own = caused (batch files) Planned own.is_batch.done tt

  pub ending_cause : (command : AnyCommand) (empty note : Note) → IsEnding command shelf empty note status text
      → TaskCause command.task shelf status
  ending_cause command empty note (answered query asks found) =
      search_cause command.task
      (search_status (Tells (generated_in command.task) command.settings query) command.settings query note status text
      found)
  ending_cause command empty note (from_dump file task end) =
      let chosen = replay_settings end.dump.options command.settings.workers in
      search_cause command.task
      (search_status (Tells None chosen end.query) chosen end.query note status text end.ends)
  ending_cause command empty note (own_end own kept) = own_cause command.task command.settings own
  ending_cause command empty note (stopped stop kept) = stop_cause command.task command.settings stop
