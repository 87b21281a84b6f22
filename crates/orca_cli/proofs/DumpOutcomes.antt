-- A replay ends as a plan of what its dump says.
use Rattle.std.proofs.Common.{◌≡◌, ℕ, List, Option, Some, Ok, refl, sym, ap, ◌∙◌, subst}
use Rattle.query_core.specs.declared.catalog.Catalog.{Catalog}
use Rattle.sql_reader.specs.Faults.{IsReading}
use Rattle.sql_reader.specs.declared.syntax.Select.{Select}
use Rattle.dump_replay.specs.Dumps.{IsDumpOf, IsReadAs, dump_of}
use Rattle.dump_replay.specs.Laws.{BindsAlike, BoundAlike}
use Rattle.dump_replay.specs.Named.{named_catalog}
use Rattle.dump_replay.specs.declared.dump.Dump.{Dump}
use Rattle.command_line.specs.Command.{FileNames, dump, replay}
use Rattle.command_line.specs.declared.settings.Settings.{Settings}
use Rattle.orca_cli.specs.Answers.{Note, IsAnswer, searched, turned_down}
use Rattle.orca_cli.specs.Asked.{SaysCatalog}
use Rattle.orca_cli.specs.Dumps.{dump_options, replay_settings, IsDumpEnd, written, too_long}
use Rattle.orca_cli.specs.DumpLaws.{DumpOutcome, ReplayOutcome, ReplaysAsPlanned, OneReplay, DumpsReplay}
use Rattle.orca_cli.specs.Prepared.{reads, IsQueryRefused, unread, unusable, over_none, over_catalog}
use Rattle.orca_cli.specs.Prepared.{FilesStop, by_catalog, by_file, IsReplayRefused, no_dump, no_query}
use Rattle.orca_cli.specs.Replays.{IsDumpRefused}
use Rattle.orca_cli.specs.Run.{IsEnding, answered, from_dump, own_end, stopped}
use Rattle.orca_cli.specs.Texts as texts
use Rattle.orca_cli.specs.declared.status.Status.{Status}
use Rattle.orca_cli.specs.declared.status.Status.TheVariants.{Planned}
use Rattle.orca_cli.proofs.OneAnswer.{told_one, one_catalog}
use Rattle.orca_cli.proofs.DumpAnswers.{OneDump, one_dump, dump_or_none, one_no_dump}
use Rattle.orca_cli.proofs.NamedTables.{whole_answer}
use Rattle.orca_cli.proofs.Outcomes.{OneOf, Known, over, without, known_of, same_known}
use Rattle.orca_cli.proofs.SectionTexts.{equal_texts}

-- ---- what is known of a replay

-- the search of a dump's query, or its refusal; or the bytes are no dump
data KnownReplay (bytes : List ℕ) (workers : ℕ) (note : Note) (status : Status) (text : List ℕ) : Type 0 where
  of_dump : (of_bytes : Dump) → IsReadAs bytes (Ok of_bytes)
      → Known of_bytes.catalog (replay_settings of_bytes.options workers) of_bytes.query note status text
      → KnownReplay bytes workers note status text
  of_none : IsDumpRefused bytes status text → KnownReplay bytes workers note status text

known_replay : (file : List ℕ) (settings : Settings) (held : List ℕ → Option (List ℕ)) (bytes : List ℕ)
    (status : Status)
    (text : List ℕ) → (o : ReplayOutcome file settings held bytes status text)
    → IsEnding (record { task = replay file; settings = settings }) (reads held o.before o.after) o.empty o.note status
    text
    → KnownReplay bytes settings.workers o.note status text
known_replay file settings held bytes status text o (answered query asks search) = absurd asks
known_replay file settings held bytes status text o (from_dump other task end) =
    let same : other ≡ file = cc in
    let told : held other ≡ Some bytes = ap held same ∙ o.told in
    of_dump end.dump (subst (λ b. IsReadAs b (Ok end.dump))
    (told_one (held other) end.offers.bytes bytes end.offers.told told) end.offers.says)
    (over end.asks.catalog end.asks.says (searched end.query end.asks.asks end.ends))
known_replay file settings held bytes status text o (own_end own kept) = absurd own
known_replay file settings held bytes status text o (stopped (unread is) kept) = absurd (o.were_read is.fault)
known_replay file settings held bytes status text o (stopped (unusable other told why) kept) =
    of_refusal (subst (λ b. IsReplayRefused b status text) (told_one (held file) other bytes told o.told) why)
  where
    of_refusal : IsReplayRefused bytes status text → KnownReplay bytes settings.workers o.note status text
    of_refusal (no_dump is) = of_none is
    of_refusal (no_query of_bytes says (over_none none)) = of_dump of_bytes says (without none)
    of_refusal (no_query of_bytes says (over_catalog catalog read refused)) =
        of_dump of_bytes says (over catalog read (turned_down refused))

-- what is known of two runs over one dump is the same
over_dump : OneOf → (of_bytes : Dump) (workers more : ℕ) (note later : Note) (first second : Status)
    (text other : List ℕ)
    → Known of_bytes.catalog (replay_settings of_bytes.options workers) of_bytes.query note first text
    → Known of_bytes.catalog (replay_settings of_bytes.options more) of_bytes.query later second other
    → (first ≡ second) × (text ≡ other)
over_dump one of_bytes workers more note later first second text other is again =
    let same = same_known one of_bytes.catalog (replay_settings of_bytes.options 1) workers more of_bytes.query note
    later
    first second text other is again in
    (same.status, equal_texts (replay_settings of_bytes.options 1) workers more text other refl same.texts)

-- ---- the laws

module _ (one : OneOf) (dumps_one : OneDump) where
  -- the replay of a dump ends as a plan of it
  pub replays_as_planned : ReplaysAsPlanned
  replays_as_planned file files settings workers held told bytes of_bytes first second text other says o plan =
      of_known (known_replay file settings held bytes first text o o.ends)
    where
      planned_too : Known of_bytes.catalog (replay_settings of_bytes.options workers) of_bytes.query plan.note second
          other
      planned_too =
          known_of files (replay_settings of_bytes.options workers) told of_bytes.catalog of_bytes.query second
          other plan plan.ends

      of_known : KnownReplay bytes settings.workers o.note first text → (first ≡ second) × (text ≡ other)
      of_known (of_dump again says_too is) =
          over_dump one of_bytes settings.workers workers o.note plan.note first second text other
          (subst (λ (d : Dump). Known d.catalog (replay_settings d.options settings.workers) d.query o.note first text)
          (one_dump dumps_one bytes again of_bytes says_too says) is) planned_too
      of_known (of_none is) = absurd (dump_or_none dumps_one bytes is.cause of_bytes says is.no_dump)

  -- two replays of the same bytes end alike
  pub one_replay : OneReplay
  one_replay file other_file settings others held told bytes first second text other o again =
      of_known (known_replay file settings held bytes first text o o.ends)
      (known_replay other_file others told bytes second other again again.ends)
    where
      of_known : KnownReplay bytes settings.workers o.note first text
          → KnownReplay bytes others.workers again.note second other → (first ≡ second) × (text ≡ other)
      of_known (of_dump a says is) (of_dump b says_too is_too) =
          over_dump one a settings.workers others.workers o.note again.note first second text other is
          (subst (λ (d : Dump). Known d.catalog (replay_settings d.options others.workers) d.query again.note second
          other)
          (one_dump dumps_one bytes b a says_too says) is_too)
      of_known (of_dump a says is) (of_none none) = absurd (dump_or_none dumps_one bytes none.cause a says none.no_dump)
      of_known (of_none none) (of_dump b says is) = absurd (dump_or_none dumps_one bytes none.cause b says none.no_dump)
      of_known (of_none none) (of_none none_too) = (
        none.refused ∙ sym none_too.refused,
        none.line
            ∙ ap texts.dump_refused (one_no_dump dumps_one bytes none.cause none_too.cause none.no_dump
            none_too.no_dump)
            ∙ sym none_too.line,
      )

-- ---- dumps that are replayed

-- what is known of a dump that was written
record Written (settings : Settings) (bytes asked dumped : List ℕ) : Type 0 where
  pub catalog : Catalog
  pub says : SaysCatalog bytes catalog
  pub select : Select
  pub reading : IsReading asked select
  pub is_dump : IsDumpOf select catalog asked (dump_options settings) dumped

written_by : (files : FileNames) (settings : Settings) (held : List ℕ → Option (List ℕ)) (bytes asked dumped : List ℕ)
    → (o : DumpOutcome files settings held bytes asked dumped)
    → IsEnding (record { task = dump files; settings = settings }) (reads held o.before o.after) o.empty o.note Planned
    dumped → Written settings bytes asked dumped
written_by files settings held bytes asked dumped o (answered query asks search) = absurd asks
written_by files settings held bytes asked dumped o (from_dump other task end) = cc
written_by files settings held bytes asked dumped o (own_end own kept) = of_end own.ends
  where
    of_end : IsDumpEnd own.select own.catalog own.asked (dump_options settings) Planned dumped
        → Written settings bytes asked dumped
    of_end (written is few says) = record {
      catalog = own.catalog;
      says = subst (λ b. SaysCatalog b own.catalog)
          (told_one (held files.catalog) own.offers.bytes bytes own.offers.told o.catalog_told) own.offers.says;
      select = own.select;
      reading = subst (λ t. IsReading t own.select) (told_one (held files.query) own.asked asked own.told o.query_told)
          own.reading;
      is_dump = subst (λ t. IsDumpOf own.select own.catalog t (dump_options settings) dumped)
          (told_one (held files.query) own.asked asked own.told o.query_told) says;
    }
    of_end (too_long is long line) = cc
written_by files settings held bytes asked dumped o (stopped stop kept) = of_stop stop
  where
    of_stop : FilesStop (λ k. IsQueryRefused k settings.options) files.catalog files.query
        (reads held o.before o.after) Planned dumped → Written settings bytes asked dumped
    of_stop (by_catalog (unread is)) = let fault = is.fault in cc
    of_stop (by_catalog (unusable other told none)) = let refused = none.refused in cc
    of_stop (by_file catalog offers (unread is)) = let fault = is.fault in cc
    of_stop (by_file catalog offers (unusable other told why)) = let refused = why.refused in cc

pub dumps_replay : OneOf → OneDump → BindsAlike → BoundAlike → DumpsReplay
dumps_replay one dumps_one binds bound files others file settings later workers held told known bytes asked dumped first
    second text other o again plan =
    of_known (known_replay file later told dumped first text again again.ends)
  where
    is : Written settings bytes asked dumped
    is = written_by files settings held bytes asked dumped o o.ends

    of_bytes : Dump
    of_bytes = dump_of is.select is.catalog asked (dump_options settings)

    -- what the dump chooses
    chosen : (workers : ℕ) → Settings
    chosen = replay_settings (dump_options settings)

    -- the replay's answer is that over the whole catalogue
    whole_known : Known of_bytes.catalog (chosen later.workers) asked again.note first text
        → Known bytes (chosen later.workers) asked again.note first text
    whole_known (over catalog says answer) =
        let same = one_catalog of_bytes.catalog catalog (named_catalog is.select is.catalog) says is.is_dump.catalogue
        in
        over is.catalog is.says (whole_answer binds bound one.answer is.select is.catalog (chosen later.workers)
        asked is.reading again.note first text
        (subst (λ k. IsAnswer k (chosen later.workers) asked again.note first text) same answer))
    whole_known (without none) =
        let reads_well = is.is_dump.catalogue in let refused = none.no_catalog.first in cc

    of_known : KnownReplay dumped later.workers again.note first text → (first ≡ second) × (text ≡ other)
    of_known (of_dump a says answer) =
        let same = one_dump dumps_one dumped a of_bytes says (is.is_dump.short, is.is_dump.says) in
        let here : Known of_bytes.catalog (chosen later.workers) asked again.note first text =
        subst (λ (d : Dump). Known d.catalog (replay_settings d.options later.workers) d.query again.note first text)
        same
        answer in
        let ends = same_known one bytes (chosen 1) later.workers workers asked again.note plan.note first second
        text other (whole_known here)
        (known_of others (chosen workers) known bytes asked second other plan plan.ends) in
        (ends.status, equal_texts (chosen 1) later.workers workers text other refl ends.texts)
    of_known (of_none none) =
        absurd (dump_or_none dumps_one dumped none.cause of_bytes (is.is_dump.short, is.is_dump.says) none.no_dump)
