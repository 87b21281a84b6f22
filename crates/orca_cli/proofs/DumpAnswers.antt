-- How a dump and a replay end over known bytes, where no count rose.
use Rattle.std.proofs.Common.{◌≡◌, ◌⊎◌, ℕ, List, None, Some, Ok, Err, refl, sym, ap, ◌∙◌, subst, inl, inr}
use Rattle.std.proofs.Common.{arith}
use Rattle.query_core.specs.declared.catalog.Catalog.{Catalog}
use Rattle.query_core.specs.declared.query.Query.{Query}
use Rattle.sql_reader.specs.Faults.{IsReading}
use Rattle.sql_reader.specs.declared.syntax.Select.{Select}
use Rattle.dump_replay.specs.Dumps.{IsReadAs}
use Rattle.dump_replay.specs.Laws.{SaysOne, HasOneFault, SaysOrLacks}
use Rattle.dump_replay.specs.declared.dump.Dump.{Dump}
use Rattle.dump_replay.specs.declared.dump.DumpFault.{DumpFault}
use Rattle.dump_replay.specs.declared.dump.DumpFault.TheVariants.{TooLong, Line, Memory}
use Rattle.command_line.specs.Command.{FileNames, dump, replay}
use Rattle.command_line.specs.declared.settings.Settings.{Settings}
use Rattle.orca_cli.specs.Answers.{Note, IsSearchEnd}
use Rattle.orca_cli.specs.Asked.{Asks}
use Rattle.orca_cli.specs.Causes.{Holds, ReadRose}
use Rattle.orca_cli.specs.Dumps.{dump_options, replay_settings, IsDumpEnd, DumpAsks}
use Rattle.orca_cli.specs.Prepared.{Reads, IsQueryRefused, IsReplayRefused, unread, unusable}
use Rattle.orca_cli.specs.Replays.{IsNoDump}
use Rattle.orca_cli.specs.Run.{IsEnding, answered, from_dump, own_end, stopped}
use Rattle.orca_cli.specs.Sections.{Tells}
use Rattle.orca_cli.specs.Texts.{dump_cause}
use Rattle.orca_cli.specs.declared.status.Status.{Status}
use Rattle.orca_cli.proofs.OneAnswer.{OneAnswer, told_one, one_catalog, refused_there, offered_there}
use Rattle.orca_cli.proofs.Refusals.{one_query}

-- what the layer of dumps promises: a text says one dump, or has one first fault, and never both
pub record OneDump : Type 0 where
  pub one : SaysOne
  pub fault : HasOneFault
  pub either : SaysOrLacks

pub one_dump_of : SaysOne → HasOneFault → SaysOrLacks → OneDump
one_dump_of one fault either = record { one = one; fault = fault; either = either }

-- ---- dumps

-- the end of the dump of a text that asks for a query over the catalogue
pub record DumpHere (catalog : Catalog) (settings : Settings) (asked : List ℕ) (status : Status)
    (text : List ℕ) : Type 0
  where
    pub select : Select
    pub reading : IsReading asked select
    pub query : Query
    pub asks : Asks catalog settings.options asked query
    pub ends : IsDumpEnd select catalog asked (dump_options settings) status text

-- a dump over files that hold a catalogue and a text ends so, or the text is refused
pub dumped_of : (files : FileNames) (settings : Settings) (shelf : Reads) (catalog : Catalog) (asked : List ℕ)
    → Holds files.catalog files.query shelf.held catalog asked → (note : Note) (status : Status) (text : List ℕ)
    (empty : Note) → (ReadRose (dump files) shelf → ⊥)
    → IsEnding (record { task = dump files; settings = settings }) shelf empty note status text
    → IsQueryRefused catalog settings.options asked status text ⊎ DumpHere catalog settings asked status text
dumped_of files settings shelf catalog asked holds note status text empty no_read (answered query asks search) =
    absurd asks
dumped_of files settings shelf catalog asked holds note status text empty no_read (from_dump other task end) = cc
dumped_of files settings shelf catalog asked holds note status text empty no_read (own_end own kept) =
    let there : DumpHere own.catalog settings own.asked status text =
    record { select = own.select; reading = own.reading; query = own.query; asks = own.asks; ends = own.ends } in
    inr (subst (λ k. DumpHere k settings asked status text)
    (offered_there files.catalog files.query shelf catalog asked holds own.catalog own.offers)
    (subst (λ t. DumpHere own.catalog settings t status text)
    (told_one (shelf.held files.query) own.asked asked own.told holds.text_told) there))
dumped_of files settings shelf catalog asked holds note status text empty no_read (stopped stop kept) =
    inl (refused_there files.catalog files.query shelf catalog asked holds (λ k. IsQueryRefused k settings.options)
    status text stop no_read)

-- ---- replays

-- the end of the replay of bytes that say a dump which asks for a query
pub record ReplayHere (bytes : List ℕ) (workers : ℕ) (note : Note) (status : Status) (text : List ℕ) : Type 0 where
  pub of_bytes : Dump
  pub says : IsReadAs bytes (Ok of_bytes)
  pub query : Query
  pub asks : DumpAsks of_bytes query
  pub ends : IsSearchEnd (Tells None (replay_settings of_bytes.options workers) query)
      (replay_settings of_bytes.options workers) query note status text

-- a replay of a file that holds bytes ends so, or the bytes are refused
pub replayed_of : (file : List ℕ) (settings : Settings) (shelf : Reads) (bytes : List ℕ) → shelf.held file ≡ Some bytes
    → (note : Note) (status : Status) (text : List ℕ) (empty : Note) → (ReadRose (replay file) shelf → ⊥)
    → IsEnding (record { task = replay file; settings = settings }) shelf empty note status text
    → IsReplayRefused bytes status text ⊎ ReplayHere bytes settings.workers note status text
replayed_of file settings shelf bytes held note status text empty no_read (answered query asks search) = absurd asks
replayed_of file settings shelf bytes held note status text empty no_read (from_dump other task end) =
    let same : other ≡ file = cc in
    let told : shelf.held other ≡ Some bytes = ap shelf.held same ∙ held in
    let says = subst (λ b. IsReadAs b (Ok end.dump))
    (told_one (shelf.held other) end.offers.bytes bytes end.offers.told told) end.offers.says in
    inr (record { of_bytes = end.dump; says = says; query = end.query; asks = end.asks; ends = end.ends })
replayed_of file settings shelf bytes held note status text empty no_read (own_end own kept) = absurd own
replayed_of file settings shelf bytes held note status text empty no_read (stopped (unread is) kept) =
    absurd (no_read is.rose)
replayed_of file settings shelf bytes held note status text empty no_read (stopped (unusable other told why) kept) =
    inl (subst (λ b. IsReplayRefused b status text) (told_one (shelf.held file) other bytes told held) why)

-- ---- one dump

-- bytes say one dump
pub one_dump : OneDump → (bytes : List ℕ) (a b : Dump) → IsReadAs bytes (Ok a) → IsReadAs bytes (Ok b) → a ≡ b
one_dump one bytes a b says again = one.one bytes a b says.1 again.1

-- bytes that say a dump are one
pub dump_or_none : OneDump → (bytes cause : List ℕ) (a : Dump) → IsReadAs bytes (Ok a) → IsNoDump bytes cause → ⊥
dump_or_none one bytes cause a says none = of_fault none.fault none.read none.not_memory
  where
    of_fault : (fault : DumpFault) → IsReadAs bytes (Err fault) → (fault ≡ Memory → ⊥) → ⊥
    of_fault TooLong long other = let short = says.0 in omega arith
    of_fault (Line number) lacks other = one.either bytes a number says.1 lacks.1
    of_fault Memory read other = other refl

-- bytes that are no dump have one cause
pub one_no_dump : OneDump → (bytes cause other : List ℕ) → IsNoDump bytes cause → IsNoDump bytes other → cause ≡ other
one_no_dump one bytes cause other is again =
    is.caused ∙ ap dump_cause (of_faults is.fault again.fault is.read again.read is.not_memory again.not_memory)
    ∙ sym again.caused
  where
    of_faults : (f g : DumpFault) → IsReadAs bytes (Err f) → IsReadAs bytes (Err g) → (f ≡ Memory → ⊥)
        → (g ≡ Memory → ⊥) → f ≡ g
    of_faults TooLong TooLong long again_long a b = refl
    of_faults TooLong (Line n) long lacks a b = let short = lacks.0 in absurd (omega arith)
    of_faults (Line m) TooLong lacks long a b = let short = lacks.0 in absurd (omega arith)
    of_faults (Line m) (Line n) lacks again_lacks a b = ap Line (one.fault bytes m n lacks.1 again_lacks.1)
    of_faults Memory g read again_read a b = absurd (a refl)
    of_faults f Memory read again_read a b = absurd (b refl)

-- a dump asks for one query
pub one_asked : OneAnswer → (of_bytes : Dump) (q r : Query) → DumpAsks of_bytes q → DumpAsks of_bytes r → q ≡ r
one_asked one of_bytes q r asks again =
    let same = one_catalog of_bytes.catalog again.catalog asks.catalog again.says asks.says in
    one_query one.reading asks.catalog of_bytes.options.options of_bytes.query one.links q r asks.asks.bound
    (subst (λ k. Asks k of_bytes.options.options of_bytes.query r) same again.asks).bound
