-- The answer to a text over a catalogue is one: the search of its query, or its refusal.
use Rattle.std.proofs.Common.{◌≡◌, ◌⊎◌, ℕ, List, Option, None, Some, Ok, Err, IfSome, subst, inl, inr}
use Rattle.query_core.specs.declared.catalog.Catalog.{Catalog}
use Rattle.query_core.specs.declared.options.Options.{Options}
use Rattle.query_core.specs.declared.query.Query.{Query}
use Rattle.catalog_json.specs.Outcome.{reading_of}
use Rattle.sql_reader.specs.Faults.{IsFirst, IsReading}
use Rattle.sql_reader.specs.declared.faults.SqlFault.{SqlFault}
use Rattle.sql_reader.specs.declared.syntax.Select.{Select}
use Rattle.sql_print.specs.Canonical.{canonical_text}
use Rattle.query_generator.specs.Catalog.{catalog_of}
use Rattle.query_generator.specs.Select.{select_of}
use Rattle.job_outcome.specs.Outcomes.{HasMoreEntries, FitsIn}
use Rattle.command_line.specs.Command.{FileNames, StageNames, ListNames, AnyTask}
use Rattle.command_line.specs.Command.{plan, gen, stages, check, dump, replay, batch}
use Rattle.command_line.specs.declared.settings.Settings.{Settings}
use Rattle.command_line.specs.declared.command.GenInput.{GenInput}
use Rattle.orca_cli.specs.Answers.{HasRoom, Note, IsSearchEnd, planned, unplanned, too_many}
use Rattle.orca_cli.specs.Answers.{IsAnswer, searched, turned_down}
use Rattle.orca_cli.specs.Asked.{SaysCatalog, IsNoCatalog, Asks, IsRefused}
use Rattle.orca_cli.specs.Batches.{IsBatch}
use Rattle.orca_cli.specs.Causes.{Holds, SurelyAsks, OneRose, ReadRose}
use Rattle.orca_cli.specs.Generated.{IsGenerated}
use Rattle.orca_cli.specs.Lists.{IsListRefused}
use Rattle.orca_cli.specs.Prepared.{Reads, AreTold, Offers, FilesAsk, generated_in, IsQueryRefused}
use Rattle.orca_cli.specs.Prepared.{unread, unusable, FilesStop, by_catalog, by_file}
use Rattle.orca_cli.specs.Run.{IsEnding, answered, from_dump, own_end, stopped}
use Rattle.orca_cli.specs.Sections.{Tells}
use Rattle.orca_cli.specs.Staged.{IsStagedEnd}
use Rattle.orca_cli.specs.Status.{IsOneOf, concluded, overflowed}
use Rattle.orca_cli.specs.declared.status.Status.{Status}
use Rattle.orca_cli.proofs.OneQuery.{OneLinks}
use Rattle.orca_cli.proofs.Refusals.{OneReading, one_query, never_refused}

-- bytes that are told are one
pub told_one : (held : Option (List ℕ)) (bytes content : List ℕ) → AreTold held bytes → held ≡ Some content
    → bytes ≡ content
told_one held bytes content told is = subst (λ h. IfSome h (λ c. bytes ≡ c)) is told

-- two readings of one catalogue are the same
pub one_catalog : (bytes : List ℕ) (catalog other : Catalog) → SaysCatalog bytes catalog → SaysCatalog bytes other
    → catalog ≡ other
one_catalog bytes catalog other says again =
    let read : reading_of bytes ≡ Ok catalog = says in
    let read_again : reading_of bytes ≡ Ok other = again in
    cc

-- bytes that say a catalogue aren't refused
pub some_catalog : (bytes cause : List ℕ) (catalog : Catalog) → SaysCatalog bytes catalog → IsNoCatalog bytes cause → ⊥
some_catalog bytes cause catalog says none =
    let read : reading_of bytes ≡ Ok catalog = says in
    let refused : reading_of bytes ≡ Err none.fault = none.first in
    cc

-- ---- the answer to a text

-- what a shelf holds under the names of a catalogue and of a text
module _ (catalog_name name : List ℕ) (shelf : Reads) (catalog : Catalog) (asked : List ℕ)
    (holds : Holds catalog_name name shelf.held catalog asked) where
  -- the catalogue that is offered is the one that is held
  pub offered_there : (other : Catalog) → Offers (shelf.held catalog_name) other → other ≡ catalog
  offered_there other offers =
      let says : SaysCatalog holds.bytes other =
      subst (λ b. SaysCatalog b other)
      (told_one (shelf.held catalog_name) offers.bytes holds.bytes offers.told holds.bytes_told) offers.says in
      one_catalog holds.bytes other catalog says holds.says

  -- what stops a run is a refusal of the text, where no count rose
  pub refused_there : (Refuses : Catalog → List ℕ → Status → List ℕ → Type 0) (status : Status) (text : List ℕ)
      → FilesStop Refuses catalog_name name shelf status text → (OneRose shelf catalog_name name → ⊥)
      → Refuses catalog asked status text
  refused_there Refuses status text (by_catalog (unread is)) no_read = absurd (no_read (inl is.rose))
  refused_there Refuses status text (by_catalog (unusable bytes told none)) no_read =
      absurd (some_catalog holds.bytes none.cause catalog holds.says (subst (λ b. IsNoCatalog b none.cause)
      (told_one (shelf.held catalog_name) bytes holds.bytes told holds.bytes_told) none.no_catalog))
  refused_there Refuses status text (by_file other offers (unread is)) no_read = absurd (no_read (inr is.rose))
  refused_there Refuses status text (by_file other offers (unusable bytes told why)) no_read =
      subst (λ k. Refuses k asked status text) (offered_there other offers)
      (subst (λ t. Refuses other t status text) (told_one (shelf.held name) bytes asked told holds.text_told) why)

-- the query for which two files ask is the one for which the text asks that they hold
pub asked_there : (files : FileNames) (options : Options) (shelf : Reads) (catalog : Catalog) (asked : List ℕ)
    → Holds files.catalog files.query shelf.held catalog asked → (query : Query)
    → FilesAsk files options shelf.held query → Asks catalog options asked query
asked_there files options shelf catalog asked holds query asks =
    let told = told_one (shelf.held files.query) asks.asked.asked asked asks.asked.told holds.text_told in
    subst (λ k. Asks k options asked query)
    (offered_there files.catalog files.query shelf catalog asked holds asks.catalog asks.offers)
    (subst (λ t. Asks asks.catalog options t query) told asks.asked.asks)

-- a run over files that hold a catalogue and a text ends with the answer to that text, where no count rose
pub answer_of : (files : FileNames) (settings : Settings) (shelf : Reads) (catalog : Catalog) (asked : List ℕ)
    → Holds files.catalog files.query shelf.held catalog asked → (note : Note) (status : Status) (text : List ℕ)
    (empty : Note) → (ReadRose (plan files) shelf → ⊥)
    → IsEnding (record { task = plan files; settings = settings }) shelf empty note status text
    → IsAnswer catalog settings asked note status text
answer_of files settings shelf catalog asked holds note status text empty no_read (answered query asks search) =
    searched query (asked_there files settings.options shelf catalog asked holds query asks) search
answer_of files settings shelf catalog asked holds note status text empty no_read (from_dump other task end) = cc
answer_of files settings shelf catalog asked holds note status text empty no_read (own_end own kept) = absurd own
answer_of files settings shelf catalog asked holds note status text empty no_read (stopped stop kept) =
    turned_down (refused_there files.catalog files.query shelf catalog asked holds
    (λ k. IsQueryRefused k settings.options) status text stop no_read)

-- and a batch with the answers to the lines of its list, or the list is refused
pub batch_of : (files : ListNames) (settings : Settings) (shelf : Reads) (catalog : Catalog) (list : List ℕ)
    → Holds files.catalog files.list shelf.held catalog list → (note : Note) (status : Status) (text : List ℕ)
    (empty : Note) → (ReadRose (batch files) shelf → ⊥)
    → IsEnding (record { task = batch files; settings = settings }) shelf empty note status text
    → IsListRefused settings.capacity list status text ⊎ IsBatch catalog settings list status text
batch_of files settings shelf catalog list holds note status text empty no_read (answered query asks search) =
    absurd asks
batch_of files settings shelf catalog list holds note status text empty no_read (from_dump other task end) = cc
batch_of files settings shelf catalog list holds note status text empty no_read (own_end own kept) =
    let told = told_one (shelf.held files.list) own.list list own.told holds.text_told in
    inr (subst (λ k. IsBatch k settings list status text)
    (offered_there files.catalog files.list shelf catalog list holds own.catalog own.offers)
    (subst (λ t. IsBatch own.catalog settings t status text) told own.is_batch))
batch_of files settings shelf catalog list holds note status text empty no_read (stopped stop kept) =
    inl (refused_there files.catalog files.list shelf catalog list holds (λ k. IsListRefused settings.capacity) status
    text stop no_read)

-- and one in stages with the end of the query for which the text asks, or the text is refused
pub staged_of : (named : StageNames) (settings : Settings) (shelf : Reads) (catalog : Catalog) (asked : List ℕ)
    → Holds named.files.catalog named.files.query shelf.held catalog asked → (note : Note) (status : Status)
    → (text : List ℕ) (empty : Note) → (ReadRose (stages named) shelf → ⊥)
    → IsEnding (record { task = stages named; settings = settings }) shelf empty note status text
    → IsQueryRefused catalog settings.options asked status text
    ⊎ ((query : Query) × Asks catalog settings.options asked query
    × IsStagedEnd query settings.capacity named.stages status text)
staged_of named settings shelf catalog asked holds note status text empty no_read (answered query asks search) =
    absurd asks
staged_of named settings shelf catalog asked holds note status text empty no_read (from_dump other task end) = cc
staged_of named settings shelf catalog asked holds note status text empty no_read (own_end own kept) =
    inr (own.query, asked_there named.files settings.options shelf catalog asked holds own.query own.asks, own.end)
staged_of named settings shelf catalog asked holds note status text empty no_read (stopped stop kept) =
    inl (refused_there named.files.catalog named.files.query shelf catalog asked holds
    (λ k. IsQueryRefused k settings.options) status text stop no_read)

-- what the layers below promise: a text has one reading or one fault, a query one list of links, and it has room or too
-- many entries
pub record OneAnswer : Type 0 where
  pub reading : OneReading
  pub links : OneLinks
  pub room : (q : Query) (capacity : ℕ) (members goals : List ℕ) → FitsIn q capacity members goals
      → HasMoreEntries q capacity → ⊥

pub one_answer_of : ((text : List ℕ) (a b : Select) → IsReading text a → IsReading text b → a ≡ b)
    → ((text : List ℕ) (f g : SqlFault) → IsFirst text f → IsFirst text g → f ≡ g)
    → ((text : List ℕ) (select : Select) (f : SqlFault) → IsReading text select → IsFirst text f → ⊥) → OneLinks
    → ((q : Query) (capacity : ℕ) (members goals : List ℕ) → FitsIn q capacity members goals
    → HasMoreEntries q capacity → ⊥)
    → OneAnswer
one_answer_of reading fault either links room =
    record { reading = record { reading = reading; fault = fault; either = either }; links = links; room = room }

-- a query has room, or it has too many entries
pub room_or_more : OneAnswer → (query : Query) (capacity : ℕ) → HasRoom query capacity → HasMoreEntries query capacity
    → ⊥
room_or_more one query capacity room more = one.room query capacity room.members room.goals room.fits more

-- ---- searches

module _ (one : OneAnswer) (Tells : List ℕ → List ℕ → Type 0) (settings : Settings) (query : Query) (note : Note)
    (status : Status) (text : List ℕ) where
  -- the search of a query with room settles it
  pub settled_search : HasRoom query settings.capacity → IsSearchEnd Tells settings query note status text
      → IsOneOf concluded status
  settled_search room (planned is has lines is_plan goes notes) = inl is
  settled_search room (unplanned is has impossible goes notes) = inr (inl is)
  settled_search room (too_many is more line count notes) =
      absurd (room_or_more one query settings.capacity room more)

  -- the search of a query with too many entries ends for want of room
  pub overflow_search : HasMoreEntries query settings.capacity → IsSearchEnd Tells settings query note status text
      → IsOneOf overflowed status
  overflow_search more (planned is room lines is_plan goes notes) =
      absurd (room_or_more one query settings.capacity room more)
  overflow_search more (unplanned is room impossible goes notes) =
      absurd (room_or_more one query settings.capacity room more)
  overflow_search more (too_many is has line count notes) = inl is

module _ (one : OneAnswer) (catalog : Catalog) (settings : Settings) (asked : List ℕ) (note : Note) (status : Status)
    (text : List ℕ) where
  -- the answer to a text that asks for a query is the search of this query
  pub search_of : (q : Query) → Asks catalog settings.options asked q → IsAnswer catalog settings asked note status text
      → IsSearchEnd (Tells None settings q) settings q note status text
  search_of q asks (searched query asks_too is) =
      subst (λ r. IsSearchEnd (Tells None settings r) settings r note status text)
      (one_query one.reading catalog settings.options asked one.links query q asks_too.bound asks.bound) is
  search_of q asks (turned_down why) =
      absurd (never_refused one.reading catalog settings.options asked q why.cause asks why.no_query)

  -- the answer to a text that is refused is a refusal
  pub refusal_of : (cause : List ℕ) → IsRefused catalog settings.options asked cause
      → IsAnswer catalog settings asked note status text
      → IsQueryRefused catalog settings.options asked status text
  refusal_of cause why (searched query asks is) =
      absurd (never_refused one.reading catalog settings.options asked query cause asks why)
  refusal_of cause why (turned_down is) = is

-- what is generated asks for one query
pub one_generated : OneAnswer → (input : GenInput) (options : Options) (q r : Query) → IsGenerated input options q
    → IsGenerated input options r → q ≡ r
one_generated one input options q r made again =
    one_query one.reading (catalog_of input.number input.tables) options
    (canonical_text (select_of input.shape input.tables)) one.links q r made.bound again.bound

-- a run of a command that surely asks for a query, in which no count of its files rose, ends with the query's search
pub sure_search : OneAnswer
    → (task : AnyTask) (settings : Settings) (shelf : Reads) (empty note : Note) (status : Status)
    (text : List ℕ) (query : Query) → SurelyAsks task settings.options shelf.held query → (ReadRose task shelf → ⊥)
    → IsEnding (record { task = task; settings = settings }) shelf empty note status text
    → IsSearchEnd (Tells (generated_in task) settings query) settings query note status text
sure_search one (plan files) settings shelf empty note status text query sure no_read ending =
    search_of one sure.catalog settings sure.text note status text query sure.asks
    (answer_of files settings shelf sure.catalog sure.text sure.holds note status text empty no_read ending)
sure_search one (gen input) settings shelf empty note status text query made no_read (answered other again search) =
    subst (λ r. IsSearchEnd (Tells (Some input) settings r) settings r note status text)
    (one_generated one input settings.options other query again made) search
sure_search one (gen input) settings shelf empty note status text query made no_read (from_dump other task end) = cc
sure_search one (gen input) settings shelf empty note status text query made no_read (own_end own kept) = absurd own
sure_search one (gen input) settings shelf empty note status text query made no_read (stopped stop kept) = absurd stop
sure_search one (stages named) settings shelf empty note status text query sure no_read ending = absurd sure
sure_search one (check named) settings shelf empty note status text query sure no_read ending = absurd sure
sure_search one (dump files) settings shelf empty note status text query sure no_read ending = absurd sure
sure_search one (replay file) settings shelf empty note status text query sure no_read ending = absurd sure
sure_search one (batch files) settings shelf empty note status text query sure no_read ending = absurd sure
