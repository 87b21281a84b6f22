-- The statuses of dumps and of replays over known bytes.
use Rattle.std.proofs.Common.{◌≡◌, ◌⊎◌, ◌<◌, ◌≤◌, ℕ, List, None, Ok, length, subst, arith, inl, inr}
use Rattle.query_core.specs.declared.catalog.Catalog.{Catalog}
use Rattle.query_core.specs.declared.query.Query.{Query}
use Rattle.sql_reader.specs.declared.syntax.Select.{Select}
use Rattle.catalog_json.specs.Outcome.{most_bytes}
use Rattle.dump_replay.specs.Dumps.{IsReadAs}
use Rattle.dump_replay.specs.Named.{dumped_catalog}
use Rattle.dump_replay.specs.declared.dump.Dump.{Dump}
use Rattle.dump_replay.specs.declared.dump.DumpOptions.{DumpOptions}
use Rattle.orca_cli.specs.Answers.{Note, IsSearchEnd}
use Rattle.orca_cli.specs.Asked.{Asks}
use Rattle.orca_cli.specs.DumpCauses.{IsRefusedIn}
use Rattle.orca_cli.specs.Dumps.{replay_settings, IsDumpEnd, written, too_long, DumpAsks}
use Rattle.orca_cli.specs.Prepared.{AsksNothing, over_none, over_catalog, IsReplayRefused, no_dump, no_query}
use Rattle.orca_cli.specs.Replays.{IsNoDump}
use Rattle.orca_cli.specs.Sections.{Tells}
use Rattle.orca_cli.specs.Status.{IsOneOf, served, undumped}
use Rattle.orca_cli.specs.declared.status.Status.{Status}
use Rattle.orca_cli.specs.declared.status.Status.TheVariants.{QueryRefused, DumpRefused}
use Rattle.orca_cli.proofs.OneAnswer.{OneAnswer, one_catalog, some_catalog}
use Rattle.orca_cli.proofs.DumpAnswers.{OneDump, ReplayHere, dump_or_none, one_asked, one_dump}
use Rattle.orca_cli.proofs.Refusals.{never_refused}

-- ---- dumps

module _ (select : Select) (catalog : Catalog) (query : List ℕ) (options : DumpOptions) (status : Status)
    (text : List ℕ) where
  -- a query is dumped whose catalogue's text isn't too long
  pub dumped_end : length (dumped_catalog select catalog) ≤ most_bytes
      → IsDumpEnd select catalog query options status text → IsOneOf served status
  dumped_end within (written is few says) = inl is
  dumped_end within (too_long is long line) = absurd (omega (arith, within, long))

  -- and the other is refused
  pub long_end : most_bytes < length (dumped_catalog select catalog)
      → IsDumpEnd select catalog query options status text → IsOneOf undumped status
  long_end long (written is few says) = absurd (omega (arith, few, long))
  long_end long (too_long is long_too line) = inl is

-- ---- replays

-- a dump that asks for a query doesn't ask for nothing
never_nothing : OneAnswer → (of_bytes : Dump) (query : Query) (status : Status) (text : List ℕ)
    → DumpAsks of_bytes query → AsksNothing of_bytes status text → ⊥
never_nothing one of_bytes query status text asks (over_none none) =
    some_catalog of_bytes.catalog none.cause asks.catalog asks.says none.no_catalog
never_nothing one of_bytes query status text asks (over_catalog catalog says why) =
    let same = one_catalog of_bytes.catalog asks.catalog catalog asks.says says in
    never_refused one.reading catalog of_bytes.options.options of_bytes.query query why.cause
    (subst (λ k. Asks k of_bytes.options.options of_bytes.query query) same asks.asks) why.no_query

-- a dump whose query is refused asks for no query
never_asks : OneAnswer → (of_bytes : Dump) (query : Query) → IsRefusedIn of_bytes → DumpAsks of_bytes query → ⊥
never_asks one of_bytes query none asks =
    let same = one_catalog of_bytes.catalog asks.catalog none.catalog asks.says none.says in
    never_refused one.reading none.catalog of_bytes.options.options of_bytes.query query none.cause
    (subst (λ k. Asks k of_bytes.options.options of_bytes.query query) same asks.asks) none.refused

module _ (one : OneAnswer) (dumps_one : OneDump) (bytes : List ℕ) (of_bytes : Dump)
    (says : IsReadAs bytes (Ok of_bytes))
    (workers : ℕ) (note : Note) (status : Status) (text : List ℕ) where
  -- bytes that say a dump are refused only where the dump asks for nothing
  asks_nothing : IsReplayRefused bytes status text → AsksNothing of_bytes status text
  asks_nothing (no_dump is) = absurd (dump_or_none dumps_one bytes is.cause of_bytes says is.no_dump)
  asks_nothing (no_query other again nothing) =
      subst (λ d. AsksNothing d status text) (one_dump dumps_one bytes other of_bytes again says) nothing

  -- the replay of a dump that asks for a query is the search of this query
  pub replayed_search : (query : Query) → DumpAsks of_bytes query
      → IsReplayRefused bytes status text ⊎ ReplayHere bytes workers note status text
      → IsSearchEnd (Tells None (replay_settings of_bytes.options workers) query)
      (replay_settings of_bytes.options workers) query note status text
  replayed_search query asks (inl why) = absurd (never_nothing one of_bytes query status text asks (asks_nothing why))
  replayed_search query asks (inr here) =
      let same = one_dump dumps_one bytes here.of_bytes of_bytes here.says says in
      let chosen = replay_settings of_bytes.options workers in
      let query_too : DumpAsks of_bytes here.query = subst (λ d. DumpAsks d here.query) same here.asks in
      let found : IsSearchEnd (Tells None chosen here.query) chosen here.query note status text =
      subst (λ (d : Dump). IsSearchEnd (Tells None (replay_settings d.options workers) here.query)
      (replay_settings d.options workers) here.query note status text) same here.ends in
      subst (λ q. IsSearchEnd (Tells None chosen q) chosen q note status text)
      (one_asked one of_bytes here.query query query_too asks) found

  -- the replay of a dump whose query is refused refuses it
  pub refused_replay : IsRefusedIn of_bytes
      → IsReplayRefused bytes status text ⊎ ReplayHere bytes workers note status text → status ≡ QueryRefused
  refused_replay none (inl why) = of_nothing (asks_nothing why)
    where
      of_nothing : AsksNothing of_bytes status text → status ≡ QueryRefused
      of_nothing (over_none lacking) =
          absurd (some_catalog of_bytes.catalog lacking.cause none.catalog none.says lacking.no_catalog)
      of_nothing (over_catalog catalog read refused) = refused.refused
  refused_replay none (inr here) =
      let same = one_dump dumps_one bytes here.of_bytes of_bytes here.says says in
      absurd (never_asks one of_bytes here.query none (subst (λ d. DumpAsks d here.query) same here.asks))

-- the replay of bytes that are no dump refuses them as such
pub refused_dump : OneDump → (bytes cause : List ℕ) (workers : ℕ) (note : Note) (status : Status) (text : List ℕ)
    → IsNoDump bytes cause → IsReplayRefused bytes status text ⊎ ReplayHere bytes workers note status text
    → status ≡ DumpRefused
refused_dump one bytes cause workers note status text none (inl (no_dump is)) = is.refused
refused_dump one bytes cause workers note status text none (inl (no_query other says nothing)) =
    absurd (dump_or_none one bytes cause other says none)
refused_dump one bytes cause workers note status text none (inr here) =
    absurd (dump_or_none one bytes cause here.of_bytes here.says none)
