-- The outcome of a check is one, by the bytes of its files.
use Rattle.std.proofs.Common.{◌≡◌, ℕ, List, Option, sym, ap, ◌∙◌, subst}
use Rattle.query_core.specs.declared.catalog.Catalog.{Catalog}
use Rattle.query_core.specs.declared.options.Options.{Options}
use Rattle.query_core.specs.declared.query.Query.{Query}
use Rattle.text_check.specs.declared.text_fault.TextFault.TheVariants as faults
use Rattle.command_line.specs.Command.{PlanNames, check}
use Rattle.command_line.specs.declared.settings.Settings.{Settings}
use Rattle.orca_cli.specs.Asked.{SaysCatalog, Asks}
use Rattle.orca_cli.specs.Checked.{IsCheckEnd, faulty}
use Rattle.orca_cli.specs.Laws.{CheckOutcome, OneCheck}
use Rattle.orca_cli.specs.Prepared.{reads, Offers, FilesAsk, IsCatalogRefused, IsQueryRefused, FilesStop, CheckStops}
use Rattle.orca_cli.specs.Prepared.{unread, unusable, by_catalog, by_file, by_query, by_plan}
use Rattle.orca_cli.specs.Run.{IsEnding, answered, from_dump, own_end, stopped}
use Rattle.orca_cli.specs.Texts as texts
use Rattle.orca_cli.specs.declared.status.Status.{Status}
use Rattle.orca_cli.proofs.CheckedEnds.{OneText, one_check}
use Rattle.orca_cli.proofs.OneAnswer.{OneAnswer, told_one, one_catalog, some_catalog}
use Rattle.orca_cli.proofs.Outcomes.{one_fault}
use Rattle.orca_cli.proofs.Refusals.{one_query, never_refused, one_cause}

-- how a check over known bytes ends
data KnownCheck (bytes : List ℕ) (options : Options) (asked plan : List ℕ) (status : Status) (text : List ℕ) : Type 0
  where
    checked : (catalog : Catalog) → SaysCatalog bytes catalog → (query : Query) → Asks catalog options asked query
        → IsCheckEnd query plan status text → KnownCheck bytes options asked plan status text
    without_query : (catalog : Catalog) → SaysCatalog bytes catalog → IsQueryRefused catalog options asked status text
        → KnownCheck bytes options asked plan status text
    without_catalog : IsCatalogRefused bytes status text → KnownCheck bytes options asked plan status text

module _ (named : PlanNames) (settings : Settings) (held : List ℕ → Option (List ℕ)) (bytes asked plan : List ℕ)
    (status : Status) (text : List ℕ) (o : CheckOutcome named settings held bytes asked plan status text) where
  -- what the shelf tells of the catalogue, and of the query over it
  says_there : (catalog : Catalog) → Offers (held named.files.catalog) catalog → SaysCatalog bytes catalog
  says_there catalog offers = subst (λ b. SaysCatalog b catalog)
      (told_one (held named.files.catalog) offers.bytes bytes offers.told o.catalog_told) offers.says

  asks_there : (query : Query) → (asks : FilesAsk named.files settings.options held query)
      → Asks asks.catalog settings.options asked query
  asks_there query asks = subst (λ t. Asks asks.catalog settings.options t query)
      (told_one (held named.files.query) asks.asked.asked asked asks.asked.told o.query_told) asks.asked.asks

  of_query_stop : FilesStop (λ k. IsQueryRefused k settings.options) named.files.catalog named.files.query
      (reads held o.before o.after) status text → KnownCheck bytes settings.options asked plan status text
  of_query_stop (by_catalog (unread is)) = absurd (o.were_read is.fault)
  of_query_stop (by_catalog (unusable other told none)) =
      without_catalog (subst (λ b. IsCatalogRefused b status text)
      (told_one (held named.files.catalog) other bytes told o.catalog_told) none)
  of_query_stop (by_file catalog offers (unread is)) = absurd (o.were_read is.fault)
  of_query_stop (by_file catalog offers (unusable other told why)) =
      without_query catalog (says_there catalog offers) (subst
      (λ t. IsQueryRefused catalog settings.options t status text)
      (told_one (held named.files.query) other asked told o.query_told) why)

  of_stop : CheckStops named settings.options (reads held o.before o.after) status text
      → KnownCheck bytes settings.options asked plan status text
  of_stop (by_query stop) = of_query_stop stop
  of_stop (by_plan query asks (unread is)) = absurd (o.were_read is.fault)
  of_stop (by_plan query asks (unusable other told why)) =
      checked asks.catalog (says_there asks.catalog asks.offers) query (asks_there query asks)
      (subst (λ b. IsCheckEnd query b status text) (told_one (held named.plan) other plan told o.plan_told)
      (faulty why.refused faults.TooLong (λ same. cc) why.long why.line))

  known_check : IsEnding (record { task = check named; settings = settings }) (reads held o.before o.after) o.empty
      o.note
      status text → KnownCheck bytes settings.options asked plan status text
  known_check (answered query asks search) = absurd asks
  known_check (from_dump other task end) = cc
  known_check (own_end own kept) =
      checked own.asks.catalog (says_there own.asks.catalog own.asks.offers) own.query (asks_there own.query own.asks)
      (subst (λ b. IsCheckEnd own.query b status text) (told_one (held named.plan) own.plan plan own.told o.plan_told)
      own.end)
  known_check (stopped stop kept) = of_stop stop

module _ (one : OneAnswer) (outcomes : OneText) (bytes : List ℕ) (options : Options) (asked plan : List ℕ)
    (first second : Status) (text other : List ℕ) where
  -- what is known of two checks over the same bytes is the same
  same_checks : KnownCheck bytes options asked plan first text → KnownCheck bytes options asked plan second other
      → (first ≡ second) × (text ≡ other)
  same_checks (checked k says q asks end) (checked l says_too r asks_too end_too) =
      let catalog = one_catalog bytes l k says_too says in
      let here = subst (λ c. Asks c options asked r) catalog asks_too in
      let query : r ≡ q = one_query one.reading k options asked one.links r q here.bound asks.bound in
      one_check outcomes q plan first second text other end (subst (λ s. IsCheckEnd s plan second other) query end_too)
  same_checks (checked k says q asks end) (without_query l says_too why) =
      let here = subst (λ c. IsQueryRefused c options asked second other) (one_catalog bytes l k says_too says) why in
      absurd (never_refused one.reading k options asked q here.cause asks here.no_query)
  same_checks (checked k says q asks end) (without_catalog none) =
      absurd (some_catalog bytes none.cause k says none.no_catalog)
  same_checks (without_query k says why) (checked l says_too r asks end) =
      let here = subst (λ c. Asks c options asked r) (one_catalog bytes l k says_too says) asks in
      absurd (never_refused one.reading k options asked r why.cause here why.no_query)
  same_checks (without_query k says why) (without_query l says_too why_too) =
      let here = subst (λ c. IsQueryRefused c options asked second other) (one_catalog bytes l k says_too says)
      why_too in (
        why.refused ∙ sym here.refused,
        why.line ∙ ap texts.query_refused
            (one_cause one.reading k options asked why.cause here.cause why.no_query here.no_query) ∙ sym here.line,
      )
  same_checks (without_query k says why) (without_catalog none) =
      absurd (some_catalog bytes none.cause k says none.no_catalog)
  same_checks (without_catalog none) (checked l says r asks end) =
      absurd (some_catalog bytes none.cause l says none.no_catalog)
  same_checks (without_catalog none) (without_query l says why) =
      absurd (some_catalog bytes none.cause l says none.no_catalog)
  same_checks (without_catalog none) (without_catalog again) = (
    none.refused ∙ sym again.refused,
    none.line ∙ ap texts.catalog_refused (one_fault bytes none.cause again.cause none.no_catalog again.no_catalog)
        ∙ sym again.line,
  )

-- two checks over the same bytes have one outcome
pub one_check_of : OneAnswer → OneText → OneCheck
one_check_of one outcomes named others settings held told bytes asked plan first second text other o again =
    same_checks one outcomes bytes settings.options asked plan first second text other
    (known_check named settings held bytes asked plan first text o o.ends)
    (known_check others settings told bytes asked plan second other again again.ends)
