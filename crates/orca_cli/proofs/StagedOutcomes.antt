-- The outcome of a run in stages is one, by the bytes of its files.
use Rattle.std.proofs.Common.{◌≡◌, ℕ, List, Option, sym, ap, ◌∙◌, subst}
use Rattle.query_core.specs.declared.catalog.Catalog.{Catalog}
use Rattle.query_core.specs.declared.options.Options.{Options}
use Rattle.query_core.specs.declared.query.Query.{Query}
use Rattle.stage_plan.specs.Laws.{HasOneStaging}
use Rattle.command_line.specs.Command.{StageNames, stages}
use Rattle.command_line.specs.Stages.{AnyStage}
use Rattle.command_line.specs.declared.settings.Settings.{Settings}
use Rattle.orca_cli.specs.Asked.{SaysCatalog, Asks}
use Rattle.orca_cli.specs.Laws.{StagesOutcome, by, OneStages, BindsOnce}
use Rattle.orca_cli.specs.Prepared.{reads, QueryStops, unread, unusable, by_catalog, by_file, IsCatalogRefused}
use Rattle.orca_cli.specs.Prepared.{IsQueryRefused}
use Rattle.orca_cli.specs.Run.{IsEnding, answered, from_dump, own_end, stopped}
use Rattle.orca_cli.specs.Staged.{IsStagedEnd}
use Rattle.orca_cli.specs.Texts as texts
use Rattle.orca_cli.specs.declared.status.Status.{Status}
use Rattle.orca_cli.proofs.OneAnswer.{OneAnswer, told_one, one_catalog, some_catalog}
use Rattle.orca_cli.proofs.Outcomes.{one_fault}
use Rattle.orca_cli.proofs.Refusals.{one_query, never_refused, one_cause}
use Rattle.orca_cli.proofs.StagedEnds.{one_staged_end}

-- how a run in these stages over known bytes ends
data Known (bytes : List ℕ) (settings : Settings) (asked : List ℕ) (some : List AnyStage) (status : Status)
    (text : List ℕ) : Type 0 where
  with_query : (catalog : Catalog) → SaysCatalog bytes catalog → (query : Query)
      → Asks catalog settings.options asked query → IsStagedEnd query settings.capacity some status text
      → Known bytes settings asked some status text
  without_query : (catalog : Catalog) → SaysCatalog bytes catalog
      → IsQueryRefused catalog settings.options asked status text → Known bytes settings asked some status text
  without_catalog : IsCatalogRefused bytes status text → Known bytes settings asked some status text

-- what the shelf tells of both files
known_of : (named : StageNames) (settings : Settings) (held : List ℕ → Option (List ℕ)) (bytes asked : List ℕ)
    (status : Status) (text : List ℕ) → (o : StagesOutcome named settings held bytes asked status text)
    → IsEnding (record { task = stages named; settings = settings }) (reads held o.before o.after) o.empty o.note status
    text → Known bytes settings asked named.stages status text
known_of named settings held bytes asked status text o (answered query asks search) = absurd asks
known_of named settings held bytes asked status text o (from_dump other task end) = cc
known_of named settings held bytes asked status text o (own_end own kept) =
    with_query own.asks.catalog (subst (λ b. SaysCatalog b own.asks.catalog)
    (told_one (held named.files.catalog) own.asks.offers.bytes bytes own.asks.offers.told o.catalog_told)
    own.asks.offers.says) own.query (subst (λ t. Asks own.asks.catalog settings.options t own.query)
    (told_one (held named.files.query) own.asks.asked.asked asked own.asks.asked.told o.query_told) own.asks.asked.asks)
    own.end
known_of named settings held bytes asked status text o (stopped stop kept) = of_stop stop
  where
    of_stop : QueryStops named.files settings.options (reads held o.before o.after) status text
        → Known bytes settings asked named.stages status text
    of_stop (by_catalog (unread is)) = absurd (o.were_read is.fault)
    of_stop (by_catalog (unusable other told none)) =
        without_catalog (subst (λ b. IsCatalogRefused b status text)
        (told_one (held named.files.catalog) other bytes told o.catalog_told) none)
    of_stop (by_file catalog offers (unread is)) = absurd (o.were_read is.fault)
    of_stop (by_file catalog offers (unusable other told why)) =
        without_query catalog (subst (λ b. SaysCatalog b catalog)
        (told_one (held named.files.catalog) offers.bytes bytes offers.told o.catalog_told) offers.says)
        (subst (λ t. IsQueryRefused catalog settings.options t status text)
        (told_one (held named.files.query) other asked told o.query_told) why)

module _ (one : OneAnswer) (staging : (q : Query) → HasOneStaging q) (bytes : List ℕ) (settings : Settings)
    (workers more : ℕ) (asked : List ℕ) (some : List AnyStage) (first second : Status) (text other : List ℕ) where
  -- what is known of two runs over the same bytes is the same
  same_known : Known bytes (by workers settings) asked some first text
      → Known bytes (by more settings) asked some second other → (first ≡ second) × (text ≡ other)
  same_known (with_query k says q asks end) (with_query l says_too r asks_too end_too) =
      let here : Asks k settings.options asked r =
      subst (λ c. Asks c settings.options asked r) (one_catalog bytes l k says_too says) asks_too in
      let same : r ≡ q = one_query one.reading k settings.options asked one.links r q here.bound asks.bound in
      one_staged_end staging q asks.within settings.capacity some first second text other end
      (subst (λ x. IsStagedEnd x settings.capacity some second other) same end_too)
  same_known (with_query k says q asks end) (without_query l says_too why) =
      let here = subst (λ c. IsQueryRefused c settings.options asked second other)
      (one_catalog bytes l k says_too says) why in
      absurd (never_refused one.reading k settings.options asked q here.cause asks here.no_query)
  same_known (with_query k says q asks end) (without_catalog none) =
      absurd (some_catalog bytes none.cause k says none.no_catalog)
  same_known (without_query k says why) (with_query l says_too r asks end) =
      let here = subst (λ c. IsQueryRefused c settings.options asked first text)
      (one_catalog bytes k l says says_too) why in
      absurd (never_refused one.reading l settings.options asked r here.cause asks here.no_query)
  same_known (without_query k says why) (without_query l says_too why_too) =
      let here = subst (λ c. IsQueryRefused c settings.options asked second other)
      (one_catalog bytes l k says_too says) why_too in (
        why.refused ∙ sym here.refused,
        why.line ∙ ap texts.query_refused
            (one_cause one.reading k settings.options asked why.cause here.cause why.no_query here.no_query)
            ∙ sym here.line,
      )
  same_known (without_query k says why) (without_catalog none) =
      absurd (some_catalog bytes none.cause k says none.no_catalog)
  same_known (without_catalog none) (with_query k says q asks end) =
      absurd (some_catalog bytes none.cause k says none.no_catalog)
  same_known (without_catalog none) (without_query k says why) =
      absurd (some_catalog bytes none.cause k says none.no_catalog)
  same_known (without_catalog none) (without_catalog again) = (
    none.refused ∙ sym again.refused,
    none.line ∙ ap texts.catalog_refused (one_fault bytes none.cause again.cause none.no_catalog again.no_catalog)
        ∙ sym again.line,
  )

-- two runs in the same stages over the same bytes have one outcome
pub one_stages_of : OneAnswer → ((q : Query) → HasOneStaging q) → OneStages
one_stages_of one staging named others settings workers more held told bytes asked first second text other same o
    again =
    same_known one staging bytes settings workers more asked named.stages first second text other
    (known_of named (by workers settings) held bytes asked first text o o.ends)
    (subst (λ some. Known bytes (by more settings) asked some second other) same
    (known_of others (by more settings) told bytes asked second other again again.ends))

-- with the rules of a stage off a text asks for the query in that stage
pub bound_once : BindsOnce
bound_once catalog options text query stage asks = record {
  bound = record {
    select = asks.bound.select;
    reading = asks.bound.reading;
    bound = record {
      parts = asks.bound.bound.parts;
      no_fault = asks.bound.bound.no_fault;
      query = record {
        segments = asks.bound.bound.query.segments;
        tables = asks.bound.bound.query.tables;
        items = asks.bound.bound.query.items;
        preds = asks.bound.bound.query.preds;
        links = asks.bound.bound.query.links;
        grouped = asks.bound.bound.query.grouped;
        group_by = asks.bound.bound.query.group_by;
        aggs = asks.bound.bound.query.aggs;
        output = asks.bound.bound.query.output;
        order = asks.bound.bound.query.order;
        options = ap (λ (o : Options). record o { off = stage.off }) asks.bound.bound.query.options;
      };
    };
  };
  within = record { few_lists = asks.within.few_lists; few_orders = asks.within.few_orders };
}
