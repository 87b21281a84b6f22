-- The outcome of a run is one, by the bytes of its files.
use Rattle.std.proofs.Common.{◌≡◌, ℕ, List, Option, None, Some, Err, sym, ap, ◌∙◌, subst, refl, inl, inr}
use Rattle.std.specs.List.{concat}
use Rattle.query_core.specs.declared.catalog.Catalog.{Catalog}
use Rattle.query_core.specs.declared.query.Query.{Query}
use Rattle.catalog_json.specs.Outcome.{reading_of}
use Rattle.request_props.specs.Numbered.{IsWithinLimits}
use Rattle.plan_space.specs.Nodes.{Tree}
use Rattle.plan_space.specs.Least.{IsLeastPlan}
use Rattle.plan_lines.specs.Text.{plan_section}
use Rattle.command_line.specs.Command.{FileNames, plan, gen}
use Rattle.command_line.specs.declared.settings.Settings.{Settings}
use Rattle.orca_cli.specs.Asked.{SaysCatalog, IsNoCatalog, Asks}
use Rattle.orca_cli.specs.Answers.{Note, IsPlanText, IsSearchEnd, planned, unplanned, too_many}
use Rattle.orca_cli.specs.Answers.{IsAnswer, searched, turned_down}
use Rattle.orca_cli.specs.Prepared.{reads, FilesStop, unread, unusable, by_catalog, by_file}
use Rattle.orca_cli.specs.Prepared.{IsCatalogRefused, IsQueryRefused}
use Rattle.orca_cli.specs.Run.{IsEnding, answered, from_dump, own_end, stopped}
use Rattle.orca_cli.specs.Laws.{Outcome, by, SameTexts, Same, OneOutcome, OneGenerated}
use Rattle.orca_cli.specs.Sections.{Tells}
use Rattle.orca_cli.specs.Status.{IsOneOf, by_files}
use Rattle.orca_cli.specs.Texts as texts
use Rattle.orca_cli.specs.declared.status.Status.{Status}
use Rattle.orca_cli.specs.declared.status.Status.TheVariants.{ReadFault}
use Rattle.orca_cli.proofs.OneAnswer.{OneAnswer, room_or_more, told_one, one_catalog, some_catalog, one_generated}
use Rattle.orca_cli.proofs.SectionTexts.{OneSections, sections_same, first_lines_one, same_texts}
use Rattle.orca_cli.proofs.Refusals.{one_query, never_refused, one_cause}

-- a query within the limits has one least plan
unfoldable OneLeast : Type 0
OneLeast = (q : Query) (s t : Tree) → IsWithinLimits q → IsLeastPlan q s → IsLeastPlan q t → s ≡ t

-- the texts of one query's least plan are one
one_text : OneLeast → (query other : Query) (text again : List ℕ) → IsWithinLimits query → query ≡ other
    → IsPlanText query text → IsPlanText other again → text ≡ again
unfolding OneLeast
one_text one query other text again within same is other_is =
    let here : IsPlanText query again = subst (λ q. IsPlanText q again) (sym same) other_is in
    let tree = one query is.plan here.plan within is.least here.least in
    is.lines ∙ ap (λ t. concat (plan_section query t)) tree ∙ sym here.lines

-- what makes an outcome one
pub record OneOf : Type 0 where
  pub answer : OneAnswer
  least : OneLeast
  sections : OneSections

module _ (one : OneOf) (q : Query) (within : IsWithinLimits q) (settings : Settings) (workers more : ℕ)
    (Told Again : List ℕ → List ℕ → Type 0) (AreSame : List ℕ → List ℕ → Type 0)
    (told : (lines text other : List ℕ) → Told lines text → Again lines other → AreSame text other)
    (equal : (text other : List ℕ) → text ≡ other → AreSame text other)
    (note later : Note) (first second : Status) (text other : List ℕ) where
  -- two searches of one query end in one way
  one_search : IsSearchEnd Told (by workers settings) q note first text
      → IsSearchEnd Again (by more settings) q later second other → (first ≡ second) × AreSame text other
  one_search (planned a room lines is goes notes) (planned b room_too lines_too is_too goes_too notes_too) =
      let same = one_text one.least q q lines lines_too within refl is is_too in
      (a ∙ sym b, told lines text other goes (subst (λ l. Again l other) (sym same) goes_too))
  one_search (planned a room lines is goes notes) (unplanned b room_too none goes_too notes_too) =
      absurd (none is.plan is.least.serves)
  one_search (planned a room lines is goes notes) (too_many b many line count notes_too) =
      absurd (room_or_more one.answer q settings.capacity room many)
  one_search (unplanned a room none goes notes) (planned b room_too lines is goes_too notes_too) =
      absurd (none is.plan is.least.serves)
  one_search (unplanned a room none goes notes) (unplanned b room_too none_too goes_too notes_too) =
      (a ∙ sym b, told texts.no_plan text other goes goes_too)
  one_search (unplanned a room none goes notes) (too_many b many line count notes_too) =
      absurd (room_or_more one.answer q settings.capacity room many)
  one_search (too_many a many line count notes) (planned b room lines is goes notes_too) =
      absurd (room_or_more one.answer q settings.capacity room many)
  one_search (too_many a many line count notes) (unplanned b room none goes notes_too) =
      absurd (room_or_more one.answer q settings.capacity room many)
  one_search (too_many a many line count notes) (too_many b many_too line_too finished_too notes_too) =
      (a ∙ sym b, equal text other (line ∙ sym line_too))

module _ (one : OneOf) (catalog : Catalog) (settings : Settings) (workers more : ℕ) (asked : List ℕ) (note later : Note)
    (first second : Status) (text other : List ℕ) where
  -- two answers to one text over one catalogue are the same
  pub same_answers : IsAnswer catalog (by workers settings) asked note first text
      → IsAnswer catalog (by more settings) asked later second other
      → Same settings workers more first second text other
  same_answers (searched q asks is) (searched r asks_too is_too) =
      let same : q ≡ r = one_query one.answer.reading catalog settings.options asked one.answer.links q r asks.bound
      asks_too.bound in
      let (status, texts) = one_search one q asks.within settings workers more (Tells None (by workers settings) q)
      (Tells None (by more settings) q) (SameTexts settings workers more)
      (λ lines t o goes goes_too. sections_same settings workers more q one.sections lines lines t o asks.within refl
      goes
      goes_too)
      (same_texts settings workers more) note later first second text other is
      (subst (λ q. IsSearchEnd (Tells None (by more settings) q) (by more settings) q later second other) (sym same)
      is_too) in
      record { status = status; texts = texts }
  same_answers (searched q asks is) (turned_down why) =
      absurd (never_refused one.answer.reading catalog settings.options asked q why.cause asks why.no_query)
  same_answers (turned_down why) (searched r asks is) =
      absurd (never_refused one.answer.reading catalog settings.options asked r why.cause asks why.no_query)
  same_answers (turned_down why) (turned_down again) =
      let same : text ≡ other = why.line ∙ ap texts.query_refused
      (one_cause one.answer.reading catalog settings.options asked why.cause again.cause why.no_query again.no_query)
      ∙ sym again.line in
      record {
        status = why.refused ∙ sym again.refused;
        texts = same_texts settings workers more text other same;
      }

-- how a run over known bytes ends
pub data Known (bytes : List ℕ) (settings : Settings) (asked : List ℕ) (note : Note) (status : Status) (text : List ℕ) :
    Type 0
  where
    over : (catalog : Catalog) → SaysCatalog bytes catalog → IsAnswer catalog settings asked note status text
        → Known bytes settings asked note status text
    without : IsCatalogRefused bytes status text → Known bytes settings asked note status text

-- no outcome is a read fault
never_fault : (status : Status) → IsOneOf by_files status → status ≡ ReadFault → ⊥
never_fault status (inl is) fault = cc
never_fault status (inr (inl is)) fault = cc
never_fault status (inr (inr (inl is))) fault = cc
never_fault status (inr (inr (inr (inl is)))) fault = cc
never_fault status (inr (inr (inr (inr (inl is))))) fault = cc
never_fault status (inr (inr (inr (inr (inr none))))) fault = absurd none

-- what the shelf tells of both files
pub known_of : (files : FileNames) (settings : Settings) (held : List ℕ → Option (List ℕ)) (bytes asked : List ℕ)
    (status : Status) (text : List ℕ) → (o : Outcome files settings held bytes asked status text)
    → IsEnding (record { task = plan files; settings = settings }) (reads held o.before o.after) o.empty o.note status
    text
    → Known bytes settings asked o.note status text
known_of files settings held bytes asked status text o (answered query asks search) =
    over asks.catalog (subst (λ b. SaysCatalog b asks.catalog)
    (told_one (held files.catalog) asks.offers.bytes bytes asks.offers.told o.catalog_told) asks.offers.says)
    (searched query (subst (λ t. Asks asks.catalog settings.options t query)
    (told_one (held files.query) asks.asked.asked asked asks.asked.told o.query_told) asks.asked.asks) search)
known_of files settings held bytes asked status text o (from_dump other task end) = cc
known_of files settings held bytes asked status text o (own_end own kept) = absurd own
known_of files settings held bytes asked status text o (stopped stop kept) = of_stop stop
  where
    of_stop : FilesStop (λ k. IsQueryRefused k settings.options) files.catalog files.query
        (reads held o.before o.after) status text
        → Known bytes settings asked o.note status text
    of_stop (by_catalog (unread is)) = absurd (never_fault status o.decided is.fault)
    of_stop (by_catalog (unusable other told none)) =
        without (subst (λ b. IsCatalogRefused b status text)
        (told_one (held files.catalog) other bytes told o.catalog_told) none)
    of_stop (by_file catalog offers (unread is)) = absurd (never_fault status o.decided is.fault)
    of_stop (by_file catalog offers (unusable other told why)) =
        over catalog (subst (λ b. SaysCatalog b catalog)
        (told_one (held files.catalog) offers.bytes bytes offers.told o.catalog_told) offers.says)
        (turned_down (subst (λ t. IsQueryRefused catalog settings.options t status text)
        (told_one (held files.query) other asked told o.query_told) why))

-- bytes that are no catalogue have one cause
pub one_fault : (bytes cause other : List ℕ) → IsNoCatalog bytes cause → IsNoCatalog bytes other → cause ≡ other
one_fault bytes cause other is again =
    let refused_here : reading_of bytes ≡ Err is.fault = is.first in
    let refused_again : reading_of bytes ≡ Err again.fault = again.first in
    let fault : is.fault ≡ again.fault = cc in
    is.caused ∙ ap texts.catalog_cause fault ∙ sym again.caused

pub same_known : OneOf → (bytes : List ℕ) (settings : Settings) (workers more : ℕ) (asked : List ℕ) (note later : Note)
    (first second : Status) (text other : List ℕ) → Known bytes (by workers settings) asked note first text
    → Known bytes (by more settings) asked later second other
    → Same settings workers more first second text other
same_known one bytes settings workers more asked note later first second text other (over k says is)
    (over l says_too is_too) =
    let same = one_catalog bytes l k says_too says in
    same_answers one k settings workers more asked note later first second text other is
    (subst (λ c. IsAnswer c (by more settings) asked later second other) same is_too)
same_known one bytes settings workers more asked note later first second text other (over k says is) (without none) =
    absurd (some_catalog bytes none.cause k says none.no_catalog)
same_known one bytes settings workers more asked note later first second text other (without none) (over k says is) =
    absurd (some_catalog bytes none.cause k says none.no_catalog)
same_known one bytes settings workers more asked note later first second text other (without none) (without again) =
    let same : text ≡ other = none.line
    ∙ ap texts.catalog_refused (one_fault bytes none.cause again.cause none.no_catalog again.no_catalog)
    ∙ sym again.line in
    record {
      status = none.refused ∙ sym again.refused;
      texts = same_texts settings workers more text other same;
    }

-- what makes outcomes one, of their parts
pub one_of : OneAnswer → OneSections → ((q : Query) (s t : Tree) → IsWithinLimits q → IsLeastPlan q s → IsLeastPlan q t
    → s ≡ t) → OneOf
unfolding OneLeast
one_of answer sections least = record { answer = answer; least = least; sections = sections }

-- two runs of `gen` over one input have one outcome
pub one_generated_of : OneAnswer → OneSections
    → ((q : Query) (s t : Tree) → IsWithinLimits q → IsLeastPlan q s → IsLeastPlan q t → s ≡ t) → OneGenerated
one_generated_of answer sections least input settings workers more first second text other is again =
    of_endings is.ends again.ends
  where
    of_endings : IsEnding (record { task = gen input; settings = by workers settings }) is.shelf is.empty is.note first
        text → IsEnding (record { task = gen input; settings = by more settings }) again.shelf again.empty again.note
        second
        other → (first ≡ second) × (text ≡ other)
    of_endings (answered q made search) (answered r made_too search_too) =
        let same : q ≡ r = one_generated answer input settings.options q r made made_too in
        one_search (one_of answer sections least) q made.within settings workers more
        (Tells (Some input) (by workers settings) q) (Tells (Some input) (by more settings) q) (λ t o. t ≡ o)
        (λ lines t o goes goes_too. first_lines_one sections input q lines lines t o refl goes goes_too) (λ t o e. e)
        is.note again.note first second text other search
        (subst (λ q. IsSearchEnd (Tells (Some input) (by more settings) q) (by more settings) q again.note second other)
        (sym same) search_too)
    of_endings (from_dump other task end) ending = cc
    of_endings (own_end own kept) ending = absurd own
    of_endings (stopped stop kept) ending = absurd stop
    of_endings (answered q made search) (from_dump other task end) = cc
    of_endings (answered q made search) (own_end own kept) = absurd own
    of_endings (answered q made search) (stopped stop kept) = absurd stop

-- two runs over the same bytes have one outcome
pub one_outcome_of : OneAnswer → OneSections
    → ((q : Query) (s t : Tree) → IsWithinLimits q → IsLeastPlan q s → IsLeastPlan q t → s ≡ t) → OneOutcome
one_outcome_of answer sections least files others settings workers more held told bytes asked first second text other o
    again =
    same_known (one_of answer sections least) bytes settings workers more asked o.note again.note first
    second text other
    (known_of files (by workers settings) held bytes asked first text o o.ends)
    (known_of others (by more settings) told bytes asked second other again again.ends)
