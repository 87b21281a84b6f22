-- The outcome of a batch is one, by the bytes of its files, and each of its lines ends as a plan of it.
use Rattle.std.proofs.Common.{◌≡◌, ℕ, List, [], ◌∷◌, ◌++◌, length, Option, sym, ap, ◌∙◌, subst, refl}
use Rattle.query_core.specs.declared.catalog.Catalog.{Catalog}
use Rattle.query_core.specs.declared.query.Query.{Query}
use Rattle.request_props.specs.Numbered.{IsWithinLimits}
use Rattle.plan_space.specs.Nodes.{Tree}
use Rattle.plan_space.specs.Least.{IsLeastPlan}
use Rattle.command_line.specs.Command.{ListNames, batch}
use Rattle.command_line.specs.declared.settings.Settings.{Settings}
use Rattle.orca_cli.specs.Asked.{SaysCatalog}
use Rattle.orca_cli.specs.Batches.{for_a_line, LineEnd, IsLineEnd, AreLineEnds, batch_line, texts_from, IsBatch}
use Rattle.orca_cli.specs.Laws.{BatchOutcome, by, OneBatch, LinesAsPlanned}
use Rattle.orca_cli.specs.Lists.{lines_of, IsListRefused}
use Rattle.orca_cli.specs.Prepared.{reads, FilesStop, unread, unusable, by_catalog, by_file, IsCatalogRefused}
use Rattle.orca_cli.specs.Run.{IsEnding, answered, from_dump, own_end, stopped}
use Rattle.orca_cli.specs.Texts as texts
use Rattle.orca_cli.specs.declared.status.Status.{Status}
use Rattle.orca_cli.proofs.OneAnswer.{OneAnswer, told_one, one_catalog, some_catalog}
use Rattle.orca_cli.proofs.Outcomes.{OneOf, one_of, over, known_of, same_answers, same_known, one_fault}
use Rattle.orca_cli.proofs.SectionTexts.{OneSections, equal_texts}

module _ (one : OneOf) (catalog : Catalog) (settings : Settings) (workers more : ℕ) where
  -- a line ends in one way
  one_line : (line : List ℕ) (end other : LineEnd) → IsLineEnd catalog (by workers settings) line end
      → IsLineEnd catalog (by more settings) line other → end ≡ other
  one_line line end other is again =
      let same = same_answers one catalog (for_a_line settings) 1 1 line is.note again.note end.status other.status
      end.text other.text is.answer again.answer in
      let texts = equal_texts (for_a_line settings) 1 1 end.text other.text refl same.texts in
      λ i. record { status = same.status i; text = texts i }

  -- so do all lines
  one_each : (lines : List (List ℕ)) (ends others : List LineEnd) → AreLineEnds catalog (by workers settings) lines ends
      → AreLineEnds catalog (by more settings) lines others → ends ≡ others
  one_each [] ends others is again = is ∙ sym again
  one_each (line ∷ more_lines) [] others is again = absurd is
  one_each (line ∷ more_lines) (end ∷ ends) [] is again = absurd again
  one_each (line ∷ more_lines) (end ∷ ends) (other ∷ others) (first, rest) (first_too, rest_too) =
      let same = one_line line end other first first_too in
      let same_rest = one_each more_lines ends others rest rest_too in
      λ i. same i ∷ same_rest i

-- how a batch over known bytes ends
data KnownBatch (bytes : List ℕ) (settings : Settings) (list : List ℕ) (status : Status) (text : List ℕ) : Type 0 where
  with_answers : (catalog : Catalog) → SaysCatalog bytes catalog → IsBatch catalog settings list status text
      → KnownBatch bytes settings list status text
  without_list : (catalog : Catalog) → SaysCatalog bytes catalog → IsListRefused settings.capacity list status text
      → KnownBatch bytes settings list status text
  without_catalog : IsCatalogRefused bytes status text → KnownBatch bytes settings list status text

-- what the shelf tells of both files
known_batch : (files : ListNames) (settings : Settings) (held : List ℕ → Option (List ℕ)) (bytes list : List ℕ)
    (status : Status) (text : List ℕ) → (o : BatchOutcome files settings held bytes list status text)
    → IsEnding (record { task = batch files; settings = settings }) (reads held o.before o.after) o.empty o.note status
    text → KnownBatch bytes settings list status text
known_batch files settings held bytes list status text o (answered query asks search) = absurd asks
known_batch files settings held bytes list status text o (from_dump other task end) = cc
known_batch files settings held bytes list status text o (own_end own kept) =
    with_answers own.catalog (subst (λ b. SaysCatalog b own.catalog)
    (told_one (held files.catalog) own.offers.bytes bytes own.offers.told o.catalog_told) own.offers.says)
    (subst (λ l. IsBatch own.catalog settings l status text)
    (told_one (held files.list) own.list list own.told o.list_told) own.is_batch)
known_batch files settings held bytes list status text o (stopped stop kept) = of_stop stop
  where
    of_stop : FilesStop (λ k. IsListRefused settings.capacity) files.catalog files.list (reads held o.before o.after)
        status text → KnownBatch bytes settings list status text
    of_stop (by_catalog (unread is)) = absurd (o.were_read is.fault)
    of_stop (by_catalog (unusable other told none)) =
        without_catalog (subst (λ b. IsCatalogRefused b status text)
        (told_one (held files.catalog) other bytes told o.catalog_told) none)
    of_stop (by_file catalog offers (unread is)) = absurd (o.were_read is.fault)
    of_stop (by_file catalog offers (unusable other told why)) =
        without_list catalog (subst (λ b. SaysCatalog b catalog)
        (told_one (held files.catalog) offers.bytes bytes offers.told o.catalog_told) offers.says)
        (subst (λ l. IsListRefused settings.capacity l status text)
        (told_one (held files.list) other list told o.list_told) why)

module _ (one : OneOf) (bytes : List ℕ) (settings : Settings) (workers more : ℕ) (list : List ℕ) (first second : Status)
    (text other : List ℕ) where
  -- two batches over one catalogue
  same_batches : (catalog : Catalog) → IsBatch catalog (by workers settings) list first text
      → IsBatch catalog (by more settings) list second other → (first ≡ second) × (text ≡ other)
  same_batches catalog is again = (
    is.done ∙ sym again.done,
    is.is_text ∙ ap (λ ends. batch_line (length (lines_of list)) ++ texts_from 0 ends)
        (one_each one catalog settings workers more (lines_of list) is.ends again.ends is.are_ends again.are_ends)
        ∙ sym again.is_text,
  )

  -- two refusals of one list
  same_refusals : IsListRefused settings.capacity list first text → IsListRefused settings.capacity list second other
      → (first ≡ second) × (text ≡ other)
  same_refusals is again =
      let caused = is.caused in
      let caused_again = again.caused in
      let cause : is.cause ≡ again.cause = cc in
      (is.refused ∙ sym again.refused, is.line ∙ ap texts.batch_refused cause ∙ sym again.line)

  -- what is known of two batches over the same bytes is the same
  same_known_batches : KnownBatch bytes (by workers settings) list first text
      → KnownBatch bytes (by more settings) list second other → (first ≡ second) × (text ≡ other)
  same_known_batches (with_answers k says is) (with_answers l says_too is_too) =
      same_batches k is (subst (λ c. IsBatch c (by more settings) list second other)
      (one_catalog bytes l k says_too says) is_too)
  same_known_batches (with_answers k says is) (without_list l says_too why) =
      let caused = why.caused in let usable = is.usable in cc
  same_known_batches (with_answers k says is) (without_catalog none) =
      absurd (some_catalog bytes none.cause k says none.no_catalog)
  same_known_batches (without_list k says why) (with_answers l says_too is_too) =
      let caused = why.caused in let usable = is_too.usable in cc
  same_known_batches (without_list k says why) (without_list l says_too why_too) = same_refusals why why_too
  same_known_batches (without_list k says why) (without_catalog none) =
      absurd (some_catalog bytes none.cause k says none.no_catalog)
  same_known_batches (without_catalog none) (with_answers l says_too is_too) =
      absurd (some_catalog bytes none.cause l says_too none.no_catalog)
  same_known_batches (without_catalog none) (without_list l says_too why) =
      absurd (some_catalog bytes none.cause l says_too none.no_catalog)
  same_known_batches (without_catalog none) (without_catalog again) = (
    none.refused ∙ sym again.refused,
    none.line ∙ ap texts.catalog_refused (one_fault bytes none.cause again.cause none.no_catalog again.no_catalog)
        ∙ sym again.line,
  )

-- two batches over the same bytes have one outcome
pub one_batch_of : OneAnswer → OneSections
    → ((q : Query) (s t : Tree) → IsWithinLimits q → IsLeastPlan q s → IsLeastPlan q t → s ≡ t) → OneBatch
one_batch_of answer sections least files others settings workers more held told bytes list first second text other o
    again =
    same_known_batches (one_of answer sections least) bytes settings workers more list first second text other
    (known_batch files (by workers settings) held bytes list first text o o.ends)
    (known_batch others (by more settings) told bytes list second other again again.ends)

-- a line of a batch ends as a plan of it
pub lines_as_planned : OneAnswer → OneSections
    → ((q : Query) (s t : Tree) → IsWithinLimits q → IsLeastPlan q s → IsLeastPlan q t → s ≡ t) → LinesAsPlanned
lines_as_planned answer sections least files settings workers held bytes line catalog end status text says is o =
    let same = same_known (one_of answer sections least) bytes (for_a_line settings) 1 workers line is.note o.note
    end.status status end.text text (over catalog says is.answer)
    (known_of files (by workers (for_a_line settings)) held bytes line status text o o.ends) in
    (same.status, equal_texts (for_a_line settings) 1 workers end.text text refl same.texts)
