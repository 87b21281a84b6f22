-- What a file's bytes say, and how a run ends that can't go on with them.
use Rattle.std.proofs.Common.{◌≡◌, ◌≢◌, ℕ, ◌+◌, ◌<◌, ◌≤◌, ◌^◌, List, length}
use Rattle.std.proofs.Common.{Option, None, Some, Result, Err, IfErr, codes, nat_lt, true, false}
use Rattle.std.proofs.Common.{refl, sym, subst, ap, arith, inl, inr}
use Rattle.std.specs.Prelude.{replicate}
use Rattle.std.proofs.lemmas.Bool.{lt-ltb}
use Rattle.std.proofs.lemmas.Bool.Decides.{nat_tests}
use Rattle.std.proofs.lemmas.List.{length-replicate}
use Rattle.std.proofs.lemmas.Result.{IfErr-weaker}
use Rattle.query_core.specs.declared.catalog.Catalog.{Catalog}
use Rattle.query_core.specs.declared.options.Options.{Options}
use Rattle.query_core.specs.declared.query.Query.{Query}
use Rattle.orca_base.specs.Causes.{Rose}
use Rattle.orca_io.specs.Shelf.{Exceeds}
use Rattle.catalog_json.specs.Outcome.{reading_of, CatalogReads}
use Rattle.catalog_json.specs.declared.fault.CatalogFault.{CatalogFault}
use Rattle.catalog_json.specs.declared.fault.CatalogFault.TheVariants as catalogs
use Rattle.sql_reader.specs.Faults.{IsFirst, IsReading}
use Rattle.sql_reader.specs.declared.faults.SqlFault.{SqlFault}
use Rattle.sql_reader.specs.declared.faults.SqlFault.TheVariants as selects
use Rattle.sql_reader.specs.declared.syntax.Select.{Select}
use Rattle.sql_bind.specs.Binding.{binding}
use Rattle.sql_bind.specs.declared.fault.BindFault.{BindFault}
use Rattle.sql_bind.specs.declared.fault.BindFault.TheVariants as names
use Rattle.request_props.specs.Numbered.{IsRefusedFor}
use Rattle.request_props.specs.declared.fault.PropsFault.{PropsFault}
use Rattle.request_props.specs.declared.fault.PropsFault.TheVariants as limits
use Rattle.text_check.specs.declared.text_fault.TextFault.TheVariants as plans
use Rattle.orca_cli.specs.Asked.{IsNoCatalog, IsBoundAs, IsUnread, IsUnbound, IsUnnumbered, IsRefused}
use Rattle.orca_cli.specs.Prepared.{Reads, reads, AreTold, Offers}
use Rattle.orca_cli.specs.Prepared.{IsCatalogRefused, IsQueryRefused}
use Rattle.orca_cli.specs.Lists.{lines_of, are_too_many, IsListRefused}
use Rattle.orca_cli.specs.Prepared.{IsPlanTooLong, FileStops, unread}
use Rattle.orca_cli.specs.Prepared.{unusable, FilesStop, by_catalog, by_file}
use Rattle.orca_cli.specs.Texts as texts
use Rattle.orca_cli.specs.Views.{EndsAs, EndsWith, text_of}
use Rattle.orca_cli.specs.declared.ending.End.{End}
use Rattle.orca_cli.specs.declared.ending.Ending.{Ending}
use Rattle.orca_cli.specs.declared.status.Status.{Status}
use Rattle.orca_cli.specs.declared.status.Status.TheVariants.{QueryRefused, CatalogRefused, PlanRefused, BatchRefused}
use Rattle.orca_cli.proofs.Ended.{ends_then}

-- what holds of a status and a text holds of an ending that has them
pub as_ended : (P : Status → List ℕ → Type 0) (ending : Ending) (status : Status) (text : List ℕ)
    → EndsAs ending status text → P status text → P ending.status (text_of ending)
as_ended P ending status text is fact = subst (λ s. P s (text_of ending)) (sym is.status)
    (subst (λ t. P status t) (sym is.text) fact)

-- ---- files that are too long

-- some bytes that are longer than the limit, as what is told
record AreLong (held : Option (List ℕ)) (limit : ℕ) : Type 0 where
  bytes : List ℕ
  told : AreTold held bytes
  long : limit < length bytes

-- a file over the limit holds such bytes
exceeding : (held : Option (List ℕ)) (limit : ℕ) → Exceeds held limit → AreLong held limit
exceeding None limit exceeds =
    let long : List ℕ = replicate (limit + 1) 0 in
    let count : length long ≡ limit + 1 = length-replicate (limit + 1) 0 in
    record { bytes = long; told = tt; long = omega (arith, count) }
exceeding (Some content) limit exceeds = record { bytes = content; told = refl; long = exceeds }

-- bytes over the limit are no catalogue
too_long : (bytes : List ℕ) → 1048576 < length bytes → reading_of bytes ≡ Err catalogs.TooLong
unfolding reading_of
too_long bytes long = rw (lt-ltb 1048576 (length bytes) long) refl

-- a file over the limit is refused for that
pub long_file : (Refuses : List ℕ → Status → List ℕ → Type 0) (name : List ℕ) (shelf : Reads) (limit : ℕ)
    (status : Status) (text : List ℕ) → ((bytes : List ℕ) → limit < length bytes → Refuses bytes status text)
    → Exceeds (shelf.held name) limit → FileStops Refuses name shelf status text
long_file Refuses name shelf limit status text refuses exceeds =
    let long = exceeding (shelf.held name) limit exceeds in
    unusable long.bytes long.told (refuses long.bytes long.long)

-- bytes over the limit are refused as no catalogue
pub long_catalog : (bytes : List ℕ) → 1048576 < length bytes
    → IsCatalogRefused bytes CatalogRefused (texts.catalog_refused (texts.catalog_cause catalogs.TooLong))
long_catalog bytes long =
    let none : IsNoCatalog bytes (texts.catalog_cause catalogs.TooLong) =
    record { fault = catalogs.TooLong; first = too_long bytes long; not_memory = λ same. cc; caused = refl } in
    record { refused = refl; cause = texts.catalog_cause catalogs.TooLong; no_catalog = none; line = refl }

-- and as no list
pub long_list : (capacity : ℕ) (bytes : List ℕ) → 1048576 < length bytes
    → IsListRefused capacity bytes BatchRefused (texts.batch_refused (codes "too long"))
long_list capacity bytes long = record {
  refused = refl;
  cause = codes "too long";
  caused = rw (lt-ltb 1048576 (length bytes) long) refl;
  line = refl;
}

-- and as no text of a plan
pub long_plan : (bytes : List ℕ) → 1048576 < length bytes
    → IsPlanTooLong bytes PlanRefused (texts.plan_refused (texts.plan_cause plans.TooLong))
long_plan bytes long = record { refused = refl; long = long; line = refl }

-- a list with too many lines for the capacity
pub crowded_list : (capacity count : ℕ) (bytes : List ℕ) → length bytes ≤ 1048576
    → count ≡ length (lines_of bytes) → are_too_many count capacity ≡ true
    → IsListRefused capacity bytes BatchRefused (texts.batch_refused (codes "too many queries"))
crowded_list capacity count bytes short is many =
    let here : are_too_many (length (lines_of bytes)) capacity ≡ true =
    subst (λ (n : ℕ). are_too_many n capacity ≡ true) is many in
    let not_long : nat_lt 1048576 (length bytes) ≡ false = grind (arith, nat_tests) in
    record { refused = refl; cause = codes "too many queries"; caused = rw (not_long, here) refl; line = refl }

-- ---- files that were read, or not

module _ (Refuses : List ℕ → Status → List ℕ → Type 0) (name : List ℕ) (shelf : Reads) where
  -- the bytes that were read are refused
  pub file_refused : {A : Type 0} (bytes : List ℕ) (result : Result A End) → AreTold (shelf.held name) bytes
      → IfErr result (EndsWith (Refuses bytes)) → IfErr result (EndsWith (FileStops Refuses name shelf))
  file_refused bytes result told = IfErr-weaker result _ _
      (λ end stops. ends_then (Refuses bytes) (FileStops Refuses name shelf) end (λ s t why. unusable bytes told why)
      stops)

-- ---- bytes that are refused

-- bytes that are no catalogue, for the cause that the line gives
pub no_catalog : (bytes given : List ℕ) (fault : CatalogFault) → CatalogReads bytes (Err fault)
    → fault ≢ catalogs.Memory → given ≡ texts.catalog_cause fault
    → IsCatalogRefused bytes CatalogRefused (texts.catalog_refused given)
no_catalog bytes given fault reads not_memory same =
    let none : IsNoCatalog bytes (texts.catalog_cause fault) =
    record { fault = fault; first = sym (reads (λ e. not_memory cc)); not_memory = not_memory; caused = refl } in
    record {
      refused = refl;
      cause = texts.catalog_cause fault;
      no_catalog = none;
      line = ap texts.catalog_refused same;
    }

module _ (catalog : Catalog) (options : Options) (bytes : List ℕ) where
  -- a query that is refused for the cause that the line gives
  no_query : (cause given : List ℕ) → IsRefused catalog options bytes cause → given ≡ cause
      → IsQueryRefused catalog options bytes QueryRefused (texts.query_refused given)
  no_query cause given why same =
      record { refused = refl; cause = cause; no_query = why; line = ap texts.query_refused same }

  -- a text that is no select
  pub unread_query : (given : List ℕ) (fault : SqlFault) → IsFirst bytes fault → given ≡ texts.sql_cause fault
      → IsQueryRefused catalog options bytes QueryRefused (texts.query_refused given)
  unread_query given fault first same =
      let why : IsUnread bytes (texts.sql_cause fault) = record { fault = fault; first = first; caused = refl } in
      no_query (texts.sql_cause fault) given (inl why) same

  -- a select whose names can't be bound
  pub unbound_query : (given : List ℕ) (select : Select) (fault : BindFault) → IsReading bytes select
      → binding select catalog ≡ Err fault → fault ≢ names.Memory → given ≡ texts.bind_cause fault
      → IsQueryRefused catalog options bytes QueryRefused (texts.query_refused given)
  unbound_query given select fault reading first not_memory same =
      let why : IsUnbound catalog bytes (texts.bind_cause fault) =
      record {
        select = select;
        reading = reading;
        fault = fault;
        first = first;
        not_memory = not_memory;
        caused = refl;
      } in
      no_query (texts.bind_cause fault) given (inr (inl why)) same

  -- a query with too many hashed lists or orders
  pub unnumbered_query : (given : List ℕ) (query : Query) (fault : PropsFault) → IsBoundAs catalog options bytes query
      → IsRefusedFor query fault → fault ≢ limits.Memory → given ≡ texts.props_cause fault
      → IsQueryRefused catalog options bytes QueryRefused (texts.query_refused given)
  unnumbered_query given query fault bound too_many not_memory same =
      let why : IsUnnumbered catalog options bytes (texts.props_cause fault) =
      record {
        query = query;
        bound = bound;
        fault = fault;
        too_many = too_many;
        not_memory = not_memory;
        caused = refl;
      } in
      no_query (texts.props_cause fault) given (inr (inr why)) same

-- a text over the limit is refused as too long
pub long_query : (catalog : Catalog) (options : Options)
    → ((bytes : List ℕ) → 2 ^ 16 < length bytes → IsFirst bytes selects.TooLong) → (bytes : List ℕ)
    → 65536 < length bytes
    → IsQueryRefused catalog options bytes QueryRefused (texts.query_refused (texts.sql_cause selects.TooLong))
long_query catalog options first bytes long =
    unread_query catalog options bytes (texts.sql_cause selects.TooLong) selects.TooLong (first bytes long) refl

-- ---- two files

-- a count that rose since later on rose since before
rose_since : (before middle after : ℕ) → before ≤ middle → Rose middle after → Rose before after
rose_since before middle after later rose = omega arith

-- a file that stops a run after an earlier read of the shelf
pub stops_later : (Refuses : List ℕ → Status → List ℕ → Type 0) (name : List ℕ)
    (held told : List ℕ → Option (List ℕ)) (before middle after : List ℕ → ℕ) (status : Status) (text : List ℕ)
    → told name ≡ held name → ((n : List ℕ) → before n ≤ middle n)
    → FileStops Refuses name (reads told middle after) status text
    → FileStops Refuses name (reads held before after) status text
stops_later Refuses name held told before middle after status text same later (unread is) =
    unread (record {
      fault = is.fault;
      rose = rose_since (before name) (middle name) (after name) (later name) is.rose;
      line = is.line;
    })
stops_later Refuses name held told before middle after status text same later (unusable bytes are why) =
    unusable bytes (subst (λ h. AreTold h bytes) same are) why

-- two files of which the first one stops the run
pub first_stops : (Refuses : Catalog → List ℕ → Status → List ℕ → Type 0) (catalog_name name : List ℕ) (shelf : Reads)
    (end : End) → EndsWith (FileStops IsCatalogRefused catalog_name shelf) end
    → EndsWith (FilesStop Refuses catalog_name name shelf) end
first_stops Refuses catalog_name name shelf end =
    ends_then (FileStops IsCatalogRefused catalog_name shelf) (FilesStop Refuses catalog_name name shelf) end
    (λ s t stop. by_catalog stop)

-- two files of which the second one stops the run
pub second_stops : {A : Type 0} (Refuses : Catalog → List ℕ → Status → List ℕ → Type 0) (catalog_name name : List ℕ)
    (held told : List ℕ → Option (List ℕ)) (before middle after : List ℕ → ℕ) (catalog : Catalog)
    (result : Result A End)
    → Offers (held catalog_name) catalog → told name ≡ held name → ((n : List ℕ) → before n ≤ middle n)
    → IfErr result (EndsWith (FileStops (Refuses catalog) name (reads told middle after)))
    → IfErr result (EndsWith (FilesStop Refuses catalog_name name (reads held before after)))
second_stops Refuses catalog_name name held told before middle after catalog result offers same later =
    IfErr-weaker result _ _
    (λ end stops. ends_then (FileStops (Refuses catalog) name (reads told middle after))
    (FilesStop Refuses catalog_name name (reads held before after)) end
    (λ s t stop. by_file catalog offers
    (stops_later (Refuses catalog) name held told before middle after s t same later stop)) stops)
