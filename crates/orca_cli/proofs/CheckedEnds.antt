-- How a run ends that checks a text.
use Rattle.std.proofs.Common.{◌≡◌, ◌≢◌, ◌⊎◌, ℕ, List, Option, Result, Ok, Err, sym, ap, ◌∙◌, inl, inr}
use Rattle.query_core.specs.declared.catalog.Catalog.{Catalog}
use Rattle.query_core.specs.declared.options.Options.{Options}
use Rattle.query_core.specs.declared.query.Query.{Query}
use Rattle.text_check.specs.Laws.{OutcomesAreOne}
use Rattle.text_check.specs.Outcome.{IsGoodText, HasFault}
use Rattle.text_check.specs.declared.text_fault.TextFault.{TextFault}
use Rattle.text_check.specs.declared.text_fault.TextFault.TheVariants as faults
use Rattle.command_line.specs.Command.{PlanNames, check}
use Rattle.command_line.specs.declared.settings.Settings.{Settings}
use Rattle.orca_cli.specs.Answers.{Note}
use Rattle.orca_cli.specs.Asked.{Asks}
use Rattle.orca_cli.specs.Causes.{Holds, ReadRose}
use Rattle.orca_cli.specs.Checked.{IsCheckEnd, priced, faulty}
use Rattle.orca_cli.specs.Prepared.{Reads, AreTold, IsQueryRefused, unread, unusable, by_query, by_plan}
use Rattle.orca_cli.specs.Run.{IsEnding, answered, from_dump, own_end, stopped}
use Rattle.orca_cli.specs.Status.{IsOneOf, served, plan_turned_down}
use Rattle.orca_cli.specs.Texts as texts
use Rattle.orca_cli.specs.declared.status.Status.{Status}
use Rattle.orca_cli.proofs.OneAnswer.{asked_there, refused_there}

-- ---- the end of a check is one

-- a text has one outcome, whatever the query is
abbrev pub OneText : Type 0
OneText = (q : Query) → OutcomesAreOne q

module _ (one : OneText) (q : Query) (plan : List ℕ) where
  -- a good text has no fault
  good_or_not : (cost : ℕ) (fault : TextFault) → fault ≢ faults.Memory → IsGoodText q plan cost
      → HasFault q plan fault → ⊥
  good_or_not cost fault lasts good has =
      let same : ◌≡◌ {A = Result ℕ TextFault} (Ok cost) (Err fault) =
      one q plan (Ok cost) (Err fault) (λ s. cc) (λ s. lasts (err_same s)) good has in
      cc
    where
      err_same : ◌≡◌ {A = Result ℕ TextFault} (Err fault) (Err faults.Memory) → fault ≡ faults.Memory
      err_same s = cc

  one_cost : (cost other : ℕ) → IsGoodText q plan cost → IsGoodText q plan other → cost ≡ other
  one_cost cost other good again =
      let same : ◌≡◌ {A = Result ℕ TextFault} (Ok cost) (Ok other) =
      one q plan (Ok cost) (Ok other) (λ s. cc) (λ s. cc) good again in
      cc

  one_fault : (fault other : TextFault) → fault ≢ faults.Memory → other ≢ faults.Memory → HasFault q plan fault
      → HasFault q plan other → fault ≡ other
  one_fault fault other lasts lasts_too has again =
      let same : ◌≡◌ {A = Result ℕ TextFault} (Err fault) (Err other) =
      one q plan (Err fault) (Err other) (λ s. lasts (err_same fault s)) (λ s. lasts_too (err_same other s)) has again
      in
      cc
    where
      err_same : (f : TextFault) → ◌≡◌ {A = Result ℕ TextFault} (Err f) (Err faults.Memory) → f ≡ faults.Memory
      err_same f s = cc

  pub one_check : (first second : Status) (text other : List ℕ) → IsCheckEnd q plan first text
      → IsCheckEnd q plan second other → (first ≡ second) × (text ≡ other)
  one_check first second text other (priced is cost good line) (priced is_too cost_too good_too line_too) = (
    is ∙ sym is_too,
    line ∙ ap texts.valid_plan (one_cost cost cost_too good good_too) ∙ sym line_too,
  )
  one_check first second text other (priced is cost good line) (faulty is_too fault lasts has line_too) =
      absurd (good_or_not cost fault lasts good has)
  one_check first second text other (faulty is fault lasts has line) (priced is_too cost good line_too) =
      absurd (good_or_not cost fault lasts good has)
  one_check first second text other (faulty is fault lasts has line)
      (faulty is_too fault_too lasts_too has_too line_too) = (
        is ∙ sym is_too,
        line ∙ ap (λ f. texts.plan_refused (texts.plan_cause f)) (one_fault fault fault_too lasts lasts_too has has_too)
            ∙ sym line_too,
      )

  -- a good text is accepted
  pub accepted : (cost : ℕ) (status : Status) (text : List ℕ) → IsGoodText q plan cost → IsCheckEnd q plan status text
      → IsOneOf served status
  accepted cost status text good (priced is other good_too line) = inl is
  accepted cost status text good (faulty is fault lasts has line) = absurd (good_or_not cost fault lasts good has)

  -- and one with a fault is refused
  pub turned_down : (fault : TextFault) (status : Status) (text : List ℕ) → fault ≢ faults.Memory
      → HasFault q plan fault
      → IsCheckEnd q plan status text → IsOneOf plan_turned_down status
  turned_down fault status text lasts has (priced is cost good line) = absurd (good_or_not cost fault lasts good has)
  turned_down fault status text lasts has (faulty is other lasts_too has_too line) = inl is

-- ---- a check over files that hold a query

-- the query for which the text asks, and the end of the check of a third file's text
pub record IsCheckOf (named : PlanNames) (options : Options) (held : List ℕ → Option (List ℕ)) (catalog : Catalog)
    (asked : List ℕ) (status : Status) (text : List ℕ) : Type 0 where
  pub query : Query
  pub asks : Asks catalog options asked query
  pub plan : List ℕ
  pub told : AreTold (held named.plan) plan
  pub end : IsCheckEnd query plan status text

-- the query is refused, or the text is checked
pub checked_of : (named : PlanNames) (settings : Settings) (shelf : Reads) (catalog : Catalog) (asked : List ℕ)
    → Holds named.files.catalog named.files.query shelf.held catalog asked → (note : Note) (status : Status)
    → (text : List ℕ) (empty : Note) → (ReadRose (check named) shelf → ⊥)
    → IsEnding (record { task = check named; settings = settings }) shelf empty note status text
    → IsQueryRefused catalog settings.options asked status text
    ⊎ IsCheckOf named settings.options shelf.held catalog asked status text
checked_of named settings shelf catalog asked holds note status text empty no_read (answered query asks search) =
    absurd asks
checked_of named settings shelf catalog asked holds note status text empty no_read (from_dump other task end) = cc
checked_of named settings shelf catalog asked holds note status text empty no_read (own_end own kept) =
    inr (record {
      query = own.query;
      asks = asked_there named.files settings.options shelf catalog asked holds own.query own.asks;
      plan = own.plan;
      told = own.told;
      end = own.end;
    })
checked_of named settings shelf catalog asked holds note status text empty no_read (stopped (by_query stop) kept) =
    inl (refused_there named.files.catalog named.files.query shelf catalog asked holds
    (λ k. IsQueryRefused k settings.options) status text stop (λ rose. no_read (inl rose)))
checked_of named settings shelf catalog asked holds note status text empty no_read
    (stopped (by_plan query asks (unread is)) kept) = absurd (no_read (inr is.rose))
checked_of named settings shelf catalog asked holds note status text empty no_read
    (stopped (by_plan query asks (unusable bytes told why)) kept) =
    inr (record {
      query = query;
      asks = asked_there named.files settings.options shelf catalog asked holds query asks;
      plan = bytes;
      told = told;
      end = faulty why.refused faults.TooLong (λ same. cc) why.long why.line;
    })
