-- The tables that FROM names stand for the whole catalogue.
use Rattle.std.proofs.Common.{◌≡◌, ℕ, List, Err, sym, ◌∙◌, subst, inl, inr}
use Rattle.query_core.specs.declared.catalog.Catalog.{Catalog}
use Rattle.query_core.specs.declared.options.Options.{Options}
use Rattle.query_core.specs.declared.query.Query.{Query}
use Rattle.sql_reader.specs.Faults.{IsReading}
use Rattle.sql_reader.specs.declared.syntax.Select.{Select}
use Rattle.sql_bind.specs.Binding.{binding, IsBound}
use Rattle.dump_replay.specs.Laws.{BindsAlike, BoundAlike}
use Rattle.dump_replay.specs.Named.{named_catalog}
use Rattle.command_line.specs.declared.settings.Settings.{Settings}
use Rattle.orca_cli.specs.Answers.{Note, IsAnswer, searched, turned_down}
use Rattle.orca_cli.specs.Asked.{IsBoundAs, Asks, IsRefused}
use Rattle.orca_cli.specs.declared.status.Status.{Status}
use Rattle.orca_cli.proofs.OneAnswer.{OneAnswer}

module _ (binds : BindsAlike) (bound : BoundAlike) (one : OneAnswer) (select : Select) (catalog : Catalog)
    (options : Options) (asked : List ℕ) (reading : IsReading asked select) where
  whole_bound : (query : Query) → IsBoundAs (named_catalog select catalog) options asked query
      → IsBoundAs catalog options asked query
  whole_bound query is =
      let same = one.reading.reading asked is.select select is.reading reading in
      let here : IsBound select (named_catalog select catalog) options query =
      subst (λ s. IsBound s (named_catalog select catalog) options query) same is.bound in
      record { select = select; reading = reading; bound = (bound select catalog options query).0 here }

  whole_asks : (query : Query) → Asks (named_catalog select catalog) options asked query
      → Asks catalog options asked query
  whole_asks query asks = record { bound = whole_bound query asks.bound; within = asks.within }

  whole_refused : (cause : List ℕ) → IsRefused (named_catalog select catalog) options asked cause
      → IsRefused catalog options asked cause
  whole_refused cause (inl is) = inl is
  whole_refused cause (inr (inl is)) =
      let same = one.reading.reading asked is.select select is.reading reading in
      let here : binding select (named_catalog select catalog) ≡ Err is.fault =
      subst (λ s. binding s (named_catalog select catalog) ≡ Err is.fault) same is.first in
      inr (inl (record {
        select = select;
        reading = reading;
        fault = is.fault;
        first = sym (binds select catalog) ∙ here;
        not_memory = is.not_memory;
        caused = is.caused;
      }))
  whole_refused cause (inr (inr is)) = inr (inr (record {
    query = is.query;
    bound = whole_bound is.query is.bound;
    fault = is.fault;
    too_many = is.too_many;
    not_memory = is.not_memory;
    caused = is.caused;
  }))

-- the answer to a text over the tables that its FROM names is that over the whole catalogue
pub whole_answer : BindsAlike → BoundAlike → OneAnswer → (select : Select) (catalog : Catalog) (settings : Settings)
    (asked : List ℕ) → IsReading asked select → (note : Note) (status : Status) (text : List ℕ)
    → IsAnswer (named_catalog select catalog) settings asked note status text
    → IsAnswer catalog settings asked note status text
whole_answer binds bound one select catalog settings asked reading note status text (searched query asks search) =
    searched query (whole_asks binds bound one select catalog settings.options asked reading query asks) search
whole_answer binds bound one select catalog settings asked reading note status text (turned_down why) =
    turned_down (record {
      refused = why.refused;
      cause = why.cause;
      no_query = whole_refused binds bound one select catalog settings.options asked reading why.cause why.no_query;
      line = why.line;
    })
