-- How the ending of a search is made of its plan.
use Rattle.std.proofs.Common.{◌≡◌, ℕ, List, Result, Ok, Err, IfOk, sym, ap, ◌∙◌, subst}
use Rattle.query_core.specs.declared.query.Query.{Query}
use Rattle.plan_tree.specs.Found.{IsFound}
use Rattle.plan_tree.specs.declared.plan.Found.{Found}
use Rattle.plan_tree.specs.declared.plan.Found.TheVariants as founds
use Rattle.plan_lines.specs.Found.{IsFoundText}
use Rattle.job_outcome.specs.Searched.{goals_counted}
use Rattle.job_outcome.specs.declared.searched.Searched.{Searched}
use Rattle.job_engine.specs.Runs.{IsDoneBy, Exceeds}
use Rattle.command_line.specs.declared.settings.Settings.{Settings}
use Rattle.orca_cli.specs.Answers.{HasRoom, Note, noted, NotesGoals, IsSearchEnd, planned, unplanned, too_many}
use Rattle.orca_cli.specs.Searches as searches
use Rattle.orca_cli.specs.Searches.{IsPlanOf}
use Rattle.orca_cli.specs.Texts as texts
use Rattle.orca_cli.specs.Views.{EndsAs, text_of}
use Rattle.orca_cli.specs.declared.ending.Ending.{Ending}
use Rattle.orca_cli.specs.declared.status.Status.{Status}
use Rattle.orca_cli.specs.declared.status.Status.TheVariants.{TooManyEntries}

-- what follows from two facts follows where both hold of an Ok
pub IfOk-both : {T E : Type 0} (P Q R : T → Type 0) (r : Result T E) → ((x : T) → P x → Q x → R x) → IfOk r P → IfOk r Q
    → IfOk r R
IfOk-both P Q R (Ok x) step first second = step x first second
IfOk-both P Q R (Err e) step first second = tt

-- what was found is the query's least plan, and the bytes are its text
pub plan_of_found : (query : Query) (found : Found) (status : Status) (text : List ℕ)
    → status ≡ searches.status_for found → IsFound query found → IsFoundText query found text
    → IsPlanOf query status text
plan_of_found query (founds.Least plan cost) status text is (tree, spells, least, costs) told =
    searches.least is (record { plan = tree; least = least; lines = told tree spells least.serves.valid costs })
plan_of_found query founds.NoPlan status text is impossible told = searches.none is impossible told

-- a search that is done had room, and its note says how many goals the query has
module _ (settings : Settings) (query : Query) (searched : Searched)
    (done : IsDoneBy query settings.capacity settings.workers searched) where
  pub room_of : HasRoom query settings.capacity
  room_of =
      let there = done.lists.lists in
      record {
        members = there.members;
        goals = there.goals;
        fits = (done.lists.each there done.lists.are).fits;
      }

  pub notes_of : (note : Note) → note ≡ noted settings (goals_counted searched) → NotesGoals settings query note
  notes_of note is =
      let there = done.lists.lists in
      record {
        goals = there.goals;
        all_goals = (done.lists.each there done.lists.are).fits.all_goals;
        is = is ∙ ap (noted settings) (sym (done.counted there done.lists.are));
      }

module _ (Tells : List ℕ → List ℕ → Type 0) (settings : Settings) (query : Query) (note : Note)
    (room : HasRoom query settings.capacity) (notes : NotesGoals settings query note) where
  -- the plan of a query for which there is room, and what is printed for it
  plan_searched : (status : Status) (front text : List ℕ) → IsPlanOf query status front → Tells front text
      → IsSearchEnd Tells settings query note status text
  plan_searched status front text (searches.least is plan) goes = planned is room front plan goes notes
  plan_searched status front text (searches.none is impossible line) goes =
      unplanned is room impossible (subst (λ front. Tells front text) line goes) notes

  -- the ending with what is printed for its plan
  pub followed_searched : (status : Status) (front : List ℕ) (made : Ending) → IsPlanOf query status front
      → made.status ≡ status → Tells front (text_of made)
      → IsSearchEnd Tells settings query note made.status (text_of made)
  followed_searched status front made plan same goes =
      plan_searched made.status front (text_of made) (subst (λ s. IsPlanOf query s front) (sym same) plan) goes

-- the ending of a search with too many entries
pub full_ended : (Tells : List ℕ → List ℕ → Type 0) (settings : Settings) (query : Query) (note : Note) (told : ℕ)
    (ending : Ending) → Exceeds query settings.capacity told → (count : ℕ) × (note ≡ noted settings count)
    → EndsAs ending TooManyEntries (texts.too_many_entries told)
    → IsSearchEnd Tells settings query note ending.status (text_of ending)
full_ended Tells settings query note told ending full (count, is) ends =
    too_many ends.status full.more (ends.text ∙ ap texts.too_many_entries full.same) count is
