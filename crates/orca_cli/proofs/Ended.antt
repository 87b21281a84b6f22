-- What is put of the end of a run.
use Rattle.std.proofs.Common.{◌≡◌, ℕ, List, Option, None, Some, refl, sym, subst}
use Rattle.command_line.specs.Command.{ListNames, AnyTask, AnyCommand}
use Rattle.command_line.specs.Command.{plan, stages, check, batch}
use Rattle.command_line.specs.HeldStages.{stages_read}
use Rattle.command_line.specs.Views.{command_read, task_read}
use Rattle.command_line.specs.declared.command.GenInput.{GenInput}
use Rattle.orca_cli.specs.Answers.{Note, IsSearchEnd}
use Rattle.orca_cli.specs.Checked.{IsCheckEnd}
use Rattle.orca_cli.specs.Lists.{IsListRefused}
use Rattle.orca_cli.specs.Prepared.{Reads, generated_in, IsAskedBy, unusable, by_file, Stops}
use Rattle.orca_cli.specs.Run.{IsEnding, answered, own_end, stopped, IsRun, Puts, Ends, whole, cut_short, nothing}
use Rattle.orca_cli.specs.Sections.{Tells}
use Rattle.orca_cli.specs.Staged.{IsStagedEnd}
use Rattle.orca_cli.specs.Views.{EndsAs, EndsWith, IsEndOf, text_of, AreListed, AsksFor}
use Rattle.orca_cli.specs.Views.{IsWanted}
use Rattle.orca_cli.specs.declared.asked.Asked.{Asked}
use Rattle.orca_cli.specs.declared.asked.Checked.{Checked}
use Rattle.orca_cli.specs.declared.asked.InStages.{InStages}
use Rattle.orca_cli.specs.declared.asked.Listed.{Listed}
use Rattle.orca_cli.specs.declared.asked.Wanted.{Wanted}
use Rattle.orca_cli.specs.declared.asked.Work.{Work}
use Rattle.orca_cli.specs.declared.asked.Work.TheVariants as works
use Rattle.orca_cli.specs.declared.ending.End.{End}
use Rattle.orca_cli.specs.declared.ending.End.TheVariants as ends
use Rattle.orca_cli.specs.declared.ending.Ending.{Ending}
use Rattle.orca_cli.specs.declared.status.Status.{Status}

-- what holds of an ending holds of the status and the text that it has
of_ending : (P : Status → List ℕ → Type 0) (ending : Ending) (status : Status) (text : List ℕ)
    → P ending.status (text_of ending) → EndsAs ending status text → P status text
of_ending P ending status text fact is = subst (λ s. P s text) is.status
    (subst (λ t. P ending.status t) is.text fact)

-- what was put of an end that may be a run's is what is put of such a run
pub put_of : (IsText : Status → List ℕ → Type 0) (end : End) (sink : Puts) (status : Status) → EndsWith IsText end
    → Ends (IsEndOf end) sink status → Ends IsText sink status
put_of IsText (ends.Told ending) sink status fact (whole text is taken) =
    whole text (of_ending IsText ending status text fact is) taken
put_of IsText (ends.Told ending) sink status fact (cut_short fault rose ended text is taken) =
    cut_short fault rose ended text (of_ending IsText ending ended text fact is) taken
put_of IsText (ends.Told ending) sink status fact (nothing is kept) = nothing is kept
put_of IsText ends.Memory sink status fact (whole text is taken) = absurd is
put_of IsText ends.Memory sink status fact (cut_short fault rose ended text is taken) = absurd is
put_of IsText ends.Memory sink status fact (nothing is kept) = nothing is kept

-- what follows of a status and a text follows of an end
pub ends_then : (P Q : Status → List ℕ → Type 0) (end : End) → ((s : Status) (t : List ℕ) → P s t → Q s t)
    → EndsWith P end → EndsWith Q end
ends_then P Q (ends.Told ending) step fact = step ending.status (text_of ending) fact
ends_then P Q ends.Memory step fact = tt

-- the command that is wanted asks for this work
pub asked_for : (named : Option AnyCommand) (held : List ℕ → Option (List ℕ)) (wanted : Wanted) (work : Work)
    → wanted.work ≡ work → IsWanted named held wanted
    → AsksFor (task_read wanted.command.task) wanted.command.settings.options held work
asked_for named held wanted work same is =
    subst (AsksFor (task_read wanted.command.task) wanted.command.settings.options held) same is.asks_for

-- a run of the command that is wanted, which has this task
pub task_run : (named : Option AnyCommand) (shelf : Reads) (empty note : Note) (wanted : Wanted) (status : Status)
    (text : List ℕ) → IsWanted named shelf.held wanted → (task : AnyTask) → task_read wanted.command.task ≡ task
    → IsEnding (record { task = task; settings = wanted.command.settings }) shelf empty note status text
    → IsRun named shelf empty note status text
task_run named shelf empty note wanted status text is task same ending =
    subst (λ n. IsRun n shelf empty note status text) (sym is.named_is)
    (subst (λ k. IsEnding (record { task = k; settings = wanted.command.settings }) shelf empty note status text)
    (sym same) ending)

-- a run that searched the query for which its command asks
pub query_run : (named : Option AnyCommand) (shelf : Reads) (empty note : Note) (wanted : Wanted) (asked : Asked)
    (input : Option GenInput) (status : Status) (text : List ℕ) → wanted.work ≡ works.Query asked
    → IsWanted named shelf.held wanted → input ≡ generated_in (task_read wanted.command.task)
    → IsSearchEnd (Tells input wanted.command.settings asked.query) wanted.command.settings asked.query note status text
    → IsRun named shelf empty note status text
query_run named shelf empty note wanted asked input status text work is made found =
    let command = command_read wanted.command in
    let asks : IsAskedBy command.task command.settings.options shelf.held asked.query =
    asked_for named shelf.held wanted (works.Query asked) work is in
    subst (λ n. IsRun n shelf empty note status text) (sym is.named_is) (answered asked.query asks
    (subst (λ i. IsSearchEnd (Tells i command.settings asked.query) command.settings asked.query note status text) made
    found))

-- a run of a batch, which leaves the note as it was
module _ (named : Option AnyCommand) (shelf : Reads) (note : Note) (wanted : Wanted) (listed : Listed)
    (work : wanted.work ≡ works.List listed) (is : IsWanted named shelf.held wanted) (status : Status)
    (text : List ℕ) where
  -- its command asks for the list
  list_run : ((files : ListNames) → AreListed files shelf.held listed
      → IsEnding (record { task = batch files; settings = wanted.command.settings }) shelf note note status text)
      → IsRun named shelf note note status text
  list_run ends =
      let (files, task, are) = asked_for named shelf.held wanted (works.List listed) work is in
      task_run named shelf note note wanted status text is (batch files) task (ends files are)

  -- the list was refused
  pub refused_run : IsListRefused wanted.command.settings.capacity listed.list.items status text
      → IsRun named shelf note note status text
  refused_run why = list_run (λ files are.
      stopped (by_file listed.catalog are.offers (unusable listed.list.items are.told why)) refl)

-- a run that planned its query in stages, which leaves the note as it was
pub staged_run : (named : Option AnyCommand) (shelf : Reads) (note : Note) (wanted : Wanted) (staged : InStages)
    (status : Status) (text : List ℕ) → wanted.work ≡ works.Stages staged → IsWanted named shelf.held wanted
    → IsStagedEnd staged.asked.query wanted.command.settings.capacity (stages_read staged.stages) status text
    → IsRun named shelf note note status text
staged_run named shelf note wanted staged status text work is end =
    let (names, task, asks) = asked_for named shelf.held wanted (works.Stages staged) work is in
    task_run named shelf note note wanted status text is (stages names) task (own_end (record {
      query = staged.asked.query;
      asks = asks.asks;
      end = subst (λ some. IsStagedEnd staged.asked.query wanted.command.settings.capacity some status text)
          asks.stages_are end;
    }) refl)

-- a run that checked a text, which leaves the note as it was
pub checked_run : (named : Option AnyCommand) (shelf : Reads) (note : Note) (wanted : Wanted) (checked : Checked)
    (status : Status) (text : List ℕ) → wanted.work ≡ works.Check checked → IsWanted named shelf.held wanted
    → IsCheckEnd checked.asked.query checked.plan.items status text → IsRun named shelf note note status text
checked_run named shelf note wanted checked status text work is end =
    let (names, task, asks) = asked_for named shelf.held wanted (works.Check checked) work is in
    task_run named shelf note note wanted status text is (check names) task (own_end (record {
      query = checked.asked.query;
      asks = asks.asks;
      plan = checked.plan.items;
      told = asks.told;
      end = end;
    }) refl)

-- the end of a run that searched nothing, and left the note as it was
pub stopped_run : (named : Option AnyCommand) (shelf : Reads) (empty note : Note) (end : End) → note ≡ empty
    → EndsWith (Stops named shelf) end → EndsWith (IsRun named shelf empty note) end
stopped_run named shelf empty note end kept = ends_then (Stops named shelf) (IsRun named shelf empty note) end
    (λ s t stop. of_named named s t stop)
  where
    of_named : (n : Option AnyCommand) (s : Status) (t : List ℕ) → Stops n shelf s t → IsRun n shelf empty note s t
    of_named None s t usage = (usage, kept)
    of_named (Some command) s t stop = stopped stop kept
