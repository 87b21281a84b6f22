-- What follows from how a run ends: which causes its status has.
use Rattle.std.proofs.Common.{◌≡◌, ◌≢◌, List, ℕ, Option, None, Some, refl, sym, ◌∙◌, subst, inl, inr}
use Rattle.orca_base.specs.Causes.{Rose}
use Rattle.command_line.specs.Command.{AnyCommand}
use Rattle.orca_cli.specs.Answers.{Note}
use Rattle.orca_cli.specs.Causes.{HasNoFault, Completes, HasCauses, EndsHaveCauses}
use Rattle.orca_cli.specs.Prepared.{Reads, generated_in}
use Rattle.orca_cli.specs.Run.{IsEnding, IsRun, Puts, Ends, whole, cut_short, nothing}
use Rattle.orca_cli.specs.Sections.{Tells}
use Rattle.orca_cli.specs.Status.{IsOneOf, concluded, overflowed, turned_down, finished, served, list_refused}
use Rattle.orca_cli.specs.Status.{plan_turned_down}
use Rattle.orca_cli.specs.declared.status.Status.{Status}
use Rattle.orca_cli.specs.declared.status.Status.TheVariants.{Usage, ReadFault, WriteFault, Memory}
use Rattle.orca_cli.specs.declared.status.Status.TheVariants.{PlanRefused, BatchRefused}
use Rattle.orca_cli.proofs.OneAnswer.{OneAnswer, settled_search, overflow_search, sure_search}
use Rattle.orca_cli.proofs.CheckedEnds.{OneText, accepted, turned_down as turned_down_plan}
use Rattle.orca_cli.proofs.HeldEnds.{generated_there, stages_there, check_there, listed_there, unlisted_there}
use Rattle.orca_cli.proofs.HeldEnds.{refused_query_there}
use Rattle.orca_cli.proofs.StagedEnds.{staged_status, settled_stages}
use Rattle.orca_cli.proofs.EndingStatuses.{of_search, TaskCause, ending_cause}

-- ---- the status of the run

-- what holds of each text's status, and of want of memory, holds of the run's where the sink didn't fail
given : (IsText : Status → List ℕ → Type 0) (P : Status → Type 0) (sink : Puts) (status : Status) → P Memory
    → ((s : Status) (text : List ℕ) → IsText s text → P s) → (Rose sink.before sink.after → ⊥)
    → Ends IsText sink status → P status
given IsText P sink status memory each no_write (whole text is taken) = each status text is
given IsText P sink status memory each no_write (cut_short fault rose ended text is taken) = absurd (no_write rose)
given IsText P sink status memory each no_write (nothing is kept) = subst P (sym is) memory

-- what holds of each ending's status, and of want of memory, holds of the run's where there is no fault
pub every : (named : Option AnyCommand) (shelf : Reads) (empty note : Note) (sink : Puts) (status : Status)
    → Ends (IsRun named shelf empty note) sink status → (P : Status → Type 0) (command : AnyCommand)
    → named ≡ Some command → HasNoFault command.task shelf sink → P Memory
    → ((s : Status) (t : List ℕ) → IsEnding command shelf empty note s t → P s) → P status
every named shelf empty note sink status ends P command is none memory each =
    given (IsEnding command shelf empty note) P sink status memory each none.writes
    (subst (λ n. Ends (IsRun n shelf empty note) sink status) is ends)

-- what a run's status comes from where the words are a command, the sink didn't fail, and memory lasted
pub told_cause : (named : Option AnyCommand) (shelf : Reads) (empty note : Note) (sink : Puts) (status told : Status)
    → status ≡ told → told ≢ Usage → told ≢ WriteFault → told ≢ Memory
    → Ends (IsRun named shelf empty note) sink status
    → (command : AnyCommand) × (named ≡ Some command) × TaskCause command.task shelf told
told_cause named shelf empty note sink status told is no_usage no_write no_memory ends = of_named named refl ends
  where
    of_named : (n : Option AnyCommand) → named ≡ n → Ends (IsRun n shelf empty note) sink status
        → (command : AnyCommand) × (named ≡ Some command) × TaskCause command.task shelf told
    of_named None same (whole text run taken) = absurd (no_usage (sym is ∙ run.0.0))
    of_named (Some command) same (whole text ending taken) = (
      command,
      same,
      subst (TaskCause command.task shelf) is (ending_cause shelf status text command empty note ending),
    )
    of_named n same (cut_short fault rose ended text ending taken) = absurd (no_write (sym is ∙ fault))
    of_named n same (nothing memory kept) = absurd (no_memory (sym is ∙ memory))

module _ (one : OneAnswer) (outcomes : OneText) (named : Option AnyCommand) (shelf : Reads) (empty note : Note)
    (sink : Puts) (status : Status) (ends : Ends (IsRun named shelf empty note) sink status) where
  where_no_fault : (P : Status → Type 0) (command : AnyCommand) → named ≡ Some command
      → HasNoFault command.task shelf sink → P Memory
      → ((s : Status) (t : List ℕ) → IsEnding command shelf empty note s t → P s) → P status
  where_no_fault = every named shelf empty note sink status ends

  completed : Completes named shelf sink status
  completed command query is sure room none =
      where_no_fault (IsOneOf concluded) command is none (inr (inr (inl refl)))
      (λ s t ending. settled_search one (Tells (generated_in command.task) command.settings query) command.settings
      query
      note s t room
      (sure_search one command.task command.settings shelf empty note s t query sure none.reads ending))

  usage_cause : status ≡ Usage → named ≡ None
  usage_cause is = of_named named ends
    where
      of_named : (n : Option AnyCommand) → Ends (IsRun n shelf empty note) sink status → n ≡ None
      of_named None ends = refl
      of_named (Some command) (whole text ending taken) =
          absurd (subst (TaskCause command.task shelf) is (ending_cause shelf status text command empty note ending))
      of_named (Some command) (cut_short fault rose ended text ending taken) = cc
      of_named (Some command) (nothing memory kept) = cc

  write_cause : status ≡ WriteFault → Rose sink.before sink.after
  write_cause is = of_named named ends
    where
      of_named : (n : Option AnyCommand) → Ends (IsRun n shelf empty note) sink status → Rose sink.before sink.after
      of_named None (whole text run taken) = let other : Usage ≡ WriteFault = sym run.0.0 ∙ is in cc
      of_named (Some command) (whole text ending taken) =
          absurd (subst (TaskCause command.task shelf) is (ending_cause shelf status text command empty note ending))
      of_named n (cut_short fault rose ended text ending taken) = rose
      of_named n (nothing memory kept) = cc

  causes : HasCauses named shelf sink status
  causes = record {
    completes = completed;
    usage = usage_cause;
    read_fault = λ is.
        told_cause named shelf empty note sink status ReadFault is (λ u. cc) (λ w. cc) (λ m. cc) ends;
    write_fault = write_cause;
    overflows = λ command query is sure more none.
        where_no_fault (IsOneOf overflowed) command is none (inr (inl refl))
        (λ s t ending. overflow_search one (Tells (generated_in command.task) command.settings query) command.settings
        query note s t more
        (sure_search one command.task command.settings shelf empty note s t query sure none.reads ending));
    refuses = λ command files is named_files held none.
        where_no_fault (IsOneOf turned_down) command is none (inr (inl refl))
        (λ s t ending. inl
        (refused_query_there one shelf empty note command.task command.settings files named_files held
        none.reads s t ending));
    finishes = λ command input is task none.
        where_no_fault (IsOneOf finished) command is none (inr (inr (inr (inl refl))))
        (λ s t ending. generated_there one command shelf empty note none.reads s t ending input task);
    stages_finish = λ command query asked is task held none.
        where_no_fault (IsOneOf finished) command is none (inr (inr (inr (inl refl))))
        (λ s t ending. of_search s (staged_status query command.settings.capacity asked.stages s t
        (stages_there one command shelf empty note none.reads s t ending asked query task held)));
    stages_settle = λ command query asked is task held room none.
        where_no_fault (IsOneOf concluded) command is none (inr (inr (inl refl)))
        (λ s t ending. settled_stages one query command.settings.capacity asked.stages s t room
        (stages_there one command shelf empty note none.reads s t ending asked query task held));
    plan_refused = λ is.
        let (command, same, (files, task)) =
        told_cause named shelf empty note sink status PlanRefused is (λ u. cc) (λ w. cc) (λ m. cc) ends in
        (command, files, same, task);
    accepts_plan = λ command files query plan_text cost is task held good none.
        where_no_fault (IsOneOf served) command is none (inr (inl refl))
        (λ s t ending. accepted outcomes query plan_text cost s t good
        (check_there one command shelf empty note none.reads s t ending files query plan_text task held));
    refuses_plan = λ command files query plan_text fault is task held lasts has none.
        where_no_fault (IsOneOf plan_turned_down) command is none (inr (inl refl))
        (λ s t ending. turned_down_plan outcomes query plan_text fault s t lasts has
        (check_there one command shelf empty note none.reads s t ending files query plan_text task held));
    batch_refused = λ is.
        let (command, same, (files, task)) =
        told_cause named shelf empty note sink status BatchRefused is (λ u. cc) (λ w. cc) (λ m. cc) ends in
        (command, files, same, task);
    lists = λ command files is task held none.
        where_no_fault (IsOneOf served) command is none (inr (inl refl))
        (λ s t ending. inl (listed_there one command shelf empty note none.reads s t ending files task held));
    refuses_list = λ command files cause is task held none.
        where_no_fault (IsOneOf list_refused) command is none (inr (inl refl))
        (λ s t ending. inl (unlisted_there one command shelf empty note none.reads s t ending files cause task held));
  }

-- what follows from how a run ends
pub causes_of : OneAnswer → OneText → EndsHaveCauses
causes_of one outcomes named shelf empty note sink status ends =
    causes one outcomes named shelf empty note sink status ends
