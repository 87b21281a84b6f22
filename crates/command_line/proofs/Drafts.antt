-- A command that is read piece by piece.
use Rattle.std.proofs.Common.{◌≡◌, ℕ, Bool, true, false, ◌&&◌, map, List, [], ◌∷◌, ◌++◌, length, Option, None, Some}
use Rattle.std.proofs.Common.{cond, refl, sym, ap, ◌∙◌, subst, arith}
use Rattle.std.specs.List.{filter_map, fold, list_all}
use Rattle.std.proofs.lemmas.List.{append-nil}
use Rattle.std.proofs.lemmas.List.Sums.{fold-append}
use Rattle.std.proofs.lemmas.List.Elements.{filter_map-append}
use Rattle.query_core.specs.Sets.{Has, Adds}
use Rattle.std.proofs.Math.Bool.{and-false}
use Rattle.std.proofs.lemmas.List.Folds.{list_all-append}
use Rattle.query_core.specs.Differ.{numbers_differ}
use Rattle.command_line.specs.Options.{setting_of, usual, takes_option}
use Rattle.command_line.specs.Command.{AnyTask, Given, Piece, name, given, name_in, given_in, given_number}
use Rattle.command_line.specs.Command.{may_be_given}
use Rattle.command_line.specs.Reading.{chosen_by, chosen, settings_of, task_of, command_with, command_made}
use Rattle.command_line.specs.Reading.{command_from}
use Rattle.command_line.specs.declared.settings.Settings.{Settings}
use Rattle.command_line.specs.declared.options.TaskName.{TaskName}
use Rattle.command_line.specs.declared.options.TaskName.TheVariants as tasks
use Rattle.command_line.specs.Drafts.{IsDraft, names_read}
use Rattle.command_line.specs.declared.draft.Draft.{Draft}
use Rattle.command_line.proofs.Chosen.{none_chosen}
use Rattle.command_line.proofs.GivenNumbers.{more_bits, comes_twice}

-- what a piece adds to those of one kind
module _ {T : Type 0} (kind : Piece → Option T) (before : List Piece) (piece : Piece) where
  -- a piece of another kind adds nothing
  kept : kind piece ≡ None → filter_map kind (before ++ piece ∷ []) ≡ filter_map kind before
  kept other = filter_map-append kind before (piece ∷ [])
      ∙ ap (λ more. filter_map kind before ++ more) (of_kind (kind piece) refl other)
      ∙ append-nil (filter_map kind before)
    where
      of_kind : (o : Option T) → kind piece ≡ o → kind piece ≡ None → filter_map kind (piece ∷ []) ≡ []
      of_kind o same none = rw none refl

  -- one of the kind is behind the others
  gained : (value : T) → kind piece ≡ Some value
      → filter_map kind (before ++ piece ∷ []) ≡ filter_map kind before ++ value ∷ []
  gained value here = filter_map-append kind before (piece ∷ [])
      ∙ ap (λ more. filter_map kind before ++ more) (rw here refl)

  -- and stands before what follows
  inside : (value : T) (after : List Piece) → kind piece ≡ Some value
      → filter_map kind (before ++ piece ∷ after) ≡ filter_map kind before ++ value ∷ filter_map kind after
  inside value after here = filter_map-append kind before (piece ∷ after)
      ∙ ap (λ more. filter_map kind before ++ more) (rw here refl)

-- what is chosen with one option more, and with others behind it
chosen_more : (some more : List Given) (one : Given)
    → settings_of (some ++ one ∷ more) ≡ fold chosen (chosen (settings_of some) one) more
chosen_more some more one = fold-append chosen (Some usual) some (one ∷ more)

-- ---- one piece more

-- the task takes each option
abbrev pub takes_all : TaskName → List Given → Bool
takes_all task some = list_all (λ one. takes_option task one.option) some

taken_with : (task : TaskName) (some more : List Given)
    → takes_all task (some ++ more) ≡ (takes_all task some && takes_all task more)
taken_with task some more = list_all-append (λ one. takes_option task one.option) some more

module _ (task : TaskName) (before : List Piece) (draft : Draft) (is : IsDraft task before draft) where
  pub with_name : (word : List ℕ) (new : Draft) → new.task ≡ draft.task → new.settings ≡ draft.settings
      → new.given ≡ draft.given → names_read new.names ≡ names_read draft.names ++ word ∷ []
      → IsDraft task (before ++ name word ∷ []) new
  with_name word new same settings numbers more = record {
    task_is = same ∙ is.task_is;
    taken = ap (takes_all task) (kept given_in before (name word) refl) ∙ is.taken;
    names = gained name_in before (name word) word refl ∙ ap (λ ns. ns ++ word ∷ []) is.names ∙ sym more;
    settings = ap settings_of (kept given_in before (name word) refl) ∙ is.settings ∙ ap Some (sym settings);
    given = rw (numbers, kept given_in before (name word) refl) is.given;
  }

  pub with_option : (one : Given) (new : Draft) → new.task ≡ draft.task
      → takes_option draft.task one.option ≡ true → names_read new.names ≡ names_read draft.names
      → chosen_by (setting_of one.option) one.value draft.settings ≡ Some new.settings
      → (Has draft.given (given_number one) → ⊥) → Adds draft.given (given_number one) new.given
      → IsDraft task (before ++ given one ∷ []) new
  with_option one new same takes names settings fresh adds =
      let some = filter_map given_in before in
      let grown : filter_map given_in (before ++ given one ∷ []) ≡ some ++ one ∷ [] =
      gained given_in before (given one) one refl in
      let taken : takes_option task one.option ≡ true =
      subst (λ t. takes_option t one.option ≡ true) is.task_is takes in
      record {
        task_is = same ∙ is.task_is;
        taken = ap (takes_all task) grown ∙ taken_with task some (one ∷ []) ∙ rw (is.taken, taken) refl;
        names = kept name_in before (given one) refl ∙ is.names ∙ sym names;
        settings = ap settings_of grown ∙ chosen_more some [] one ∙ ap (λ c. chosen c one) is.settings ∙ settings;
        given = rw grown (more_bits given_number some one draft.given is.given new.given fresh adds);
      }

-- ---- one piece too many

-- four names are no task's
four_names : (task : TaskName) (names more : List (List ℕ)) (word : List ℕ) → length names ≡ 3
    → task_of task (names ++ word ∷ more) ≡ None
four_names task [] more word three = absurd (omega (arith, three))
four_names task (a ∷ []) more word three = absurd (omega (arith, three))
four_names task (a ∷ b ∷ []) more word three = absurd (omega (arith, three))
four_names tasks.Plan (a ∷ b ∷ c ∷ []) more word three = refl
four_names tasks.Gen (a ∷ b ∷ c ∷ []) more word three = refl
four_names tasks.Stages (a ∷ b ∷ c ∷ []) more word three = refl
four_names tasks.Check (a ∷ b ∷ c ∷ []) more word three = refl
four_names tasks.Dump (a ∷ b ∷ c ∷ []) more word three = refl
four_names tasks.Replay (a ∷ b ∷ c ∷ []) more word three = refl
four_names tasks.Batch (a ∷ b ∷ c ∷ []) more word three = refl
four_names task (a ∷ b ∷ c ∷ d ∷ names) more word three = absurd (omega (arith, three))

-- where there is no task, or nothing is chosen, there is no command
no_command : (b : Bool) (task : Option AnyTask) (settings : Option Settings) → command_with task settings ≡ None
    → cond b (command_with task settings) None ≡ None
no_command true task settings is = is
no_command false task settings is = refl

no_task : (settings : Option Settings) → command_with None settings ≡ None
no_task None = refl
no_task (Some settings) = refl

-- where the options may not be given there is no command
no_options : (task : TaskName) (names : List (List ℕ)) (some : List Given) → may_be_given task some ≡ false
    → command_made task names some ≡ None
no_options task names some never = rw never refl

module _ (task : TaskName) (before after : List Piece) (draft : Draft) (is : IsDraft task before draft) where
  pub fourth_name : (word : List ℕ) → length (names_read draft.names) ≡ 3
      → command_from task (before ++ name word ∷ after) ≡ None
  fourth_name word three =
      let some = filter_map given_in (before ++ name word ∷ after) in
      let none : task_of task (filter_map name_in (before ++ name word ∷ after)) ≡ None =
      ap (task_of task) (inside name_in before (name word) word after refl)
      ∙ four_names task (filter_map name_in before) (filter_map name_in after) word (ap length is.names ∙ three) in
      no_command (may_be_given task some) _ (settings_of some) (ap (λ t. command_with t (settings_of some)) none
      ∙ no_task (settings_of some))

  -- the options with one more among them
  whole : (one : Given) → filter_map given_in (before ++ given one ∷ after) ≡ filter_map given_in
      before ++ one ∷ filter_map given_in after
  whole one = inside given_in before (given one) one after refl

  pub given_again : (one : Given) → Has draft.given (given_number one)
      → command_from task (before ++ given one ∷ after) ≡ None
  given_again one has =
      let some = filter_map given_in before in
      let again : numbers_differ (map given_number (filter_map given_in (before ++ given one ∷ after))) ≡ false =
      rw (whole one) (comes_twice given_number some one draft.given is.given (filter_map given_in after) has) in
      no_options task (filter_map name_in (before ++ given one ∷ after))
      (filter_map given_in (before ++ given one ∷ after)) (rw again (and-false _))

  pub not_taken : (one : Given) → takes_option draft.task one.option ≡ false
      → command_from task (before ++ given one ∷ after) ≡ None
  not_taken one other =
      let some = filter_map given_in before in
      let never : takes_option task one.option ≡ false =
      subst (λ t. takes_option t one.option ≡ false) is.task_is other in
      let none : takes_all task (filter_map given_in (before ++ given one ∷ after)) ≡ false =
      ap (takes_all task) (whole one) ∙ taken_with task some (one ∷ filter_map given_in after)
      ∙ rw never (and-false _) in
      no_options task (filter_map name_in (before ++ given one ∷ after))
      (filter_map given_in (before ++ given one ∷ after)) (rw none refl)

  -- the word behind the option is no value of it
  pub no_value : (one : Given) → chosen_by (setting_of one.option) one.value draft.settings ≡ None
      → command_from task (before ++ given one ∷ after) ≡ None
  no_value one never =
      let some = filter_map given_in before in
      let all = filter_map given_in (before ++ given one ∷ after) in
      let names = filter_map name_in (before ++ given one ∷ after) in
      let none : settings_of all ≡ None =
      ap settings_of (whole one) ∙ chosen_more some (filter_map given_in after) one
      ∙ ap (λ c. fold chosen c (filter_map given_in after)) (ap (λ c. chosen c one) is.settings ∙ never)
      ∙ none_chosen (filter_map given_in after) in
      no_command (may_be_given task all) (task_of task names) (settings_of all)
      (ap (command_with (task_of task names)) none)

-- the command of a draft
pub all_read : (task : TaskName) (pieces : List Piece) (draft : Draft) → IsDraft task pieces draft
    → command_from task pieces ≡ command_with (task_of task (names_read draft.names)) (Some draft.settings)
all_read task pieces draft is =
    let once : may_be_given task (filter_map given_in pieces) ≡ true = rw (is.taken, is.given.once) refl in
    rw (once, is.names) (ap (command_with (task_of task (names_read draft.names))) is.settings)
