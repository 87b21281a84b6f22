-- The task that names make, and the command.
use Rattle.std.proofs.Common.{◌≡◌, ℕ, ◌-◌, ◌^◌, Bool, true, false, cond, List, [], ◌∷◌, Option, None, Some, option_map}
use Rattle.std.proofs.Common.{codes, bytes_eq, decimal, refl, ap, ◌∙◌, subst, arith}
use Rattle.std.specs.Option.{option_and_then}
use Rattle.command_line.specs.Stages.{AnyStage}
use Rattle.command_line.specs.Command.{AnyTask, AnyCommand, plan, gen, stages, check, dump, replay, batch}
use Rattle.command_line.specs.Command.{task_name, task_word, shape_word}
use Rattle.command_line.specs.Command.{IsInput, AreNames}
use Rattle.command_line.specs.Numbers.{number_within}
use Rattle.command_line.specs.Options.{allows}
use Rattle.command_line.specs.Reading.{of_two, of_three, plan_over, stages_over, check_over, dump_over, batch_over}
use Rattle.command_line.specs.Reading.{shape_of, input_with, input_by, input_of, stages_of, task_of}
use Rattle.command_line.specs.Reading.{command_where, command_with, task_named}
use Rattle.command_line.specs.declared.settings.Settings.{Settings}
use Rattle.command_line.specs.declared.options.TaskName.{TaskName}
use Rattle.command_line.specs.declared.options.TaskName.TheVariants as tasks
use Rattle.command_line.specs.declared.command.GenInput.{GenInput}
use Rattle.query_generator.specs.declared.shape.GenShape.{GenShape}
use Rattle.query_generator.specs.declared.shape.GenShape.TheVariants.{Chain, Star, Clique}
use Rattle.command_line.proofs.StageWords.{stages_read, stages_spelled}
use Rattle.command_line.proofs.Values.{is_text}
use Rattle.command_line.proofs.WrittenNumbers.{number_read, number_spelled}

-- ---- names of tasks

-- a task's word names it
pub name_read : (name : TaskName) → task_named (task_word name) ≡ Some name
name_read tasks.Plan = refl
name_read tasks.Gen = refl
name_read tasks.Stages = refl
name_read tasks.Check = refl
name_read tasks.Dump = refl
name_read tasks.Replay = refl
name_read tasks.Batch = refl

-- a word that names the first of some tasks, or else another, is the task's
or_else : (word : List ℕ) (first name : TaskName) (others : Option TaskName)
    → cond (bytes_eq word (task_word first)) (Some first) others ≡ Some name
    → (others ≡ Some name → word ≡ task_word name) → word ≡ task_word name
or_else word first name others is rest = of_test (bytes_eq word (task_word first)) refl is
  where
    of_test : (b : Bool) → bytes_eq word (task_word first) ≡ b → cond b (Some first) others ≡ Some name
        → word ≡ task_word name
    of_test true same found = let here : first ≡ name = cc in
        is_text word (task_word first) same ∙ ap task_word here
    of_test false other found = rest found

-- a word that names a task is its word
pub name_spelled : (word : List ℕ) (name : TaskName) → task_named word ≡ Some name → word ≡ task_word name
name_spelled word name is =
    or_else word tasks.Plan name _ is (λ is. or_else word tasks.Gen name _ is
    (λ is. or_else word tasks.Stages name _ is (λ is. or_else word tasks.Check name _ is
    (λ is. or_else word tasks.Dump name _ is (λ is. or_else word tasks.Replay name _ is
    (λ is. or_else word tasks.Batch name _ is (λ none. cc)))))))

-- ---- shapes

shape_read : (shape : GenShape) → shape_of (shape_word shape) ≡ Some shape
shape_read Chain = refl
shape_read Star = refl
shape_read Clique = refl

shape_spelled : (word : List ℕ) (shape : GenShape) → shape_of word ≡ Some shape → word ≡ shape_word shape
shape_spelled word shape is = of_word (bytes_eq word (codes "chain")) (bytes_eq word (codes "star"))
    (bytes_eq word (codes "clique")) refl refl refl is
  where
    of_word : (a b c : Bool) → bytes_eq word (codes "chain") ≡ a → bytes_eq word (codes "star") ≡ b
        → bytes_eq word (codes "clique") ≡ c
        → cond a (Some Chain) (cond b (Some Star) (cond c (Some Clique) None)) ≡ Some shape → word ≡ shape_word shape
    of_word true b c x y z found = let here : Chain ≡ shape = cc in is_text word (codes "chain") x ∙ ap shape_word here
    of_word false true c x y z found =
        let here : Star ≡ shape = cc in
        is_text word (codes "star") y ∙ ap shape_word here
    of_word false false true x y z found =
        let here : Clique ≡ shape = cc in
        is_text word (codes "clique") z ∙ ap shape_word here
    of_word false false false x y z found = cc

-- ---- three names

-- three names, and what is made of them
record OfThree {T : Type 0} (make : List ℕ → List ℕ → List ℕ → Option T) (names : List (List ℕ)) (made : T) : Type 0
  where
    first : List ℕ
    second : List ℕ
    third : List ℕ
    are : names ≡ first ∷ second ∷ third ∷ []
    is : make first second third ≡ Some made

three_spelled : {T : Type 0} (make : List ℕ → List ℕ → List ℕ → Option T) (names : List (List ℕ)) (made : T)
    → of_three make names ≡ Some made → OfThree make names made
three_spelled make [] made is = cc
three_spelled make (a ∷ []) made is = cc
three_spelled make (a ∷ b ∷ []) made is = cc
three_spelled make (a ∷ b ∷ c ∷ []) made is = record { first = a; second = b; third = c; are = refl; is = is }
three_spelled make (a ∷ b ∷ c ∷ d ∷ more) made is = cc

-- ---- what catalogues and queries are made of

-- the words of an input are read
input_read : (input : GenInput) (words : List (List ℕ)) → IsInput input words → input_of words ≡ Some input
input_read input words is =
    rw (
      is.are,
      number_read 0 (2 ^ 64 - 1) input.number is.number (omega (arith, is.number.to)),
      number_read 1 8 input.tables is.tables (omega (arith, is.tables.to)),
      shape_read input.shape,
    ) refl

-- what three parts make
record InputParts (number tables : Option ℕ) (shape : Option GenShape) (input : GenInput) : Type 0 where
  its_number : number ≡ Some input.number
  its_tables : tables ≡ Some input.tables
  its_shape : shape ≡ Some input.shape

input_parts : (number tables : Option ℕ) (shape : Option GenShape) (input : GenInput)
    → input_with number tables shape ≡ Some input → InputParts number tables shape input
input_parts None tables shape input is = cc
input_parts (Some n) None shape input is = cc
input_parts (Some n) (Some t) None input is = cc
input_parts (Some n) (Some t) (Some s) input is =
    let made : record { number = n; tables = t; shape = s } ≡ input = cc in
    record {
      its_number = ap (λ (i : GenInput). Some i.number) made;
      its_tables = ap (λ (i : GenInput). Some i.tables) made;
      its_shape = ap (λ (i : GenInput). Some i.shape) made;
    }

-- an input that is read is that of its words
input_spelled : (words : List (List ℕ)) (input : GenInput) → input_of words ≡ Some input → IsInput input words
input_spelled words input is =
    let three = three_spelled input_by words input is in
    let parts = input_parts (number_within 0 (2 ^ 64 - 1) three.first) (number_within 1 8 three.second)
    (shape_of three.third) input three.is in
    let first = number_spelled 0 (2 ^ 64 - 1) three.first input.number parts.its_number in
    let second = number_spelled 1 8 three.second input.tables parts.its_tables in
    let third = shape_spelled three.third input.shape parts.its_shape in
    let one : three.first ≡ decimal input.number = let e = first.word in cc in
    let two : three.second ≡ decimal input.tables = let e = second.word in cc in
    record { number = first.within; tables = second.within; are = three.are ∙ rw (one, two, third) refl }

-- ---- tasks

-- names are read as those of their task
pub names_read : (task : AnyTask) (names : List (List ℕ)) → AreNames task names
    → task_of (task_name task) names ≡ Some task
names_read (plan files) names are = rw are refl
names_read (gen input) names are = ap (option_map gen) (input_read input names are)
names_read (stages named) names are = rw (are.are, stages_read named.stages are.word are.of_stages) refl
names_read (check named) names are = rw are refl
names_read (dump files) names are = rw are refl
names_read (replay file) names are = rw are refl
names_read (batch files) names are = rw are refl

-- two names, and the task that is made of them
record OfTwo (make : List ℕ → List ℕ → AnyTask) (names : List (List ℕ)) (task : AnyTask) : Type 0 where
  first : List ℕ
  second : List ℕ
  are : names ≡ first ∷ second ∷ []
  is : make first second ≡ task

two_spelled : (make : List ℕ → List ℕ → AnyTask) (names : List (List ℕ)) (task : AnyTask)
    → of_two make names ≡ Some task → OfTwo make names task
two_spelled make [] task is = cc
two_spelled make (a ∷ []) task is = cc
two_spelled make (a ∷ b ∷ []) task is = record { first = a; second = b; are = refl; is = cc }
two_spelled make (a ∷ b ∷ c ∷ more) task is = cc

-- names that are read as a task's are those of the task
pub record HasNames (name : TaskName) (names : List (List ℕ)) (task : AnyTask) : Type 0 where
  pub named : name ≡ task_name task
  pub are_names : AreNames task names

names_spelled : (name : TaskName) (names : List (List ℕ)) (task : AnyTask) → task_of name names ≡ Some task
    → HasNames name names task
names_spelled tasks.Plan names task is =
    let two = two_spelled plan_over names task is in
    subst (HasNames tasks.Plan names) two.is (record { named = refl; are_names = two.are })
names_spelled tasks.Gen names task is = of_input (input_of names) refl is
  where
    of_input : (input : Option GenInput) → input_of names ≡ input → option_map gen input ≡ Some task
        → HasNames tasks.Gen names task
    of_input None read made = cc
    of_input (Some input) read made =
        let same : gen input ≡ task = cc in
        subst (HasNames tasks.Gen names) same (record { named = refl; are_names = input_spelled names input read })
names_spelled tasks.Stages names task is =
    let three = three_spelled stages_over names task is in
    of_word three.first three.second three.third (stages_of three.third) refl three.is three.are
  where
    of_word : (catalog query word : List ℕ) (some : Option (List AnyStage)) → stages_of word ≡ some
        → option_map (λ all. stages (record { files = record { catalog = catalog; query = query }; stages = all })) some ≡ Some task
        → names ≡ catalog ∷ query ∷ word ∷ [] → HasNames tasks.Stages names task
    of_word catalog query word None read made are = cc
    of_word catalog query word (Some all) read made are =
        let same : stages (record { files = record { catalog = catalog; query = query }; stages = all }) ≡ task = cc in
        subst (HasNames tasks.Stages names) same (record {
          named = refl;
          are_names = record { word = word; of_stages = stages_spelled word all read; are = are };
        })
names_spelled tasks.Check names task is =
    let three = three_spelled check_over names task is in
    let same : check (record { files = record { catalog = three.first; query = three.second }; plan = three.third }) ≡ task =
    let made = three.is in cc in
    subst (HasNames tasks.Check names) same (record { named = refl; are_names = three.are })
names_spelled tasks.Dump names task is =
    let two = two_spelled dump_over names task is in
    subst (HasNames tasks.Dump names) two.is (record { named = refl; are_names = two.are })
names_spelled tasks.Replay [] task is = cc
names_spelled tasks.Replay (file ∷ []) task is =
    let same : replay file ≡ task = cc in
    subst (HasNames tasks.Replay (file ∷ [])) same (record { named = refl; are_names = refl })
names_spelled tasks.Replay (file ∷ second ∷ more) task is = cc
names_spelled tasks.Batch names task is =
    let two = two_spelled batch_over names task is in
    subst (HasNames tasks.Batch names) two.is (record { named = refl; are_names = two.are })

-- ---- commands

-- what a command that was made has
pub record IsMade (name : TaskName) (names : List (List ℕ)) (settings : Option Settings) (command : AnyCommand) : Type 0
  where
    pub named : name ≡ task_name command.task
    pub are_names : AreNames command.task names
    pub chosen : settings ≡ Some command.settings
    pub allowed : allows (task_name command.task) command.settings ≡ true

pub made_command : (name : TaskName) (names : List (List ℕ)) (settings : Option Settings) (command : AnyCommand)
    → command_with (task_of name names) settings ≡ Some command → IsMade name names settings command
made_command name names None command is = cc
made_command name names (Some settings) command is = of_task (task_of name names) refl is
  where
    of_allowed : (task : AnyTask) (may : Bool) → task_of name names ≡ Some task → allows (task_name task) settings ≡ may
        → cond may (Some (record { task = task; settings = settings })) None ≡ Some command
        → IsMade name names (Some settings) command
    of_allowed task false read may made = cc
    of_allowed task true read may made =
        let same : record { task = task; settings = settings } ≡ command = cc in
        let has = names_spelled name names task read in
        subst (IsMade name names (Some settings)) same
        (record { named = has.named; are_names = has.are_names; chosen = refl; allowed = may })

    of_task : (task : Option AnyTask) → task_of name names ≡ task
        → option_and_then (λ t. command_where t settings) task ≡ Some command
        → IsMade name names (Some settings) command
    of_task None read made = cc
    of_task (Some task) read made = of_allowed task (allows (task_name task) settings) read refl made
