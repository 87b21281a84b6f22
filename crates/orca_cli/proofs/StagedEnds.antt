-- How a run ends that plans its query in stages.
use Rattle.std.proofs.Common.{◌≡◌, ◌<◌, ◌%◌, ℕ, List, [], ◌∷◌, ◌++◌, Option, Some, map, slice_get, refl, sym, ap, ◌∙◌}
use Rattle.std.proofs.Common.{subst, inl, inr}
use Rattle.std.specs.List.{All, concat}
use Rattle.std.proofs.Props.{props}
use Rattle.std.proofs.lemmas.List.Elements.{All-head, All-tail}
use mathlib.Core.HLevel.{is_prop→PathP}
use Rattle.query_core.specs.declared.query.Query.{Query}
use Rattle.query_stage.specs.OffRules.{MayBeOff}
use Rattle.query_stage.specs.declared.stage.Stage.{Stage}
use Rattle.request_props.specs.Numbered.{IsWithinLimits}
use Rattle.plan_space.specs.Cost.{cost_of}
use Rattle.plan_space.specs.Nodes.{Tree}
use Rattle.plan_tree.specs.Spells.{Spells}
use Rattle.plan_tree.specs.declared.plan.Plan.{Plan}
use Rattle.plan_tree.specs.declared.plan.Found.TheVariants as founds
use Rattle.plan_lines.specs.Found.{IsFoundText}
use Rattle.plan_lines.specs.Text.{plan_section}
use Rattle.stage_plan.specs.Laws.{HasOneStaging, PlansAreOfStages}
use Rattle.stage_plan.specs.Stages.{query_in, IsPlanIn}
use Rattle.stage_plan.specs.StagedRuns.{StagedAnswer, planned, unplanned, too_many}
use Rattle.stage_plan.specs.StagedRuns.{IsStaging, Answers, full, enough, least}
use Rattle.stage_plan.specs.StagedRuns.{none, Tells, IsStagedRun, IsPlanAt}
use Rattle.stage_plan.specs.declared.staged.Staged.TheVariants as staged
use Rattle.command_line.specs.HeldStages.{stage_read}
use Rattle.command_line.specs.Stages.{AnyStage}
use Rattle.orca_cli.specs.Answers.{HasRoom}
use Rattle.orca_cli.specs.Causes.{HaveRoom}
use Rattle.orca_cli.specs.Staged.{stage_lines, TellsAnswer, IsStagedEnd}
use Rattle.orca_cli.specs.Status.{IsOneOf, searched, concluded}
use Rattle.orca_cli.specs.Texts as texts
use Rattle.orca_cli.specs.declared.status.Status.{Status}
use Rattle.orca_cli.specs.declared.status.Status.TheVariants.{Planned, NoPlan, TooManyEntries}
use Rattle.orca_cli.proofs.OneAnswer.{OneAnswer, room_or_more}

-- ---- how it is made

module _ (q : Query) (capacity : ℕ) (stages : List Stage) (ran : List (Option ℕ)) where
  -- the plan that was found, as a tree, and the stage of which it is the least one
  pub record IsFoundAt (number : ℕ) (plan : Plan) (cost : ℕ) : Type 0 where
    pub tree : Tree
    pub spells : Spells plan tree
    pub costs : cost ≡ cost_of q tree
    pub at : IsPlanAt q stages number tree
    pub staging : IsStaging q capacity stages ran (planned number tree)

  pub found_at : ((q : Query) → PlansAreOfStages q) → (number : ℕ) (plan : Plan) (cost : ℕ)
      → IsStagedRun q capacity stages (record { found = staged.Least number plan cost; ran = ran })
      → IsFoundAt number plan cost
  found_at of_stages number plan cost run = of_answer run.answer run.tells run.staging
    where
      of_answer : (answer : StagedAnswer) → Tells q (staged.Least number plan cost) answer
          → IsStaging q capacity stages ran answer → IsFoundAt number plan cost
      of_answer (planned n tree) tells staging =
          let here = subst (λ k. IsStaging q capacity stages ran (planned k tree)) (sym tells.0) staging in
          record {
            tree = tree;
            spells = tells.1;
            costs = tells.2;
            at = of_stages q capacity stages ran number tree here;
            staging = here;
          }
      of_answer unplanned tells staging = absurd tells
      of_answer (too_many n) tells staging = absurd tells

  module _ (asked : List AnyStage) (are_asked : map stage_read stages ≡ asked) (status : Status) (text : List ℕ) where
    -- the end with a plan
    pub least_end : (number : ℕ) (plan : Plan) (cost : ℕ) (stage : Stage) (lines : List ℕ)
        → IsFoundAt number plan cost → slice_get stages number ≡ Some stage
        → IsFoundText (query_in q stage) (founds.Least plan cost) lines → status ≡ Planned
        → text ≡ stage_lines ran ++ lines → IsStagedEnd q capacity asked status text
    least_end number plan cost stage lines found there is_text planned_so is =
        let stands = found.at.there in
        let same : found.at.stage ≡ stage = cc in
        let least_in = subst (λ s. IsPlanIn q s found.tree) same found.at.least in
        let printed : lines ≡ concat (plan_section q found.tree) =
        is_text found.tree found.spells least_in.serves.valid found.costs in
        record {
          stages = stages;
          are_asked = are_asked;
          costs = ran;
          answer = planned number found.tree;
          staging = found.staging;
          told = (planned_so, is ∙ ap (λ l. stage_lines ran ++ l) printed);
        }

    -- the end without one
    pub none_end : (lines : List ℕ) → IsStagedRun q capacity stages (record { found = staged.NoPlan; ran = ran })
        → lines ≡ texts.no_plan → status ≡ NoPlan → text ≡ stage_lines ran ++ lines
        → IsStagedEnd q capacity asked status text
    none_end lines run printed unplanned_so is = of_answer run.answer run.tells run.staging
      where
        of_answer : (answer : StagedAnswer) → Tells q staged.NoPlan answer → IsStaging q capacity stages ran answer
            → IsStagedEnd q capacity asked status text
        of_answer (planned n tree) tells staging = absurd tells
        of_answer unplanned tells staging = record {
          stages = stages;
          are_asked = are_asked;
          costs = ran;
          answer = unplanned;
          staging = staging;
          told = (unplanned_so, is ∙ ap (λ l. stage_lines ran ++ l) printed);
        }
        of_answer (too_many n) tells staging = absurd tells

    -- the end for want of room
    pub full_end : (number : ℕ) → IsStagedRun q capacity stages (record { found = staged.Full number; ran = ran })
        → status ≡ TooManyEntries → text ≡ texts.too_many_entries capacity → IsStagedEnd q capacity asked status text
    full_end number run full_so is = of_answer run.answer run.tells run.staging
      where
        of_answer : (answer : StagedAnswer) → Tells q (staged.Full number) answer
            → IsStaging q capacity stages ran answer
            → IsStagedEnd q capacity asked status text
        of_answer (planned n tree) tells staging = absurd tells
        of_answer unplanned tells staging = absurd tells
        of_answer (too_many n) tells staging = record {
          stages = stages;
          are_asked = are_asked;
          costs = ran;
          answer = too_many n;
          staging = staging;
          told = (full_so, is);
        }

-- ---- its status

-- the query has an answer, or there is no room for it
pub staged_status : (q : Query) (capacity : ℕ) (asked : List AnyStage) (status : Status) (text : List ℕ)
    → IsStagedEnd q capacity asked status text → IsOneOf searched status
staged_status q capacity asked status text end = of_answer end.answer end.told
  where
    of_answer : (answer : StagedAnswer) → TellsAnswer q capacity end.costs answer status text → IsOneOf searched status
    of_answer (planned number plan) told = inl told.0
    of_answer unplanned told = inr (inl told.0)
    of_answer (too_many number) told = inr (inr (inl told.0))

-- the last stage that runs is one of those that have room
last_room : (P : Stage → Type 0) (before rest : List Stage) (last : Stage) → All P (before ++ last ∷ rest) → P last
last_room P [] rest last all = All-head P last rest all
last_room P (first ∷ before) rest last all = last_room P before rest last (All-tail P first (before ++ last ∷ rest) all)

-- with room in each stage there is an answer
pub settled_stages : OneAnswer → (q : Query) (capacity : ℕ) (asked : List AnyStage) (status : Status) (text : List ℕ)
    → HaveRoom q capacity asked → IsStagedEnd q capacity asked status text → IsOneOf concluded status
settled_stages one q capacity asked status text room end =
    of_answers end.answer end.told end.staging.answers
  where
    last : Stage
    last = end.staging.last

    before : List Stage
    before = end.staging.before

    has_room : HasRoom (query_in q last) capacity
    has_room = last_room (λ stage. HasRoom (query_in q stage) capacity) before end.staging.run.rest last
        (subst (All (λ stage. HasRoom (query_in q stage) capacity)) end.staging.run.all (room end.stages end.are_asked))

    of_answers : (answer : StagedAnswer) → TellsAnswer q capacity end.costs answer status text
        → Answers q capacity before last end.costs answer → IsOneOf concluded status
    of_answers answer told (full more are is) = absurd (room_or_more one (query_in q last) capacity has_room more)
    of_answers answer told (enough some plan its is) =
        inl (subst (λ a. TellsAnswer q capacity end.costs a status text) is told).0
    of_answers answer told (least some nor number plan its is) =
        inl (subst (λ a. TellsAnswer q capacity end.costs a status text) is told).0
    of_answers answer told (none some its is) =
        inr (inl (subst (λ a. TellsAnswer q capacity end.costs a status text) is told).0)

-- ---- one end

-- stages with the same rules off and the same threshold are one
stage_same : (s t : Stage) → s.off ≡ t.off → s.threshold ≡ t.threshold → s ≡ t
stage_same s t off threshold = λ i. record {
  off = off i;
  threshold = threshold i;
  may_be_off = is_prop→PathP (λ j. MayBeOff (off j)) (λ j. hlevel props) s.may_be_off t.may_be_off i;
}

stages_same : (some others : List Stage) → map stage_read some ≡ map stage_read others → some ≡ others
stages_same [] [] same = refl
stages_same [] (t ∷ others) same = cc
stages_same (s ∷ some) [] same = cc
stages_same (s ∷ some) (t ∷ others) same =
    let first : stage_read s ≡ stage_read t = cc in
    let rest : map stage_read some ≡ map stage_read others = cc in
    let one = stage_same s t (ap (λ (x : AnyStage). x.off) first) (ap (λ (x : AnyStage). x.threshold) first) in
    let more = stages_same some others rest in
    λ i. one i ∷ more i

-- what is told of one answer is one
told_one_way : (q : Query) (capacity : ℕ) (costs : List (Option ℕ)) (answer : StagedAnswer) (first second : Status)
    (text other : List ℕ) → TellsAnswer q capacity costs answer first text
    → TellsAnswer q capacity costs answer second other
    → (first ≡ second) × (text ≡ other)
told_one_way q capacity costs (planned number plan) first second text other told again =
    (told.0 ∙ sym again.0, told.1 ∙ sym again.1)
told_one_way q capacity costs unplanned first second text other told again =
    (told.0 ∙ sym again.0, told.1 ∙ sym again.1)
told_one_way q capacity costs (too_many number) first second text other told again =
    (told.0 ∙ sym again.0, told.1 ∙ sym again.1)

-- one query ends in one way in the same stages
pub one_staged_end : ((q : Query) → HasOneStaging q) → (q : Query) → IsWithinLimits q → (capacity : ℕ)
    → (asked : List AnyStage) (first second : Status) (text other : List ℕ) → IsStagedEnd q capacity asked first text
    → IsStagedEnd q capacity asked second other → (first ≡ second) × (text ≡ other)
one_staged_end one q within capacity asked first second text other end again =
    let same = stages_same end.stages again.stages (end.are_asked ∙ sym again.are_asked) in
    let staging : IsStaging q capacity end.stages again.costs again.answer =
    subst (λ some. IsStaging q capacity some again.costs again.answer) (sym same) again.staging in
    let (costs, answer) = one q within capacity end.stages end.costs again.costs end.answer again.answer end.staging
    staging in
    told_one_way q capacity end.costs end.answer first second text other end.told
    (subst (λ a. TellsAnswer q capacity end.costs a second other) answer
    (subst (λ c. TellsAnswer q capacity c again.answer second other) costs again.told))
