use Rattle.std.proofs.Common.{◌≡◌, ◌-◌, ◌+◌, ◌∙◌, Option, Some, None, false, ℕ, refl, sym, subst, arith}
use Rattle.plan_tree.specs.Alternatives.{IsAltOf, HasAlternative}
use Rattle.plan_tree.proofs.Decided.{has, has_alternative, has_none, has_no_line}
use Rattle.plan_tree.proofs.Modes.{passing, modes_are, skipped_to, at_first, after_first, at_end}
use Rattle.plan_tree.proofs.alternatives.alternative_of.Goals as goal
use Rattle.plan_tree.proofs.alternatives.alternative_of.Goals.{in-Some-alternative_by+else-seen-n}
use Rattle.plan_tree.proofs.alternatives.alternative_of.Goals.{in-None-alternative_by}

-- the mode is at the place
pub returns-then-seen-n : goal.returns-then-seen-n
returns-then-seen-n c =
    let q = c.args.query.now in
    let test = has q c.args.expr c.args.request in
    let mode = c.in-Some.next.0 in
    let step = c.in-Some.ensures in
    let line = c.in-Some-alternative_by.ensures in
    let there : HasAlternative q c.args.expr c.args.request c.in-Some.next.0 = (line.0, line.1.is_alternative) in
    let holds = has_alternative q c.args.expr c.args.request mode there in
    let past = skipped_to test c.modes.from mode (192 - mode) (192 - c.modes.from) (c.args.n - c.modes.seen) step.0
    (omega arith)
    (λ m at within. has_no_line q c.args.expr c.args.request m (step.2 m at within)) in
    let first = at_first test mode (192 - (mode + 1)) (192 - mode) (c.args.n - c.modes.seen) (omega arith) holds
    (omega arith) in
    let place = sym c.modes.invariant.others ∙ sym past ∙ first in
    record {
      modes = passing test 0 192;
      are_modes = modes_are q (c.modes_are_few.ensures.few q) c.requires.props.few_lists c.args.expr c.args.request;
      at_place = subst (λ (at : Option ℕ). IsAltOf q c.args.expr c.args.request at (Some c.in-Some-alternative_by.alt))
          (sym place) line;
    }

-- a mode is passed
pub modes-preserved : goal.modes-preserved
modes-preserved c =
    let q = c.args.query.now in
    let test = has q c.args.expr c.args.request in
    let mode = c.in-Some.next.0 in
    let step = c.in-Some.ensures in
    let past = skipped_to test c.modes.from mode (192 - mode) (192 - c.modes.from) (c.args.n - c.modes.seen) step.0
    (omega arith)
    (λ m at within. has_no_line q c.args.expr c.args.request m (step.2 m at within)) in
    elim c.match-alternative_by.branch [
      | in-Some-alternative_by+else-seen-n w ↦
          let line = w.in-Some-alternative_by.ensures in
          let there : HasAlternative q c.args.expr c.args.request c.in-Some.next.0 = (line.0, line.1.is_alternative) in
          let holds = has_alternative q c.args.expr c.args.request mode there in
          let seen : c.match-alternative_by.seen ≡ c.modes.seen + 1 = w.seen-is in
          let later = after_first test mode (192 - (mode + 1)) (192 - mode) (c.args.n - c.modes.seen)
          (c.args.n - c.match-alternative_by.seen)
          (omega arith) holds (omega arith) in
          record { few = omega arith; within = omega arith; others = later ∙ past ∙ c.modes.invariant.others }
      | in-None-alternative_by w ↦
          let none = has_none q c.args.expr c.args.request mode
          (λ there. w.in-None-alternative_by.ensures there.0 there.1) in
          let seen : c.match-alternative_by.seen ≡ c.modes.seen = w.seen-is in
          let one = skipped_to test mode (mode + 1) (192 - (mode + 1)) (192 - mode) (c.args.n - c.modes.seen)
          (omega arith) (omega arith)
          (λ m at within. let same : mode ≡ m = omega arith in subst (λ (k : ℕ). test k ≡ false) same none) in
          record { few = omega arith; within = omega arith; others = rw seen (one ∙ past ∙ c.modes.invariant.others) }
    ]

-- no mode is left
pub returns-in-None : goal.returns-in-None
returns-in-None c =
    let q = c.args.query.now in
    let test = has q c.args.expr c.args.request in
    let none = at_end test c.modes.from (192 - c.modes.from) (c.args.n - c.modes.seen)
    (λ m at. has_no_line q c.args.expr c.args.request m (c.in-None.ensures m at)) in
    let place = sym c.modes.invariant.others ∙ none in
    record {
      modes = passing test 0 192;
      are_modes = modes_are q (c.modes_are_few.ensures.few q) c.requires.props.few_lists c.args.expr c.args.request;
      at_place = subst (λ (at : Option ℕ). IsAltOf q c.args.expr c.args.request at None) (sym place) refl;
    }
