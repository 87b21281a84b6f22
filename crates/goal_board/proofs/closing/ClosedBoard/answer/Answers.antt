-- The goal is found where it is finished; once round, every place was passed.
use Rattle.std.proofs.Common.{◌≡◌, ◌+◌, sym, subst, arith}
use Rattle.word_table.specs.Probing.{home_of, AllPassed}
use Rattle.word_table.proofs.Steps.{HasProbed, has_probed_none, has_probed_more, all_passed_round}
use Rattle.word_table.proofs.ProbingLemmas.{home_of_below}
use Rattle.goal_board.specs.Closing.{IsFinishedAt}
use Rattle.goal_board.proofs.closing.ClosedBoard.answer.Goals as goal

pub loop-step-init : goal.loop-step-init
loop-step-init c =
    let b = c.args.self.now in
    let home = home_of c.args.goal b.capacity in
    subst (λ p. HasProbed b.capacity home p 0 (λ q. IsFinishedAt b c.args.goal q → ⊥)) (sym c.home-place.ensures.value)
    (has_probed_none b.capacity home (λ q. IsFinishedAt b c.args.goal q → ⊥)
    (home_of_below c.args.goal b.capacity b.sized.0))

pub loop-step-preserved : goal.loop-step-preserved
loop-step-preserved c =
    let b = c.args.self.now in
    let home = home_of c.args.goal b.capacity in
    subst (λ p. HasProbed b.capacity home p (c.loop-step._step + 1) (λ q. IsFinishedAt b c.args.goal q → ⊥))
    (sym c.next_place-place.ensures.value)
    (has_probed_more b.capacity home c.loop-step.place c.loop-step._step (λ q. IsFinishedAt b c.args.goal q → ⊥)
    (home_of_below c.args.goal b.capacity b.sized.0) c.loop-step-test.true c.loop-step.invariant
    (c.is_finished_at.ensures.no c.if-is_finished_at.false))

pub returns-clause-none : goal.returns-clause-none
returns-clause-none c has =
    let b = c.args.self.now in
    let home = home_of c.args.goal b.capacity in
    let round : c.loop-step._step ≡ b.capacity = omega (arith, c.loop-step-test.false, c.loop-step.auto._step-end) in
    all_passed_round b.capacity home (λ q. IsFinishedAt b c.args.goal q → ⊥)
    (home_of_below c.args.goal b.capacity b.sized.0)
    (subst (λ n. AllPassed b.capacity home n (λ q. IsFinishedAt b c.args.goal q → ⊥)) round
    c.loop-step.invariant.passed) has.0 has.1.near has.1
