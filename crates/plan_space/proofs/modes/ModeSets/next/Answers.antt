-- No number is passed whose mode is one of them.
use Rattle.std.proofs.Common.{◌-◌, inl, inr, arith}
use Rattle.plan_space.proofs.ModeNumbers.{has_cases}
use Rattle.plan_space.proofs.modes.ModeSets.next.Goals as goal

pub returns-then-plain-lt-COPIED-clause-none : goal.returns-then-plain-lt-COPIED-clause-none
returns-then-plain-lt-COPIED-clause-none c number from below has = elim (has_cases c.args.self number has) [
  | inl near ↦ c.next-plain.ensures.none number from below near.1
  | inr (inl far) ↦ absurd (omega (arith, c.if-plain-lt-COPIED.true, far.0, below))
  | inr (inr beyond) ↦ absurd (omega (arith, c.if-plain-lt-COPIED.true, beyond.0, below))
]

pub returns-then-copied-lt-HASHED-clause-none : goal.returns-then-copied-lt-HASHED-clause-none
returns-then-copied-lt-HASHED-clause-none c number from below has = elim (has_cases c.args.self number has) [
  | inl near ↦ c.next-plain.ensures.none number from (omega (arith, near.0, c.if-plain-lt-COPIED.false)) near.1
  | inr (inl far) ↦ c.next-copied.ensures.none (number - 64) (omega (arith, from, far.0, c.max.ensures))
      (omega (arith, below, far.0)) far.2
  | inr (inr beyond) ↦ absurd (omega (arith, c.if-copied-lt-HASHED.true, beyond.0, below))
]

pub returns-clause-none : goal.returns-clause-none
returns-clause-none c number from below has = elim (has_cases c.args.self number has) [
  | inl near ↦ c.next-plain.ensures.none number from (omega (arith, near.0, c.if-plain-lt-COPIED.false)) near.1
  | inr (inl far) ↦ c.next-copied.ensures.none (number - 64) (omega (arith, from, far.0, c.max.ensures))
      (omega (arith, far.1, far.0, c.if-copied-lt-HASHED.false)) far.2
  | inr (inr beyond) ↦ c.next.ensures.none (number - 128) (omega (arith, from, beyond.0, c.max-2.ensures))
      (omega (arith, below, beyond.0)) beyond.1
]
