-- The bits of a right's waits, where a run word changes.
use Rattle.std.proofs.Common.{◌≡◌, ℕ, ◌+◌, ◌*◌, ◌<◌, ◌≤◌, ◌≢◌, List, [], ◌∷◌, Option, cond, eq-eqb, ne_eqb, sym, ap}
use Rattle.std.proofs.Common.{subst, refl, ◌∙◌, ⊎_elim, arith}
use Rattle.std.specs.Int.{bit_at}
use Rattle.std.proofs.lemmas.Bool.{cases_eq}
use Rattle.board_rule.specs.Records.{Claimed, Pending}
use Rattle.board_rule.specs.Waiters.{waiting}
use Rattle.board_rule.specs.Seats.{Among, Each, waits_at}
use Rattle.board_rule.specs.Soundness.{IsRaised}
use Rattle.board_rule.proofs.Lists.{absent_each, each_at, each_as, counts_one, counts_none}
use Rattle.board_rule.proofs.Chains.{count}
use Rattle.board_rule.proofs.AnswerWords.{each_both}
use Rattle.board_rule.proofs.Rights.{rights_at}

-- a waiter is counted in a list of one where it is that one
pub count_one : (p q : ℕ) → p ≡ q → count p (q ∷ []) ≡ 1
count_one p q e = omega (arith, counts_one q p (sym e))

pub count_none : (p q : ℕ) → p ≢ q → count p (q ∷ []) ≡ 0
count_none p q ne = omega (arith, counts_none q p (λ e. ne (sym e)))

-- the waits of the right to a goal
pub waits_at_here : (place : ℕ) (r : Claimed) (rs : List Claimed) → r.place ≡ place → waits_at place (r ∷ rs) ≡ r.waits
waits_at_here place r rs e = ap (λ b. cond b r.waits (waits_at place rs)) (eq-eqb r.place place e)

pub waits_at_else : (place : ℕ) (r : Claimed) (rs : List Claimed) → r.place ≢ place
    → waits_at place (r ∷ rs) ≡ waits_at place rs
waits_at_else place r rs ne = ap (λ b. cond b r.waits (waits_at place rs)) (ne_eqb r.place place ne)

-- what holds of all rights holds of that to the goal
pub raised_at : (run : ℕ → ℕ) (pending : Option Pending) (place : ℕ) (rights : List Claimed)
    → 1 ≤ rights_at place rights → Each (IsRaised run pending) rights
    → (waits_at place rights ≤ 8) × ((b : ℕ) → waits_at place rights ≤ b → b < 8
    → bit_at (run place) b ≡ count (8 * place + b) (waiting pending))
raised_at run pending place [] any all = absurd (omega arith)
raised_at run pending place (r ∷ rs) any all =
    ⊎_elim
    (λ here. let same = waits_at_here place r rs here in
    let was = all.0 in
    let few = was.few in (
      omega arith,
      λ b more less. subst (λ p. bit_at (run p) b ≡ count (8 * p + b) (waiting pending)) here
          (was.others b (omega arith) less),
    ))
    (λ ne. let same = waits_at_else place r rs ne in
    let other = counts_none r.place place ne in
    let rest = raised_at run pending place rs (omega arith) all.1 in
    let few = rest.0 in
    (omega arith, λ b more less. rest.1 b (omega arith) less))
    (cases_eq r.place place)

-- a right that is the only one to its goal has the waits of the goal's right
pub waits_each : (place : ℕ) (rights : List Claimed) → rights_at place rights ≤ 1
    → Each (λ r. r.place ≡ place → r.waits ≡ waits_at place rights) rights
waits_each place [] few = tt
waits_each place (r ∷ rs) few =
    ⊎_elim
    (λ here.
    let one = counts_one r.place place here in (
      (λ _. sym (waits_at_here place r rs here)),
      each_as (λ (s : Claimed). s.place ≢ place) (λ s. s.place ≡ place → s.waits ≡ waits_at place (r ∷ rs))
          (λ s ne e. absurd (ne e)) rs
          (absent_each (λ (s : Claimed). s.place) place rs (omega arith)),
    ))
    (λ ne.
    let other = counts_none r.place place ne in (
      (λ e. absurd (ne e)),
      each_as (λ (s : Claimed). s.place ≡ place → s.waits ≡ waits_at place rs) (λ s. s.place ≡ place
          → s.waits ≡ waits_at place (r ∷ rs)) (λ s was e. was e ∙ sym (waits_at_else place r rs ne)) rs
          (waits_each place rs (omega arith)),
    ))
    (cases_eq r.place place)

-- the rights of a seat that has none to the goal are raised as before where the goal's run word changes
pub raised_else : (run new_run : ℕ → ℕ) (place : ℕ) (pending : Option Pending) (rights : List Claimed)
    → ((p : ℕ) → p ≢ place → new_run p ≡ run p) → rights_at place rights ≡ 0
    → Each (IsRaised run pending) rights → Each (IsRaised new_run pending) rights
raised_else run new_run place pending rights same none_of old =
    each_both (IsRaised run pending) (λ r. r.place ≢ place) (IsRaised new_run pending)
    (λ r was ne. record {
      few = was.few;
      others = λ b more few. ap (λ n. bit_at n b) (same r.place ne) ∙ was.others b more few;
    })
    rights old (absent_each (λ (r : Claimed). r.place) place rights none_of)

-- the waits of a right that is among a seat's, which has it once
pub waits_known : (rights : List Claimed) (r : Claimed) → rights_at r.place rights ≤ 1 → Among rights r
    → waits_at r.place rights ≡ r.waits
waits_known rights r once at = sym (each_at (λ (s : Claimed). s.place ≡ r.place → s.waits ≡ waits_at r.place rights)
    rights r (waits_each r.place rights once) at refl)
