-- The rights of a seat once one was spent, and all rights once those at one place have changed.
use Rattle.std.proofs.Common.{◌≡◌, ℕ, ◌+◌, ◌^◌, ◌<◌, ◌≤◌, ⊎_elim, set, ◌≢◌, List, [], ◌∷◌}
use Rattle.std.proofs.Common.{sym, refl, ap, subst, ◌∙◌, arith}
use mathlib.Core.Option.{some}
use lib.ListN.{get_elem?}
use Rattle.std.proofs.lemmas.Bool.{cases_eq}
use Rattle.board_rule.specs.Records.{Claimed, Ended}
use Rattle.board_rule.specs.Seats.{Each, times, without}
use Rattle.board_rule.specs.Soundness.{AreRights, KeepsBlank, KeepsRights, held, ended}
use Rattle.board_rule.specs.Meaning.{Meaning}
use Rattle.board_rule.specs.Words.{Mem, put}
use Rattle.std.specs.Int.{bit_at}
use Rattle.std.proofs.lemmas.Nat.Bits.{bit_at-zero}
use Rattle.board_rule.specs.May.{HasRight}
use Rattle.board_rule.specs.declared.hands.Hands.{Hands}
use Rattle.board_rule.proofs.Lists.{cond_cases, counts_one, counts_none, total-set, term_le, put_here, put_else}

-- how often a place stands in the rights
abbrev pub rights_at : ℕ → List Claimed → ℕ
rights_at p rights = times (λ (r : Claimed). r.place) p rights

-- the first right is the one that is spent, or it stays
pub without_cases : (Fact : List Claimed → Type 0) (place : ℕ) (r : Claimed) (rs : List Claimed)
    → (r.place ≡ place → Fact rs) → (r.place ≢ place → Fact (r ∷ without place rs)) → Fact (without place (r ∷ rs))
without_cases Fact place r rs = cond_cases r.place place rs (r ∷ without place rs) Fact

-- one less at the place of the right that was spent
pub without_here : (place : ℕ) (rights : List Claimed) → 1 ≤ rights_at place rights
    → rights_at place (without place rights) + 1 ≡ rights_at place rights
without_here place [] any = absurd (omega arith)
without_here place (r ∷ rs) any =
    without_cases (λ left. rights_at place left + 1 ≡ rights_at place (r ∷ rs)) place r rs
    (λ e. omega (arith, counts_one r.place place e))
    (λ ne. let none = counts_none r.place place ne in omega (arith, without_here place rs (omega arith)))

-- as often as before at every other place
pub without_else : (place p : ℕ) (rights : List Claimed) → p ≢ place
    → rights_at p (without place rights) ≡ rights_at p rights
without_else place p [] ne = refl
without_else place p (r ∷ rs) ne =
    without_cases (λ left. rights_at p left ≡ rights_at p (r ∷ rs)) place r rs
    (λ e. omega (arith, counts_none r.place p (λ same. ne (sym same ∙ e))))
    (λ _. omega (arith, without_else place p rs ne))

-- a fact of all rights holds of those that are left
pub each_without : (Fact : Claimed → Type 0) (place : ℕ) (rights : List Claimed) → Each Fact rights
    → Each Fact (without place rights)
each_without Fact place [] old = tt
each_without Fact place (r ∷ rs) old =
    without_cases (Each Fact) place r rs (λ _. old.1) (λ _. (old.0, each_without Fact place rs old.1))

-- how often a place stands in what was finished
abbrev pub done_at : ℕ → List Ended → ℕ
done_at p done = times (λ (e : Ended). e.place) p done

module _ {R : Type 0} (views : List (Hands R)) (id : ℕ) (v w : Hands R) (mine : get_elem? views id ≡ some v) where
  -- the rights of all seats, once one has other hands
  pub held-set : (p : ℕ) → held (set views id w) p + rights_at p v.rights ≡ held views p + rights_at p w.rights
  held-set p = total-set (λ (u : Hands R). rights_at p u.rights) views id v w mine

  pub ended-set : (p : ℕ) → ended (set views id w) p + done_at p v.done ≡ ended views p + done_at p w.done
  ended-set p = total-set (λ (u : Hands R). done_at p u.done) views id v w mine

  -- the rights are kept where they are kept at the one place that changed
  pub rights_moved : (capacity : ℕ) (run head new_run new_head : ℕ → ℕ) (place : ℕ)
      → ((p : ℕ) → p ≢ place → rights_at p w.rights ≡ rights_at p v.rights)
      → ((p : ℕ) → p ≢ place → done_at p w.done ≡ done_at p v.done)
      → ((p : ℕ) → p ≢ place → new_run p ≡ run p) → ((p : ℕ) → p ≢ place → new_head p ≡ head p)
      → AreRights new_run new_head (set views id w) place → KeepsRights capacity run head views
      → KeepsRights capacity new_run new_head (set views id w)
  rights_moved capacity run head new_run new_head place rights done runs heads here old p near =
      ⊎_elim (λ e. subst (AreRights new_run new_head (set views id w)) (sym e) here)
      (λ ne.
      let h : held (set views id w) p ≡ held views p = omega (arith, held-set p, rights p ne) in
      let d : ended (set views id w) p ≡ ended views p = omega (arith, ended-set p, done p ne) in
      let was = old p near in
      record {
        once = omega (arith, h, d, was.once);
        running = ap (λ x. bit_at x 8) (runs p ne) ∙ was.running ∙ omega (arith, h, d);
        small = λ i high. ap (λ x. bit_at x i) (runs p ne) ∙ was.small i high;
        closed = λ one. heads p ne ∙ was.closed (sym d ∙ one);
        run_ended = λ one. runs p ne ∙ was.run_ended (sym d ∙ one);
        is_open = λ zero_done. subst (λ x. x < 2 ^ 63) (sym (heads p ne)) (was.is_open (sym d ∙ zero_done));
      })
      (cases_eq p place)

  -- also where a run word alone has changed, with the held bit as it was and none above it, of a goal that is not finished
  pub rights_at_run : (capacity : ℕ) (run head : ℕ → ℕ) (place x : ℕ) → place < capacity → ended views place ≡ 0
      → bit_at x 8 ≡ bit_at (run place) 8 → ((i : ℕ) → 9 ≤ i → bit_at (run place) i ≡ 0 → bit_at x i ≡ 0)
      → w.rights ≡ v.rights → w.done ≡ v.done
      → KeepsRights capacity run head views → KeepsRights capacity (put run place x) head (set views id w)
  rights_at_run capacity run head place x near unfinished same none_above rights done old =
      let was = old place near in
      let h : held (set views id w) place ≡ held views place =
      omega (arith, held-set place, ap (rights_at place) rights) in
      let d : ended (set views id w) place ≡ ended views place = omega (arith, ended-set place, ap (done_at place) done) in
      rights_moved capacity run head (put run place x) head place (λ p _. ap (rights_at p) rights)
      (λ p _. ap (done_at p) done) (λ p ne. put_else run place x p ne) (λ _ _. refl)
      (record {
        once = omega (arith, h, d, was.once);
        running = ap (λ n. bit_at n 8) (put_here run place x) ∙ same ∙ was.running ∙ omega (arith, h, d);
        small = λ i high. ap (λ n. bit_at n i) (put_here run place x) ∙ none_above i high (was.small i high);
        closed = λ one. absurd (omega (arith, d));
        run_ended = λ one. absurd (omega (arith, d));
        is_open = λ _. was.is_open unfinished;
      })
      old

-- the goal is held by this seat alone, once, and it is not finished
pub record IsHeld {R : Type 0} (run head : ℕ → ℕ) (views : List (Hands R)) (v : Hands R) (place : ℕ) : Type 0 where
  pub held_once : held views place ≡ 1
  pub right_once : rights_at place v.rights ≡ 1
  pub not_ended : ended views place ≡ 0
  pub runs : bit_at (run place) 8 ≡ 1
  pub is_open : head place < 2 ^ 63

-- where a seat has the right to a goal, the goal is held, and by no other seat
pub held_by : {R : Type 0} (capacity : ℕ) (run head : ℕ → ℕ) (views : List (Hands R)) (id : ℕ) (v : Hands R) (place : ℕ)
    → get_elem? views id ≡ some v
    → HasRight capacity v.rights place → KeepsRights capacity run head views → IsHeld run head views v place
held_by capacity run head views id v place mine has old =
    let own : rights_at place v.rights ≤ held views place =
    term_le (λ (u : Hands _). rights_at place u.rights) views id v mine in
    let was = old place has.near in
    let once = was.once in
    let none_ended : ended views place ≡ 0 = omega (arith, has.held) in
    record {
      held_once = omega (arith, has.held);
      right_once = omega (arith, has.held);
      not_ended = none_ended;
      runs = was.running ∙ omega (arith, has.held);
      is_open = was.is_open none_ended;
    }

-- a goal that is held by a seat stands in its cell
pub held_stands : (meaning : Meaning) (capacity : ℕ) (m : Mem) (p : ℕ) → KeepsBlank meaning capacity m → p < capacity
    → m.run p ≢ 0
    → m.cell p ≢ 0
held_stands meaning capacity m p blank near runs none = runs (blank p near (λ is. is.0 none)).run

-- a run word with a bit set is not 0
pub bit_runs : (n i : ℕ) → 1 ≤ bit_at n i → n ≢ 0
bit_runs n i set_bit none = let zero_bit : bit_at n i ≡ 0 = ap (λ x. bit_at x i) none ∙ bit_at-zero i in
    absurd (omega arith)
