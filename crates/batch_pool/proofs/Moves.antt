-- Each kind of step keeps the rule.
use Rattle.std.proofs.Common.{◌≡◌, ℕ, ◌+◌, ◌≤◌, All, List, [], ◌∷◌, ◌++◌, length, set, sum_by, sym, refl, ap, ◌∙◌, cond, eqb, arith, ⊎_elim}
use Rattle.std.proofs.lemmas.List.Sums.{sum_by_push, get_or-le-sum_by}
use Rattle.std.proofs.lemmas.List.Elements.{All-append, All-set}
use mathlib.Core.Option.{some}
use lib.ListN.{get_elem?}
use Rattle.crossbeam_queue.specs.Fifo.{Pushes, Pops, Forks, Merges, Learns}
use Rattle.crossbeam_queue.proofs.Lists.{at_set}
use Rattle.batch_pool.specs.declared.pass_view.PassView.{PassView}
use Rattle.batch_pool.specs.Views.{after_push, after_pop, after_split, new_view, after_join, spent_view, PassPushes, PassPops}
use Rattle.batch_pool.specs.Rule.{times, once_below, IsIdle, KeepsItems, HoldsPushed, HoldsUntaken}
use Rattle.batch_pool.specs.Laws.{PushesComeFirst}
use Rattle.batch_pool.proofs.Lists.{all_at, sum_by_set_at, sum_by_all, times-append, once_more, length_each}
use Rattle.batch_pool.proofs.Crews.{all_one}

-- where one pass has all parts, what is 0 of a pass that has pushed and taken nothing is this one's alone
module _ (items : List ℕ) (views : List PassView) (pass : ℕ) (v : PassView) (h : KeepsItems items views)
    (at : get_elem? views pass ≡ some v) (all : v.parts ≡ 64) where
  all_its : (f : PassView → ℕ) → ((u : PassView) → u.pushed ≡ 0 → u.taken ≡ [] → f u ≡ 0) → sum_by f views ≡ f v
  all_its f none = sum_by_all f (λ u. u.parts) views pass v
      (λ i d near no_parts. let idle = h.idle i d near no_parts in none _ idle.0 idle.1) at (h.parts ∙ sym all)

  pub all_pushed : sum_by (λ u. u.pushed) views ≡ v.pushed
  all_pushed = all_its (λ u. u.pushed) (λ u e _. e)

  pub all_taken : (x : ℕ) → sum_by (λ u. times x u.taken) views ≡ times x v.taken
  all_taken x = all_its (λ u. times x u.taken) (λ u _ e. ap (times x) e)

  pub all_known : (x : ℕ) → times x items + times x v.taken ≡ once_below v.pushed x
  all_known x =
      let e = h.each_once x in
      let t = all_taken x in
      let p : once_below (sum_by (λ u. u.pushed) views) x ≡ once_below v.pushed x = ap (λ n. once_below n x) all_pushed in
      omega (arith, e, t, p)

  -- nobody else has taken a number where this pass has taken none
  pub none_taken : v.taken ≡ [] → All (λ u. u.taken ≡ []) views
  none_taken none = all_none views (all_its (λ u. length u.taken) (λ u _ e. ap length e) ∙ ap length none)
    where
      empty : (l : List ℕ) → length l ≡ 0 → l ≡ []
      empty [] e = refl
      empty (x ∷ xs) e = absurd (omega arith)

      all_none : (us : List PassView) → sum_by (λ u. length u.taken) us ≡ 0 → All (λ u. u.taken ≡ []) us
      all_none us e i d near = let le = get_or-le-sum_by (λ u. length u.taken) us i d near in empty _ (omega (arith, le, e))

pub learns_untaken : (pass : ℕ) (v : PassView) → Learns KeepsItems pass v (HoldsUntaken v)
learns_untaken pass v items views h at all = all_known items views pass v h at all

pub learns_pushed : (pass : ℕ) (v : PassView) → Learns KeepsItems pass v (HoldsPushed v)
learns_pushed pass v items views h at all none =
    length_each v.pushed items
    (λ x. let e = all_known items views pass v h at all x in
    let t : times x v.taken ≡ 0 = ap (times x) none in omega (arith, e, t))

pub pushes : (n pass : ℕ) (v : PassView) (number : ℕ) → v.parts ≡ 64 → v.taken ≡ [] → number ≡ v.pushed
    → Pushes KeepsItems n pass v number (PassPushes v number)
pushes n pass v number all none next items views room h at = (
  after_push v,
  record {
    each_once = λ x.
        let e = all_known items views pass v h at all x in
        let t = all_taken items views pass v h at all x in
        let more = once_more v.pushed x in
        let last = times-append x items (number ∷ []) in
        let it : cond {A = ℕ} (eqb number x) 1 0 ≡ cond (eqb v.pushed x) 1 0 = ap (λ k. cond {A = ℕ} (eqb k x) 1 0) next in
        let pushed = sum_by_set_at (λ u. u.pushed) views pass v (after_push v) at in
        let old = all_pushed items views pass v h at all in
        let new : sum_by (λ u. u.pushed) (set views pass (after_push v)) ≡ v.pushed + 1 = omega (arith, pushed, old) in
        let count : once_below (sum_by (λ u. u.pushed) (set views pass (after_push v))) x ≡ once_below (v.pushed + 1) x =
        ap (λ k. once_below k x) new in
        let taken = sum_by_set_at (λ u. times x u.taken) views pass v (after_push v) at in
        omega (arith, e, t, more, last, it, count, taken);
    parts =
        let s = sum_by_set_at (λ u. u.parts) views pass v (after_push v) at in
        let p = h.parts in
        omega (arith, s, p);
    idle = All-set IsIdle views pass (after_push v) (λ no. absurd (omega arith)) h.idle;
  },
  record { all_parts = all; none_taken = none; next = next; after = refl },
)

pub pops : (pass : ℕ) (v : PassView) → 1 ≤ v.parts → Pops KeepsItems pass v (PassPops v)
pops pass v has_part number items views h at = (
  after_pop v number,
  record {
    each_once = λ x.
        let e = h.each_once x in
        let first = times-append x (number ∷ []) items in
        let taken = sum_by_set_at (λ u. times x u.taken) views pass v (after_pop v number) at in
        let last = times-append x v.taken (number ∷ []) in
        let pushed = sum_by_set_at (λ u. u.pushed) views pass v (after_pop v number) at in
        let same : sum_by (λ u. u.pushed) (set views pass (after_pop v number)) ≡ sum_by (λ u. u.pushed) views =
        omega (arith, pushed) in
        let count : once_below (sum_by (λ u. u.pushed) (set views pass (after_pop v number))) x
        ≡ once_below (sum_by (λ u. u.pushed) views) x = ap (λ k. once_below k x) same in
        omega (arith, e, first, taken, last, count);
    parts =
        let s = sum_by_set_at (λ u. u.parts) views pass v (after_pop v number) at in
        let p = h.parts in
        omega (arith, s, p);
    idle = All-set IsIdle views pass (after_pop v number) (λ no. absurd (omega arith)) h.idle;
  },
  record { some_part = has_part; after = refl },
)

pub forks : (pass : ℕ) (v : PassView) → 2 ≤ v.parts → Forks KeepsItems pass v (after_split v) new_view
forks pass v two items views h at =
    let vs = set views pass (after_split v) in
    record {
      each_once = λ x.
          let e = h.each_once x in
          let taken = sum_by_set_at (λ u. times x u.taken) views pass v (after_split v) at in
          let taken' = sum_by_push (λ u. times x u.taken) vs new_view in
          let pushed = sum_by_set_at (λ u. u.pushed) views pass v (after_split v) at in
          let pushed' = sum_by_push (λ u. u.pushed) vs new_view in
          let same : sum_by (λ u. u.pushed) (vs ++ new_view ∷ []) ≡ sum_by (λ u. u.pushed) views = omega (arith, pushed, pushed') in
          let count : once_below (sum_by (λ u. u.pushed) (vs ++ new_view ∷ [])) x
          ≡ once_below (sum_by (λ u. u.pushed) views) x = ap (λ k. once_below k x) same in
          omega (arith, e, taken, taken', count);
      parts =
          let s = sum_by_set_at (λ u. u.parts) views pass v (after_split v) at in
          let t = sum_by_push (λ u. u.parts) vs new_view in
          let p = h.parts in
          omega (arith, s, t, p);
      idle = All-append IsIdle vs (new_view ∷ [])
          (All-set IsIdle views pass (after_split v) (λ no. absurd (omega arith)) h.idle)
          (all_one IsIdle new_view (λ no. (refl, refl)));
    }

pub merges : (pass : ℕ) (v : PassView) (other : ℕ) (w : PassView)
    → Merges KeepsItems pass v other w (after_join v w) spent_view
merges pass v other w items views h at apart there =
    let vs = set views pass (after_join v w) in
    let was : get_elem? views other ≡ some w =
    ⊎_elim (λ x. absurd (apart x.0)) (λ x. x.1) (at_set views pass other (after_join v w) w there) in
    let mine = all_at IsIdle views pass v h.idle at in
    let theirs = all_at IsIdle views other w h.idle was in
    record {
      each_once = λ x.
          let e = h.each_once x in
          let taken = sum_by_set_at (λ u. times x u.taken) views pass v (after_join v w) at in
          let taken' = sum_by_set_at (λ u. times x u.taken) vs other w spent_view there in
          let both = times-append x v.taken w.taken in
          let pushed = sum_by_set_at (λ u. u.pushed) views pass v (after_join v w) at in
          let pushed' = sum_by_set_at (λ u. u.pushed) vs other w spent_view there in
          let same : sum_by (λ u. u.pushed) (set vs other spent_view) ≡ sum_by (λ u. u.pushed) views =
          omega (arith, pushed, pushed') in
          let count : once_below (sum_by (λ u. u.pushed) (set vs other spent_view)) x
          ≡ once_below (sum_by (λ u. u.pushed) views) x = ap (λ k. once_below k x) same in
          omega (arith, e, taken, taken', both, count);
      parts =
          let s = sum_by_set_at (λ u. u.parts) views pass v (after_join v w) at in
          let t = sum_by_set_at (λ u. u.parts) vs other w spent_view there in
          let p = h.parts in
          omega (arith, s, t, p);
      idle = All-set IsIdle vs other spent_view (λ no. (refl, refl))
          (All-set IsIdle views pass (after_join v w)
          (λ no. let a = mine (omega arith) in let b = theirs (omega arith) in
          (omega (arith, a.0, b.0), ap (λ l. l ++ w.taken) a.1 ∙ b.1))
          h.idle);
    }

pub pushes_first : PushesComeFirst
pushes_first items views pass v number w h at step = none_taken items views pass v h at step.all_parts step.none_taken
