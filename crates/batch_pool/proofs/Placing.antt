-- What the items gave, put into places and taken out of them.
use Rattle.std.proofs.Common.{◌≡◌, ◌≢◌, ℕ, zero, suc, ◌+◌, ◌<◌, ◌≤◌, List, [], ◌∷◌, ◌++◌, length, set, sym, ap, subst, arith, ⊎_elim, ◌⊎◌, inl, inr, ◌∙◌, Option, Some, length-append}
use Rattle.std.specs.Prelude.{slice_get}
use Rattle.std.proofs.lemmas.Bool.Decides.{nat_tests}
use native.Mathlib.Decide.{ℕ_discrete}
use mathlib.Core.Logic.{dite}
use Rattle.batch_pool.specs.Rule.{times, once_below, HasEachOnce}
use Rattle.batch_pool.specs.Runs.{AreRun, HoldsResult, HasPlaced, ArePlaced}
use Rattle.batch_pool.specs.declared.worker.RanItem.{RanItem}
use Rattle.batch_pool.specs.declared.places.Placed.{Placed}
use Rattle.batch_pool.proofs.Lists.{times-append}
use Rattle.batch_pool.proofs.Lookups.{get_here, get_else, get_seam, get_push}

some_of : (a b : ℕ) → 1 ≤ a + b → (1 ≤ a) ⊎ (1 ≤ b)
some_of zero b h = inr (omega arith)
some_of (suc a) b h = inl (omega arith)

module _ {O : Type 0} (gives : ℕ → O → Type 0) (workers : ℕ) where
  abbrev Good : ℕ → Option (Option (Placed O)) → Type 0
  Good = HoldsResult gives workers

  -- one place is written
  pub good_set : (places : List (Option (Placed O))) (item : ℕ) (p : Placed O) (k : ℕ) → item < length places
      → gives item p.output → p.worker < workers → (k ≢ item → Good k (slice_get places k))
      → Good k (slice_get (set places item (Some p)) k)
  good_set places item p k near gave small other =
      dite (ℕ_discrete k item)
      (λ e. subst (λ (j : ℕ). Good j (slice_get (set places item (Some p)) j)) (sym e)
      (subst (Good item) (sym (get_here places item (Some p) near)) (gave, small)))
      (λ ne. subst (Good k) (sym (get_else places item k (Some p) ne)) (other ne))

  -- those of one worker more stand in their places
  pub placed_more : (n : ℕ) (taken other : List ℕ) (ran : List (RanItem O)) (places places' : List (Option (Placed O)))
      → ArePlaced n gives workers taken places → AreRun n gives other ran → HasPlaced gives workers ran places places'
      → ArePlaced n gives workers (taken ++ other) places'
  placed_more n taken other ran places places' h run put k near some_time =
      let t = times-append k taken other in
      let e = run.as_often k near in
      ⊎_elim (λ (a : 1 ≤ times k taken). put.kept k (h k near a))
      (λ (b : 1 ≤ times k other). put.placed k (omega (arith, e)))
      (some_of (times k taken) (times k other) (omega (arith, t)))

  pub placed_first : (n : ℕ) (taken : List ℕ) (ran : List (RanItem O)) (places places' : List (Option (Placed O)))
      → AreRun n gives taken ran → HasPlaced gives workers ran places places' → ArePlaced n gives workers taken places'
  placed_first n taken ran places places' run put k near some_time =
      let e = run.as_often k near in
      put.placed k (omega (arith, e))

  -- the same, where what is written is known to be this
  pub good_put : (places : List (Option (Placed O))) (item : ℕ) (s : Option (Placed O)) (p : Placed O) (k : ℕ)
      → s ≡ Some p → item < length places → gives item p.output → p.worker < workers
      → (k ≢ item → Good k (slice_get places k)) → Good k (slice_get (set places item s) k)
  good_put places item s p k is near gave small other =
      subst (λ (t : Option (Placed O)). Good k (slice_get (set places item t) k)) (sym is)
      (good_set places item p k near gave small other)

  -- what stands at the place that comes next
  pub good_next : (n : ℕ) (places seen rest : List (Option (Placed O))) (place : Option (Placed O)) (p : Placed O)
      → length places ≡ n → ((k : ℕ) → k < n → Good k (slice_get places k)) → places ≡ seen ++ place ∷ rest
      → place ≡ Some p → gives (length seen) p.output × (p.worker < workers)
  good_next n places seen rest place p long good split is =
      let near : length seen < n =
      let a = ap length split in let b = length-append seen (place ∷ rest) in omega (arith, a, b, long) in
      let there : slice_get places (length seen) ≡ Some (Some p) =
      ap (λ l. slice_get l (length seen)) split ∙ (get_seam seen rest place ∙ ap Some is) in
      subst (Good (length seen)) there (good (length seen) near)

-- one output more
pub outputs_push : {O : Type 0} (gives : ℕ → O → Type 0) (outputs outputs' : List O) (output : O) (k : ℕ)
    → outputs' ≡ outputs ++ output ∷ [] → k ≡ length outputs → gives k output
    → ((i : ℕ) (o : O) → slice_get outputs i ≡ Some o → gives i o)
    → (i : ℕ) (o : O) → slice_get outputs' i ≡ Some o → gives i o
outputs_push gives outputs outputs' output k is last gave old i o at =
    ⊎_elim (old i o)
    (λ (t : (i ≡ length outputs) × (output ≡ o)). subst (λ (y : ℕ × _). gives y.0 y.1)
    (λ j. ((last ∙ sym t.0) j, t.1 j)) gave)
    (get_push outputs output o i (sym (ap (λ l. slice_get l i) is) ∙ at))

-- each item stands in its place, once each was taken
pub good_all : {O : Type 0} (n : ℕ) (gives : ℕ → O → Type 0) (workers : ℕ) (taken : List ℕ)
    (places : List (Option (Placed O))) → HasEachOnce n taken → ArePlaced n gives workers taken places
    → (k : ℕ) → k < n → HoldsResult gives workers k (slice_get places k)
good_all n gives workers taken places each placed k near =
    let e = each k in
    let one : once_below n k ≡ 1 = grind (arith, nat_tests) in
    placed k near (omega (arith, e, one))
