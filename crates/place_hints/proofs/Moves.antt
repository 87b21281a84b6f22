-- Each move on a deque keeps the rule of hints.
use Rattle.std.proofs.Common.{◌≡◌, ℕ, zero, suc, ◌+◌, ◌<◌, List, [], ◌∷◌, ◌++◌, All, length, sym, refl}
use Rattle.std.proofs.Common.{subst, arith}
use mathlib.Core.Option.{some, some-injective, some-ne-none}
use lib.ListN.{get_elem?}
use lib.Seq.{take-append_seam, drop-append_seam}
use Rattle.std.proofs.lemmas.List.Elements.{All-append, All-take, All-drop}
use Rattle.crossbeam_deque.specs.Tasks.{Pushes, Takes, Pops, Admits}
use Rattle.crossbeam_deque.proofs.Lists.{set_again}
use Rattle.place_hints.specs.Hinted.{capacity_of, AreHinted, MovesBelow}

abbrev AreBelow : ℕ → List ℕ → Type 0
AreBelow capacity places = All (λ place. place < capacity) places

-- below nothing there is no place
none_below : (places : List ℕ) → AreBelow 0 places → (capacity : ℕ) → AreBelow capacity places
none_below [] h capacity k d near = absurd (omega arith)
none_below (place ∷ places) h capacity k d near = let none : place < 0 = h 0 0 (omega arith) in absurd (omega arith)

-- one place
below_one : (capacity place : ℕ) → place < capacity → AreBelow capacity (place ∷ [])
below_one capacity place lt zero d near = lt
below_one capacity place lt (suc k) d near = absurd (omega arith)

below_left : (capacity : ℕ) (xs ys : List ℕ) → AreBelow capacity (xs ++ ys) → AreBelow capacity xs
below_left capacity xs ys h = subst (AreBelow capacity) (take-append_seam xs ys)
    (All-take (λ place. place < capacity) (length xs) (xs ++ ys) h)

below_right : (capacity : ℕ) (xs ys : List ℕ) → AreBelow capacity (xs ++ ys) → AreBelow capacity ys
below_right capacity xs ys h = subst (AreBelow capacity) (drop-append_seam xs ys)
    (All-drop (λ place. place < capacity) (length xs) (xs ++ ys) h)

below_both : (capacity : ℕ) (xs ys : List ℕ) → AreBelow capacity xs → AreBelow capacity ys
    → AreBelow capacity (xs ++ ys)
below_both capacity xs ys = All-append (λ place. place < capacity) xs ys

-- the owner's view is the capacity
owner_knows : (views : List ℕ) (view : ℕ) → get_elem? views 0 ≡ some view → capacity_of views ≡ view
owner_knows [] view at = absurd (some-ne-none view (sym at))
owner_knows (first ∷ views) view at = some-injective first view at

-- the owner's first place tells the capacity, as none stood there before
opens_first : (place : ℕ) → Pushes AreHinted 0 0 (place ∷ []) (λ view. view ≡ place + 1)
opens_first place items [] h at = absurd (some-ne-none 0 (sym at))
opens_first place items (first ∷ views) h at =
    let unknown : first ≡ 0 = some-injective first 0 at in
    let last : place < place + 1 = omega arith in (
      place + 1,
      below_both (place + 1) items (place ∷ [])
          (none_below items (subst (λ c. AreBelow c items) unknown h) (place + 1))
          (below_one (place + 1) place last),
      refl,
    )

pub opens : (port view place : ℕ) → port ≡ 0 → view ≡ 0
    → Pushes AreHinted port view (place ∷ []) (λ after. after ≡ place + 1)
opens port view place is_first is_none =
    subst (λ p. Pushes AreHinted p view (place ∷ []) (λ after. after ≡ place + 1)) (sym is_first)
    (subst (λ v. Pushes AreHinted 0 v (place ∷ []) (λ after. after ≡ place + 1)) (sym is_none) (opens_first place))

-- a place below the capacity comes, by the owner
gives_first : (view place : ℕ) → place < view → Pushes AreHinted 0 view (place ∷ []) (MovesBelow view (place ∷ []))
gives_first view place lt items views h at =
    let is = owner_knows views view at in (
      view,
      subst (AreHinted (items ++ place ∷ [])) (sym (set_again views 0 view at))
          (below_both (capacity_of views) items (place ∷ []) h
          (below_one (capacity_of views) place (subst (λ c. place < c) (sym is) lt))),
      record { stays = refl; below = below_one view place lt },
    )

pub gives : (port view place : ℕ) → port ≡ 0 → place < view
    → Pushes AreHinted port view (place ∷ []) (MovesBelow view (place ∷ []))
gives port view place is_first lt =
    subst (λ p. Pushes AreHinted p view (place ∷ []) (MovesBelow view (place ∷ []))) (sym is_first)
    (gives_first view place lt)

-- the oldest goes, by the owner
takes_first : (view : ℕ) → Takes AreHinted 0 view 1 (MovesBelow view)
takes_first view xs items views _ _ h at = (
  view,
  subst (AreHinted items) (sym (set_again views 0 view at)) (below_right (capacity_of views) xs items h),
  record {
    stays = refl;
    below = subst (λ c. AreBelow c xs) (owner_knows views view at) (below_left (capacity_of views) xs items h);
  },
)

pub takes : (port view : ℕ) → port ≡ 0 → Takes AreHinted port view 1 (MovesBelow view)
takes port view is_first = subst (λ p. Takes AreHinted p view 1 (MovesBelow view)) (sym is_first) (takes_first view)

-- and the newest
pops_first : (view : ℕ) → Pops AreHinted 0 view (MovesBelow view)
pops_first view x items views h at = (
  view,
  subst (AreHinted items) (sym (set_again views 0 view at)) (below_left (capacity_of views) items (x ∷ []) h),
  record {
    stays = refl;
    below = subst (λ c. AreBelow c (x ∷ [])) (owner_knows views view at)
        (below_right (capacity_of views) items (x ∷ []) h);
  },
)

pub pops : (port view : ℕ) → port ≡ 0 → Pops AreHinted port view (MovesBelow view)
pops port view is_first = subst (λ p. Pops AreHinted p view (MovesBelow view)) (sym is_first) (pops_first view)

-- the oldest goes, by anyone, who learns nothing of the capacity
pub leaves : (port view : ℕ) → Takes AreHinted port view 1 (λ places after. after ≡ view)
leaves port view xs items views _ _ h at = (
  view,
  subst (AreHinted items) (sym (set_again views port view at)) (below_right (capacity_of views) xs items h),
  refl,
)

-- whoever comes to steal knows nothing, and what the owner knows stays
pub admits : Admits AreHinted 0
admits items [] h = h
admits items (first ∷ views) h = h
