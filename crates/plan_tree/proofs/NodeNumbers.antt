-- No two nodes in range have one number.
use Rattle.std.proofs.Common.{◌≡◌, ◌≤◌, ◌<◌, ◌+◌, ◌-◌, ◌*◌, ◌/◌, ◌≢◌, ℕ, refl, ap, arith}
use Rattle.query_core.specs.Expressions.{word_of, IsPacked, expr_of}
use Rattle.query_core.specs.declared.expressions.ExprParts.{ExprParts}
use Rattle.query_core.specs.declared.expressions.PhysicalExpr.{PhysicalExpr}
use Rattle.query_core.proofs.ExpressionLemmas.{expr_of_one}
use Rattle.plan_space.specs.Nodes.{enforcer_number, node_number}
use Rattle.plan_space.specs.declared.nodes.Enforcer.{Enforcer}
use Rattle.plan_space.specs.declared.nodes.Enforcer.TheVariants.{Gather, Broadcast, Sort, GatherMerge, Redistribute}
use Rattle.plan_space.specs.declared.nodes.NodeKind.{NodeKind}
use Rattle.plan_space.specs.declared.nodes.NodeKind.TheVariants as nodes
use Rattle.plan_tree.specs.Nodes.{EnforcerInRange, IsNodeInRange, NativeInRange}

same_fields : (w v m o : ℕ) → m < 256 → o < 256 → 72057594037927936 + w * 256 + m ≡ 72057594037927936 + v * 256 + o
    → (w ≡ v) × (m ≡ o)
same_fields w v m o few fewer same = (omega arith, omega arith)

native_one : ((e f : ExprParts) → IsPacked e → IsPacked f → word_of e ≡ word_of f → e ≡ f)
    → (e f : PhysicalExpr) (mode other : ℕ)
    → NativeInRange e mode → NativeInRange f other
    → node_number (nodes.Native e mode) ≡ node_number (nodes.Native f other)
    → nodes.Native e mode ≡ nodes.Native f other
native_one one e f mode other x y same =
    let fields = same_fields (word_of (expr_of e)) (word_of (expr_of f)) mode other x.few y.few same in
    let e_is = expr_of_one e f (one (expr_of e) (expr_of f) x.packed y.packed fields.0) in
    let mode_is = fields.1 in
    cc

-- the numbers of enforcers are small
pub enforcer_small : (e : Enforcer) → EnforcerInRange e → enforcer_number e < 256
enforcer_small Gather x = omega arith
enforcer_small Broadcast x = omega arith
enforcer_small (Sort o) x = let few = x.few in omega arith
enforcer_small (GatherMerge o) x = let few = x.few in omega arith
enforcer_small (Redistribute o) x = omega arith

enforcer_one : (e f : Enforcer) → EnforcerInRange e → EnforcerInRange f → enforcer_number e ≡ enforcer_number f → e ≡ f
enforcer_one Gather Gather x y same = refl
enforcer_one Broadcast Broadcast x y same = refl
enforcer_one (Sort o) (Sort p) x y same = let number_is : o ≡ p = omega arith in cc
enforcer_one (GatherMerge o) (GatherMerge p) x y same = let number_is : o ≡ p = omega arith in cc
enforcer_one (Redistribute o) (Redistribute p) x y same = let number_is : o ≡ p = omega arith in cc
enforcer_one e f x y same = absurd (omega arith)

pub number_names_one : ((e f : ExprParts) → IsPacked e → IsPacked f → word_of e ≡ word_of f → e ≡ f) → (k l : NodeKind)
    → IsNodeInRange k → IsNodeInRange l → node_number k ≡ node_number l → k ≡ l
number_names_one one (nodes.Native e mode) (nodes.Native f other) x y same = native_one one e f mode other x y same
number_names_one one (nodes.Native e mode) (nodes.Enforcer f) x y same = let small = enforcer_small f y in
    absurd (omega arith)
number_names_one one (nodes.Enforcer e) (nodes.Native f other) x y same = let small = enforcer_small e x in
    absurd (omega arith)
number_names_one one (nodes.Enforcer e) (nodes.Enforcer f) x y same = ap nodes.Enforcer (enforcer_one e f x y same)

-- a number that is in none of the parts is that of no node
pub no_kind : (n : ℕ) → ((e : PhysicalExpr) (mode : ℕ) → NativeInRange e mode → n ≢ node_number (nodes.Native e mode))
    → n ≢ 1 → n ≢ 2
    → ((o : ℕ) → 1 ≤ o → o ≤ 60 → n ≢ 64 + o) → ((o : ℕ) → 1 ≤ o → o ≤ 60 → n ≢ 128 + o)
    → ((o : ℕ) → o < 60 → n ≢ 192 + o)
    → (kind : NodeKind) → IsNodeInRange kind → n ≢ node_number kind
no_kind n no_native no_gather no_broadcast no_sort no_merge no_move (nodes.Native e mode) in_range is =
    no_native e mode in_range is
no_kind n no_native no_gather no_broadcast no_sort no_merge no_move (nodes.Enforcer Gather) in_range is = no_gather is
no_kind n no_native no_gather no_broadcast no_sort no_merge no_move (nodes.Enforcer Broadcast) in_range is =
    no_broadcast is
no_kind n no_native no_gather no_broadcast no_sort no_merge no_move (nodes.Enforcer (Sort o)) in_range is =
    no_sort o in_range.some in_range.few is
no_kind n no_native no_gather no_broadcast no_sort no_merge no_move (nodes.Enforcer (GatherMerge o)) in_range is =
    no_merge o in_range.some in_range.few is
no_kind n no_native no_gather no_broadcast no_sort no_merge no_move (nodes.Enforcer (Redistribute o)) in_range is =
    no_move o in_range is

-- a number from 2^56 on is that of the expression whose word stands there
pub word_at : (n word mode : ℕ) → mode < 256 → n ≡ 72057594037927936 + word * 256 + mode
    → (n - 72057594037927936) / 256 ≡ word
word_at n word mode few is = omega arith
