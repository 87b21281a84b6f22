-- What is seen of the plans that were made of lines is what is seen of their trees.
use Rattle.std.proofs.Common.{◌≡◌, ◌≤◌, List, [], ◌∷◌, length, refl, sym, ap, ◌∙◌, subst, arith}
use Rattle.query_core.specs.Keys.{IsGroup, IsGroupInRange}
use Rattle.query_core.specs.declared.query.Query.{Query}
use Rattle.query_core.specs.declared.words.KeyParts.{KeyParts}
use Rattle.plan_space.specs.Gives.{kid_of}
use Rattle.plan_space.specs.Nodes.{Tree}
use Rattle.text_check.specs.Grown.{AreGrown, HaveRanges, grown_kids, kids_list}
use Rattle.text_check.specs.declared.kids.Grown.{Grown}
use Rattle.text_check.specs.declared.kids.TakenKids.{TakenKids}
use Rattle.text_check.specs.declared.kids.TakenKids.TheVariants as kids
use Rattle.text_check.proofs.LineBlocks.{grown_trees}
use Rattle.text_check.proofs.Trees.{kids_at, trees_range}

-- a node stands over two plans at most
pub kids_few : (taken : TakenKids) → length (kids_list taken) ≤ 2
kids_few kids.Nothing = omega arith
kids_few (kids.One only) = omega arith
kids_few (kids.Two left right) = omega arith

pub grown_kids_are : (q : Query) (gs : List Grown) (ts : List Tree) → AreGrown q gs ts → grown_kids gs ≡ kids_at q ts
grown_kids_are q [] [] are = refl
grown_kids_are q [] (t ∷ ts) are = absurd are
grown_kids_are q (g ∷ gs) [] are = absurd are
grown_kids_are q (g ∷ gs) (t ∷ ts) are =
    ap (λ k. k ∷ grown_kids gs) are.0.kid ∙ ap (λ ks. kid_of q t ∷ ks) (grown_kids_are q gs ts are.1)

-- so their groups are in range
pub grown_kids_range : (q : Query) → ((g : KeyParts) → IsGroup q g → IsGroupInRange g) → (gs : List Grown)
    (ts : List Tree) → AreGrown q gs ts → HaveRanges (grown_kids gs)
grown_kids_range q range gs ts are =
    subst HaveRanges (sym (grown_kids_are q gs ts are)) (trees_range q range ts (grown_trees q gs ts are))
