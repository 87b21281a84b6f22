-- Those of a list whose lines may give a distribution.
use Rattle.std.proofs.Common.{◌≡◌, ℕ, suc, ◌<◌, ◌+◌, get_or, refl, subst, sym, ◌∙◌, ap, inl, inr, arith}
use Rattle.std.specs.Prelude.{◌^◌, List, [], ◌∷◌, ◌++◌, length, take, Some}
use Rattle.query_core.specs.declared.query.Query.{Query}
use Rattle.query_core.specs.declared.words.KeyParts.{KeyParts}
use Rattle.query_core.specs.declared.expressions.Children.{Children}
use Rattle.query_core.specs.declared.expressions.Children.TheVariants.{Zero, One, Two}
use Rattle.request_props.specs.declared.request.Dist.{Dist}
use Rattle.request_props.specs.declared.request.Request.{Request}
use Rattle.plan_space.specs.declared.lines.Line.{Line}
use Rattle.plan_space.specs.declared.lines.Line.TheVariants.{Leaf, Above, Beside}
use Rattle.plan_space.specs.Lines.{line_of}
use Rattle.plan_space.specs.Alternatives.{LineServes}
use Rattle.plan_tree.specs.Alternatives.{MayGive}
use Rattle.plan_search.specs.declared.native.NativeNode.{NativeNode}
use Rattle.plan_search.specs.Natives.{IsNative, AreNative, RisesFrom, mode_number, IsIn, AreListed, AreListedFor}
use Rattle.plan_search.specs.Natives.{AreThoseFor}
use Rattle.plan_search.proofs.Tried.{rises_less, take_more}

-- a line that serves a request may give its distribution
pub serves_gives : (q : Query) (line : Line) (children : Children) (wanted : Request)
    → LineServes q line children wanted → MayGive q line wanted.dist
serves_gives q (Leaf given order) Zero wanted serves = serves.dist
serves_gives q (Leaf given order) (One child) wanted serves = absurd serves
serves_gives q (Leaf given order) (Two left right) wanted serves = absurd serves
serves_gives q (Above left order) Zero wanted serves = absurd serves
serves_gives q (Above left order) (One child) wanted serves = serves.dist_served
serves_gives q (Above left order) (Two one two) wanted serves = absurd serves
serves_gives q (Beside left order request) Zero wanted serves = absurd serves
serves_gives q (Beside left order request) (One child) wanted serves = absurd serves
serves_gives q (Beside left order request) (Two one two) wanted serves = serves.serves.dist_served

module _ (q : Query) (dist : Dist) where
  -- one more that may
  pub those_more : (list those : List NativeNode) (p : NativeNode) → MayGive q p.line dist
      → AreThoseFor q dist list those
      → AreThoseFor q dist (list ++ p ∷ []) (those ++ p ∷ [])
  those_more [] those p may are = inl (may, ([], refl, ap (λ l. l ++ p ∷ []) are))
  those_more (first ∷ others) those p may (inl (gives, (rest, are, is))) =
      inl (gives, (rest ++ p ∷ [], those_more others rest p may are, ap (λ l. l ++ p ∷ []) is))
  those_more (first ∷ others) those p may (inr (never, are)) = inr (never, those_more others those p may are)

  -- and one that may not
  pub those_less : (list those : List NativeNode) (p : NativeNode) → (MayGive q p.line dist → ⊥)
      → AreThoseFor q dist list those
      → AreThoseFor q dist (list ++ p ∷ []) those
  those_less [] those p never are = inr (never, are)
  those_less (first ∷ others) those p never (inl (gives, (rest, are, is))) =
      inl (gives, (rest, those_less others rest p never are, is))
  those_less (first ∷ others) those p never (inr (none, are)) = inr (none, those_less others those p never are)

  -- the first so many, and one more
  pub loop_more : (list those new : List NativeNode) (i : ℕ) (d : NativeNode) → i < length list
      → MayGive q (get_or list i d).line dist
      → AreThoseFor q dist (take i list) those → new ≡ those ++ get_or list i d ∷ []
      → AreThoseFor q dist (take (i + 1) list) new
  loop_more list those new i d within may are is =
      let next : suc i ≡ i + 1 = omega arith in
      subst (λ n. AreThoseFor q dist (take n list) new) next
      (subst (λ l. AreThoseFor q dist l new) (sym (take_more list i d within))
      (subst (AreThoseFor q dist (take i list ++ get_or list i d ∷ [])) (sym is)
      (those_more (take i list) those (get_or list i d) may are)))

  pub loop_less : (list those new : List NativeNode) (i : ℕ) (d : NativeNode) → i < length list
      → (MayGive q (get_or list i d).line dist → ⊥)
      → AreThoseFor q dist (take i list) those → new ≡ those → AreThoseFor q dist (take (i + 1) list) new
  loop_less list those new i d within never are is =
      let next : suc i ≡ i + 1 = omega arith in
      subst (λ n. AreThoseFor q dist (take n list) new) next
      (subst (λ l. AreThoseFor q dist l new) (sym (take_more list i d within))
      (subst (AreThoseFor q dist (take i list ++ get_or list i d ∷ [])) (sym is)
      (those_less (take i list) those (get_or list i d) never are)))

  those_are : (group : KeyParts) (list those : List NativeNode) → AreThoseFor q dist list those → AreNative q group list
      → AreNative q group those
  those_are group [] those is are = subst (AreNative q group) (sym is) tt
  those_are group (first ∷ others) those (inl (gives, (rest, those_rest, is))) are =
      subst (AreNative q group) (sym is) (are.0, those_are group others rest those_rest are.1)
  those_are group (first ∷ others) those (inr (never, rest)) are = those_are group others those rest are.1

  those_rise : (bound : ℕ) (list those : List NativeNode) → AreThoseFor q dist list those → RisesFrom bound list
      → RisesFrom bound those
  those_rise bound [] those is rises = subst (RisesFrom bound) (sym is) tt
  those_rise bound (first ∷ others) those (inl (gives, (rest, those_rest, is))) rises =
      subst (RisesFrom bound) (sym is) (rises.0, those_rise (mode_number first + 1) others rest those_rest rises.1)
  those_rise bound (first ∷ others) those (inr (never, rest)) rises =
      rises_less (mode_number first + 1) bound those (omega (arith, rises.0))
      (those_rise (mode_number first + 1) others those rest rises.1)

  those_in : (p : NativeNode) (list those : List NativeNode) → AreThoseFor q dist list those → MayGive q p.line dist
      → IsIn p list → IsIn p those
  those_in p [] those is may among = absurd among
  those_in p (first ∷ others) those (inl (gives, (rest, those_rest, is))) may (inl same) =
      subst (IsIn p) (sym is) (inl same)
  those_in p (first ∷ others) those (inl (gives, (rest, those_rest, is))) may (inr later) =
      subst (IsIn p) (sym is) (inr (those_in p others rest those_rest may later))
  those_in p (first ∷ others) those (inr (never, rest)) may (inl same) =
      absurd (never (subst (λ (x : NativeNode). MayGive q x.line dist) same may))
  those_in p (first ∷ others) those (inr (never, rest)) may (inr later) = those_in p others those rest may later

  is_native_in : (group : KeyParts) (p : NativeNode) (list : List NativeNode) → AreNative q group list → IsIn p list
      → IsNative q group p
  is_native_in group p [] are among = absurd among
  is_native_in group p (first ∷ others) are (inl same) = subst (IsNative q group) (sym same) are.0
  is_native_in group p (first ∷ others) are (inr later) = is_native_in group p others are.1 later

  -- they are all of the group that may give it
  pub those_listed : (group : KeyParts) (list those : List NativeNode) → AreThoseFor q dist list those
      → AreListed q group list → AreListedFor q group dist those
  those_listed group list those are listed = record {
    are = those_are group list those are listed.are;
    rises = those_rise (2 ^ 56) list those are listed.rises;
    complete = λ e mode line member of_group has may.
        let (p, among, is_expr, is_mode) = listed.complete e mode line member of_group has in
        let physical = is_native_in group p list listed.are among in
        let same : Some p.line ≡ Some line = sym physical.line ∙ ap (λ x. line_of q x p.mode) is_expr
        ∙ ap (λ m. line_of q e m) is_mode ∙ has in
        let equal : p.line ≡ line = cc in
        (p, those_in p list those are (subst (λ l. MayGive q l dist) (sym equal) may) among, is_expr, is_mode);
  }
