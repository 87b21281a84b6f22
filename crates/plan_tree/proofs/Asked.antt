-- What holds of all children holds of the left one and of the right one.
use Rattle.std.proofs.Common.{inl, inr, refl, slice_get}
use Rattle.std.specs.Option.{IfSome}
use Rattle.query_core.specs.Expressions.{IsChild}
use Rattle.query_core.specs.declared.expressions.Children.{Children}
use Rattle.query_core.specs.declared.expressions.Children.TheVariants.{Zero, One, Two}
use Rattle.query_core.specs.declared.words.KeyParts.{KeyParts}
use Rattle.plan_space.specs.Choices.{groups_of}

pub left_holds : (P : KeyParts → Type 0) (children : Children) → ((g : KeyParts) → IsChild children g → P g)
    → IfSome (slice_get (groups_of children) 0) P
left_holds P Zero all = tt
left_holds P (One child) all = all child refl
left_holds P (Two left right) all = all left (inl refl)

pub right_holds : (P : KeyParts → Type 0) (children : Children) → ((g : KeyParts) → IsChild children g → P g)
    → IfSome (slice_get (groups_of children) 1) P
right_holds P Zero all = tt
right_holds P (One child) all = tt
right_holds P (Two left right) all = all right (inr refl)
