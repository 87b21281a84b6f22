-- A physical expression over kids meets a request exactly where its line is there for the request, and the kids give
-- what is asked of them.
use Rattle.std.proofs.Common.{◌≡◌, ℕ, List, [], ◌∷◌, refl, sym, subst}
use Rattle.query_core.specs.Expressions.{physical_children}
use Rattle.std.specs.Prelude.{Option, Some, None}
use Rattle.query_core.specs.declared.query.Query.{Query}
use Rattle.query_core.specs.declared.words.KeyParts.{KeyParts}
use Rattle.query_core.specs.declared.expressions.Children.{Children}
use Rattle.query_core.specs.declared.expressions.Children.TheVariants as arities
use Rattle.query_core.specs.declared.expressions.PhysicalExpr.{PhysicalExpr}
use Rattle.request_props.specs.Numbered.{IsNumbered}
use Rattle.request_props.specs.Satisfied.{Satisfies}
use Rattle.request_props.specs.declared.request.Request.{Request}
use Rattle.request_props.specs.Fitting.{Fits}
use Rattle.plan_space.specs.Lines.{line_of}
use Rattle.plan_space.specs.declared.lines.Line.{Line}
use Rattle.plan_space.specs.declared.lines.Line.TheVariants as lines
use Rattle.plan_space.specs.declared.seen.Kid.{Kid}
use Rattle.plan_space.specs.Gives.{line_gives, gives_by, native_gives}
use Rattle.plan_space.specs.Valid.{LineFits, FitsBy, NativeFits}
use Rattle.plan_space.specs.Alternatives.{JoinServes, LineServes, asked_of, KidsServe, IsAlternative}
use Rattle.plan_space.specs.Choices.{groups_of}
use Rattle.plan_space.specs.Laws.{KidsFit, AreOf, RequestsFit}
use Rattle.plan_space.proofs.Fitting.{LeftFits, AsksFitting}
use Rattle.plan_space.proofs.LeftChild.{left_splits, left_asked_fits, left_joins}

-- ---- a line

-- where a request is met by a line over its kids, the line is there for it, and the kids give what is asked of them
line_splits : (q : Query) (group : KeyParts) (line : Line) (children : Children) (kids : List Kid) (wanted : Request)
    → AsksFitting q group line children → KidsFit q kids
    → IsNumbered q wanted.order → LineFits q line children kids → Satisfies q (line_gives line kids) wanted
    → LineServes q line children wanted × KidsServe q kids (asked_of line wanted)
line_splits q group (lines.Leaf dist order) children kids wanted asks fit numbered (none, no_kids) satisfies = (
  subst (λ c. LineServes q (lines.Leaf dist order) c wanted) (sym none) satisfies,
  subst (λ ks. KidsServe q ks []) (sym no_kids) tt,
)
line_splits q group (lines.Above dist order) children [] wanted asks fit numbered fits satisfies = absurd fits
line_splits q group (lines.Above dist order) children (kid ∷ []) wanted asks fit numbered fits satisfies =
    let split = left_splits q dist order kid.given wanted fits.left satisfies in
    (subst (λ c. LineServes q (lines.Above dist order) c wanted) (sym fits.of_child) split.0, (split.1, tt))
line_splits q group (lines.Above dist order) children (kid ∷ other ∷ others) wanted asks fit numbered fits satisfies =
    absurd fits
line_splits q group (lines.Beside dist order request) children [] wanted asks fit numbered fits satisfies = absurd fits
line_splits q group (lines.Beside dist order request) children (kid ∷ []) wanted asks fit numbered fits satisfies =
    absurd fits
line_splits q group (lines.Beside dist order request) children (left ∷ right ∷ []) wanted asks fit numbered fits
    satisfies =
    let own : LeftFits q left.group dist order × Fits q right.group request =
    subst (AsksFitting q group (lines.Beside dist order request)) fits.of_children asks in
    let split = left_splits q dist order left.given wanted fits.left satisfies in
    let serves : JoinServes q left.group dist order wanted =
    record { serves = split.0; fits = left_asked_fits q dist order left wanted own.0 fit.0 numbered satisfies } in (
      subst (λ c. LineServes q (lines.Beside dist order request) c wanted) (sym fits.of_children) serves,
      (split.1, (fits.right, tt)),
    )
line_splits q group (lines.Beside dist order request) children (left ∷ right ∷ other ∷ others) wanted asks fit numbered
    fits satisfies = absurd fits

-- a child of the same key is the same one child
one_child : (kid group : KeyParts) → kid ≡ group → arities.One group ≡ arities.One kid
one_child kid group same = cc

-- children of the same keys, in order, are the same two children
two_children : (first second left right : KeyParts) → first ≡ left → second ≡ right
    → arities.Two left right ≡ arities.Two first second
two_children first second left right same other = cc

-- where a line is there for a request, and the kids give what is asked of them, the request is met by the line over the
-- kids
line_joins : (q : Query) (line : Line) (children : Children) (kids : List Kid) (wanted : Request)
    → LineServes q line children wanted
    → AreOf (groups_of children) kids → KidsServe q kids (asked_of line wanted)
    → LineFits q line children kids × Satisfies q (line_gives line kids) wanted
line_joins q (lines.Leaf dist order) arities.Zero [] wanted serves of_children kids_serve = ((refl, refl), serves)
line_joins q (lines.Leaf dist order) arities.Zero (kid ∷ kids) wanted serves of_children kids_serve =
    absurd of_children
line_joins q (lines.Leaf dist order) (arities.One child) kids wanted serves of_children kids_serve = absurd serves
line_joins q (lines.Leaf dist order) (arities.Two left right) kids wanted serves of_children kids_serve = absurd serves
line_joins q (lines.Above dist order) arities.Zero kids wanted serves of_children kids_serve = absurd serves
line_joins q (lines.Above dist order) (arities.One child) [] wanted serves of_children kids_serve = absurd of_children
line_joins q (lines.Above dist order) (arities.One child) (kid ∷ []) wanted serves of_children kids_serve =
    let joined = left_joins q dist order kid.given wanted serves kids_serve.0 in
    (record { of_child = one_child kid.group child of_children.0; left = joined.0 }, joined.1)
line_joins q (lines.Above dist order) (arities.One child) (kid ∷ other ∷ others) wanted serves of_children kids_serve =
    absurd of_children.1
line_joins q (lines.Above dist order) (arities.Two left right) kids wanted serves of_children kids_serve = absurd serves
line_joins q (lines.Beside dist order request) arities.Zero kids wanted serves of_children kids_serve = absurd serves
line_joins q (lines.Beside dist order request) (arities.One child) kids wanted serves of_children kids_serve =
    absurd serves
line_joins q (lines.Beside dist order request) (arities.Two left right) [] wanted serves of_children kids_serve =
    absurd of_children
line_joins q (lines.Beside dist order request) (arities.Two left right) (first ∷ []) wanted serves of_children
    kids_serve = absurd of_children.1
line_joins q (lines.Beside dist order request) (arities.Two left right) (first ∷ second ∷ []) wanted serves of_children
    kids_serve =
    let joined = left_joins q dist order first.given wanted serves.serves kids_serve.0 in (
      record {
        of_children = two_children first.group second.group left right of_children.0 of_children.1.0;
        left = joined.0;
        right = kids_serve.1.0;
      },
      joined.1,
    )
line_joins q (lines.Beside dist order request) (arities.Two left right) (first ∷ second ∷ other ∷ others) wanted serves
    of_children kids_serve = absurd of_children.1.1

-- ---- expressions

-- where a request is met in a mode, the mode has a line, the line is there for the request, and the kids give what is
-- asked of them
native_splits : (q : Query) (e : PhysicalExpr) (mode : ℕ) (found : Option Line) (kids : List Kid) (wanted : Request)
    → ((line : Line) → found ≡ Some line → AsksFitting q e.group line (physical_children e.operator)) → KidsFit q kids
    → IsNumbered q wanted.order
    → line_of q e mode ≡ found → FitsBy q found (physical_children e.operator) kids
    → Satisfies q (gives_by found kids) wanted
    → (line : Line) × IsAlternative q e wanted mode line × KidsServe q kids (asked_of line wanted)
native_splits q e mode None kids wanted asks fit numbered is fits satisfies = absurd fits
native_splits q e mode (Some line) kids wanted asks fit numbered is fits satisfies =
    let split = line_splits q e.group line (physical_children e.operator) kids wanted (asks line refl) fit numbered fits
    satisfies in
    (line, record { is_line = is; serves = split.0 }, split.1)

-- a request that is met is met by a mode that is there for it
pub satisfaction_splits : (q : Query) (e : PhysicalExpr) (mode : ℕ) (kids : List Kid) (wanted : Request)
    → ((line : Line) → line_of q e mode ≡ Some line → AsksFitting q e.group line (physical_children e.operator))
    → KidsFit q kids → Fits q e.group wanted
    → NativeFits q e mode kids → Satisfies q (native_gives q e mode kids) wanted
    → (line : Line) × IsAlternative q e wanted mode line × KidsServe q kids (asked_of line wanted)
satisfaction_splits q e mode kids wanted asks fit fits native_fits satisfies =
    native_splits q e mode (line_of q e mode) kids wanted asks fit fits.numbered refl native_fits satisfies

-- a mode that is there for a request meets it over kids that give what is asked of them
pub satisfaction_joins : (q : Query) (e : PhysicalExpr) (mode : ℕ) (line : Line) (kids : List Kid) (wanted : Request)
    → IsAlternative q e wanted mode line
    → AreOf (groups_of (physical_children e.operator)) kids → KidsServe q kids (asked_of line wanted)
    → NativeFits q e mode kids × Satisfies q (native_gives q e mode kids) wanted
satisfaction_joins q e mode line kids wanted alternative of_children kids_serve =
    let joined = line_joins q line (physical_children e.operator) kids wanted alternative.serves of_children
    kids_serve in (
      subst (λ found. FitsBy q found (physical_children e.operator) kids) (sym alternative.is_line) joined.0,
      subst (λ found. Satisfies q (gives_by found kids) wanted) (sym alternative.is_line) joined.1,
    )

-- ---- what is asked

-- for a request that fits the group, a line asks what fits the children
line_asks : (q : Query) (group : KeyParts) (line : Line) (children : Children) (wanted : Request)
    → AsksFitting q group line children → Fits q group wanted
    → LineServes q line children wanted → RequestsFit q (groups_of children) (asked_of line wanted)
line_asks q group (lines.Leaf dist order) arities.Zero wanted asks fits serves = tt
line_asks q group (lines.Leaf dist order) (arities.One child) wanted asks fits serves = absurd serves
line_asks q group (lines.Leaf dist order) (arities.Two left right) wanted asks fits serves = absurd serves
line_asks q group (lines.Above dist order) arities.Zero wanted asks fits serves = absurd serves
line_asks q group (lines.Above dist order) (arities.One child) wanted asks fits serves = (asks wanted fits serves, tt)
line_asks q group (lines.Above dist order) (arities.Two left right) wanted asks fits serves = absurd serves
line_asks q group (lines.Beside dist order request) arities.Zero wanted asks fits serves = absurd serves
line_asks q group (lines.Beside dist order request) (arities.One child) wanted asks fits serves = absurd serves
line_asks q group (lines.Beside dist order request) (arities.Two left right) wanted asks fits serves =
    (serves.fits, (asks.1, tt))

-- for a request that fits its group, an expression asks what fits its children
pub asks_what_fits : (q : Query) (e : PhysicalExpr) (mode : ℕ) (line : Line) (wanted : Request)
    → ((line : Line) → line_of q e mode ≡ Some line → AsksFitting q e.group line (physical_children e.operator))
    → Fits q e.group wanted
    → IsAlternative q e wanted mode line → RequestsFit q (groups_of (physical_children e.operator))
    (asked_of line wanted)
asks_what_fits q e mode line wanted asks fits alternative =
    line_asks q e.group line (physical_children e.operator) wanted (asks line alternative.is_line) fits
    alternative.serves
