-- The texts of the sections of a query are one, but for the numbers of workers.
use Rattle.std.proofs.Common.{◌≡◌, ℕ, Bool, true, false, List, [], ◌++◌, refl, sym, ap, ◌∙◌, subst, inl, inr}
use Rattle.std.proofs.lemmas.List.{append-nil}
use Rattle.query_core.specs.declared.query.Query.{Query}
use Rattle.xform_rules.specs.Closure.{IsClosureOf}
use Rattle.request_props.specs.Numbered.{IsWithinLimits}
use Rattle.goal_children.specs.Listed.{AreGoalsOf}
use Rattle.job_trace.specs.Memo as memos
use Rattle.job_trace.specs.Trace as traces
use Rattle.job_trace.specs.Trace.{IsTraceText}
use Rattle.command_line.specs.declared.settings.Settings.{Settings}
use Rattle.command_line.specs.declared.command.GenInput.{GenInput}
use Rattle.orca_cli.specs.Laws.{by, AreLines, SameTexts}
use Rattle.orca_cli.specs.Sections.{IsMemo, IsTrace, StartsMemo, StartsTrace, IsSectionText, IsWhere, GoesOn}
use Rattle.orca_cli.specs.Sections.{first_line, gen_line, HasFirstLines}
use Rattle.orca_cli.specs.declared.sections.Section.{Section}
use Rattle.orca_cli.specs.declared.sections.Section.TheVariants as sections

-- what closures, goals and their texts promise: a query has one closure and one list of goals, and words have one text
pub record OneSections : Type 0 where
  pub closure : (q : Query) (words others : List ℕ) → IsClosureOf q words → IsClosureOf q others → words ≡ others
  pub goals : (q : Query) (words others : List ℕ) → AreGoalsOf q words → AreGoalsOf q others → words ≡ others
  pub memo : (q : Query) (words text other : List ℕ) → memos.IsMemoText q words text → memos.IsMemoText q words other
      → text ≡ other
  pub trace : (q : Query) (members goals text other : List ℕ) → IsWithinLimits q → IsTraceText q members goals text
      → IsTraceText q members goals other → text ≡ other
  pub memo_line : (q : Query) (words line other : List ℕ) → memos.IsMemoLine q words line
      → memos.IsMemoLine q words other → line ≡ other
  pub trace_line : (goals line other : List ℕ) → traces.IsTraceLine goals line → traces.IsTraceLine goals other
      → line ≡ other

-- a query has one memo's text
pub memo_one : OneSections → (q : Query) (text other : List ℕ) → IsMemo q text → IsMemo q other → text ≡ other
memo_one one q text other is again =
    let words : is.words ≡ again.words = one.closure q is.words again.words is.closure again.closure in
    one.memo q is.words text other is.is_text (subst (λ ws. memos.IsMemoText q ws other) (sym words) again.is_text)

-- and one trace
pub trace_one : OneSections → (q : Query) (text other : List ℕ) → IsWithinLimits q → IsTrace q text → IsTrace q other
    → text ≡ other
trace_one one q text other within is again =
    let members : is.members ≡ again.members = one.closure q is.members again.members is.closure again.closure in
    let goals : is.goals ≡ again.goals = one.goals q is.goals again.goals is.all_goals again.all_goals in
    one.trace q is.members is.goals text other within is.is_text
    (subst (λ gs. IsTraceText q is.members gs other) (sym goals)
    (subst (λ ms. IsTraceText q ms again.goals other) (sym members) again.is_text))

module _ (settings : Settings) (workers more : ℕ) (q : Query) where
  -- what stands where it is asked for is one, where the section's text is
  where_one : (asked : Bool) (section : Section) (text other : List ℕ)
      → ((t o : List ℕ) → IsSectionText (by workers settings) q section t → IsSectionText (by more settings) q section o
      → t ≡ o)
      → IsWhere asked (by workers settings) q section text → IsWhere asked (by more settings) q section other
      → text ≡ other
  where_one true section text other one is again = one text other is again
  where_one false section text other one is again = is ∙ sym again

  -- the lines by worker, where they are asked for
  lines_by : (asked : Bool) (lines others : List ℕ) → IsWhere asked (by workers settings) q sections.ByWorker lines
      → IsWhere asked (by more settings) q sections.ByWorker others → AreLines asked workers more lines others
  lines_by true lines others is again = inr (q, is, again)
  lines_by false lines others is again = (is, again)

  -- what stands behind one front
  joined_one : (front fore added more_added text other : List ℕ) → front ≡ fore → added ≡ more_added
      → text ≡ front ++ added → other ≡ fore ++ more_added → text ≡ other
  joined_one front fore added more_added text other fronts addeds is again = is ∙ ap (λ f. f ++ added) fronts
      ∙ ap (λ a. fore ++ a) addeds ∙ sym again

  -- so all sections behind one front are one text up to the lines by worker
  pub sections_same : OneSections → (front fore text other : List ℕ) → IsWithinLimits q → front ≡ fore
      → GoesOn (by workers settings) q front text → GoesOn (by more settings) q fore other
      → SameTexts settings workers more text other
  sections_same one front fore text other within fronts (memo, behind, (trace, traced, (crew, crewed, whole)))
      (memo_too, behind_too, (trace_too, traced_too, (crew_too, crewed_too, whole_too))) =
      let memos_one = where_one settings.memo sections.Memo behind.added behind_too.added
      (λ t o is again. memo_one one q t o is again) behind.is_added behind_too.is_added in
      let middles = joined_one front fore behind.added behind_too.added memo memo_too fronts memos_one behind.joined
      behind_too.joined in
      let traces_one = where_one settings.trace sections.Trace traced.added traced_too.added
      (λ t o is again. trace_one one q t o within is again) traced.is_added traced_too.is_added in
      let both = joined_one memo memo_too traced.added traced_too.added trace trace_too middles traces_one traced.joined
      traced_too.joined in
      record {
        front = trace;
        lines = crewed.added;
        others = crewed_too.added;
        whole = whole ∙ crewed.joined;
        other_whole = whole_too ∙ crewed_too.joined ∙ ap (λ f. f ++ crewed_too.added) (sym both);
        are_lines = lines_by settings.by_worker crewed.added crewed_too.added crewed.is_added crewed_too.is_added;
      }

-- no lines by worker
no_lines : (asked : Bool) (workers more : ℕ) → AreLines asked workers more [] []
no_lines true workers more = inl (refl, refl)
no_lines false workers more = (refl, refl)

-- texts that are the same
pub same_texts : (settings : Settings) (workers more : ℕ) (text other : List ℕ) → text ≡ other
    → SameTexts settings workers more text other
same_texts settings workers more text other same = record {
  front = text;
  lines = [];
  others = [];
  whole = sym (append-nil text);
  other_whole = sym same ∙ sym (append-nil text);
  are_lines = no_lines settings.by_worker workers more;
}

-- texts that are one up to the lines by worker are the same where these aren't asked for
pub equal_texts : (settings : Settings) (workers more : ℕ) (text other : List ℕ) → settings.by_worker ≡ false
    → SameTexts settings workers more text other → text ≡ other
equal_texts settings workers more text other plain same =
    let none : AreLines false workers more same.lines same.others =
    subst (λ asked. AreLines asked workers more same.lines same.others) plain same.are_lines in
    same.whole ∙ ap (λ l. same.front ++ l) (none.0 ∙ sym none.1) ∙ sym same.other_whole

-- a query has one first line of the memo
memo_line_one : OneSections → (q : Query) (line other : List ℕ) → StartsMemo q line → StartsMemo q other → line ≡ other
memo_line_one one q line other is again =
    let words : is.words ≡ again.words = one.closure q is.words again.words is.closure again.closure in
    one.memo_line q is.words line other is.is_line (subst (λ ws. memos.IsMemoLine q ws other) (sym words) again.is_line)

-- and one of the trace
trace_line_one : OneSections → (q : Query) (line other : List ℕ) → StartsTrace q line → StartsTrace q other
    → line ≡ other
trace_line_one one q line other is again =
    let goals : is.goals ≡ again.goals = one.goals q is.goals again.goals is.all_goals again.all_goals in
    one.trace_line is.goals line other is.is_line (subst (λ gs. traces.IsTraceLine gs other) (sym goals) again.is_line)

-- first lines of one query are one text
pub first_lines_one : OneSections → (input : GenInput) (q : Query) (plan fore text other : List ℕ) → plan ≡ fore
    → HasFirstLines input q plan text → HasFirstLines input q fore other → text ≡ other
first_lines_one one input q plan fore text other same is again =
    is.lines
    ∙ ap (λ p. gen_line input ++ first_line p ++ is.memo ++ is.trace) same
    ∙ ap (λ m. gen_line input ++ first_line fore ++ m ++ is.trace)
    (memo_line_one one q is.memo again.memo is.is_memo again.is_memo)
    ∙ ap (λ t. gen_line input ++ first_line fore ++ again.memo ++ t)
    (trace_line_one one q is.trace again.trace is.is_trace again.is_trace)
    ∙ sym again.lines
