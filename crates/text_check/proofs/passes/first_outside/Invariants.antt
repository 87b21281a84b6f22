use Rattle.std.proofs.Common.{◌≡◌, All, take}
use Rattle.text_check.specs.Outcome.{IsMemberLine}
use Rattle.text_check.proofs.passes.first_outside.Given as goal

-- the lines before this one are of members
abbrev pub invariant-loop-line : goal.invariant-loop-line
invariant-loop-line l = record {
  place_is : l.place ≡ l.line-index;
  members : All (IsMemberLine l.query) (take l.line-index l.own);
}
