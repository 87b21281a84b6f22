use Rattle.std.proofs.Common.{get_or, subst, sym}
use Rattle.std.proofs.lemmas.List.Elements.{Contains-get_or}
use Rattle.std.specs.List.{Contains}
use Rattle.xform_rules.specs.Closure.{IsMemberWord}
use Rattle.xform_rules.proofs.closure.members_of.Goals as goal

-- the words of the group's expressions are, of those of all members, those of the group's members
pub returns : goal.returns
returns c =
    let q = c.args.query.now in
    let words = c.words_of.result.now in
    let packed = c.members_are_known.ensures.packed q in
    record {
      ascending = c.words_of.ensures.rises;
      sound = λ k d within.
          let word = get_or words k d in
          let here = Contains-get_or words k d within in
          let there = c.words_of.ensures.part word here in
          let member : IsMemberWord q word = subst (IsMemberWord q) there.2
          (c.requires.closure.sound there.0 word there.1) in (
            member.0,
            member.1,
            c.words_of.ensures.only member.0 (packed member.0 member.1)
                (subst (Contains words) (sym member.2) here),
            member.2,
          );
      complete = λ e member same. c.words_of.ensures.members e (packed e member) same
          (c.requires.closure.complete e member);
    }
