-- The lines before are there.
use Rattle.std.proofs.Common.{refl, take}
use Rattle.dump_replay.specs.Dumps.{AreFirst}
use Rattle.dump_replay.specs.Lines.{all_lines, catalog, off, print, query}
use Rattle.dump_replay.proofs.Begun.{one_more, three_first}
use Rattle.dump_replay.proofs.reading.read_lines.Goals as goal

pub returns-in_default-2 : goal.returns-in_default-2
returns-in_default-2 c = (
  c.requires,
  record {
    line = off;
    here = refl;
    rest = c.in-Some-root_line.rest.now;
    before = three_first c.in-Some.ensures c.in-Some-capacity_line.ensures.says c.in-Some-root_line.ensures;
    lacking = rw c.in_default-2.is at c.in_ok-off.ensures.says;
  },
)

pub returns-in_default-print_line : goal.returns-in_default-print_line
returns-in_default-print_line c = (
  c.requires,
  record {
    line = print;
    here = refl;
    rest = c.in-Some-2.rest.now;
    before = one_more (take 3 all_lines) off c.args.text.now c.in-Some-root_line.rest.now
        (three_first c.in-Some.ensures c.in-Some-capacity_line.ensures.says c.in-Some-root_line.ensures)
        (rw c.in-Some-2.is at c.in_ok-off.ensures.says);
    lacking = c.in_default-print_line.ensures;
  },
)

pub returns-in_default-catalog_line : goal.returns-in_default-catalog_line
returns-in_default-catalog_line c =
    let text = c.args.text.now in
    let three : AreFirst (take 3 all_lines) text c.in-Some-root_line.rest.now =
    three_first c.in-Some.ensures c.in-Some-capacity_line.ensures.says c.in-Some-root_line.ensures in
    let four : AreFirst (take 4 all_lines) text c.in-Some-2.rest.now =
    one_more (take 3 all_lines) off text c.in-Some-root_line.rest.now three
    (rw c.in-Some-2.is at c.in_ok-off.ensures.says) in (
      c.requires,
      record {
        line = catalog;
        here = refl;
        rest = c.in-Some-print_line.rest.now;
        before = one_more (take 4 all_lines) print text c.in-Some-2.rest.now four c.in-Some-print_line.ensures;
        lacking = c.in_default-catalog_line.ensures;
      },
    )

pub returns-in_default-query_line : goal.returns-in_default-query_line
returns-in_default-query_line c =
    let text = c.args.text.now in
    let three : AreFirst (take 3 all_lines) text c.in-Some-root_line.rest.now =
    three_first c.in-Some.ensures c.in-Some-capacity_line.ensures.says c.in-Some-root_line.ensures in
    let four : AreFirst (take 4 all_lines) text c.in-Some-2.rest.now =
    one_more (take 3 all_lines) off text c.in-Some-root_line.rest.now three
    (rw c.in-Some-2.is at c.in_ok-off.ensures.says) in
    let five : AreFirst (take 5 all_lines) text c.in-Some-print_line.rest.now =
    one_more (take 4 all_lines) print text c.in-Some-2.rest.now four c.in-Some-print_line.ensures in (
      c.requires,
      record {
        line = query;
        here = refl;
        rest = c.in-Some-catalog_line.rest.now;
        before = one_more (take 5 all_lines) catalog text c.in-Some-print_line.rest.now five
            c.in-Some-catalog_line.ensures;
        lacking = c.in_default-query_line.ensures;
      },
    )
