-- the elements so far are written, each behind the separator
use Rattle.std.proofs.Common.{◌≡◌, ◌++◌, take}
use Rattle.std.specs.List.{flat_map}
use Rattle.sql_print.proofs.printer.put_others.Given as goal

abbrev pub invariant-loop-other : goal.invariant-loop-other
invariant-loop-other g l = l.out.items ≡ l.initial.out.items ++ flat_map (λ x. l.separator ++ g.P.Printed.text x)
    (take l.other-index l.others)
