use Rattle.std.proofs.Common.{take}
use Rattle.std.specs.Prelude.{string_bytes}
use Rattle.request_props.specs.Found.{elements_of}
use Rattle.query_text.specs.Added.{AddsText}
use Rattle.query_text.specs.Lists as texts
use Rattle.query_text.proofs.lists.push_other_keys.Given as goal

-- the elements before this one were added
abbrev pub invariant-loop-key : goal.invariant-loop-key
invariant-loop-key l = AddsText (string_bytes l.fn.text)
    (texts.other_elements_text l.query (elements_of (take l.key-index l.keys))) (string_bytes l.text)
