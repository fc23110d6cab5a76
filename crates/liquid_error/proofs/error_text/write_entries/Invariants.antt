use Rattle.std.proofs.Common.{map, take}
use Rattle.std.specs.List.{flat_map}
use Rattle.std.specs.Fmt.{HasWritten, IsPlainFormatter}
use Rattle.liquid_error.specs.meaning.ErrorText.{entry_line}
use Rattle.liquid_error.specs.meaning.Told.{entry_of}
use Rattle.liquid_error.proofs.error_text.write_entries.Given as goal

abbrev pub invariant-loop-context : goal.invariant-loop-context
invariant-loop-context g l =
    IsPlainFormatter l.initial.f → HasWritten g.W.Write.write_str_gives l.initial.f
    (flat_map entry_line (map entry_of (take l.context-index l.contexts))) l.f
