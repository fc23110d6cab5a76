use Rattle.std.proofs.Common.{map, take}
use Rattle.std.specs.List.{flat_map}
use Rattle.std.specs.Fmt.{HasWritten, IsPlainFormatter}
use Rattle.liquid_error.specs.meaning.ErrorText.{note_text}
use Rattle.liquid_error.specs.meaning.Told.{note_of}
use Rattle.liquid_error.proofs.error_text.write_traces.Given as goal

abbrev pub invariant-loop-trace : goal.invariant-loop-trace
invariant-loop-trace g l =
    IsPlainFormatter l.initial.f → HasWritten g.W.Write.write_str_gives l.initial.f
    (flat_map note_text (map note_of (take l.trace-index l.traces))) l.f
