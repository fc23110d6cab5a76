use Rattle.std.proofs.Common.{◌≡◌, ◌++◌, drop}
use Rattle.std.specs.Prelude.{string_bytes}
use Rattle.liquid_decimals.specs.meaning.Written.{grouped}
use Rattle.liquid_decimals.proofs.writing.push_grouped.Given as goal

abbrev pub invariant-loop-index : goal.invariant-loop-index
invariant-loop-index l =
    string_bytes l.text ++ grouped l.separator (drop l.index l.digits) ≡ string_bytes l.initial.text ++ grouped l.separator l.digits
