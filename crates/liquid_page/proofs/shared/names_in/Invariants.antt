use Rattle.std.proofs.Common.{◌≡◌, ◌++◌, map, string_bytes}
use Rattle.std.specs.FinMap.{keys}
use Rattle.liquid_partials.specs.meaning.Sources.{texts_in}
use Rattle.liquid_page.proofs.shared.names_in.Given as goal

abbrev pub invariant-loop-name : goal.invariant-loop-name
invariant-loop-name l = keys (texts_in l.texts) ≡ map (λ name. name.now) l.names.items ++ map (λ name. string_bytes name) l.name-iterator
