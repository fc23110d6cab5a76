use Rattle.std.proofs.Common.{◌≡◌, map, option_map, string_bytes}
use Rattle.std.specs.FinMap.{empty}
use Rattle.liquid_plugins.specs.meaning.Registry.{by_name}
use Rattle.liquid_program.specs.meaning.Gathered.{names_into}
use Rattle.liquid_program.proofs.gather.in_order.Given as goal

abbrev pub invariant-loop-name : goal.invariant-loop-name
invariant-loop-name l = names_into (option_map (λ e. e.now) l.fn.ending) (by_name l.set) (map string_bytes l.name-iterator.rest.items)
    ≡ names_into (option_map (λ e. e.now) l.fn.ending) empty (map string_bytes l.fn.names.items)
