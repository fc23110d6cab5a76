use Rattle.std.proofs.Common.{◌≡◌, ◌++◌, map}
use Rattle.liquid_views.specs.meaning.Entries.{index_members}
use Rattle.liquid_value.specs.meaning.Names.{names}
use Rattle.liquid_views.proofs.hash_map.index_names.Given as goal

abbrev pub invariant-loop-key : goal.invariant-loop-key
invariant-loop-key g l =
    names (index_members g.V.ValueView.tree l.fn.index.entries) ≡ map (λ key. key.now) l.names.items
    ++ names (index_members g.V.ValueView.tree l.key-iterator)
