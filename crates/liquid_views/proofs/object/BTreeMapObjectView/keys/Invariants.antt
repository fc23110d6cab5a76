use Rattle.std.proofs.Common.{◌≡◌, ◌++◌, map}
use Rattle.liquid_value.specs.meaning.Names.{names}
use Rattle.liquid_views.specs.meaning.Trees.{members_by}
use Rattle.liquid_views.proofs.object.BTreeMapObjectView.keys.Given as goal

abbrev pub invariant-loop-key : goal.invariant-loop-key
invariant-loop-key g l =
    names (members_by g.K.ObjectIndex.index g.V.ValueView.tree l.self.entries) ≡ map (λ key. key.now) l.names.items
    ++ names (members_by g.K.ObjectIndex.index g.V.ValueView.tree l.key-iterator)
