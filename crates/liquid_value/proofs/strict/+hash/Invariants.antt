use Rattle.std.proofs.Common.{◌≡◌, drop}
use Rattle.std.specs.Prelude.{fold}
use Rattle.liquid_value.specs.meaning.Strict.{items_hash, members_hash}
use Rattle.liquid_value.specs.meaning.View.{items_view, members_view}
use Rattle.liquid_value.proofs.strict.+hash.Given as goal

abbrev pub invariant-hash_items-loop-item : goal.invariant-hash_items-loop-item
invariant-hash_items-loop-item g l =
    fold g.H.Hasher.write l.initial.state (items_hash (items_view l.item-items)) ≡ fold g.H.Hasher.write l.state
    (items_hash (items_view (drop l.item-index l.item-items)))

abbrev pub invariant-hash_members-loop-key : goal.invariant-hash_members-loop-key
invariant-hash_members-loop-key g l =
    fold g.H.Hasher.write l.initial.state (members_hash (members_view l.members.entries)) ≡ fold g.H.Hasher.write l.state
    (members_hash (members_view l.key-iterator))
