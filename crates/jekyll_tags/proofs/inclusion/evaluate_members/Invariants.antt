use Rattle.std.proofs.Common.{◌≡◌, drop, map}
use Rattle.liquid_value.specs.meaning.Tree.{no_members}
use Rattle.liquid_value.specs.meaning.View.{members_view}
use Rattle.liquid_tags.specs.meaning.Partials.{pair_of}
use Rattle.jekyll_tags.specs.meaning.Inclusions.{members_given}
use Rattle.jekyll_tags.proofs.inclusion.evaluate_members.Given as goal

abbrev pub invariant-loop-pair : goal.invariant-loop-pair
invariant-loop-pair g l =
    let v = g.R.Runtime.view l.runtime in
    members_given v no_members (map pair_of l.pairs)
    ≡ members_given v (members_view l.members.entries) (map pair_of (drop l.pair-index l.pairs))
