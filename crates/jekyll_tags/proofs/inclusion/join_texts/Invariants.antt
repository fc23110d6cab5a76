use Rattle.std.proofs.Common.{◌≡◌, ◌++◌, drop, map, Ok, string_bytes}
use Rattle.liquid_error.specs.meaning.Refusal.{ok_then}
use Rattle.liquid_plugins.specs.meaning.ExpressionOf.{chain_of}
use Rattle.jekyll_tags.specs.meaning.Inclusions.{joined_texts}
use Rattle.jekyll_tags.proofs.inclusion.join_texts.Given as goal

abbrev pub invariant-loop-chain : goal.invariant-loop-chain
invariant-loop-chain g l =
    let v = g.R.Runtime.view l.runtime in
    joined_texts g.X.Filter.means v (map (chain_of g.X.Meant.shape) l.chains)
    ≡ ok_then (joined_texts g.X.Filter.means v (map (chain_of g.X.Meant.shape) (drop l.chain-index l.chains)))
    (λ rest. Ok (string_bytes l.joined ++ rest))
