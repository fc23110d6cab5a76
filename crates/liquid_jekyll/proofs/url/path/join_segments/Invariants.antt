use Rattle.std.proofs.Common.{◌≡◌, ◌++◌, map, drop, string_bytes}
use Rattle.std.specs.Prelude.{codes}
use Rattle.std.specs.List.{flat_map}
use Rattle.liquid_jekyll.proofs.url.path.join_segments.Given as goal

abbrev pub invariant-loop-segment : goal.invariant-loop-segment
invariant-loop-segment l =
    string_bytes l.path ++ flat_map (λ s. codes "/" ++ s) (map (λ s. s.now) (drop l.segment-index l.segment-items))
    ≡ flat_map (λ s. codes "/" ++ s) (map (λ s. s.now) l.segment-items)
