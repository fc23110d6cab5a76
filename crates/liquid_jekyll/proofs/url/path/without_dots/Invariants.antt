use Rattle.std.proofs.Common.{◌≡◌, [], fold, map, drop, string_bytes}
use Rattle.liquid_jekyll.specs.meaning.url.Path.{step}
use Rattle.liquid_jekyll.proofs.url.path.without_dots.Given as goal

abbrev pub invariant-loop-segment : goal.invariant-loop-segment
invariant-loop-segment l =
    fold step (map (λ s. s.now) l.kept.items) (map (λ s. string_bytes s) (drop l.segment-index l.segments))
    ≡ fold step [] (map (λ s. string_bytes s) l.segments)
