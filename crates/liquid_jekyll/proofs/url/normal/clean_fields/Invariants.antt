use Rattle.std.proofs.Common.{◌≡◌, ◌++◌, map, drop, string_bytes}
use Rattle.liquid_jekyll.specs.meaning.url.Normal.{normal_field}
use Rattle.liquid_jekyll.proofs.url.normal.clean_fields.Given as goal

abbrev pub invariant-loop-field : goal.invariant-loop-field
invariant-loop-field l =
    map (λ s. string_bytes s) l.all.items ++ map normal_field (map (λ p. p.now) (drop l.field-index l.fields))
    ≡ map normal_field (map (λ p. p.now) l.fields)
