use Rattle.std.proofs.Common.{◌≡◌, ◌++◌, map, drop, string_bytes}
use Rattle.liquid_jekyll.specs.meaning.url.Parts.{cleaned}
use Rattle.liquid_jekyll.proofs.url.path.clean_all.Given as goal

abbrev pub invariant-loop-piece : goal.invariant-loop-piece
invariant-loop-piece l =
    map (λ s. string_bytes s) l.all.items ++ map (cleaned l.part) (map (λ p. p.now) (drop l.piece-index l.pieces))
    ≡ map (cleaned l.part) (map (λ p. p.now) l.pieces)
