use Rattle.std.proofs.Common.{◌≡◌, ◌++◌, codes, length, string_bytes}
use denote.Shadow.{shadow}
use denote.Text.{Utf8}
use Rattle.std.specs.Option.{option_map}
use Rattle.jekyll_source.specs.meaning.Names.{enclosed, parts}
use Rattle.jekyll_source.proofs.names.push_parts.Given as goal

abbrev pub decreases-loop-rest : goal.decreases-loop-rest
decreases-loop-rest l = length l.rest

abbrev pub invariant-loop-rest : goal.invariant-loop-rest
invariant-loop-rest l = record {
  whole : option_map (λ ps. string_bytes l.out ++ (ps ++ codes " >")) (parts l.rest)
      ≡ option_map (λ ps. string_bytes l.fn.out ++ enclosed ps) (parts l.fn.name);
  utf8 : shadow (Utf8 l.rest);
}
