use Rattle.std.proofs.Common.{◌≡◌, ◌++◌, length, string_bytes}
use denote.Shadow.{shadow}
use denote.Text.{Utf8}
use Rattle.jekyll_source.specs.meaning.Parameters.{unescaped}
use Rattle.jekyll_source.proofs.parameters.push_unescaped.Given as goal

abbrev pub decreases-loop-next : goal.decreases-loop-next
decreases-loop-next l = length l.rest

abbrev pub invariant-loop-next : goal.invariant-loop-next
invariant-loop-next l = record {
  whole : string_bytes l.out ++ unescaped l.rest ≡ string_bytes l.fn.out ++ unescaped l.fn.parameters;
  utf8 : shadow (Utf8 l.rest);
}
