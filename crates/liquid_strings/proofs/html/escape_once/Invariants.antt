use Rattle.std.proofs.Common.{◌≡◌, ◌≤◌, ◌++◌, string_bytes, drop}
use Rattle.std.specs.List.{slice_range}
use Rattle.std.specs.Str.{IsCharBoundary}
use Rattle.liquid_strings.specs.meaning.Escape.{escaped_once}
use Rattle.liquid_strings.proofs.html.escape_once.Given as goal

abbrev pub invariant-loop-at : goal.invariant-loop-at
invariant-loop-at l = record {
  order : l.kept ≤ l.at;
  cut : IsCharBoundary l.text l.kept;
  whole : string_bytes l.escaped ++ (slice_range l.text l.kept l.at ++ escaped_once (drop l.at l.text)) ≡ escaped_once l.text;
}
