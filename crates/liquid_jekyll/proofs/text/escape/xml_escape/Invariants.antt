use Rattle.std.proofs.Common.{◌≡◌, ◌≤◌, ◌++◌, string_bytes, take}
use Rattle.std.specs.List.{slice_range}
use Rattle.std.specs.Str.{IsCharBoundary}
use Rattle.liquid_jekyll.specs.meaning.text.Escape.{xml_escaped}
use Rattle.liquid_jekyll.proofs.text.escape.xml_escape.Given as goal

abbrev pub invariant-loop-at : goal.invariant-loop-at
invariant-loop-at l = record {
  order : l.kept ≤ l.at;
  cut : IsCharBoundary l.text l.kept;
  whole : string_bytes l.escaped ++ slice_range l.text l.kept l.at ≡ xml_escaped (take l.at l.text);
}
