use Rattle.std.proofs.Common.{◌≡◌, ◌-◌, ◌++◌, drop, map, string_bytes}
use Rattle.std.specs.List.{slice_range}
use Rattle.std.specs.Str.{IsCharBoundary}
use Rattle.liquid_strings.specs.meaning.Tags.{without, without_after}
use Rattle.liquid_strings.specs.steps.Kinds.{kind_of}
use Rattle.liquid_strings.proofs.tags.leave_out.Given as goal

abbrev pub invariant-loop-at : goal.invariant-loop-at
invariant-loop-at l = record {
  cut : IsCharBoundary l.text l.kept;
  whole : string_bytes l.rest ++ (slice_range l.text l.kept l.at ++ without_after (map kind_of l.kinds) (l.kept - l.at)
      (drop l.at l.text)) ≡ without (map kind_of l.kinds) l.text;
}
