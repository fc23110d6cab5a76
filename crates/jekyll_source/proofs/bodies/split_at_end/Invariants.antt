use Rattle.std.proofs.Common.{◌≡◌, ◌+◌, ◌≤◌, drop}
use Rattle.jekyll_source.specs.meaning.Bodies.{body_len}
use Rattle.jekyll_source.specs.steps.Parts.{shown}
use Rattle.jekyll_source.proofs.bodies.split_at_end.Given as goal

abbrev pub invariant-loop-at : goal.invariant-loop-at
invariant-loop-at l = record {
  low : l.level ≤ l.at;
  whole : body_len (shown l.start) l.end 0 l.text ≡ l.at + body_len (shown l.start) l.end l.level (drop l.at l.text);
}
