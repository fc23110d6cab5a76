use Rattle.std.proofs.Common.{◌≡◌, ◌+◌, ◌*◌, ◌<◌, ◌≤◌, length}
use denote.Text.{Utf8}
use denote.Shadow.{shadow}
use Rattle.liquid_grammar.specs.meaning.Faults.{index_fault}
use Rattle.liquid_grammar.specs.meaning.Meanings.{scan}
use Rattle.liquid_grammar.specs.steps.BracketSteps.{going, rank, bracket_index}
use Rattle.liquid_grammar.specs.declared.bracket.Await.TheVariants.{Index}
use Rattle.liquid_grammar.proofs.bracket.match_bracket.Given as goal

abbrev pub invariant-brackets : goal.invariant-brackets
invariant-brackets l =
    shadow (Utf8 l.state.rest.now)
    × record {
      same : scan (index_fault 0) (bracket_index l.s) ≡ going l.state;
      less : length l.state.rest.now < length l.s;
      room : l.state.depth + length l.state.rest.now ≤ length l.s;
      whole : l.state.depth ≡ 0 → l.state.awaits ≡ Index;
    }

abbrev pub decreases-brackets : goal.decreases-brackets
decreases-brackets l = 2 * length l.state.rest.now + rank l.state.awaits
