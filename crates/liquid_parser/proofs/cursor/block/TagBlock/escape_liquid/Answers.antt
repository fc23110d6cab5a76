use Rattle.std.proofs.Common.{◌++◌, take, length, refl, sym, ap, ◌∙◌}
use Rattle.std.proofs.lemmas.List.{take-append-drop}
use Rattle.liquid_parser.proofs.cursor.block.TagBlock.escape_liquid.Goals as goal

pub returns-in-None-clause-passes : goal.returns-in-None-clause-passes
returns-in-None-clause-passes c =
    record {
      source_is = refl;
      start_is = refl;
      end_is = refl;
      passed = c.split_at.result.0.now;
      joined = sym (ap (λ t. t ++ c.split_at.result.1.now) c.split_at.ensures.front
          ∙ (ap (λ t. take (length c.args.self.now.rest.now) c.args.self.now.rest.now ++ t) c.split_at.ensures.back
          ∙ take-append-drop (length c.args.self.now.rest.now) c.args.self.now.rest.now));
    }
