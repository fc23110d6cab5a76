use Rattle.std.proofs.Common.{[], ◌∷◌, Ok, sym, ap, ◌∙◌, subst}
use Rattle.liquid_error.specs.meaning.Refusal.{ok_then}
use Rattle.liquid_plugins.specs.meaning.NodesOf.{node_of}
use Rattle.liquid_parser.specs.meaning.BlockReading.{Parsed}
use Rattle.liquid_parser.specs.meaning.ElementReading.{read_closed}
use Rattle.liquid_parser.specs.meaning.Plugins.{language_of}
use Rattle.liquid_parser.proofs.ElementLemmas.{raw_step, tag_step, expression_step}
use Rattle.liquid_parser.proofs.ParsedLemmas.{parsed_alone, added_alone}
use Rattle.liquid_parser.proofs.StepLemmas.{is_text}
use Rattle.liquid_parser.proofs.cursor.element.BlockElement.parse.Goals as goal

pub returns-in_ok-into_renderable-in-Raw-clause-value : goal.returns-in_ok-into_renderable-in-Raw-clause-value
returns-in_ok-into_renderable-in-Raw-clause-value g c own following e m es cover =
    let shape = is_text g.F.Filter.Meant.shape g.T.Node.Meant.shape g.B.Node.Meant.shape _ _ c.in_ok-into_renderable-in-Raw.ensures in
    let step =
    raw_step (language_of g.F.ParseFilter.makes g.T.ParseTag.gives g.B.ParseBlock.block c.args.language.now) own 1 []
    [] c.in-Raw.raw following e (rw c.in-Raw.is at m) in (
      es,
      cover,
      ap (λ r. ok_then r (λ x. read_closed (language_of g.F.ParseFilter.makes g.T.ParseTag.gives g.B.ParseBlock.block
          c.args.language.now) c.args.block.now.source.now 1 x es)) step ∙ ap (λ x. Ok (x ∷ [], es)) (sym shape),
    )

pub returns-in-Tag-clause-value : goal.returns-in-Tag-clause-value
returns-in-Tag-clause-value g c own following e m es cover =
    let s =
    tag_step (language_of g.F.ParseFilter.makes g.T.ParseTag.gives g.B.ParseBlock.block c.args.language.now) own 1 []
    [] c.in-Tag.tag following e (rw c.in-Tag.is at m) in
    subst (λ x. Parsed (node_of g.F.Filter.Meant.shape g.T.Node.Meant.shape g.B.Node.Meant.shape) c.parse.result c.parse.new.block x)
    (sym (ap (λ r. ok_then r (λ x. read_closed (language_of g.F.ParseFilter.makes g.T.ParseTag.gives g.B.ParseBlock.block
    c.args.language.now) c.args.block.now.source.now 1 x es)) s.2)) (c.parse.ensures.value own s.0 s.1 es cover)

pub returns-in-Expression-clause-value : goal.returns-in-Expression-clause-value
returns-in-Expression-clause-value g c own following e m es cover =
    let s =
    expression_step (language_of g.F.ParseFilter.makes g.T.ParseTag.gives g.B.ParseBlock.block c.args.language.now) own 1 []
    [] c.in-Expression.exp following e (rw c.in-Expression.is at m) in
    parsed_alone (node_of g.F.Filter.Meant.shape g.T.Node.Meant.shape g.B.Node.Meant.shape) c.parse-in-Expression.result c.args.block.now es
    _ _ cover (c.parse-in-Expression.ensures own s.0 s.1)
    (ap (λ r. ok_then r (λ x. read_closed (language_of g.F.ParseFilter.makes g.T.ParseTag.gives g.B.ParseBlock.block c.args.language.now)
    c.args.block.now.source.now 1 x es)) s.2 ∙ added_alone (language_of g.F.ParseFilter.makes g.T.ParseTag.gives g.B.ParseBlock.block
    c.args.language.now) c.args.block.now.source.now 1 _ es)
