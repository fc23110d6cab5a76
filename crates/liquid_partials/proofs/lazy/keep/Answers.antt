use Rattle.liquid_template.specs.meaning.TemplateOf.{template_nodes}
use Rattle.liquid_partials.proofs.EachLemmas.{unchanged_kept}
use Rattle.liquid_partials.proofs.lazy.keep.Goals as goal

pub returns-clause-err : goal.returns-clause-err
returns-clause-err g c =
    unchanged_kept (λ template. template_nodes g.X.Meant.shape g.T.Meant.shape g.B.Meant.shape template.value) c.args.kept.now
    c.insert.new.self c.in-Err.ensures.err
