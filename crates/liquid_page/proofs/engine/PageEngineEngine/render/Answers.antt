use Rattle.std.proofs.Common.{rules, ◌≡◌, [], Some, None, Ok, Err, string_bytes, refl, sym, subst}
use Rattle.liquid_partials.specs.meaning.Sources.{texts_in}
use Rattle.liquid_page.specs.meaning.Answered.{ComesTo}
use Rattle.liquid_page.proofs.EngineLemmas.{answered, answered_none, answered_ok}
use Rattle.liquid_page.proofs.engine.PageEngineEngine.render.Goals as goal

pub returns-in-Ok-answer-clause-renders : goal.returns-in-Ok-answer-clause-renders
returns-in-Ok-answer-clause-renders g c =
    answered_ok g.R.Rewrite.rewritten _ _ c.args.self.now.options (texts_in c.args.self.now.partials.value) c.args.source.text.now _
    (search rules) c.args.names _ _ _
    c.render_text-answer.result (search rules) c.new-sink.ensures c.render_text-answer.ensures.renders c.page_of.result string_bytes
    (search rules) c.page_of.ensures.page

pub returns-in-Ok-answer-clause-fails : goal.returns-in-Ok-answer-clause-fails
returns-in-Ok-answer-clause-fails g c =
    answered_none g.R.Rewrite.rewritten _ _ c.args.self.now.options (texts_in c.args.self.now.partials.value) c.args.source.text.now _
    (search rules) c.args.names _ _ _
    c.render_text-answer.result (search rules) c.new-sink.ensures c.render_text-answer.ensures.renders c.page_of.result
    (search rules) c.page_of.ensures.failure

pub returns-clause-fails : goal.returns-clause-fails
returns-clause-fails g c = λ other.
    answered g.R.Rewrite.rewritten _ _ c.args.self.now.options (texts_in c.args.self.now.partials.value) c.args.source.text.now _
    (search rules) c.args.names _ _ _
    c.render_text-answer.result (search rules) c.new-sink.ensures c.render_text-answer.ensures.renders None (search rules)
