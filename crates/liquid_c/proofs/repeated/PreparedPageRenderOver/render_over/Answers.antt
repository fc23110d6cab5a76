use Rattle.liquid_c.proofs.repeated.PreparedPageRenderOver.render_over.Goals as goal

pub returns-clause-shows : goal.returns-clause-shows
returns-clause-shows g c = λ shown comes. c.render_prepared.ensures.shows comes.l comes.text comes.partials comes.prepared shown comes.comes

pub returns-clause-again : goal.returns-clause-again
returns-clause-again g c = λ options globals shown comes.
    record {
      l = comes.l;
      text = comes.text;
      partials = comes.partials;
      prepared = c.render_prepared.ensures.prepared comes.l comes.text comes.partials comes.prepared;
      comes = comes.comes;
    }
