use Rattle.std.proofs.Common.{◌≡◌, ap, ◌∙◌}
use Rattle.liquid_value.specs.meaning.Render.{render}
use Rattle.liquid_value.specs.meaning.View.{view as tree_of}
use Rattle.liquid_jekyll.specs.meaning.value.Urls.{url_value}
use Rattle.liquid_jekyll.proofs.value.urls.absolute_text.Goals as goal

pub returns : goal.returns
returns c =
    let is : c.as_str.result.now ≡ render (url_value (tree_of c.args.input.now)) =
    c.as_str.ensures.value ∙ c.in_ok-text.ensures ∙ ap render c.url_value.ensures in
    rw (← is) c.absolute_url.ensures
