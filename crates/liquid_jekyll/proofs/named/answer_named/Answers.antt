use Rattle.std.proofs.Common.{◌≡◌, ◌∙◌, Ok, codes, subst, sym}
use Rattle.liquid_error.specs.meaning.Told.{Gives}
use Rattle.liquid_value.specs.meaning.View.{view as tree_of}
use Rattle.liquid_jekyll.specs.meaning.Named.{absolute_in, named_answer, relative_in}
use Rattle.liquid_jekyll.specs.meaning.Seen.{value_seen}
use Rattle.liquid_jekyll.proofs.named.answer_named.Goals as goal

pub returns-in_ok-site-in-RelativeUrl : goal.returns-in_ok-site-in-RelativeUrl
returns-in_ok-site-in-RelativeUrl g c =
    let v = g.R.Runtime.view c.args.runtime.now in
    let input = tree_of c.args.input.now in
    let site : tree_of c.as_view.result.now ≡ value_seen (codes "site") v = c.as_view.ensures ∙ c.in_ok-site-in-RelativeUrl.ensures in
    subst (λ kind. Gives tree_of c.relative_in.result (named_answer kind input v)) (sym c.in-RelativeUrl.is)
    (subst (λ t. Gives tree_of c.relative_in.result (Ok (relative_in t input))) site c.relative_in.ensures)

pub returns-in_ok-site-in-AbsoluteUrl : goal.returns-in_ok-site-in-AbsoluteUrl
returns-in_ok-site-in-AbsoluteUrl g c =
    let v = g.R.Runtime.view c.args.runtime.now in
    let input = tree_of c.args.input.now in
    let site : tree_of c.as_view-in-AbsoluteUrl.result.now ≡ value_seen (codes "site") v =
    c.as_view-in-AbsoluteUrl.ensures ∙ c.in_ok-site-in-AbsoluteUrl.ensures in
    subst (λ kind. Gives tree_of c.absolute_in.result (named_answer kind input v)) (sym c.in-AbsoluteUrl.is)
    (subst (λ t. Gives tree_of c.absolute_in.result (Ok (absolute_in t input))) site c.absolute_in.ensures)
