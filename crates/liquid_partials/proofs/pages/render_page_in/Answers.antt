use Rattle.std.proofs.Common.{refl, ap, ◌∙◌}
use Rattle.std.specs.Prelude.{option_map}
use Rattle.std.proofs.lemmas.Result.{err_from_is_err_and}
use Rattle.liquid_parser.specs.meaning.Plugins.{language_of}
use Rattle.liquid_partials.proofs.PageLemmas.{compiled_alike, no_page, page_over}
use Rattle.liquid_partials.proofs.pages.render_page_in.Goals as goal

pub returns-in_err-language : goal.returns-in_err-language
returns-in_err-language g c =
    let p = err_from_is_err_and c.from_residual.result c.from_residual.ensures.1 in
    rw p.1 (no_page _ _ _ c.args.text.now _ _ _ _ p.2)

pub returns-in_err-store : goal.returns-in_err-store
returns-in_err-store g c =
    let p = err_from_is_err_and c.from_residual-in_err-store.result c.from_residual-in_err-store.ensures.1 in
    rw p.1 (no_page _ _ _ c.args.text.now _ _ _ _ p.2)

pub returns : goal.returns
returns g c =
    page_over _ _ _ c.args.text.now _ _ _ _ _ _ _ _ _ _ c.render_source.ensures.rendered
    (ap (language_of _ _ _) (c.deref.ensures ∙ c.in_ok-language.ensures.ok))
    (ap (option_map _) c.runtime_of-runtime.ensures.store) c.runtime_of-runtime.ensures.view
    (compiled_alike _ _ _ _ _ (ap (language_of _ _ _) c.in_ok-language.ensures.ok) refl c.in_ok-store.ensures)
