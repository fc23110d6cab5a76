use Rattle.std.proofs.Common.{◌≡◌, ap, ◌∙◌, subst}
use Rattle.std.specs.Prelude.{IfOk}
use Rattle.liquid_value.specs.meaning.Tree.{Tree, nil}
use Rattle.liquid_value.specs.meaning.View.{view, items_view}
use Rattle.liquid_filters.specs.meaning.list.Lists.{last_item}
use Rattle.liquid_filters.proofs.LastLemmas.{last_item-read}
use Rattle.liquid_filters.proofs.list.lists.last_item.Goals as goal

pub returns : goal.returns
returns c =
    let read =
    last_item-read c.deref.result.now c.last.result c.last.ensures.value
    ∙ ap (λ vs. last_item nil (items_view vs)) c.deref.ensures.value in
    subst (λ (t : Tree). IfOk c.copy_or_nil.result (λ v. view v ≡ t)) read c.copy_or_nil.ensures
