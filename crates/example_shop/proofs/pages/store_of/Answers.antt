use Rattle.std.proofs.Common.{ap, ◌∙◌}
use Rattle.example_shop.specs.meaning.Languages.{meaning_of}
use Rattle.example_shop.proofs.PageLemmas.{compiled_alike}
use Rattle.example_shop.proofs.pages.store_of.Goals as goal

pub returns : goal.returns
returns c =
    compiled_alike _ _ _ _ _ (ap meaning_of c.in_ok-clone.ensures.cases)
    (c.new.ensures ∙ c.in_ok-partials.ensures) c.in_ok-compile.ensures.compiled
