use Rattle.std.proofs.Common.{rules, ◌≡◌, ◌∷◌, [], inl, map}
use Rattle.page_site.specs.meaning.Items.{item_of}
use Rattle.liquid_page.proofs.run.print_one.Goals as goal

pub returns-in-Ok-clause-prints : goal.returns-in-Ok-clause-prints
returns-in-Ok-clause-prints g c =
    let one : map item_of c.args.given.now.items.items ≡ item_of c.in-Some.item.now ∷ [] = search rules in
    let made = c.in-Ok.ensures.made in (
      c.make.ensures.same,
      inl (item_of c.in-Some.item.now, c.in-Ok.page.items, one, search rules, search rules),
    )
