use Rattle.std.proofs.Common.{◌≡◌, map, ap, [], ◌∷◌, ◌∙◌, sym, subst, rules}
use Rattle.liquid_parser.specs.meaning.Cursors.{Takes}
use Rattle.liquid_parser.specs.meaning.Plugins.{registry_of}
use Rattle.liquid_plugins.specs.meaning.ExpressionOf.{chain_of}
use Rattle.jekyll_tags.proofs.PartLemmas.{given_enclosed, given_one}
use Rattle.jekyll_tags.proofs.reading.read_parts.Goals as goal

pub returns-then-comes_next : goal.returns-then-comes_next
returns-then-comes_next g c ts at =
    let filters = registry_of g.F.ParseFilter.makes c.args.filters.now in
    let one = c.in_ok-next_str.ensures.value ts at in
    subst (λ m. Takes (λ v. map (chain_of g.F.Filter.Meant.shape) v.items) c.read_enclosed.result c.read_enclosed.new.tokens m)
    (sym (given_enclosed filters ts (sym (c.comes_next.ensures ts at) ∙ c.if-comes_next.true) _ one.0 one.1))
    (c.read_enclosed.ensures one.0 one.2)

pub returns : goal.returns
returns g c ts at =
    let filters = registry_of g.F.ParseFilter.makes c.args.filters.now in
    let shape = chain_of g.F.Filter.Meant.shape in
    let one = c.in_ok-chain.ensures.value ts at in
    let items : c.push.new.self.items ≡ c.in_ok-chain.chain ∷ [] = search rules in (
      one.0,
      given_one filters ts (sym (c.comes_next.ensures ts at) ∙ c.if-comes_next.false) (shape c.in_ok-chain.chain) one.0 one.1
          (map shape c.push.new.self.items) (ap (map shape) items),
      one.2,
    )
