use Rattle.std.proofs.Common.{◌≡◌, map, ap, [], ◌∷◌, ◌∙◌, sym, true, false, rules}
use Rattle.std.proofs.lemmas.List.{map-append}
use Rattle.std.proofs.lemmas.Result.{err_from_is_err_and}
use Rattle.liquid_error.specs.meaning.Told.{told}
use Rattle.liquid_parser.specs.meaning.Plugins.{registry_of}
use Rattle.liquid_plugins.specs.meaning.ExpressionOf.{chain_of}
use Rattle.jekyll_tags.specs.meaning.Given.{parts_from}
use Rattle.jekyll_tags.proofs.PartLemmas.{end_refused, part_read, part_refused, parts_end}
use Rattle.jekyll_tags.proofs.reading.read_enclosed.Goals as goal

pub parts-preserved : goal.parts-preserved
parts-preserved g c ts at =
    let filters = registry_of g.F.ParseFilter.makes c.args.filters.now in
    let shape = chain_of g.F.Filter.Meant.shape in
    let so_far = c.parts.invariant ts at in
    let apart : c.comes_next.result ≡ false = search rules in
    let goes = sym (c.comes_next.ensures so_far.0 so_far.1) ∙ apart in
    let taken = c.in_ok-chain.ensures.value so_far.0 so_far.1 in (
      taken.0,
      taken.2,
      part_read filters (map shape c.parts.parts.items) so_far.0 (parts_from filters ts.following ts.left) so_far.2 goes _
          (shape c.in_ok-chain.chain) taken.0 taken.1
          (ap (map shape) c.in_ok-push.ensures.items ∙ map-append shape c.parts.parts.items (c.in_ok-chain.chain ∷ [])),
    )

pub returns-in_err-chain : goal.returns-in_err-chain
returns-in_err-chain g c ts at =
    let filters = registry_of g.F.ParseFilter.makes c.args.filters.now in
    let shape = chain_of g.F.Filter.Meant.shape in
    let so_far = c.parts.invariant ts at in
    let apart : c.comes_next.result ≡ false = search rules in
    let goes = sym (c.comes_next.ensures so_far.0 so_far.1) ∙ apart in
    let p = err_from_is_err_and c.from_residual.result c.from_residual.ensures.1 in
    rw (p.1, p.2) (part_refused filters (map shape c.parts.parts.items) so_far.0 (parts_from filters ts.following ts.left) so_far.2 goes
    (told c.in_err-chain.field-0.0) (c.in_err-chain.ensures.value so_far.0 so_far.1))

pub returns : goal.returns
returns g c ts at =
    let filters = registry_of g.F.ParseFilter.makes c.args.filters.now in
    let shape = chain_of g.F.Filter.Meant.shape in
    let so_far = c.parts.invariant ts at in
    let here : c.comes_next.result ≡ true = search rules in
    let ends = sym (c.comes_next.ensures so_far.0 so_far.1) ∙ here in
    let taken = c.in_ok-next_str.ensures.value so_far.0 so_far.1 in (
      taken.0,
      parts_end filters (map shape c.parts.parts.items) so_far.0 (parts_from filters ts.following ts.left) so_far.2 ends _ taken.0 taken.1,
      taken.2,
    )

pub returns-in_err-next_str : goal.returns-in_err-next_str
returns-in_err-next_str g c ts at =
    let filters = registry_of g.F.ParseFilter.makes c.args.filters.now in
    let shape = chain_of g.F.Filter.Meant.shape in
    let so_far = c.parts.invariant ts at in
    let here : c.comes_next.result ≡ true = search rules in
    let ends = sym (c.comes_next.ensures so_far.0 so_far.1) ∙ here in
    let p = err_from_is_err_and c.from_residual-in_err-next_str.result c.from_residual-in_err-next_str.ensures.1 in
    rw (p.1, p.2) (end_refused filters (map shape c.parts.parts.items) so_far.0 (parts_from filters ts.following ts.left) so_far.2 ends
    (told c.in_err-next_str.field-0.0) (c.in_err-next_str.ensures.value so_far.0 so_far.1))
