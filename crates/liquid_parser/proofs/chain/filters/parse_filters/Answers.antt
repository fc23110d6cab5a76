use Rattle.std.proofs.Common.{◌++◌, ◌∷◌, [], map, sym, ap, ◌∙◌, subst, rules}
use Rattle.std.proofs.lemmas.Result.{err_from_is_err_and}
use Rattle.std.proofs.lemmas.List.{map_push}
use Rattle.liquid_error.specs.meaning.Told.{told}
use Rattle.liquid_grammar.specs.meaning.Faults.{filter_fault, first_fault}
use Rattle.liquid_parser.specs.meaning.Plugins.{registry_of}
use Rattle.liquid_parser.specs.meaning.Reading.{filters_read}
use Rattle.liquid_parser.proofs.FiltersLeft.{Left, left_all, left_next, left_none}
use Rattle.liquid_parser.proofs.TokenLemmas.{if_some_weaker}
use Rattle.liquid_parser.proofs.chain.filters.parse_filters.Goals as goal

pub filters-init : goal.filters-init
filters-init g c = (
  search rules,
  λ end fs m fine.
      subst (λ xs. Left (registry_of g.F.ParseFilter.makes c.args.registry.now) c.args.source.now c.args.s.now end
      (map g.F.Filter.Meant.shape xs) (filters_read (registry_of g.F.ParseFilter.makes c.args.registry.now) c.args.source.now fs)
      (first_fault filter_fault fs)) (sym c.new-filters.ensures.items)
      (left_all (registry_of g.F.ParseFilter.makes c.args.registry.now) c.args.source.now c.args.s.now end fs m),
)

pub filters-preserved : goal.filters-preserved
filters-preserved g c = (
  search rules,
  λ end fs m fine.
      let left = c.filters.invariant.1 end fs m fine in
      let next =
      left_next (registry_of g.F.ParseFilter.makes c.args.registry.now) c.args.source.now c.filters.rest.now end
      (map g.F.Filter.Meant.shape c.filters.filters.items) (filters_read
      (registry_of g.F.ParseFilter.makes c.args.registry.now) c.args.source.now fs) (first_fault filter_fault fs) c.in-Some.start left
      (c.in-Some.ensures.only end left.filters_left left.match) in
      let h = c.in_ok-filter.ensures.value next.middle next.filter next.found next.here (next.fine fine) in
      let made = next.made_next (next.fine fine) _ h.0 in
      subst (λ xs. Left (registry_of g.F.ParseFilter.makes c.args.registry.now) c.args.source.now c.in_ok-filter.following.now end xs
      (filters_read (registry_of g.F.ParseFilter.makes c.args.registry.now) c.args.source.now fs) (first_fault filter_fault fs))
      (sym (ap (map g.F.Filter.Meant.shape) c.in_ok-push.ensures.items
      ∙ map_push g.F.Filter.Meant.shape c.filters.filters.items c.in_ok-filter.filter))
      (subst (λ p. Left (registry_of g.F.ParseFilter.makes c.args.registry.now) c.args.source.now p end
      (map g.F.Filter.Meant.shape c.filters.filters.items ++ g.F.Filter.Meant.shape c.in_ok-filter.filter ∷ [])
      (filters_read (registry_of g.F.ParseFilter.makes c.args.registry.now) c.args.source.now fs) (first_fault filter_fault fs))
      (sym h.1) made),
)

pub returns-in_err-filter : goal.returns-in_err-filter
returns-in_err-filter g c end fs m fine =
    let left = c.filters.invariant.1 end fs m fine in
    let next =
    left_next (registry_of g.F.ParseFilter.makes c.args.registry.now) c.args.source.now c.filters.rest.now end
    (map g.F.Filter.Meant.shape c.filters.filters.items) (filters_read
    (registry_of g.F.ParseFilter.makes c.args.registry.now) c.args.source.now fs) (first_fault filter_fault fs) c.in-Some.start left
    (c.in-Some.ensures.only end left.filters_left left.match) in
    let p = err_from_is_err_and c.from_residual.result c.from_residual.ensures.1 in
    rw (p.1, p.2) (if_some_weaker (told c.in_err-filter.field-0.0) (λ r e. next.refused r e)
    (c.in_err-filter.ensures.value next.middle next.filter next.found next.here (next.fine fine)))

pub returns : goal.returns
returns g c end fs m fine =
    let left = c.filters.invariant.1 end fs m fine in
    let done =
    left_none (registry_of g.F.ParseFilter.makes c.args.registry.now) c.args.source.now c.filters.rest.now end
    (map g.F.Filter.Meant.shape c.filters.filters.items) (filters_read
    (registry_of g.F.ParseFilter.makes c.args.registry.now) c.args.source.now fs) (first_fault filter_fault fs) left
    (c.in_default.ensures.only end left.filters_left left.match) in
    done.1
