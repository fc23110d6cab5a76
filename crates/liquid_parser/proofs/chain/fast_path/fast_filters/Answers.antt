use Rattle.std.proofs.Common.{◌++◌, ◌∷◌, [], map, sym, ap, ◌∙◌, subst, rules}
use Rattle.std.proofs.lemmas.List.{map_push}
use Rattle.liquid_grammar.specs.meaning.Faults.{filter_fault, first_fault}
use Rattle.liquid_grammar.specs.meaning.Parts.{ClosesExpression}
use Rattle.liquid_parser.specs.meaning.Plugins.{registry_of}
use Rattle.liquid_parser.specs.meaning.Reading.{filters_read}
use Rattle.liquid_parser.specs.steps.Built.{Endless}
use Rattle.liquid_parser.proofs.FiltersLeft.{Left, left_all, left_next, left_none}
use Rattle.liquid_parser.proofs.chain.fast_path.fast_filters.Goals as goal

pub filters-init : goal.filters-init
filters-init g c = (
  search rules,
  search rules,
  λ source end fs m.
      subst (λ xs. Left (registry_of g.F.ParseFilter.makes c.args.registry.now) source c.args.s.now end (map g.F.Filter.Meant.shape xs)
      (filters_read (registry_of g.F.ParseFilter.makes c.args.registry.now) source fs) (first_fault filter_fault fs))
      (sym c.new-filters.ensures.items) (left_all (registry_of g.F.ParseFilter.makes c.args.registry.now) source c.args.s.now end fs m),
)

pub filters-preserved : goal.filters-preserved
filters-preserved g c = (
  search rules,
  search rules,
  λ source end fs m.
      let left = c.filters.invariant.2 source end fs m in
      let next =
      left_next (registry_of g.F.ParseFilter.makes c.args.registry.now) source c.filters.rest.now end
      (map g.F.Filter.Meant.shape c.filters.filters.items) (filters_read
      (registry_of g.F.ParseFilter.makes c.args.registry.now) source fs) (first_fault filter_fault fs) c.in-Some-Filter.start left
      (rw c.in-Some-Filter.field-0-is at (c.in-Some-Filter.ensures.only end left.filters_left left.match)) in
      let h = rw c.in-Some.is at c.in_ok-filter-in-Some-Filter.ensures.value source next.middle next.filter next.found in
      let made = next.made_next h.0 _ h.1 in
      subst (λ xs. Left (registry_of g.F.ParseFilter.makes c.args.registry.now) source c.in-Some.following.now end xs
      (filters_read (registry_of g.F.ParseFilter.makes c.args.registry.now) source fs) (first_fault filter_fault fs))
      (sym (ap (map g.F.Filter.Meant.shape) c.in_ok-push-in-Some.ensures.items
      ∙ map_push g.F.Filter.Meant.shape c.filters.filters.items c.in-Some.filter))
      (subst (λ p. Left (registry_of g.F.ParseFilter.makes c.args.registry.now) source p end
      (map g.F.Filter.Meant.shape c.filters.filters.items ++ g.F.Filter.Meant.shape c.in-Some.filter ∷ [])
      (filters_read (registry_of g.F.ParseFilter.makes c.args.registry.now) source fs) (first_fault filter_fault fs)) (sym h.2) made),
)

pub returns-in-Some-End-clause-value : goal.returns-in-Some-End-clause-value
returns-in-Some-End-clause-value g c source end fs m =
    let left = c.filters.invariant.2 source end fs m in
    let ended = rw c.in-Some-End.field-0-is at (c.in-Some-End.ensures.only end left.filters_left left.match) in
    let done =
    left_none (registry_of g.F.ParseFilter.makes c.args.registry.now) source c.filters.rest.now end
    (map g.F.Filter.Meant.shape c.filters.filters.items) (filters_read
    (registry_of g.F.ParseFilter.makes c.args.registry.now) source fs) (first_fault filter_fault fs) left ended.none in
    (done.0, done.1, subst (λ s. ClosesExpression s c.in-Some-End.following.now) (sym ended.none.ends) ended.closes)

pub returns-in-None-clause-value : goal.returns-in-None-clause-value
returns-in-None-clause-value g c source end fs m =
    let left = c.filters.invariant.2 source end fs m in
    let unclosed = c.in-None.ensures.only end left.filters_left left.match in
    subst Endless (sym unclosed.none.ends) unclosed.endless
