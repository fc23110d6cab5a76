use Rattle.std.proofs.Common.{◌≡◌, ◌++◌, None, Some, sym, ap, ◌∙◌, subst}
use Rattle.std.specs.Prelude.{option_map}
use Rattle.std.specs.FinMap.{get}
use Rattle.liquid_error.specs.meaning.Told.{told, Becomes}
use Rattle.liquid_parser.specs.meaning.Handed.{place_in, slice_between}
use Rattle.liquid_parser.specs.meaning.Plugins.{registry_of}
use Rattle.liquid_parser.specs.meaning.Reading.{filter_or, refusal_of_filter}
use Rattle.liquid_parser.proofs.DispatchLemmas.{err_now}
use Rattle.liquid_parser.proofs.FiltersLeft.{made_ok, made_err, cut_here}
use Rattle.liquid_parser.proofs.chain.filters.parse_filter.Goals as goal

pub returns-in-None-clause-value : goal.returns-in-None-clause-value
returns-in-None-clause-value g c rest f is here fine =
    let none : option_map g.F.ParseFilter.makes (get c.args.registry.now f.what.0) ≡ None =
    subst (λ n. option_map g.F.ParseFilter.makes (get c.args.registry.now n) ≡ None) (sym is.name_is)
    (sym (ap (option_map g.F.ParseFilter.makes) c.in-None.ensures)) in
    err_now _ _ _ (ap (λ o. filter_or (registry_of g.F.ParseFilter.makes c.args.registry.now) c.args.source.now o f) none)
    (c.unknown_filter_error.ensures f is.place_is is.name_is)

pub returns-in-Ok-clause-value : goal.returns-in-Ok-clause-value
returns-in-Ok-clause-value g c rest f is here fine =
    let has : option_map g.F.ParseFilter.makes (get c.args.registry.now f.what.0) ≡ Some (g.F.ParseFilter.makes c.in-Some.plug_in.now) =
    subst (λ n. option_map g.F.ParseFilter.makes (get c.args.registry.now n) ≡ Some (g.F.ParseFilter.makes c.in-Some.plug_in.now))
    (sym is.name_is) (sym (ap (option_map g.F.ParseFilter.makes) c.in-Some.ensures)) in
    let h = rw c.in-Some-2.is at c.in_ok-arguments.ensures.value rest f.what.1 is.arguments in (
      made_ok (registry_of g.F.ParseFilter.makes c.args.registry.now) c.args.source.now
          (g.F.ParseFilter.makes c.in-Some.plug_in.now) f _ _ has h.1 c.in-Ok.ensures,
      h.2,
    )

pub returns-in-Err-clause-value : goal.returns-in-Err-clause-value
returns-in-Err-clause-value g c rest f is here fine =
    let has : option_map g.F.ParseFilter.makes (get c.args.registry.now f.what.0) ≡ Some (g.F.ParseFilter.makes c.in-Some.plug_in.now) =
    subst (λ n. option_map g.F.ParseFilter.makes (get c.args.registry.now n) ≡ Some (g.F.ParseFilter.makes c.in-Some.plug_in.now))
    (sym is.name_is) (sym (ap (option_map g.F.ParseFilter.makes) c.in-Some.ensures)) in
    let h = rw c.in-Some-2.is at c.in_ok-arguments.ensures.value rest f.what.1 is.arguments in
    let stands : c.args.start.place.now ≡ slice_between f.place f.following ++ c.in-Some-2.rest.now =
    sym is.place_is ∙ (cut_here f here ∙ ap (λ r. slice_between f.place f.following ++ r) (is.after_is ∙ sym h.2)) in
    made_err (registry_of g.F.ParseFilter.makes c.args.registry.now) c.args.source.now (g.F.ParseFilter.makes c.in-Some.plug_in.now) f _
    (told c.in-Err.error) (told c.filter_refused.result) has h.1 c.in-Err.ensures
    (subst (λ p. Becomes (refusal_of_filter (place_in c.args.source.now p) (slice_between f.place f.following)) c.in-Err.error
    c.filter_refused.result) (sym is.place_is) (c.filter_refused.ensures (slice_between f.place f.following) stands))

pub returns-in-None-2-clause-value : goal.returns-in-None-2-clause-value
returns-in-None-2-clause-value g c rest f is here fine =
    absurd ((rw c.in-None-2.is at c.in_ok-arguments.ensures.value rest f.what.1 is.arguments) fine)
