use Rattle.std.proofs.Common.{◌≡◌, Some, sym, ap, subst}
use Rattle.std.specs.Prelude.{option_map}
use Rattle.std.specs.FinMap.{get}
use Rattle.liquid_parser.specs.meaning.Plugins.{registry_of}
use Rattle.liquid_parser.proofs.FiltersLeft.{made_ok}
use Rattle.liquid_parser.proofs.chain.fast_path.fast_filter.Goals as goal

pub returns-in-Ok-clause-value : goal.returns-in-Ok-clause-value
returns-in-Ok-clause-value g c source rest f is =
    let has : option_map g.F.ParseFilter.makes (get c.args.registry.now f.what.0) ≡ Some (g.F.ParseFilter.makes c.in-Some.plug_in.now) =
    subst (λ n. option_map g.F.ParseFilter.makes (get c.args.registry.now n) ≡ Some (g.F.ParseFilter.makes c.in-Some.plug_in.now))
    (sym is.name_is) (sym (ap (option_map g.F.ParseFilter.makes) c.in-Some.ensures)) in
    let h = rw c.in-Some-2.is at c.in_ok-arguments.ensures.value rest f.what.1 is.arguments in (
      h.0,
      made_ok (registry_of g.F.ParseFilter.makes c.args.registry.now) source
          (g.F.ParseFilter.makes c.in-Some.plug_in.now) f _ _ has h.1 c.in-Ok.ensures,
      h.2,
    )
