use Rattle.std.proofs.Common.{sym, ◌∙◌, ap, refl, ◌∷◌, map}
use Rattle.liquid_runtime.specs.meaning.Calls.{shaped}
use Rattle.liquid_runtime.specs.meaning.Frames.{scope_base}
use Rattle.liquid_scopes.specs.steps.Layers.{shown_over, restoring}
use Rattle.liquid_scopes.specs.steps.LinkLayers.{layer_of}
use Rattle.liquid_scopes.proofs.LayerLaws.{shown_with_registers, restoring_with_registers, shown_registers}
use Rattle.liquid_scopes.proofs.flat_scopes.FlatScopesRuntime.registers_mut.Goals as goal

pub returns : goal.returns
returns g c =
    let s = c.args.self.now in
    let ls = map layer_of s.table.links.items in (
      (refl, λ w. refl),
      record {
        lends = tt;
        after =
            λ w. ap (λ v. shown_over v ls) (c.registers_mut.ensures.after w)
            ∙ shown_with_registers (g.R.Runtime.view s.base) ls (shaped g.R.Register.Fresh.shape w);
        store = c.registers_mut.ensures.store;
        owes =
            λ w. ap (λ v. restoring g.R.Register.Fresh.shape v ls (scope_base ∷ g.R.Runtime.restores (g.R.Runtime.relent s.base w)))
            (c.registers_mut.ensures.after w)
            ∙ restoring_with_registers g.R.Register.Fresh.shape (g.R.Runtime.view s.base) ls (shaped g.R.Register.Fresh.shape w)
            (scope_base ∷ g.R.Runtime.restores (g.R.Runtime.relent s.base w))
            ∙ ap (λ rs. restoring g.R.Register.Fresh.shape (g.R.Runtime.view s.base) ls (scope_base ∷ rs)) (c.registers_mut.ensures.owes w);
        borrows = c.registers_mut.ensures.borrows;
        value = c.registers_mut.ensures.value ∙ sym (shown_registers (g.R.Runtime.view s.base) ls);
      },
    )
