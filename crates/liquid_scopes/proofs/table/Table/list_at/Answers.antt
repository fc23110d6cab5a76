use Rattle.std.proofs.Common.{ap, ◌∙◌, sym, map, length, subst, ◌≤◌}
use Rattle.liquid_scopes.specs.steps.LinkLayers.{layer_of}
use Rattle.liquid_scopes.specs.steps.Standing.{listed_at, own_at}
use Rattle.liquid_scopes.proofs.FlatLaws.{fits_listed, fits_past, fits_undone, own_within}
use Rattle.liquid_scopes.proofs.table.Table.list_at.Goals as goal

pub invariant_of-self : goal.invariant_of-self
invariant_of-self g c =
    let s = c.args.self.now in
    let xs = s.links.items in
    record {
      fits =
          λ q j. fits_past layer_of xs q j c.args.place _ (subst (λ ys. length ys ≤ c.args.place) c.as_slice.ensures.value
          c.in-None.ensures.lookup.3) (s.fits q j ∙ ap (λ u. listed_at (map layer_of xs) u q j) c.requires);
      seals_are = s.seals_are;
      globals_are = s.globals_are;
    }

pub invariant_of-self-in-Ok : goal.invariant_of-self-in-Ok
invariant_of-self-in-Ok g c =
    let s = c.args.self.now in
    let xs = s.links.items in
    let link = c.in-Some.link.now in
    record {
      fits = λ q j. fits_listed layer_of xs link q j c.args.place _ _
          (own_within layer_of c.as_slice.result.now c.args.place link q c.in-Some.ensures.lookup.3.0 c.in-Some.ensures.lookup.1
          ∙ ap (λ ys. own_at c.args.place (map layer_of ys) q) c.as_slice.ensures.value)
          (s.fits q j ∙ ap (λ u. listed_at (map layer_of xs) u q j) c.requires) (c.in-Ok.ensures.noted q j);
      seals_are = s.seals_are;
      globals_are = s.globals_are;
    }

pub invariant_of-self-in-Err : goal.invariant_of-self-in-Err
invariant_of-self-in-Err g c =
    let s = c.args.self.now in
    let xs = s.links.items in
    let link = c.in-Some.link.now in
    record {
      fits =
          λ q j. fits_undone layer_of xs link q j c.args.place _ _ _
          (s.fits q j ∙ ap (λ u. listed_at (map layer_of xs) u q j) c.requires) (c.note.ensures.partly q j) (c.forget.ensures q j)
          ∙ ap (λ u. listed_at (map layer_of xs) u q j) (sym c.requires);
      seals_are = s.seals_are;
      globals_are = s.globals_are;
    }
