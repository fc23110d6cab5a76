use Rattle.std.proofs.Common.{sym, ◌∙◌, ap, string_bytes, map}
use Rattle.std.specs.Prelude.{nat_eq, ◌&&◌, ◌||◌, not, is_none, bytes_eq}
use Rattle.liquid_scopes.specs.steps.LinkLayers.{layer_of}
use Rattle.liquid_scopes.specs.steps.Standing.{stands, own_at, is_sandboxed, places_where}
use Rattle.liquid_scopes.specs.steps.Layers.{is_global}
use Rattle.liquid_scopes.proofs.FlatLaws.{fits_put, fits_kept}
use Rattle.liquid_scopes.proofs.table.Table.assign.Goals as goal

pub invariant_of-self-in-Ok-1 : goal.invariant_of-self-in-Ok-1
invariant_of-self-in-Ok-1 g c =
    let s = c.args.self.now in
    let q = string_bytes c.args.name in
    let i = c.args.place in
    record {
      fits =
          λ p j. fits_put (map layer_of s.links.items) (map layer_of c.put-2.new.links.items) s.unlisted i q p j
          (stands s.index.places p j) _ (sym c.is_at.ensures ∙ c.if-is_at.false) (c.in-Ok.ensures.names p j) (s.fits p j)
          (c.in_ok-note.ensures.noted p j ∙ ap (λ bs. stands s.index.places p j || (bytes_eq bs p && nat_eq j i))
          (c.as_str.ensures.value ∙ c.in_ok-kept.ensures.cases));
      seals_are = s.seals_are ∙ sym c.in-Ok.ensures.seals;
      globals_are = s.globals_are ∙ sym c.in-Ok.ensures.globals;
    }

pub invariant_of-self-in-Err : goal.invariant_of-self-in-Err
invariant_of-self-in-Err g c =
    let s = c.args.self.now in
    let q = string_bytes c.args.name in
    let i = c.args.place in
    let same = c.in-Err.ensures.unchanged in
    let kept = c.as_str-in-Err.ensures.value ∙ c.in_ok-kept.ensures.cases in
    record {
      fits =
          λ p j. fits_kept (map layer_of s.links.items) (map layer_of c.put-2.new.links.items) s.unlisted i q p j
          (stands s.index.places p j) (stands c.note.new.self.places p j) _ (sym c.is_at.ensures ∙ c.if-is_at.false) same (s.fits p j)
          (c.in_ok-note.ensures.noted p j ∙ ap (λ bs. stands s.index.places p j || (bytes_eq bs p && nat_eq j i))
          (c.as_str.ensures.value ∙ c.in_ok-kept.ensures.cases))
          (c.forget_absent.ensures p j
          ∙ ap (λ bs. stands c.note.new.self.places p j && not ((bytes_eq bs p
          && is_none (own_at i (map layer_of c.as_slice.result.now) bs)) && nat_eq j i)) kept
          ∙ ap (λ xs. stands c.note.new.self.places p j && not ((bytes_eq q p && is_none (own_at i (map layer_of xs) q)) && nat_eq j i))
          c.as_slice.ensures.value);
      seals_are = s.seals_are ∙ ap (places_where is_sandboxed 0) (sym same);
      globals_are = s.globals_are ∙ ap (places_where is_global 0) (sym same);
    }
