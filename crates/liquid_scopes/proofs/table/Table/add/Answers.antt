use Rattle.std.proofs.Common.{[], ◌∷◌, ◌++◌, ap, sym, ◌∙◌, cond, map, arith, rules}
use Rattle.liquid_scopes.specs.steps.Layers.{is_global}
use Rattle.liquid_scopes.specs.steps.LinkLayers.{layer_of}
use Rattle.liquid_scopes.specs.steps.Standing.{is_sandboxed, listed_at}
use Rattle.liquid_scopes.proofs.LayerLaws.{map_append}
use Rattle.liquid_scopes.proofs.Places.{kept_place}
use Rattle.liquid_scopes.proofs.table.Table.add.Goals as goal

pub invariant_of-self : goal.invariant_of-self
invariant_of-self g c =
    let s = c.make_room.new.self in
    let t = c.next_unlisted.new.self in
    let xs = t.links.items in
    let ys = c.push_reserved.new.self.items in
    let link = c.args.link in
    let place = c.len-place.result in
    record {
      fits = λ q j. c.next_unlisted.ensures.fits (search rules) q j
          ∙ ap (λ ls. listed_at ls t.unlisted q j) (sym (ap (map layer_of)
          (c.push_reserved.ensures.items ∙ ap (λ links. links.items ++ link ∷ []) c.next_unlisted.ensures.links)
          ∙ map_append layer_of s.links.items (link ∷ [])));
      seals_are =
          kept_place is_sandboxed layer_of xs ys link place _ _ c.push_reserved.ensures.items
          (omega (arith, c.len-place.ensures, t.links.ok.0)) t.seals_are
          (c.keep_place.ensures ∙ ap (λ b. t.seals.items ++ cond b (place ∷ []) []) c.is_sandboxed.ensures);
      globals_are =
          kept_place is_global layer_of xs ys link place _ _ c.push_reserved.ensures.items
          (omega (arith, c.len-place.ensures, t.links.ok.0)) t.globals_are
          (c.keep_place-2.ensures ∙ ap (λ b. t.globals.items ++ cond b (place ∷ []) []) c.is_global.ensures);
    }
