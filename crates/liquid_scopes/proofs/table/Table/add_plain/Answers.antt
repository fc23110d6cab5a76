use Rattle.std.proofs.Common.{[], ◌∷◌, ◌++◌, ap, sym, refl, ◌∙◌, cond, map, length, rules}
use Rattle.liquid_scopes.specs.steps.Layers.{is_global}
use Rattle.liquid_scopes.specs.steps.LinkLayers.{layer_of}
use Rattle.liquid_scopes.specs.steps.Standing.{is_sandboxed, listed_at}
use Rattle.liquid_scopes.proofs.LayerLaws.{map_append}
use Rattle.std.proofs.lemmas.List.{append-nil}
use Rattle.liquid_scopes.proofs.Places.{kept_place}
use Rattle.liquid_scopes.proofs.table.Table.add_plain.Goals as goal

pub invariant_of-self-2 : goal.invariant_of-self-2
invariant_of-self-2 g c =
    let t = c.next_unlisted.new.self in
    let xs = t.links.items in
    let ys = c.push_reserved.new.self.items in
    let link = c.args.link in
    record {
      fits = λ q j. c.next_unlisted.ensures.fits (search rules) q j
          ∙ ap (λ ls. listed_at ls t.unlisted q j) (sym (ap (map layer_of)
          (c.push_reserved.ensures.items ∙ ap (λ links. links.items ++ link ∷ []) c.next_unlisted.ensures.links)
          ∙ map_append layer_of c.reserve.new.self.items (link ∷ [])));
      seals_are =
          kept_place is_sandboxed layer_of xs ys link (length xs) _ _ c.push_reserved.ensures.items refl t.seals_are
          (sym (append-nil t.seals.items)
          ∙ ap (λ b. t.seals.items ++ cond b (length xs ∷ []) []) (sym c.requires.not_sandboxed));
      globals_are =
          kept_place is_global layer_of xs ys link (length xs) _ _ c.push_reserved.ensures.items refl t.globals_are
          (sym (append-nil t.globals.items)
          ∙ ap (λ b. t.globals.items ++ cond b (length xs ∷ []) []) (sym c.requires.not_global));
    }
