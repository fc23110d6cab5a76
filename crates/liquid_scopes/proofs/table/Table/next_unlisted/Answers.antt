use Rattle.std.proofs.Common.{map, sym, ap, ◌∙◌, arith, false, ◌≡◌, Some, [], ◌∷◌, ◌++◌, rules}
use Rattle.liquid_scopes.specs.steps.LinkLayers.{layer_of}
use Rattle.liquid_scopes.specs.steps.Standing.{listed_at}
use Rattle.liquid_scopes.proofs.LayerLaws.{map_length}
use Rattle.liquid_scopes.proofs.FlatLaws.{fits_next, fits_push, fits_nameless}
use Rattle.liquid_scopes.proofs.table.Table.next_unlisted.Goals as goal

pub returns-then-not-can_hold_names-clause-fits : goal.returns-then-not-can_hold_names-clause-fits
returns-then-not-can_hold_names-clause-fits g c = λ yes q j.
    let s = c.args.self.now in
    let none : c.can_hold_names.result ≡ false = search rules in
    fits_nameless (map layer_of s.links.items) (layer_of c.args.next.now) s.unlisted q j _ (c.can_hold_names.ensures none q) (s.fits q j)

pub invariant_of-self : goal.invariant_of-self
invariant_of-self g c =
    let s = c.list.new.self in
    record {
      fits =
          λ q j. fits_next (map layer_of s.links.items) s.unlisted q j c.len.result _
          (omega (arith, c.len.ensures, s.links.ok.0) ∙ sym (map_length layer_of s.links.items)) (c.list.ensures.listed (search rules))
          (s.fits q j);
      seals_are = s.seals_are;
      globals_are = s.globals_are;
    }

pub returns-clause-fits : goal.returns-clause-fits
returns-clause-fits g c = λ yes q j.
    let s = c.list.new.self in
    fits_push (map layer_of s.links.items) (layer_of c.args.next.now) s.unlisted q j c.len.result _
    (omega (arith, c.len.ensures, s.links.ok.0) ∙ sym (map_length layer_of s.links.items)) (c.list.ensures.listed (search rules))
    (s.fits q j)
    ∙ ap (λ links. listed_at (map layer_of links.items ++ layer_of c.args.next.now ∷ []) (Some c.len.result) q j) c.list.ensures.links
