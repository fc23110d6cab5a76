use Rattle.std.proofs.Common.{[], ◌∷◌, ◌++◌, sym, ap, ◌∙◌, cond, arith}
use Rattle.std.proofs.lemmas.List.{append-nil}
use Rattle.std.specs.Prelude.{is_some, nat_eq, ◌&&◌, not}
use Rattle.std.specs.FinMap.{get}
use Rattle.liquid_runtime.specs.meaning.LoopNames.{loop_names}
use Rattle.liquid_scopes.specs.declared.link.Link.TheVariants as link
use Rattle.liquid_scopes.specs.steps.Layers.{is_global}
use Rattle.liquid_scopes.specs.steps.LinkLayers.{layer_of}
use Rattle.liquid_scopes.specs.steps.Standing.{stands, is_sandboxed}
use Rattle.liquid_scopes.proofs.FlatLaws.{fits_pop, fits_pop_unlisted}
use Rattle.liquid_scopes.proofs.Places.{dropped_place}
use Rattle.liquid_scopes.proofs.table.Table.take.Goals as goal

pub invariant_of-self : goal.invariant_of-self
invariant_of-self g c =
    let xs = c.args.self.now.links.items in
    let ys = c.pop.new.self.items in
    let taken = link.Loop c.in-Some-Loop.frame in
    let is = c.in-Some-Loop.ensures.items ∙ ap (λ l. ys ++ l ∷ []) c.in-Some-Loop.field-0-is in
    record {
      fits =
          λ q j. fits_pop_unlisted layer_of xs ys taken c.args.self.now.unlisted q j c.len-place.result _ is
          (omega (arith, c.len-place.ensures, c.pop.new.self.ok.0)) (sym c.is_at.ensures ∙ c.if-is_at.true) (c.args.self.now.fits q j);
      seals_are =
          dropped_place is_sandboxed layer_of xs ys taken _ _ is c.args.self.now.seals_are
          (λ kept place e. e ∙ append-nil kept);
      globals_are =
          dropped_place is_global layer_of xs ys taken _ _ is c.args.self.now.globals_are
          (λ kept place e. e ∙ append-nil kept);
    }

pub invariant_of-self-in-Some-Loop : goal.invariant_of-self-in-Some-Loop
invariant_of-self-in-Some-Loop g c =
    let xs = c.args.self.now.links.items in
    let ys = c.pop.new.self.items in
    let taken = link.Loop c.in-Some-Loop.frame in
    let is = c.in-Some-Loop.ensures.items ∙ ap (λ l. ys ++ l ∷ []) c.in-Some-Loop.field-0-is in
    record {
      fits =
          λ q j. fits_pop layer_of xs ys taken c.args.self.now.unlisted q j c.len-place.result _ _ is
          (omega (arith, c.len-place.ensures, c.pop.new.self.ok.0)) (c.args.self.now.fits q j) (c.forget_loop.ensures q j
          ∙ ap (λ l. stands c.args.self.now.index.places q j && not (is_some (get (loop_names l) q) && nat_eq j c.len-place.result))
          c.deref.ensures);
      seals_are =
          dropped_place is_sandboxed layer_of xs ys taken _ _ is c.args.self.now.seals_are
          (λ kept place e. e ∙ append-nil kept);
      globals_are =
          dropped_place is_global layer_of xs ys taken _ _ is c.args.self.now.globals_are
          (λ kept place e. e ∙ append-nil kept);
    }

pub invariant_of-self-then-is_at-2 : goal.invariant_of-self-then-is_at-2
invariant_of-self-then-is_at-2 g c =
    let xs = c.args.self.now.links.items in
    let ys = c.pop.new.self.items in
    record {
      fits =
          λ q j. fits_pop_unlisted layer_of xs ys c.in-Some.link c.args.self.now.unlisted q j c.len-place-in-Some.result _
          c.in-Some.ensures.items (omega (arith, c.len-place-in-Some.ensures, c.pop.new.self.ok.0))
          (sym c.is_at-in-Some.ensures ∙ c.if-is_at-2.true) (c.args.self.now.fits q j);
      seals_are =
          dropped_place is_sandboxed layer_of xs ys c.in-Some.link _ _ c.in-Some.ensures.items c.args.self.now.seals_are
          (λ kept place e. c.drop_place.ensures kept place (e ∙ ap (λ b. kept ++ cond b (place ∷ []) []) (sym c.is_sandboxed.ensures)));
      globals_are =
          dropped_place is_global layer_of xs ys c.in-Some.link _ _ c.in-Some.ensures.items c.args.self.now.globals_are
          (λ kept place e. c.drop_place-in-Some.ensures kept place (e ∙ ap (λ b. kept ++ cond b (place ∷ []) [])
          (sym c.is_global.ensures)));
    }

pub invariant_of-self-in-Some : goal.invariant_of-self-in-Some
invariant_of-self-in-Some g c =
    let xs = c.args.self.now.links.items in
    let ys = c.pop.new.self.items in
    record {
      fits =
          λ q j. fits_pop layer_of xs ys c.in-Some.link c.args.self.now.unlisted q j c.len-place-in-Some.result _ _ c.in-Some.ensures.items
          (omega (arith, c.len-place-in-Some.ensures, c.pop.new.self.ok.0)) (c.args.self.now.fits q j) (c.forget.ensures q j);
      seals_are =
          dropped_place is_sandboxed layer_of xs ys c.in-Some.link _ _ c.in-Some.ensures.items c.args.self.now.seals_are
          (λ kept place e. c.drop_place.ensures kept place (e ∙ ap (λ b. kept ++ cond b (place ∷ []) []) (sym c.is_sandboxed.ensures)));
      globals_are =
          dropped_place is_global layer_of xs ys c.in-Some.link _ _ c.in-Some.ensures.items c.args.self.now.globals_are
          (λ kept place e. c.drop_place-in-Some.ensures kept place (e ∙ ap (λ b. kept ++ cond b (place ∷ []) [])
          (sym c.is_global.ensures)));
    }
