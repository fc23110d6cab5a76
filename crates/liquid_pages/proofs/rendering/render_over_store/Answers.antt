use Rattle.std.proofs.Common.{ap, option_map, ◌∙◌}
use Rattle.liquid_pages.specs.declared.options.PageFrame.TheVariants.{Open, Sandboxed, Isolated}
use Rattle.liquid_pages.specs.meaning.Pages.{built_over}
use Rattle.liquid_pages.proofs.PageLemmas.{answer_over}
use Rattle.liquid_pages.proofs.rendering.render_over_store.Goals as goal

pub returns-in-Open-clause-renders : goal.returns-in-Open-clause-renders
returns-in-Open-clause-renders g c = λ l partials is_found.
    answer_over _ l c.args.options Open _ _ _ _ _ _ _ partials _ _ _ c.in-Open.is c.room_of-room.ensures
    c.render_in_room-answer.ensures.renders (ap (option_map _) c.runtime_of-runtime.ensures.store) c.runtime_of-runtime.ensures.view
    is_found

pub returns-in-Sandboxed-clause-renders : goal.returns-in-Sandboxed-clause-renders
returns-in-Sandboxed-clause-renders g c = λ l partials is_found.
    answer_over _ l c.args.options Sandboxed _ _ _ _ _ _ _ partials _ _ _ c.in-Sandboxed.is c.room_of-room.ensures
    c.render_sandboxed_in_room-answer.ensures.renders (ap (option_map _) c.runtime_of-runtime-in-Sandboxed.ensures.store)
    (c.runtime_of-runtime-in-Sandboxed.ensures.view ∙ ap (built_over _ c.args.options.leniency) c.no_names.ensures) is_found

pub returns-in-Isolated-clause-renders : goal.returns-in-Isolated-clause-renders
returns-in-Isolated-clause-renders g c = λ l partials is_found.
    answer_over _ l c.args.options Isolated _ _ _ _ _ _ _ partials _ _ _ c.in-Isolated.is c.room_of-room.ensures
    c.render_isolated_in_room-answer.ensures.renders (ap (option_map _) c.runtime_of-runtime-in-Isolated.ensures.store)
    (c.runtime_of-runtime-in-Isolated.ensures.view ∙ ap (built_over _ c.args.options.leniency) c.no_names-in-Isolated.ensures) is_found
