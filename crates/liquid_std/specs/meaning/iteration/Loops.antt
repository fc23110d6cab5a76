-- Loops: what each goes over, and its rounds. Its turns are those of the loops of `liquid_tags`.
use Rattle.std.specs.Prelude.{◌+◌, pos, List, [], ◌∷◌, length, string_bytes, Option, None, Some, unwrap_or, Result, Ok}
use Rattle.liquid_error.specs.meaning.Refusal.{Refusal, ok_then}
use Rattle.liquid_value.specs.meaning.Tree.{Tree}
use Rattle.liquid_runtime.specs.meaning.View.{View}
use Rattle.liquid_tags.specs.declared.for_block.rounds.RoundsShape.{RoundsShape}
use Rattle.liquid_tags.specs.meaning.Series.{series_of}
use Rattle.liquid_std.specs.declared.iteration.loops.Loop.{Loop}
use Rattle.liquid_std.specs.declared.iteration.loops.LoopShape.{LoopShape}
use Rattle.liquid_std.specs.declared.iteration.rounds.Rounds.{Rounds}
use Rattle.liquid_std.specs.declared.iteration.scalars.OverScalar.{OverScalar}
use Rattle.liquid_std.specs.meaning.iteration.Options.{option_number, options_of}
use Rattle.liquid_std.specs.meaning.iteration.Picked.{picked, picked_left}
use Rattle.liquid_std.specs.meaning.iteration.Scalars.{items_over}

-- the shape of a loop
abbrev pub loop_of : Loop → LoopShape
loop_of l = record { name = string_bytes l.name; series = series_of l.series; options = options_of l.options }

-- the items of the series that the options pick; without `offset` these are the items from place 0 on
abbrev pub picked_items : {Reg : Type 0} → OverScalar → View Reg → LoopShape → Result (List Tree) Refusal
picked_items over v l =
    ok_then (items_over over v l.series) (λ ts.
    ok_then (option_number v l.options.offset) (λ offset. ok_then (option_number v l.options.limit) (λ limit.
    Ok (picked (unwrap_or offset (pos 0)) limit l.options.is_reversed ts))))

-- the shape of a loop's progress
abbrev pub rounds_of : Rounds → RoundsShape
rounds_of r = record { left = picked_left r.left; place = r.place; size = r.size; turns = r.turns }

-- a loop over these items, if there are any
abbrev pub rounds_over : List Tree → Option RoundsShape
rounds_over [] = None
rounds_over (t ∷ ts) = Some (record { left = t ∷ ts; place = 0; size = length (t ∷ ts); turns = length (t ∷ ts) + 1 })
