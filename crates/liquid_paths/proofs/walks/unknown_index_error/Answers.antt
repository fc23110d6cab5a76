use Rattle.liquid_value.specs.meaning.View.{view}
use Rattle.liquid_paths.specs.meaning.PathOf.{index_of, indexes_of}
use Rattle.liquid_paths.proofs.Refusals.{unknown_told}
use Rattle.liquid_paths.proofs.walks.unknown_index_error.Goals as goal

pub returns : goal.returns
returns c =
    unknown_told c.with_msg.result c.with_front-error.result c.context.result c.context-2.result (indexes_of c.args.front.now)
    (view c.args.value.now) (index_of c.args.index.now) c.as_str.result.now c.as_str-2.result.now
    c.with_msg.ensures c.with_front-error.ensures c.context.ensures c.context-2.ensures (cc (c.in-Ok.ensures, c.as_str.ensures.value))
    (cc (c.in-Ok-available_indexes.ensures, c.as_str-2.ensures.value))
