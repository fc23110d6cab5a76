use Rattle.liquid_value.specs.meaning.Cow.{cow_view}
use Rattle.liquid_filters.specs.meaning.Calls.{call_of}
use Rattle.liquid_filters.proofs.ArgumentSteps.{call_answer_erased}
use Rattle.liquid_filters.proofs.call.FilterCallFilter.evaluate.Goals as goal

pub returns : goal.returns
returns g c =
    rw (
      call_answer_erased g.K.FilterKind.sense (call_of c.args.self.now) (cow_view c.args.input.now) (g.R.Runtime.view c.args.runtime.now),
      ← c.as_view.ensures,
    )
    c.answer.ensures
