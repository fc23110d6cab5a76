use Rattle.std.proofs.Common.{◌≡◌, Ok, ap, sym, ◌∙◌, rules}
use Rattle.std.specs.Prelude.{string_bytes}
use Rattle.std.proofs.lemmas.Result.{err_from_is_err_and}
use Rattle.liquid_error.specs.meaning.Told.{told}
use Rattle.liquid_plugins.specs.meaning.Turns.{text_turn}
use Rattle.liquid_value.specs.meaning.Render.{render}
use Rattle.liquid_value.specs.meaning.Tree.{nil}
use Rattle.liquid_value.specs.meaning.View.{view as tree_of}
use Rattle.liquid_filters.specs.meaning.Calls.{call_of}
use Rattle.liquid_extend.proofs.TurnLemmas.{turn_refused, turn_written}
use Rattle.liquid_extend.proofs.text_tags.node.text_turn.Goals as goal

pub returns : goal.returns
returns g c =
    let shown : string_bytes c.in_ok-to_string.field-0 ≡ render (tree_of c.in_ok-text.text) = search rules in
    turn_written g.K.TextTag.sense (call_of c.args.call.now) nil (g.R.Runtime.view c.args.runtime.now) (tree_of c.in_ok-text.text)
    c.in_ok-text.ensures
    ∙ ap (λ b. Ok (text_turn b)) (sym shown)

pub returns-in_err-text : goal.returns-in_err-text
returns-in_err-text g c =
    let p = err_from_is_err_and c.from_residual.result c.from_residual.ensures.1 in
    rw (p.1, p.2) (turn_refused g.K.TextTag.sense (call_of c.args.call.now) nil (g.R.Runtime.view c.args.runtime.now)
    (told c.in_err-text.field-0.0) c.in_err-text.ensures)
