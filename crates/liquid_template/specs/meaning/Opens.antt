-- Whether the turns of tags and blocks open partials.
use Rattle.std.specs.Prelude.{◌≡◌, Bool, true, false, Result, Ok}
use Rattle.liquid_error.specs.meaning.Refusal.{Refusal}
use Rattle.liquid_runtime.specs.meaning.View.{View}
use Rattle.liquid_plugins.specs.meaning.Turns.{NodeMeaning, TurnShape, partial_turn}

-- a turn opens a partial
abbrev pub opens_partial : Result TurnShape Refusal → Bool
opens_partial (Ok (partial_turn name frame trace)) = true
opens_partial answer = false

-- no turn of these nodes does, whatever the view
abbrev pub OpensNone : {N P Reg : Type 0} → NodeMeaning N P Reg → Type 0
OpensNone {N = N} {P = P} {Reg = Reg} m = (n : N) → (p : P) → (v : View Reg) → opens_partial (m.takes n p v).answer ≡ false

-- no turn of these tags and blocks does
unfoldable pub OpenNone : {T P B Q Reg : Type 0} → NodeMeaning T P Reg → NodeMeaning B Q Reg → Type 0
OpenNone tags blocks = OpensNone tags × OpensNone blocks
