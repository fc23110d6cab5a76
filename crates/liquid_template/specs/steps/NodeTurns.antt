-- The results of the start and of the turns of one node.
use Rattle.std.specs.Prelude.{◌≡◌, Option, None, Some, Result, Ok, Err, IsOk, IsErrAnd, IfSome, OnSome}
use Rattle.liquid_error.specs.declared.error.Error.{Error}
use Rattle.liquid_error.specs.meaning.Told.{told}
use Rattle.liquid_runtime.specs.meaning.View.{View}
use Rattle.liquid_runtime.specs.meaning.Written.{with_written}
use Rattle.liquid_plugins.specs.meaning.Turns.{NodeMeaning}

abbrev pub Answer : Type 0
Answer = Result (Unit {0}) Error

-- the later answer says what the earlier one says
abbrev pub SaysSame : Answer → Answer → Type 0
SaysSame (Ok x) after = after ≡ Ok x
SaysSame (Err e) after = IsErrAnd after (λ new. told new ≡ told e)

-- a start: its progress, or its refusal
abbrev pub Begins : {N R Reg : Type 0} → NodeMeaning N R Reg → N → View Reg → View Reg → Answer → Option R → Type 0
Begins m n v w answer (Some p) = IsOk answer × ((m.starts n v).answer ≡ Ok p) × (w ≡ with_written (m.starts n v).written v)
Begins m n v w answer None =
    IsErrAnd answer (λ e. IfSome (told e) (λ r. (m.starts n v).answer ≡ Err r)
    × OnSome (told e) (w ≡ with_written (m.starts n v).written v))
