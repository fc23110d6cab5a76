-- Where pieces go while a part may be captured: the innermost open text, otherwise the caller's sink.
use Rattle.std.specs.Prelude.{◌≡◌, ℕ, List, Bool, true, false, Option, None, Some, option_map, string_bytes, String}
use Rattle.std.specs.declared.alloc.Global.{Global}
use Rattle.liquid_template.specs.meaning.Sunk.{Sunk}
use Rattle.liquid_template.specs.meaning.Output.{Output, Passed, Passes, Refuses}

-- the caller's sink and what its gate was asked, the innermost open text, if there is one, and the ghost name of the
-- sink
pub record Place : Type 0 where
  pub output : Output
  pub text : Option (List ℕ)
  pub sink_name : ℕ

abbrev pub place : Output → Option (List ℕ) → ℕ → Place
place output text sink_name = record { output = output; text = text; sink_name = sink_name }

abbrev pub text_of : Option (String Global) → Option (List ℕ)
text_of text = option_map (λ s. string_bytes s) text

-- a request for n passed, or was refused
abbrev pub Answers : Option Passed → ℕ → Option Passed → Bool → Type 0
Answers before n after true = Passes before n after
Answers before n after false = Refuses before 0 n after

-- a gate was asked for a turn
pub record TurnAsked (before after : Output) (answer : Bool) : Type 0 where
  pub turns : Answers before.turns 1 after.turns answer
  pub rest : after ≡ record before { turns = after.turns }

-- what takes the pieces, as an output: the open text, for which no bytes are asked, otherwise the sink
abbrev pub target_of : Output → Option (List ℕ) → Output
target_of output None = output
target_of output (Some text) = record {
  sunk = record { taken = text; failures = output.sunk.failures; destination = None; lent = output.sunk.lent };
  turns = output.turns;
  bytes = None;
}

abbrev pub target : Place → Output
target p = target_of p.output p.text

-- what is around an open text, and stays as it is: the sink, and the bytes that were asked; and what is borrowed
pub record Around : Type 0 where
  pub sunk : Option Sunk
  pub bytes : Option (Option Passed)
  pub sink_name : ℕ

abbrev pub around_of : Output → Option (List ℕ) → ℕ → Around
around_of output None sink_name = record { sunk = None; bytes = None; sink_name = sink_name }
around_of output (Some text) sink_name = record { sunk = Some output.sunk; bytes = Some output.bytes; sink_name = sink_name }

abbrev pub around : Place → Around
around p = around_of p.output p.text p.sink_name

-- another text is open, or none
pub record Swapped (before : Place) (text : Option (List ℕ)) (after : Place) : Type 0 where
  pub is : after ≡ place before.output text before.sink_name
