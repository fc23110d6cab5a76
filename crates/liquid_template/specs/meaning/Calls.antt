-- The promises of calls that render over scopes: `view` is what contracts see of the scopes, which are given as they were
-- before and after the call, and so are the sink and its gate.
use Rattle.std.specs.Prelude.{Result}
use Rattle.liquid_error.specs.declared.error.Error.{Error}
use Rattle.liquid_runtime.specs.meaning.View.{View}
use Rattle.liquid_template.specs.declared.gate.GatedSink.{GatedSink}
use Rattle.liquid_template.specs.meaning.Run.{Action}
use Rattle.liquid_template.specs.meaning.Sunk.{Sunk}
use Rattle.liquid_template.specs.meaning.Output.{Gated, Output, gated}
use Rattle.liquid_template.specs.meaning.Outcome.{RendersWithin}
use Rattle.liquid_template.specs.meaning.Sandboxed.{RendersSandboxed, SandboxedApart}
use Rattle.liquid_template.specs.meaning.Isolated.{RendersIsolated, IsolatedApart}

-- what contracts see of a sink with a gate
abbrev pub output_of : {K G : Type 0} → (K → Sunk) → (G → Gated) → GatedSink K G → Output
output_of sunk gate page = gated (sunk page.sink) (gate page.gate)

module _ {S K Reg : Type 0} (view : S → View Reg) (sunk : K → Sunk) where
  -- a call that renders in a sandbox, or in isolation, into a sink
  abbrev pub SandboxedTo : Reg → Action Reg → S → S → K → K → Result (Unit {0}) Error → Type 0
  SandboxedTo fresh action scopes left before after answer =
      RendersSandboxed fresh action (view scopes) (sunk before) (sunk after) (view left) answer

  abbrev pub IsolatedTo : Reg → Action Reg → S → S → K → K → Result (Unit {0}) Error → Type 0
  IsolatedTo fresh action scopes left before after answer =
      RendersIsolated fresh action (view scopes) (sunk before) (sunk after) (view left) answer

module _ {S K G Reg : Type 0} (view : S → View Reg) (sunk : K → Sunk) (gate : G → Gated) where
  -- a call that renders into a sink with a gate
  abbrev pub RendersGated : Action Reg → S → S → GatedSink K G → GatedSink K G → Result (Unit {0}) Error → Type 0
  RendersGated action scopes left before after answer =
      RendersWithin (action (view scopes)) (view scopes) (output_of sunk gate before) (output_of sunk gate after) (view left) answer

  -- its outcome is also that of the run over the emptied outside: in a sandbox, and in isolation
  abbrev pub SandboxedGated : Reg → Action Reg → S → S → GatedSink K G → GatedSink K G → Result (Unit {0}) Error → Type 0
  SandboxedGated fresh action scopes left before after answer =
      SandboxedApart fresh action (view scopes) (output_of sunk gate before) (output_of sunk gate after) (view left) answer

  abbrev pub IsolatedGated : Reg → Action Reg → S → S → GatedSink K G → GatedSink K G → Result (Unit {0}) Error → Type 0
  IsolatedGated fresh action scopes left before after answer =
      IsolatedApart fresh action (view scopes) (output_of sunk gate before) (output_of sunk gate after) (view left) answer
