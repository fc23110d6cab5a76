-- The promises of calls that render over scopes, wherever pieces go: `view` and `place` are what contracts see of the scopes
-- and of the output, which are given as they were before and after the call.
use Rattle.std.specs.Prelude.{Result}
use Rattle.liquid_error.specs.declared.error.Error.{Error}
use Rattle.liquid_runtime.specs.meaning.View.{View}
use Rattle.liquid_template.specs.meaning.Run.{Action}
use Rattle.liquid_template.specs.meaning.Outcome.{RendersWithin}
use Rattle.liquid_template.specs.meaning.Sandboxed.{SandboxedApart}
use Rattle.liquid_template.specs.meaning.Isolated.{IsolatedApart}
use Rattle.liquid_template.specs.steps.Place.{Place, target}

module _ {S O Reg : Type 0} (view : S → View Reg) (place : O → Place) where
  -- the call renders
  abbrev pub RendersOut : Action Reg → S → S → O → O → Result (Unit {0}) Error → Type 0
  RendersOut action scopes left before after answer =
      RendersWithin (action (view scopes)) (view scopes) (target (place before)) (target (place after)) (view left) answer

  -- its outcome is also that of the run over the emptied outside: in a sandbox, and in isolation
  abbrev pub SandboxedOut : Reg → Action Reg → S → S → O → O → Result (Unit {0}) Error → Type 0
  SandboxedOut fresh action scopes left before after answer =
      SandboxedApart fresh action (view scopes) (target (place before)) (target (place after)) (view left) answer

  abbrev pub IsolatedOut : Reg → Action Reg → S → S → O → O → Result (Unit {0}) Error → Type 0
  IsolatedOut fresh action scopes left before after answer =
      IsolatedApart fresh action (view scopes) (target (place before)) (target (place after)) (view left) answer
