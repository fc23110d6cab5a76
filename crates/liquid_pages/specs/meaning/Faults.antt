-- Why a page is not rendered, or not to its end.
use Rattle.std.specs.Prelude.{◌≡◌, ℕ, List, Option, Some, Result, Ok, Err, option_map, IfSome, if◌then◌else◌}
use Rattle.std.specs.Str.{is_utf8}
use Rattle.liquid_error.specs.meaning.Refusal.{Refusal}
use Rattle.liquid_error.specs.meaning.Told.{told}
use Rattle.liquid_pages.specs.declared.fault.PageFault.{PageFault}
use Rattle.liquid_pages.specs.declared.fault.PageFault.TheVariants as page
use Rattle.liquid_pages.specs.declared.fault.PageText.{PageText}

-- a text that is not UTF-8, a text that is not JSON, JSON that is not an object of values, a template that can't be
-- parsed, and a refusal while it was rendered
pub data Fault : Type 0 where
  no_text : PageText → Fault
  bad_json : Fault
  no_globals : Refusal → Fault
  unparsed : Refusal → Fault
  refused : Refusal → Fault

-- what a fault says; nothing if memory ran out
abbrev pub fault_told : PageFault → Option Fault
fault_told (page.NoText which) = Some (no_text which)
fault_told (page.BadJson error) = Some bad_json
fault_told (page.NoGlobals error) = option_map no_globals (told error)
fault_told (page.Unparsed error) = option_map unparsed (told error)
fault_told (page.Refused error) = option_map refused (told error)

-- the call returns what is meant: the value, or the fault; an out-of-memory error says nothing about the meaning
abbrev pub Returns : {A B : Type 0} → (A → B) → Result A PageFault → Result B Fault → Type 0
Returns of (Ok x) meant = meant ≡ Ok (of x)
Returns of (Err fault) meant = IfSome (fault_told fault) (λ f. meant ≡ Err f)

-- one step after another: a value is passed on, and the first fault is the result
abbrev pub and_then : {A B : Type 0} → Result A Fault → (A → Result B Fault) → Result B Fault
and_then (Ok x) next = next x
and_then (Err fault) next = Err fault

-- bytes that are UTF-8 are a text
abbrev pub text_read : PageText → List ℕ → Result (List ℕ) Fault
text_read which bytes = if is_utf8 bytes then Ok bytes else Err (no_text which)
