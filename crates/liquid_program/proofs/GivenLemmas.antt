-- What a fault of reading globals says of their JSON.
use Rattle.std.proofs.Common.{
  ◌≡◌,
  ◌∙◌,
  ◌↔◌,
  List,
  ℕ,
  Bool,
  true,
  false,
  Option,
  None,
  Some,
  Result,
  Ok,
  Err,
  option_map,
  IfSome,
  IsNone,
  IsTrue,
  sym,
  ap,
  refl,
  true≢false,
}
use Rattle.std.specs.Prelude.{is_some}
use Rattle.liquid_error.specs.meaning.Refusal.{Refusal}
use Rattle.liquid_value.specs.meaning.Tree.{Members}
use Rattle.liquid_runtime.specs.meaning.Maps.{Names}
use Rattle.liquid_pages.specs.meaning.Faults.{
  Fault as PageFault,
  bad_json as page_bad_json,
  no_globals as page_no_globals,
  no_text,
  unparsed,
  refused,
}
use Rattle.liquid_pages.specs.meaning.Globals.{names_given}
use Rattle.liquid_program.specs.meaning.Requests.{Trouble, bad_json, no_globals, object_trouble}

abbrev is_bad_json : Result Names PageFault → Bool
is_bad_json (Ok names) = false
is_bad_json (Err (no_text which)) = false
is_bad_json (Err page_bad_json) = true
is_bad_json (Err (page_no_globals refusal)) = false
is_bad_json (Err (unparsed refusal)) = false
is_bad_json (Err (refused refusal)) = false

abbrev refusal_in : Result Names PageFault → Option Refusal
refusal_in (Ok names) = None
refusal_in (Err (no_text which)) = None
refusal_in (Err page_bad_json) = None
refusal_in (Err (page_no_globals refusal)) = Some refusal
refusal_in (Err (unparsed refusal)) = None
refusal_in (Err (refused refusal)) = None

-- a text that is not JSON
pub json_is_bad : (path : List ℕ) (given : Option (Result Members Refusal)) → names_given given ≡ Err page_bad_json
    → object_trouble path given ≡ Some (bad_json path)
json_is_bad path None is = refl
json_is_bad path (Some (Err refusal)) is = absurd (true≢false (sym (ap is_bad_json is)))
json_is_bad path (Some (Ok _)) is = absurd (true≢false (sym (ap is_bad_json is)))

-- JSON that is not an object of values
refused_given : (path : List ℕ) (given : Option (Result Members Refusal)) (r : Refusal) → names_given given ≡ Err (page_no_globals r)
    → object_trouble path given ≡ Some (no_globals r)
refused_given path None r is = absurd (true≢false (ap is_bad_json is))
refused_given path (Some (Err refusal)) r is = ap (λ o. option_map no_globals o) (ap refusal_in is)
refused_given path (Some (Ok _)) r is = absurd (true≢false (sym (ap is_some (ap refusal_in is))))

pub json_is_refused : (path : List ℕ) (given : Option (Result Members Refusal)) (said : Option Refusal) (b : Bool)
    → IfSome (option_map page_no_globals said) (λ f. names_given given ≡ Err f) → (IsTrue b ↔ IsNone said) → b ≡ false
    → (trouble : Trouble) × (object_trouble path given ≡ Some trouble) × (option_map no_globals said ≡ Some trouble)
json_is_refused path given None b is memory kept = absurd (true≢false (sym (memory.1 refl) ∙ kept))
json_is_refused path given (Some r) b is memory kept = (no_globals r, refused_given path given r is, refl)
