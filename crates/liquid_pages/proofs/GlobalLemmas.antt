-- An object's names, from its members.
use Rattle.std.proofs.Common.{◌≡◌, List, [], ◌∷◌, Some, Result, Ok, String, Global, BTreeMap, map, string_bytes, refl, ap, ◌∙◌}
use Rattle.std.specs.FinMap.{from_entries}
use Rattle.liquid_error.specs.meaning.Refusal.{Refusal}
use Rattle.liquid_value.specs.meaning.Tree.{Members}
use Rattle.liquid_value.specs.meaning.View.{view, members_view}
use Rattle.liquid_value.specs.declared.value.Value.{Value}
use Rattle.liquid_runtime.specs.meaning.Maps.{names_of}
use Rattle.liquid_pages.specs.meaning.Globals.{entries_of, global_names, names_given}

entries_viewed : (es : List (String Global × Value)) → entries_of (members_view es) ≡ map (λ e. (string_bytes e.0, view e.1)) es
entries_viewed [] = refl
entries_viewed (e ∷ es) = ap (λ more. (string_bytes e.0, view e.1) ∷ more) (entries_viewed es)

pub global_names-object : (object : BTreeMap (String Global) Value) → global_names (members_view object.entries) ≡ names_of object
unfolding names_of
global_names-object object = ap from_entries (entries_viewed object.entries)

-- an object that was given
pub object_given : (given : Result Members Refusal) (object : BTreeMap (String Global) Value) → given ≡ Ok (members_view object.entries)
    → names_given (Some given) ≡ Ok (names_of object)
object_given given object is = ap (λ g. names_given (Some g)) is ∙ ap Ok (global_names-object object)
