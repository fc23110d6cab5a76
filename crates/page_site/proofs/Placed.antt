-- A fault with a place says that a text is not of its format.
use Rattle.std.proofs.Common.{◌≡◌, ℕ, List, None}
use Rattle.liquid_json.specs.meaning.decimals.Given.{object_read}
use Rattle.page_site.specs.declared.data_files.fault.DataFault.{DataFault}
use Rattle.page_site.specs.declared.data_files.fault.DataFault.TheVariants as fault
use Rattle.page_site.specs.meaning.data_files.Document.{JsonRefused}
use Rattle.page_site.specs.meaning.data_files.Sheet.{IsPlaced}

pub no_json : (source : List ℕ) (e : DataFault) (M : Type 0) → IsPlaced e → (M → e ≡ fault.Memory)
    → ((M → ⊥) → object_read source ≡ None) → JsonRefused source e
no_json source fault.Memory M placed full none = tt
no_json source (fault.At line column cause) M placed full none =
    none (λ m. let same : fault.At line column cause ≡ fault.Memory = full m in cc)
no_json source (fault.Value e) M placed full none = absurd placed
