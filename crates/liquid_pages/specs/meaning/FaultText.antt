-- What a fault prints.
use Rattle.std.specs.Prelude.{ℕ, List, ◌++◌, Option, None, Some, codes}
use Rattle.std.specs.Fmt.{decimal}
use Rattle.liquid_error.specs.meaning.ErrorText.{error_text, line, refusal_text}
use Rattle.liquid_error.specs.meaning.Told.{told}
use Rattle.liquid_pages.specs.declared.fault.PageFault.{PageFault}
use Rattle.liquid_pages.specs.declared.fault.PageFault.TheVariants as page
use Rattle.liquid_pages.specs.declared.fault.PageText.{PageText}
use Rattle.liquid_pages.specs.declared.fault.PageText.TheVariants.{Template, Globals, PartialName, PartialText}
use Rattle.liquid_pages.specs.meaning.Faults.{Fault, no_text, bad_json, no_globals, unparsed, refused}

-- the name of a text of a page
abbrev pub text_name : PageText → List ℕ
text_name Template = codes "the template"
text_name Globals = codes "the text of the globals"
text_name (PartialName n) = codes "the name of partial " ++ decimal n
text_name (PartialText n) = codes "the text of partial " ++ decimal n

-- a text that is not UTF-8
abbrev pub no_text_line : PageText → List ℕ
no_text_line which = line (codes "liquid: " ++ (text_name which ++ codes " is not UTF-8"))

-- the text of bad JSON is left open
abbrev pub page_fault_text : PageFault → Option (List ℕ)
page_fault_text (page.NoText which) = Some (no_text_line which)
page_fault_text (page.BadJson error) = None
page_fault_text (page.NoGlobals error) = Some (error_text (told error))
page_fault_text (page.Unparsed error) = Some (error_text (told error))
page_fault_text (page.Refused error) = Some (error_text (told error))

-- the same by what a fault says
abbrev pub fault_text : Fault → Option (List ℕ)
fault_text (no_text which) = Some (no_text_line which)
fault_text bad_json = None
fault_text (no_globals refusal) = Some (refusal_text refusal)
fault_text (unparsed refusal) = Some (refusal_text refusal)
fault_text (refused refusal) = Some (refusal_text refusal)
