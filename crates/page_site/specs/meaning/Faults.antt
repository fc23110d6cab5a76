-- What the faults of a page say.
use Rattle.std.specs.Prelude.{ℕ, List, Option, Some, None, String, option_map, string_bytes}
use Rattle.std.specs.BTreeMap.{BTreeMap, get_by_text}
use Rattle.std.specs.declared.alloc.Global.{Global}
use Rattle.page_site.specs.declared.fault.PageFault.{PageFault}
use Rattle.page_site.specs.declared.fault.PageFault.TheVariants.{Memory, NoLayout, LayoutAgain, BadFront, Unrendered}
use Rattle.page_site.specs.meaning.Layouts.{Trouble, no_layout, layout_again, bad_front, unrendered}

-- the trouble that a fault names. Running out of memory is none
abbrev pub trouble_of : PageFault → Option Trouble
trouble_of Memory = None
trouble_of (NoLayout name) = Some (no_layout (string_bytes name))
trouble_of (LayoutAgain name) = Some (layout_again (string_bytes name))
trouble_of (BadFront path fault) = Some bad_front
trouble_of (Unrendered message) = Some unrendered

-- the text of a partial
abbrev pub partial_text : BTreeMap (String Global) (String Global) → List ℕ → Option (List ℕ)
partial_text partials name = option_map string_bytes (get_by_text partials name)
