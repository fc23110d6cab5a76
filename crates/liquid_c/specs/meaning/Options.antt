-- The options of a page as C gives them: a number of six bits, and two limits.
use Rattle.std.specs.Prelude.{ℕ, Bool, true, false, Option, None, Some, not, nat_eq, bit_and, if◌then◌else◌}
use Rattle.liquid_runtime.specs.declared.leniency.Leniency.{Leniency}
use Rattle.liquid_runtime.specs.declared.leniency.Leniency.TheVariants.{Indexes}
use Rattle.liquid_runtime.specs.meaning.Leniency.{lenient_paths}
use Rattle.liquid_pages.specs.declared.options.PageFrame.{PageFrame}
use Rattle.liquid_pages.specs.declared.options.PageFrame.TheVariants.{Open, Sandboxed, Isolated}
use Rattle.liquid_pages.specs.declared.options.PageOptions.{PageOptions}
use Rattle.liquid_c.specs.declared.languages.Dialect.{Dialect}
use Rattle.liquid_c.specs.declared.languages.Dialect.TheVariants.{Plain, Standard, Jekyll}
use Rattle.liquid_c.specs.declared.page.Page.{Page}

abbrev pub has_bit : ℕ → ℕ → Bool
has_bit options bit = not (nat_eq (bit_and options bit) 0)

-- 0 means no limit
abbrev pub limit_of : ℕ → Option ℕ
limit_of number = if nat_eq number 0 then None else Some number

-- in a sandbox or not, and in which language
abbrev pub page_frame : Bool → Dialect → PageFrame
page_frame false dialect = Open
page_frame true Plain = Sandboxed
page_frame true Standard = Isolated
page_frame true Jekyll = Isolated

-- bit 5: Jekyll's language; bit 2: the standard one
abbrev pub dialect_of : ℕ → Dialect
dialect_of options = if has_bit options 32 then Jekyll else if has_bit options 4 then Standard else Plain

-- bit 1: a name without a value is nil. In Jekyll's language an index that is not a scalar is nil, too
abbrev pub leniency_of : ℕ → Leniency
leniency_of options = if has_bit options 32 then Indexes else lenient_paths (has_bit options 2)

-- bit 0: sandboxed; bit 3: with decimals
abbrev pub page_options : Page → PageOptions
page_options asked =
    record {
      frame = page_frame (has_bit asked.options 1) (dialect_of asked.options);
      decimals = has_bit asked.options 8;
      leniency = leniency_of asked.options;
      max_turns = limit_of asked.max_turns;
      max_bytes = limit_of asked.max_bytes;
    }
