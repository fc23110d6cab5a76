-- Strings that a host has rendered for a filter, in the object `rendered`.
use Rattle.std.specs.Prelude.{ℕ, List, codes, Option, Result, Ok, ok_or, option_and_then, option_map}
use Rattle.std.specs.Option.{option_map_or}
use Rattle.liquid_error.specs.meaning.Refusal.{Refusal, plain, with_context}
use Rattle.liquid_value.specs.meaning.Render.{render}
use Rattle.liquid_value.specs.meaning.Tree.{Tree}
use Rattle.liquid_runtime.specs.meaning.View.{View}
use Rattle.liquid_filters.specs.meaning.string.Written.{written}
use Rattle.liquid_jekyll.specs.meaning.text.Typography.{smartened}
use Rattle.liquid_jekyll.specs.meaning.Seen.{member, value_seen}

-- the refusal of a string that the host has not rendered
abbrev pub no_rendered_text : List ℕ → List ℕ → Refusal
no_rendered_text filter text = with_context (codes "text") text (with_context (codes "filter") filter (plain (codes "No rendered text")))

-- the entry of a string among those of a filter
abbrev pub entry : List ℕ → List ℕ → Tree → Option Tree
entry filter text rendered = option_and_then (member text) (member filter rendered)

-- what the host has rendered of the input's text
abbrev pub rendered_text : {Reg : Type 0} → List ℕ → Tree → View Reg → Result Tree Refusal
rendered_text filter input v =
    ok_or (entry filter (render input) (value_seen (codes "rendered") v)) (no_rendered_text filter (render input))

-- a string with typographic signs, if that needs no reader of HTML
abbrev pub typographic : List ℕ → Result Tree Refusal
typographic text = ok_or (option_map written (smartened text)) (no_rendered_text (codes "smartify") text)

-- the same as the host has rendered it, or else so
abbrev pub smart_text : {Reg : Type 0} → Tree → View Reg → Result Tree Refusal
smart_text input v =
    option_map_or (λ t. Ok t) (entry (codes "smartify") (render input) (value_seen (codes "rendered") v)) (typographic (render input))
