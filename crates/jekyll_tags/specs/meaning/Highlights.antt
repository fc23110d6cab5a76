-- What a block of code renders.
use Rattle.std.specs.Prelude.{ℕ, List, ◌++◌, codes, string_bytes, Option, None, Some, Ok}
use Rattle.liquid_runtime.specs.meaning.Frames.{no_frame}
use Rattle.liquid_runtime.specs.meaning.View.{View}
use Rattle.liquid_plugins.specs.meaning.Turning.{answers, begins_with}
use Rattle.liquid_plugins.specs.meaning.Turns.{TurnShape, text_turn, capture_turn, NodeMeaning}
use Rattle.liquid_strings.specs.meaning.Escape.{escaped}
use Rattle.liquid_strings.specs.meaning.Replace.{replaced}
use Rattle.liquid_jekyll.specs.meaning.text.Spaces.{stripped}
use Rattle.jekyll_tags.specs.declared.highlight.Highlight.{Highlight}
use Rattle.jekyll_tags.specs.declared.highlight.HighlightShape.{HighlightShape}
use Rattle.jekyll_tags.specs.meaning.Seen.{text_seen}

-- the shape of a block of code
abbrev pub highlight_of : Highlight → HighlightShape
highlight_of h = record { language = string_bytes h.language }

-- the element of HTML with code of a language
abbrev pub figure : List ℕ → List ℕ → List ℕ
figure language code =
    codes "<figure class=\"highlight\"><pre><code class=\"language-" ++ (replaced (codes "+") (codes "-") language
    ++ (codes "\" data-lang=\"" ++ (language ++ (codes "\">" ++ (escaped (stripped code) ++ codes "</code></pre></figure>")))))

-- the element is written between the texts of `highlighter_prefix` and `highlighter_suffix`
abbrev pub code_turn : {Reg : Type 0} → HighlightShape → List ℕ → View Reg → TurnShape
code_turn h code v =
    text_turn ((text_seen (codes "highlighter_prefix") v ++ figure h.language code) ++ text_seen (codes "highlighter_suffix") v)

-- the part is captured first; once there is its text, it is written as code
abbrev pub turn_at : {Reg : Type 0} → HighlightShape → Option (List ℕ) → View Reg → TurnShape
turn_at h None v = capture_turn 0 no_frame None
turn_at h (Some code) v = code_turn h code v

-- two turns; the progress is the part's text, once there is one
abbrev pub highlight_nodes : {Reg : Type 0} → NodeMeaning HighlightShape (Option (List ℕ)) Reg
highlight_nodes = record {
  starts = λ h. begins_with None;
  count = λ progress. 2;
  takes = λ h progress v. answers (Ok (turn_at h progress v)) progress v;
  catches = λ h progress text. Some text;
}
