-- What the program's own types mean.
use Rattle.std.specs.Prelude.{ℕ, Bool, true, false, ◌++◌, List, Option, Some, None, option_map}
use denote.Bor.{Bor}
use Rattle.std.specs.List.{prefix_len, suffix_len}
use Rattle.std.specs.Str.{byte}
use Rattle.jekyll_source.specs.declared.literals.Quote.{Quote}
use Rattle.jekyll_source.specs.declared.literals.Quote.TheVariants.{Double, Single}
use Rattle.jekyll_source.specs.declared.pieces.Piece as code
use Rattle.jekyll_source.specs.declared.pieces.Piece.TheVariants.{Plain, Value, Tag as TagPiece}
use Rattle.jekyll_source.specs.declared.splits.ByteSet.{ByteSet}
use Rattle.jekyll_source.specs.declared.splits.ByteSet.TheVariants.{White, Blank, Word}
use Rattle.jekyll_source.specs.declared.tags.TagParts.{TagParts}
use Rattle.jekyll_source.specs.meaning.Blank.{Marked}
use Rattle.jekyll_source.specs.meaning.Piece.{Piece, plain, value, tag}
use Rattle.jekyll_source.specs.meaning.Splits.{is_blank, is_white, is_word}
use Rattle.jekyll_source.specs.meaning.Tags.{Tag}

-- whether a byte is of the set
abbrev pub contains : ByteSet → ℕ → Bool
contains White b = is_white b
contains Blank b = is_blank b
contains Word b = is_word b

abbrev pub quote_byte : Quote → ℕ
quote_byte Double = byte "\""
quote_byte Single = byte "'"

abbrev pub tag_view : TagParts → Tag
tag_view t = record {
  dash = t.dash.now;
  lead = t.lead.now;
  name = t.name.now;
  gap = t.gap.now;
  body = t.body.now;
  tail = t.tail.now;
  end_dash = t.end_dash.now;
}

abbrev pub piece_view : code.Piece → Piece
piece_view (Plain text) = plain text.now
piece_view (Value inner) = value inner.now
piece_view (TagPiece inner body) = tag inner.now body.now

abbrev pub marked_view : code.Piece × Bool → Marked
marked_view m = (piece_view m.0, m.1)

abbrev pub shown : Option (Bor (List ℕ)) → Option (List ℕ)
shown text = option_map (λ t. t.now) text

-- what was pushed, if it was
abbrev pub when : Bool → List ℕ → Option (List ℕ)
when true bytes = Some bytes
when false bytes = None
