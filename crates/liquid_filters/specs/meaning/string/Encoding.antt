-- What filters that encode and decode a string return.
use Rattle.std.specs.Prelude.{ℕ, List, Option, Some, None, Result, Ok, Err}
use Rattle.base64.specs.declared.decode.DecodeError.{DecodeError}
use Rattle.base64.specs.Engines.{standard, url_safe}
use Rattle.base64.specs.GeneralPurpose.{decode_of, encode_of}
use Rattle.liquid_error.specs.meaning.Refusal.{Refusal}
use Rattle.liquid_value.specs.meaning.Render.{render}
use Rattle.liquid_value.specs.meaning.Tree.{Tree, nil}
use Rattle.liquid_strings.specs.meaning.Url as url
use Rattle.liquid_strings.specs.meaning.Utf8.{text_of_bytes}
use Rattle.liquid_filters.specs.meaning.value.Errors.{decoded_no_text, invalid_base64}
use Rattle.liquid_filters.specs.meaning.string.Written.{written}

-- a string that was decoded, if the bytes are one
abbrev pub decoded_text : Option (List ℕ) → Result Tree Refusal
decoded_text (Some text) = Ok (written text)
decoded_text None = Err decoded_no_text

-- the text as a part of a URL; nil stays nil
abbrev pub url_encoded : Tree → Tree
url_encoded nil = nil
url_encoded input = written (url.url_encoded (render input))

-- the text of a part of a URL; nil stays nil
abbrev pub url_decoded : Tree → Result Tree Refusal
url_decoded nil = Ok nil
url_decoded input = decoded_text (url.url_decoded (render input))

-- the base64 of the text, with padding
abbrev pub base64_encoded : Tree → Tree
base64_encoded input = written (encode_of standard (render input))

-- bytes that were decoded, as a string, if there are any
abbrev pub decoded_bytes : Result (List ℕ) DecodeError → Result Tree Refusal
decoded_bytes (Ok bytes) = decoded_text (text_of_bytes bytes)
decoded_bytes (Err e) = Err invalid_base64

-- the text whose base64 is the input
abbrev pub base64_decoded : Tree → Result Tree Refusal
base64_decoded input = decoded_bytes (decode_of standard (render input))

-- the same with `-` and `_` in place of `+` and `/`, which mean something in URLs
abbrev pub base64_url_safe_encoded : Tree → Tree
base64_url_safe_encoded input = written (encode_of url_safe (render input))

abbrev pub base64_url_safe_decoded : Tree → Result Tree Refusal
base64_url_safe_decoded input = decoded_bytes (decode_of url_safe (render input))
