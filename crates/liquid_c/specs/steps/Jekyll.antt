-- A partial that holds its text, for proofs alone.
use Rattle.liquid_pages.specs.meaning.Shown.{NameAndText}
use Rattle.liquid_c.specs.declared.jekyll.ReadPartial.{ReadPartial}

abbrev pub partial_held : ReadPartial → NameAndText
partial_held p = (p.name.now, p.text.items)
