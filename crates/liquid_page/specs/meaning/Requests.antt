-- The words of a request.
use Rattle.std.specs.Prelude.{map}
use Rattle.liquid_page.specs.declared.request.Request.{Request}
use Rattle.liquid_page.specs.meaning.Command.{Words}
use Rattle.liquid_page.specs.meaning.Names.{text_given}

abbrev pub words_of : Request → Words
words_of request = record {
  templates = map (λ word. word.now) request.templates.items;
  data_words = map (λ word. word.now) request.data_words.items;
  sets = map (λ word. word.now) request.sets.items;
  folder = text_given request.folder;
  output = text_given request.output;
  is_jekyll = request.is_jekyll;
}
