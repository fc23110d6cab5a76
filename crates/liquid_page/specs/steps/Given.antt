-- What was read for pages.
use Rattle.std.specs.Prelude.{map}
use Rattle.liquid_value.specs.meaning.View.{object_view}
use Rattle.page_site.specs.meaning.Faults.{partial_text}
use Rattle.page_site.specs.meaning.Items.{item_of}
use Rattle.liquid_page.specs.declared.run.Given.{Given}
use Rattle.liquid_page.specs.meaning.Command.{Site}

abbrev pub site_of : Given → Site
site_of given = record {
  names = object_view given.site.names;
  partials = partial_text given.site.partials.value;
  items = map item_of given.items.items;
}
