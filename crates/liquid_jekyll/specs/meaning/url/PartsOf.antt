-- What the parts of a URL mean.
use Rattle.std.specs.Option.{option_map}
use Rattle.liquid_jekyll.specs.declared.url.parting.UrlParts.{UrlParts}
use Rattle.liquid_jekyll.specs.meaning.url.Parting.{UrlForm}

abbrev pub parts_of : UrlParts → UrlForm
parts_of p =
    record {
      scheme = option_map (λ t. t.now) p.scheme;
      authority = option_map (λ t. t.now) p.authority;
      path = p.path.now;
      query = option_map (λ t. t.now) p.query;
      fragment = option_map (λ t. t.now) p.fragment;
    }
