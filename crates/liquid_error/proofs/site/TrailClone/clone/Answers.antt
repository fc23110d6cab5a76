use Rattle.std.proofs.Common.{refl}
use Rattle.liquid_error.specs.meaning.Sites.{site_of}
use Rattle.liquid_error.proofs.Causes.{same_clones}
use Rattle.liquid_error.proofs.site.TrailClone.clone.Goals as goal

pub returns : goal.returns
returns c =
    record {
      cases =
          (refl, refl, same_clones site_of c.args.self.now.sites.items c.in_ok-sites.sites.items c.in_ok-sites.ensures.cases.0);
    }
