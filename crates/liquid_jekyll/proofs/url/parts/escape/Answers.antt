use Rattle.liquid_jekyll.specs.declared.url.parts.UrlPart.TheVariants.{Whole, Segment, Field, Fragment}
use Rattle.liquid_jekyll.proofs.PartLemmas.{all_bytes}
use Rattle.liquid_jekyll.proofs.url.parts.escape.Goals as goal

pub returns-in-Whole : goal.returns-in-Whole
returns-in-Whole c = rw (c.in-Whole.is, ← all_bytes Whole c.args.bytes.now) c.escape_set.ensures

pub returns-in-Segment : goal.returns-in-Segment
returns-in-Segment c = rw (c.in-Segment.is, ← all_bytes Segment c.args.bytes.now) c.escape_set-in-Segment.ensures

pub returns-in-Field : goal.returns-in-Field
returns-in-Field c = rw (c.in-Field.is, ← all_bytes Field c.args.bytes.now) c.escape_set-in-Field.ensures

pub returns-in-Fragment : goal.returns-in-Fragment
returns-in-Fragment c = rw (c.in-Fragment.is, ← all_bytes Fragment c.args.bytes.now) c.escape_set-in-Fragment.ensures
