use Rattle.std.proofs.Common.{sym}
use Rattle.domain_faults.proofs.Meanings.{meaning_of}
use Rattle.domain_faults.proofs.meaning.meaning_of_domain.Goals as goal

pub returns-in-Ok-meaning_of_pages-clause-meaning : goal.returns-in-Ok-meaning_of_pages-clause-meaning
returns-in-Ok-meaning_of_pages-clause-meaning g c told recovered =
    meaning_of (g.R.Rack.disk c.args.rack.now) c.args.redone.now c.in-Some.version _ c.in-Ok.ensures.pages told recovered.0 recovered.1 (sym c.in-Some.ensures.value) c.in-Ok-meaning_of_pages.meaning c.in-Ok-meaning_of_pages.ensures
