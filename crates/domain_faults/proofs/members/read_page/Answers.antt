use Rattle.std.proofs.Common.{length, ◌∙◌}
use Rattle.domain_faults.proofs.ReadPages.{page_read}
use Rattle.domain_faults.proofs.members.read_page.Goals as goal

pub returns-in-Ok-page_of-clause-page : goal.returns-in-Ok-page_of-clause-page
returns-in-Ok-page_of-clause-page g c told =
    page_read (g.R.Rack.disk c.args.rack.now).now.contents c.args.home.now.vol c.args.home.now.page c.in_ok-bytes.bytes.len (length c.deref_mut.result.now) c.read_blocks.new.out c.in_ok-bytes.bytes.items c.deref.result.now c.in-Ok-page_of.page
    c.in-Ok-page_of.ensures c.deref.ensures.value (c.in-Ok.ensures.bytes told) (c.deref_mut.ensures.len ∙ c.in_ok-bytes.ensures.len) c.in_ok-bytes.ensures.len
