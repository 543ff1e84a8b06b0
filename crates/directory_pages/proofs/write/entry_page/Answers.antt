use Rattle.directory_pages.proofs.Pages.{page_made}
use Rattle.directory_pages.proofs.Shown.{shown_page}
use Rattle.directory_pages.proofs.write.entry_page.Goals as goal

pub returns : goal.returns
returns c =
    shown_page c.args.entries.now c.put_entries.new.page
    (page_made c.args.entries.now c.in_ok-page.page c.put_header.new.page c.put_entries.new.page c.requires c.in_ok-page.ensures.value c.put_header.ensures.value c.put_entries.ensures.value c.put_entries.ensures.fit)
