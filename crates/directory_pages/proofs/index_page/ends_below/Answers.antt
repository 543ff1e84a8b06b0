use Rattle.std.proofs.Common.{◌∙◌, ◌-◌, ◌<◌, sym, ap, subst}
use Rattle.directory_pages.specs.Entries.{is_below}
use Rattle.directory_pages.specs.Index.{entry_at}
use Rattle.directory_pages.proofs.IndexParts.{ends}
use Rattle.directory_pages.proofs.index_page.ends_below.Goals as goal

pub returns-then-count-gt0 : goal.returns-then-count-gt0
returns-then-count-gt0 c below =
    let page = c.args.page.now in
    let key = c.args.key.now in
    let entry = c.read_entry.ensures ∙ ap (λ n. entry_at page (n - 1)) c.count_entries-count.ensures.count in
    ends page key (subst (λ n. 0 < n) c.count_entries-count.ensures.count c.if-count-gt0.true) (ap (λ e. is_below e key) (sym entry) ∙ sym c.is_below.ensures ∙ below)
