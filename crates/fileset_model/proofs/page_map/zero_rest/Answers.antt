use Rattle.std.proofs.Common.{◌≡◌, ℕ, List, ◌/◌, ◌%◌, Option, drop, set, subst, ap, sym, ◌∙◌}
use Rattle.std.specs.Option.{option_map_or}
use Rattle.std.specs.Ordering.{nat_cmp}
use Rattle.std.specs.Cmp.{nat_cmp_total}
use Rattle.std.specs.FinMap.Entries.{put}
use Rattle.fileset_values.specs.domain_base.Page.{overwritten}
use Rattle.sorted_sets.specs.Entries.{IsPlaceOf}
use Rattle.sorted_sets.proofs.EntryLemmas.{find_at_place, put_at_place, sorted_at_place}
use Rattle.fileset_model.proofs.ChangeLemmas.{cut_page, drop-zero_bytes, take-rest}
use Rattle.fileset_model.proofs.page_map.zero_rest.Goals as goal

pub returns-clause-items : goal.returns-clause-items
returns-clause-items c =
    let size = c.args.size in
    let q = size / 8192 in
    let at = size % 8192 in
    let pages = c.args.pages.now.items in
    let place = c.in-Ok.place in
    let item = c.index_mut.result.now in
    let stands = subst (λ (es : List (ℕ × List ℕ)). IsPlaceOf nat_cmp es q place) c.deref.ensures.value c.in-Ok.ensures.place in
    let cut : c.set.new.self ≡ cut_page size item.1 =
    c.set.ensures.value
    ∙ ap (overwritten item.1 at) (take-rest c.bytes.result.now at ∙ ap (drop at) (c.bytes.ensures.value ∙ c.requires.zeros) ∙ drop-zero_bytes 8192 at) in
    ap (λ (page : List ℕ). set pages place (item.0, page)) cut
    ∙ sym (ap (λ (found : Option (List ℕ)). option_map_or (λ page. put nat_cmp q (cut_page size page) pages) found pages) (find_at_place pages q place item stands c.index_mut.ensures.value)
    ∙ put_at_place pages q place item stands c.index_mut.ensures.value (cut_page size item.1))

pub returns-clause-sorted : goal.returns-clause-sorted
returns-clause-sorted c =
    let stands = subst (λ (es : List (ℕ × List ℕ)). IsPlaceOf nat_cmp es (c.args.size / 8192) c.in-Ok.place) c.deref.ensures.value c.in-Ok.ensures.place in
    sorted_at_place c.args.pages.now.items (c.args.size / 8192) c.in-Ok.place c.index_mut.result.now stands c.index_mut.ensures.value nat_cmp_total c.requires.sorted c.set.new.self
