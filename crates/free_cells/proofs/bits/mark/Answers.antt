use Rattle.std.proofs.Common.{◌≡◌, ◌∙◌, ◌/◌, ◌%◌, ◌∷◌, [], List, ℕ, IsSomeAnd, length, sym, ap, subst, rules}
use Rattle.metadata_cells.specs.domain_base.declared.place.Home.{Home}
use Rattle.metadata_cells.specs.domain_base.Page.{overwritten}
use Rattle.metadata_cells.specs.page_store.Pages.{with_page}
use Rattle.free_cells.proofs.OneBit.{mark_is}
use Rattle.free_cells.proofs.bits.mark.Goals as goal

pub returns-clause-marks : goal.returns-clause-marks
returns-clause-marks g c =
    mark_is (g.M.MetaPages.pages c.args.pages.now) (g.M.MetaPages.pages c.set.new.self) c.args.vol c.args.page c.with_bit-byte.result c.args.is_used c.in-Some.bitmap.now
    (rw (sym c.home_of_bit-home.ensures) (search rules))
    (sym (ap (λ (l : List ℕ). length l) c.bytes.ensures.value) ∙ c.bytes.ensures.len)
    c.with_bit-byte.ensures.here
    (rw (sym c.bytes.ensures.value) c.with_bit-byte.ensures.others)
    (subst (λ (h : Home). IsSomeAnd (g.M.MetaPages.pages c.args.pages.now h) (λ l. g.M.MetaPages.pages c.set.new.self ≡ with_page h (overwritten l (c.args.page % 65536 / 8) (c.with_bit-byte.result ∷ [])) (g.M.MetaPages.pages c.args.pages.now))) c.home_of_bit-again.ensures c.set.ensures.value)
