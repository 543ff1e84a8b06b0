use Rattle.std.proofs.Common.{◌≡◌, ◌+◌, true, false, List, length, drop, sym, ◌∙◌, ap, subst, arith}
use Rattle.std.proofs.lemmas.Slice.{between_to_end}
use Rattle.std.specs.List.{list_any}
use Rattle.page_store.specs.Pages.{same_home}
use Rattle.std.proofs.lemmas.Result.{on_ok_weaker}
use Rattle.disk_label.proofs.OfVolumeDisk.Laws.{only_writes-wider}
use Rattle.log_ring.specs.Images.{homes_of, image_at}
use Rattle.log_ring.proofs.Overlays.{is_some-image_at}
use Rattle.log_ring.specs.declared.image.PageImage.{PageImage}
use Rattle.log_ring.specs.LogLaws.{AreHome}
use Rattle.log_ring.specs.Settling.{HasHome, IsAtHomes, IsOnPage}
use Rattle.log_ring.proofs.HomePages.{drop_is, has_at, home-shadowed, home-written, none_found}
use Rattle.log_ring.proofs.settling.write_last.Goals as goal

pub returns-then-has_home_of-clause-home : goal.returns-then-has_home_of-clause-home
returns-then-has_home_of-clause-home g c = λ told are.
    let images = c.args.images.now in
    let at = c.args.at in
    let image : PageImage = c.index-images-at.result in
    let held = (g.R.Rack.disk c.args.rack.now).now.contents in
    let rest = drop (at + 1) images in
    let has : list_any (same_home image.home) (homes_of rest) ≡ true = ap (λ (l : List PageImage). list_any (same_home image.home) (homes_of l)) (sym (between_to_end images (at + 1) (length images) (omega arith))) ∙ sym c.has_home_of.ensures ∙ c.if-has_home_of.true in
    let later : HasHome rest image.home = is_some-image_at image.home rest ∙ has in
    subst (λ (l : List PageImage). AreHome l held) (sym (drop_is images at image c.requires.there c.index-images-at.is)) (home-shadowed image rest held later are)

pub returns-else-has_home_of-clause-writes : goal.returns-else-has_home_of-clause-writes
returns-else-has_home_of-clause-writes g c =
    let images = c.args.images.now in
    let image : PageImage = c.index-images-at.result in
    let there : HasHome images image.home = subst (λ (x : PageImage). HasHome images x.home) (sym c.index-images-at.is) (has_at images c.args.at image c.requires.there) in
    only_writes-wider (g.R.Rack.disk c.args.rack.now) (g.R.Rack.disk c.write_image.new.rack) (IsOnPage image.home) (IsAtHomes images) (λ v k is. (image.home, there, is)) c.write_image.ensures.writes

pub returns-else-has_home_of-clause-home : goal.returns-else-has_home_of-clause-home
returns-else-has_home_of-clause-home g c =
    let images = c.args.images.now in
    let at = c.args.at in
    let image : PageImage = c.index-images-at.result in
    let old = g.R.Rack.disk c.args.rack.now in
    let new = g.R.Rack.disk c.write_image.new.rack in
    let rest = drop (at + 1) images in
    let none : list_any (same_home image.home) (homes_of rest) ≡ false = ap (λ (l : List PageImage). list_any (same_home image.home) (homes_of l)) (sym (between_to_end images (at + 1) (length images) (omega arith))) ∙ sym c.has_home_of.ensures ∙ c.if-has_home_of.false in
    on_ok_weaker c.write_image.result (λ written told are.
    subst (λ (l : List PageImage). AreHome l new.now.contents) (sym (drop_is images at image c.requires.there c.index-images-at.is))
    (home-written image rest old.now.contents new.now.contents (none_found (image_at image.home rest) (is_some-image_at image.home rest ∙ none))
    (c.write_image.ensures.writes.touches.contents told) (written told) are)) c.write_image.ensures.written
