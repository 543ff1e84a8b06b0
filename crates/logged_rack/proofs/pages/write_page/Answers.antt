use Rattle.std.proofs.Common.{◌≡◌, ◌*◌, ℕ, List, arith, subst}
use Rattle.std.proofs.lemmas.Result.{on_ok_weaker}
use Rattle.meta_log.specs.volume_disk.Image.{HasBytes, bytes_at}
use Rattle.meta_log.proofs.OfLogRing.HomePages.{bytes_there}
use Rattle.logged_rack.proofs.pages.write_page.Goals as goal

pub returns-clause-written : goal.returns-clause-written
returns-clause-written g c =
    let home = c.args.home.now in
    let image = (g.R.Rack.disk c.write_blocks.new.rack).now.contents in
    let at : 512 * (16 * home.page) ≡ 8192 * home.page = omega arith in
    on_ok_weaker c.write_blocks.result (λ written told. subst (λ (page : List ℕ). bytes_at image home.vol (8192 * home.page) 8192 ≡ page) c.bytes.ensures.value
    (bytes_there home.vol (8192 * home.page) 8192 c.bytes.result.now image c.bytes.ensures.len (subst (λ (k : ℕ). HasBytes home.vol k c.bytes.result.now image) at (written told).written))) c.write_blocks.ensures.written
