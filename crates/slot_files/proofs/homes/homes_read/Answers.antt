use Rattle.std.proofs.Common.{◌+◌, List, Option, sym, subst, arith}
use Rattle.index_row_faults.specs.file_release.Reading.{read_home}
use Rattle.slot_files.specs.Said.{place_in}
use Rattle.slot_files.specs.declared.said.SaidHome.{SaidHome}
use Rattle.slot_files.proofs.Listed.{UpTo, up_on}
use Rattle.slot_files.proofs.SaidPlaces.{IsHomeAt, read_ends}
use Rattle.slot_files.proofs.homes.homes_read.Goals as goal

pub loop-page-preserved : goal.loop-page-preserved
loop-page-preserved c =
    let R = IsHomeAt (read_home c.args.frozen (place_in c.args.own.now) (place_in c.args.source.now)) in
    subst (λ (l : List (Option SaidHome)). UpTo R l (c.loop-page.page + 1)) (sym c.in_ok-push.ensures.items)
    (up_on R c.loop-page.homes.items c.loop-page.page c.home_read.result c.loop-page.invariant c.home_read.ensures)

pub returns : goal.returns
returns c =
    read_ends c.args.own.now c.args.source.now c.args.frozen c.loop-page.page c.loop-page.homes.items c.loop-page.invariant
    (λ p behind. (omega (arith, behind, c.loop-page-test.false, c.max-end.ensures), omega (arith, behind, c.loop-page-test.false, c.max-end.ensures)))
