use Rattle.std.proofs.Common.{◌≡◌, ℕ, subst, arith, ⊎_elim}
use Rattle.std.proofs.lemmas.Bool.{cases_lt}
use Rattle.std.proofs.lemmas.Option.{slice_get_within}
use Rattle.slot_files.specs.page_ways.Frame.{frame_in}
use Rattle.slot_files.proofs.SlotFiles.{is_table}
use Rattle.image_loading.specs.Loaded.{HoldsDirectories}
use Rattle.image_loading.proofs.directories.directory_homes.Goals as goal

pub loop-n-init : goal.loop-n-init
loop-n-init g c = λ number less. absurd (omega (arith, less))

pub loop-n-preserved : goal.loop-n-preserved
loop-n-preserved g c = λ number less.
    let holds = HoldsDirectories (g.M.MetaPages.pages c.args.pages.now) (frame_in c.args.frame.now) c.args.tables.now.filesets in
    ⊎_elim (λ low dir cells seen has kind page home at within. c.in_ok-insert_slot.ensures.grows home (c.loop-n.invariant number low dir cells seen has kind page home at within))
    (λ high.
    let same : c.loop-n.n ≡ number = omega (arith, less, high) in
    subst (λ (n : ℕ). holds n c.insert_slot.new.found) same (subst (λ (n : ℕ). holds n c.insert_slot.new.found) c.in-Some.ensures.value c.in_ok-insert_slot.ensures.pages))
    (cases_lt number c.loop-n.n)

pub returns : goal.returns
returns g c = λ number dir cells seen has kind page home at within.
    let pages = g.M.MetaPages.pages c.args.pages.now in
    let table = c.args.tables.now.filesets in
    let good = is_table pages (frame_in c.args.frame.now) c.args.tables.now c.requires.tables in
    c.loop-n.invariant number (omega (arith, c.loop-n-test.false, good.whole, slice_get_within table.slots number has.item has.there)) dir cells seen has kind page home at within
