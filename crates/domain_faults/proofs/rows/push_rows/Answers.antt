use Rattle.std.proofs.Common.{◌≡◌, ◌∙◌, ◌++◌, ◌<◌, ℕ, List, get_or, length, sym, ap, subst, arith}
use Rattle.slot_files.specs.domain_base.declared.place.Home.{Home}
use Rattle.slot_files.specs.sorted_sets.Members.{entries}
use Rattle.slot_files.specs.sorted_sets.Order.{AreNumbered}
use Rattle.slot_files.specs.sorted_sets.Rising.{IsRising}
use Rattle.slot_files.proofs.OfFilesetsReading.Ways.{map_pushed}
use Rattle.domain_faults.specs.Rows.{code_of, row_there, rows_of, rows_there}
use Rattle.domain_faults.proofs.FaultRows.{row_more, take_whole}
use Rattle.domain_faults.proofs.rows.push_rows.Goals as goal

pub loop-home-preserved : goal.loop-home-preserved
loop-home-preserved c =
    let homes = entries c.args.found.now in
    let entry = c.loop-home-item.result in
    let k = c.loop-home.home-index in
    let same = c.as_slice-home-items.ensures.value in
    let within : k < length homes = subst (λ (l : List (ℕ × Home)). k < length l) same c.loop-home-test.true in
    let at : get_or homes k entry ≡ entry = subst (λ (l : List (ℕ × Home)). get_or l k entry ≡ entry) same (sym c.loop-home-item.is) in
    ap rows_there c.in_ok-push.ensures.items ∙ map_pushed row_there c.loop-home.rows.items _
    ∙ row_more (rows_there c.loop-home.rows.items) (rows_there c.args.rows.now.items) (code_of c.args.rule) homes k entry within at c.loop-home.invariant

pub returns-clause-rows : goal.returns-clause-rows
returns-clause-rows c =
    let homes = entries c.args.found.now in
    let same = c.as_slice-home-items.ensures.value in
    c.loop-home.invariant
    ∙ ap (λ l. rows_there c.args.rows.now.items ++ rows_of (code_of c.args.rule) l)
    (take_whole homes c.loop-home.home-index (omega (arith, c.loop-home-test.false, ap (length {A = ℕ × Home}) same)))

pub returns-clause-rising : goal.returns-clause-rising
returns-clause-rising c = subst (λ (l : List (ℕ × Home)). IsRising l) c.as_slice-home-items.ensures.value c.as_slice-home-items.ensures.rising

pub returns-clause-numbered : goal.returns-clause-numbered
returns-clause-numbered c = subst AreNumbered c.as_slice-home-items.ensures.value c.as_slice-home-items.ensures.numbered
