use Rattle.std.proofs.Common.{◌≡◌, ◌∙◌, ◌+◌, length, refl, sym, subst}
use Rattle.std.proofs.lemmas.Option.{slice_get_read}
use Rattle.page_faults.specs.sorted_sets.Members.{IsIn}
use Rattle.page_faults.specs.sorted_sets.declared.home_set.HomeSet.{HomeSet}
use Rattle.page_faults.specs.directory_pages.declared.entry.IndexEntry.{IndexEntry}
use Rattle.std.specs.Prelude.{Option}
use Rattle.index_row_faults.proofs.Lates.{AreLate, IsTop, is_top, late_put, none_put, stays_top}
use Rattle.index_row_faults.proofs.late.insert_late.Goals as goal
use Rattle.index_row_faults.proofs.late.insert_late.Goals.{then-is_late+in_ok-insert, else-is_late}

pub loop-at-preserved : goal.loop-at-preserved
loop-at-preserved c =
    let entries = c.args.entries.now in
    let number = c.loop-at.at-index in
    let at = c.at-item.result in
    let top = c.loop-at.top in
    let there = slice_get_read entries (length entries) number at refl c.loop-at-test.true c.at-item.is in
    let was = c.loop-at.invariant in
    elim c.if-is_late.branch [
      | then-is_late+in_ok-insert w ↦
          let late = sym c.is_late.ensures ∙ w.if-is_late.true in (
            subst (λ (t : Option IndexEntry). IsTop entries (number + 1) t) (sym w.top-is) (stays_top entries number top at there late was.0),
            subst (λ (s : HomeSet). AreLate entries (IsIn c.args.found.now) (IsIn s) (number + 1)) (sym w.found-is)
                (late_put entries (IsIn c.args.found.now) (IsIn c.loop-at.found) (IsIn w.insert.new.self) number top at there was.0 late w.in_ok-insert.ensures.ok was.1),
          )
      | else-is_late w ↦
          let not_late = sym c.is_late.ensures ∙ w.if-is_late.false in (
            subst (λ (t : Option IndexEntry). IsTop entries (number + 1) t) (sym w.top-is) (is_top entries number top at there not_late was.0),
            subst (λ (s : HomeSet). AreLate entries (IsIn c.args.found.now) (IsIn s) (number + 1)) (sym w.found-is)
                (none_put entries (IsIn c.args.found.now) (IsIn c.loop-at.found) number top at there was.0 not_late was.1),
          )
    ]
