use Rattle.std.proofs.Common.{◌≡◌, ◌∙◌, ◌+◌, Some, length, slice_get, refl, sym, subst}
use Rattle.std.proofs.lemmas.Option.{slice_get_read}
use mathlib.Core.Bool.{false≢true}
use Rattle.fileset_shapes.specs.sorted_sets.declared.home_set.HomeSet.{HomeSet}
use Rattle.fileset_shapes.specs.sorted_sets.Members.{IsIn}
use Rattle.directory_faults.proofs.NamesTwice.{AreLaterIn, all_names, none_later, one_later, one_right}
use Rattle.directory_faults.proofs.Noted.{none_noted, one_noted}
use Rattle.directory_faults.proofs.names.insert_names_twice.Goals as goal
use Rattle.directory_faults.proofs.names.insert_names_twice.Goals.{then-branch+in_ok-insert, else-branch}

pub loop-k-init : goal.loop-k-init
loop-k-init c = (none_later c.args.rows.now (IsIn c.args.found.now), none_noted c.new-names.result c.args.rows.now c.new-names.ensures.empty)

pub loop-k-preserved : goal.loop-k-preserved
loop-k-preserved c =
    let rows = c.args.rows.now in
    let k = c.loop-k.k in
    let row = c.index-rows-k.result in
    let at : slice_get rows k ≡ Some row = slice_get_read rows (length rows) k row refl c.loop-k-test.true c.index-rows-k.is in (
      elim c.if-branch.branch [
        | then-branch+in_ok-insert w ↦
            subst (λ (s : HomeSet). AreLaterIn rows (IsIn c.args.found.now) (IsIn s) (k + 1)) (sym w.found-is)
            (one_later rows (IsIn c.args.found.now) (IsIn c.loop-k.found) k row at c.loop-k.invariant.0 (IsIn w.insert.new.self)
            ((c.loop-k.invariant.1 row).0 (c.in_ok-note_name.ensures.again.0 w.if-branch.true)) w.in_ok-insert.ensures.ok)
        | else-branch w ↦
            subst (λ (s : HomeSet). AreLaterIn rows (IsIn c.args.found.now) (IsIn s) (k + 1)) (sym w.found-is)
            (one_right rows (IsIn c.args.found.now) (IsIn c.loop-k.found) k row at c.loop-k.invariant.0
            (λ before. false≢true (sym w.if-branch.false ∙ c.in_ok-note_name.ensures.again.1 ((c.loop-k.invariant.1 row).1 before))))
      ],
      one_noted c.loop-k.names c.note_name.new.names rows k row at c.loop-k.invariant.1 c.in_ok-note_name.ensures.noted,
    )

pub returns : goal.returns
returns c = λ pages frame table number are home. all_names pages frame table number c.args.rows.now are home (IsIn c.args.found.now) (IsIn c.loop-k.found) c.loop-k.k c.loop-k-test.false c.loop-k.invariant.0
