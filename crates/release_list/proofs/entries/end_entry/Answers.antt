use Rattle.std.proofs.Common.{◌≡◌, ◌∙◌, Option, Some, None, ap, subst, sym}
use Rattle.file_release.specs.cell_records.declared.record.Leftover.{Leftover}
use Rattle.file_release.specs.cell_records.declared.record.Leftover.TheVariants.{Remove, Trim}
use Rattle.release_list.specs.Steps.{IsEnding, now_of}
use Rattle.release_list.proofs.Stepping.{ending_whole, trim_went}
use Rattle.release_list.proofs.entries.end_entry.Goals as goal

not_trim : (o : Option Leftover) → o ≡ Some Remove → ¬ o ≡ Some Trim
not_trim o remove trim = let e : Some Remove ≡ Some Trim = sym remove ∙ trim in absurd (cc)

none_trim : (o : Option Leftover) → o ≡ None → ¬ o ≡ Some Trim
none_trim o none trim = let e : None ≡ Some Trim = sym none ∙ trim in absurd (cc)

pub returns-in_ok-end_trim-in-Trim-clause-ok : goal.returns-in_ok-end_trim-in-Trim-clause-ok
returns-in_ok-end_trim-in-Trim-clause-ok g c = λ group version list front files space ending.
    let e = c.in_ok-end_trim-in-Trim.ensures in
    let pages = g.M.MetaPages.pages c.args.pages.now in
    trim_went group version list front files c.args.entry.now space c.args.cells.now pages (g.M.MetaPages.pages c.end_trim.new.pages)
    (subst (λ o. IsEnding front c.args.entry.now o (now_of list files space c.args.cells.now pages)) (c.in-Some.is ∙ ap (λ (w : Leftover). Some w) c.in-Trim.is) ending)
    e.ok e.others e.well_formed e.headers e.elsewhere

pub returns-in-Remove-clause-ok : goal.returns-in-Remove-clause-ok
returns-in-Remove-clause-ok g c = λ group version list front files space ending.
    c.end_whole.ensures.ok group version list front files space
    (ending_whole front c.args.entry.now c.args.left.now (now_of list files space c.args.cells.now (g.M.MetaPages.pages c.args.pages.now)) (not_trim c.args.left.now (c.in-Some.is ∙ ap (λ (w : Leftover). Some w) c.in-Remove.is)) ending)

pub returns-in-None-clause-ok : goal.returns-in-None-clause-ok
returns-in-None-clause-ok g c = λ group version list front files space ending.
    c.end_whole-in-None.ensures.ok group version list front files space
    (ending_whole front c.args.entry.now c.args.left.now (now_of list files space c.args.cells.now (g.M.MetaPages.pages c.args.pages.now)) (none_trim c.args.left.now c.in-None.is) ending)
