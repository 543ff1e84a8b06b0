use Rattle.std.proofs.Common.{◌≡◌, refl, sym, subst, arith, ⊎_elim}
use Rattle.std.proofs.lemmas.Bool.{cases_lt}
use Rattle.tag_faults.specs.Directories.{IsGoodEntry}
use Rattle.tag_faults.proofs.entries.are_good_entries.Goals as goal

pub loop-entry-preserved : goal.loop-entry-preserved
loop-entry-preserved c entry below =
    ⊎_elim (λ low. c.loop-entry.invariant entry low)
    (λ high. let here : entry ≡ c.loop-entry.entry = omega (arith, below, high) in subst (IsGoodEntry c.args.page.now) (sym here) (c.is_good_entry.ensures.0 c.if-not-is_good_entry.false))
    (cases_lt entry c.loop-entry.entry)

pub returns : goal.returns
returns c = ((λ yes entry within. c.loop-entry.invariant entry (omega (arith, within, c.loop-entry-test.false))), (λ all. refl))
