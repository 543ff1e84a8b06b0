use Rattle.std.proofs.Common.{◌≤◌, ◌+◌, ◌-◌, ℕ, List, drop, length, length-drop, sym, ap, add-one, ◌∙◌, arith}
use Rattle.std.proofs.lemmas.Bool.{false≢true}
use Rattle.std.proofs.lemmas.List.{take_all}
use Rattle.std.specs.List.{list_any}
use Rattle.disk_label.specs.domain_base.declared.place.Home.{Home}
use Rattle.page_store.specs.Pages.{same_home}
use Rattle.log_ring.proofs.SameHomes.{met_again}
use Rattle.log_ring.proofs.homes.are_distinct.Goals as goal

pub returns-then-contains : goal.returns-then-contains
returns-then-contains c =
    let homes = c.args.homes.now in
    let next = c.loop-i.i + 1 in
    let all : length (drop next homes) ≤ length homes - next = omega (arith, length-drop next homes) in
    let met =
    ap (λ (n : ℕ). list_any (same_home c.index-homes-i.result) (drop n homes)) (sym (add-one c.loop-i.i))
    ∙ ap (λ (l : List Home). list_any (same_home c.index-homes-i.result) l) (sym (take_all (length homes - next) (drop next homes) all))
    ∙ sym c.if-contains.ensures in (
      λ e. absurd (false≢true e),
      λ distinct. absurd (met_again homes c.loop-i.i c.index-homes-i.result c.loop-i-test.true c.index-homes-i.is met distinct),
    )
