use Rattle.std.proofs.Common.{◌≡◌, ◌∙◌, ℕ, ◌<◌, ◌≤◌, ◌^◌, cond, nat_eq, arith, ap, subst, sym}
use Rattle.extent_records.specs.extent_maps.declared.run.PagePlace.TheVariants.{Absent, At}
use Rattle.extent_records.specs.extent_maps.Runs.{place_of, with_place}
use Rattle.extent_records.specs.Writing.{CanSay, places_in}
use Rattle.file_chains.proofs.OnePage.{can_say_one}
use Rattle.file_chains.proofs.adding.one_page.Goals as goal

pub returns-clause-places : goal.returns-clause-places
returns-clause-places c = λ p.
    let value = c.empty_extents-value.result in
    let home = c.args.home.now in
    let none : (p : ℕ) → places_in value p ≡ Absent = (λ p. ap (λ rs. place_of rs p) c.empty_extents-value.ensures.empty) in
    let volume = c.number.ensures in
    let low : 1 ≤ home.vol = omega (arith, volume.value, volume.range.0) in
    let high : home.vol ≤ 8 = omega (arith, volume.value, volume.range.1) in
    let within : home.page < 2 ^ 32 = omega (arith, c.if-prove-2.false) in
    let can = can_say_one c.args.page home c.requires low high within c.args.version (places_in value) none in
    let ok = c.in_ok-put_page.ensures.ok in
    (ok.written (ok.fits.1 (subst (λ (k : ℕ). CanSay k (with_place c.args.page (At home) (places_in value))) (sym c.empty_extents-value.ensures.kind) can))).says.same p
    ∙ ap (λ x. cond (nat_eq p c.args.page) (At home) x) (none p)
