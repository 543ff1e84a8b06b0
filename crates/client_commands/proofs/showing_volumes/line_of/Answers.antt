use Rattle.std.proofs.Common.{◌≡◌, ◌∙◌, ◌==◌, ℕ, not, sym, ap, subst, arith}
use Rattle.file_commands.specs.log_ring.Homes.{IsMember, member_of}
use Rattle.client_commands.proofs.MemberLines.{line_shows}
use Rattle.client_commands.proofs.showing_volumes.line_of.Goals as goal

pub returns-clause-shown : goal.returns-clause-shown
returns-clause-shown c = λ s has_volumes.
    let memory = c.args.memory.now in
    let anchor = memory.frame.anchor in
    let vol : c.number.result ≡ c.args.vol = c.number.ensures.value in
    let is = c.member-member.ensures in
    let pages : c.member-member.result.pages ≡ (member_of anchor c.args.vol).pages = ap (λ m. m.pages) is in
    let used = c.used_on-used.ensures in
    let fits = c.requires.fits in
    let free = c.saturating_sub.ensures in
    line_shows memory _ (subst (IsMember anchor) (sym vol) c.requires.member)
    (pages ∙ ap (λ (n : ℕ). (member_of anchor n).pages) (sym vol))
    (ap (λ m. not (m.state == 1)) is ∙ ap (λ (n : ℕ). not ((member_of anchor n).state == 1)) (sym vol))
    (omega (arith, pages, used, fits, free))
    (ap (λ (n : ℕ). n == anchor.log_vol) (c.number-2.ensures.value ∙ sym vol))
    s has_volumes
