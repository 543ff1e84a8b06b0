use Rattle.std.proofs.Common.{ℕ, refl, subst, sym, arith}
use Rattle.std.specs.Prelude.{All}
use Rattle.plain_program.specs.Members.{AddsUp}
use Rattle.plain_program.proofs.MemberLemmas.{shows}
use Rattle.plain_program.proofs.members.is_member_list.Goals as goal

pub returns : goal.returns
returns c s members log =
    let each : All (AddsUp c.args.log_volume) c.args.members.now = λ k d within. c.loop-line.invariant k d (omega (arith, within)) in
    (λ whole. shows s c.args.members.now c.requires members (subst (λ (volume : ℕ). All (AddsUp volume) c.args.members.now) (sym log) each), λ shown. refl)
